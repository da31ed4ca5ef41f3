-- `layouts::slotted::fill` meets its contract. Assumes nothing.
use mathlib.Core.Path.{◌≡◌, ◌∙◌}
use Rattle.job.specs.Board.{board_on}
use Rattle.paper.specs.Layouts.{weighted}
use Rattle.paper.proofs.laws.Accepted.{weighted_narrow}
use Rattle.layouts.proofs.Translated.{room_lists, tabled}
use Rattle.slots.specs.Slots.{figures_at}
use Rattle.slots.specs.Lending.{figures_fit}
use Rattle.layouts.proofs.slotted.fill.Goals as goal

pub fill_work-requires-clause-accepted : goal.fill_work-requires-clause-accepted
fill_work-requires-clause-accepted c =
    let fit = figures_fit (room_lists (board_on c.args.job.now) c.requires.lists.1 c.requires.lists.0 c.requires.workable.2) in
    let n = c.requires.lists.0.listed.arranged.long in
    (c.requires.workable.0, c.requires.workable.1, rw c.figures_at-base.ensures.0 (rw (n, c.requires.lists.1) (rw (n, c.requires.lists.1) at fit)))

pub fill-requires : goal.fill-requires
fill-requires c =
    rw c.fill_work.ensures.0 (room_lists (board_on c.args.job.now) c.requires.lists.1 c.requires.lists.0 c.requires.workable.2)

pub returns : goal.returns
returns c =
    let b = board_on c.args.job.now in
    let W = c.requires.lists.0 in
    let base : c.figures_at-base.result ≡ figures_at b.pads b.ports = c.figures_at-base.ensures.0 ∙ (λ i. figures_at (W.listed.arranged.long i) (c.requires.lists.1 i)) in
    tabled b (weighted b c.args.weights.length c.args.weights.bend) _ _ c.fill.result c.requires.lists.1 base W c.bar.new.bars c.bar.ensures c.fill_work.ensures.1
    (weighted_narrow c.requires.workable.0 c.args.weights.length c.args.weights.bend c.requires.workable.1.0 c.requires.workable.1.1) c.fill.ensures.kept_from c.fill.ensures.slot_table c.fill.ensures.tells_least
