-- `layouts::slotted::walk_at` meets its contract. Assumes nothing.
use mathlib.Core.Path.{◌∙◌}
use Rattle.job.specs.Board.{board_on}
use Rattle.layouts.proofs.Translated.{lists_pads, startable_on, walks_on, lent_costs, lent_least}
use Rattle.layouts.proofs.slotted.walk_at.Goals as goal

pub invariant_of-lists : goal.invariant_of-lists
invariant_of-lists c = record {
  proper = lists_pads (c.from-ports.ensures ∙ c.port_count.ensures) (record {
    proper = c.requires.workable.0.proper;
    few = c.requires.workable.0.few;
    slots_few = c.requires.workable.0.slots_few;
    listed = c.prepare.ensures.order_of;
    sides = c.prepare.ensures.sides_of;
  });
}

pub walk-requires-clause-least : goal.walk-requires-clause-least
walk-requires-clause-least c =
    let b = board_on c.args.job.now in
    let M = c.fill-least.ensures in
    let same = c.from-ports.ensures ∙ c.port_count.ensures in
    (lent_least b M same, startable_on b M.lists (lent_costs b M same) c.args.start c.args.w.now c.requires.room_for.1)

pub returns : goal.returns
returns c =
    let b = board_on c.args.job.now in
    let M = c.fill-least.ensures in
    walks_on b M.lists (lent_costs b M (c.from-ports.ensures ∙ c.port_count.ensures)) c.args.start c.args.w.now c.args.page.now _ _ c.walk.result c.walk.ensures
