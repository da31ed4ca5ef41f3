-- `layouts::full::walk_at` meets its contract: the lists, then the walk over them, in the paper's words (`walks_on`). Assumes nothing.
use mathlib.Core.Path.{sym, ◌∙◌}
use Rattle.job.specs.Board.{board_on}
use Rattle.board.specs.Lists.{ListsOf}
use Rattle.layouts.proofs.Translated.{lists_pads, startable_on, walks_on, stacked_costs, stacked_least}
use Rattle.layouts.proofs.full.walk_at.Goals as goal

pub invariant_of-lists : goal.invariant_of-lists
invariant_of-lists c =
    let W : ListsOf (board_on c.args.job.now) c.prepare.new.order c.prepare.new.lo c.prepare.new.hi = record {
      proper = c.requires.accepted.0.proper;
      few = c.requires.accepted.0.few;
      slots_few = c.requires.accepted.0.slots_few;
      listed = c.prepare.ensures.order_of;
      sides = c.prepare.ensures.sides_of;
    } in record { proper = lists_pads (W.listed.arranged.long ∙ sym c.requires.accepted.2) W }

pub walk-requires-clause-least : goal.walk-requires-clause-least
walk-requires-clause-least c =
    let b = board_on c.args.job.now in
    let W : ListsOf (board_on c.args.job.now) c.prepare.new.order c.prepare.new.lo c.prepare.new.hi = record {
      proper = c.requires.accepted.0.proper;
      few = c.requires.accepted.0.few;
      slots_few = c.requires.accepted.0.slots_few;
      listed = c.prepare.ensures.order_of;
      sides = c.prepare.ensures.sides_of;
    } in (
      stacked_least b W c.requires.accepted.2 c.bar.ensures c.fill-least.ensures.table c.fill-least.result c.fill-least.ensures.value,
      startable_on b W (stacked_costs b W c.requires.accepted.2 c.bar.ensures c.fill-least.ensures.table) c.args.start c.args.w.now c.requires.accepted.3,
    )

pub returns : goal.returns
returns c =
    let b = board_on c.args.job.now in
    let W : ListsOf (board_on c.args.job.now) c.prepare.new.order c.prepare.new.lo c.prepare.new.hi = record {
      proper = c.requires.accepted.0.proper;
      few = c.requires.accepted.0.few;
      slots_few = c.requires.accepted.0.slots_few;
      listed = c.prepare.ensures.order_of;
      sides = c.prepare.ensures.sides_of;
    } in
    walks_on b W (stacked_costs b W c.requires.accepted.2 c.bar.ensures c.fill-least.ensures.table) c.args.start c.args.w.now c.args.page.now _ _ c.walk.result c.walk.ensures
