-- `heads::enter_pad` meets its contract. The loop's invariant: `Marking`, the cells before b have the pad, those from b on not yet. Assumes nothing.
use mathlib.Core.Path.{◌≡◌}
use Rattle.pads.specs.Sides.{sides}
use Rattle.heads.proofs.Tallies.{Marking}
use Rattle.heads.proofs.enter_pad.Given as goal

abbrev pub invariant-loop-b : goal.invariant-loop-b
invariant-loop-b l = Marking (sides l.lists) l.lists.order.now l.kept.at l.kept.seen l.kept.all l.a l.i l.b × (l.kept.at ≡ l.initial.kept.at)
