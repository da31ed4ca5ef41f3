-- `slots::fill_rows` meets its contract. The loop's invariant: the strips that start before a are right (`LayerTo`). Assumes nothing.
use Rattle.pads.specs.Sides.{sides}
use Rattle.slots.specs.Slots.{LayerTo}
use Rattle.slots.specs.Filling.{figures_on}
use Rattle.slots.proofs.fill_rows.Given as goal

abbrev pub invariant-loop-a : goal.invariant-loop-a
invariant-loop-a l = LayerTo (sides l.lists) (figures_on l.lists l.initial.work) l.lists.order.now l.lists.ports l.k l.initial.work l.work l.here l.a
