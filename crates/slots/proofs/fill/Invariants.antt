-- `slots::fill` meets its contract. The loop's invariant: the layers from that of place k on are right. Assumes nothing.
use Rattle.numbers.specs.Kept.{KeptFrom}
use Rattle.pads.specs.Sides.{sides}
use Rattle.slots.specs.Filling.{figures_after, figures_on}
use Rattle.slots.proofs.Layers.{LayersFrom}
use Rattle.slots.proofs.fill.Given as goal

abbrev pub invariant-loop-k : goal.invariant-loop-k
invariant-loop-k l = KeptFrom (figures_after l.lists) l.initial.work l.work
    × LayersFrom (sides l.lists) (figures_on l.lists l.initial.work) l.lists.order.now l.lists.ports l.work l.k
