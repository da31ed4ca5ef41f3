-- `slots::open_figures` meets its contract. The loop's invariant: the open figures are done from place k on, and the marks are those of the pads there. Assumes nothing.
use Rattle.pads.specs.Sides.{sides}
use Rattle.slots.specs.Filling.{figures_on}
use Rattle.slots.proofs.Opening.{Marked, OpenFrom}
use Rattle.slots.proofs.open_figures.Given as goal

abbrev pub invariant-loop-k : goal.invariant-loop-k
invariant-loop-k l = Marked (sides l.lists) l.lists.order.now l.shut l.lists.ports l.k
    × OpenFrom (sides l.lists) (figures_on l.lists l.initial.work) l.lists.order.now l.lists.ports l.initial.work l.work l.k
