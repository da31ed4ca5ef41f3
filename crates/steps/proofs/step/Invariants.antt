-- `steps::step` meets its contract. The loop's invariant: `Looking`, every place is entered, and the memory is current; its laws are in Stepping and
-- Memory. Assumes nothing.
use lib.ListN.{length}
use Rattle.places.specs.Places.{Placed}
use Rattle.choices.specs.Memory.{Memory}
use Rattle.choices.specs.Over.{on}
use Rattle.steps.proofs.Stepping.{Looking}
use Rattle.steps.proofs.step.Given as goal

abbrev pub invariant-loop-m : goal.invariant-loop-m
invariant-loop-m l = on Looking l.search l.initial.out l.out l.m × Placed l.search.lists.order.now l.out (length l.search.lists.order.now) l.at
    × on Memory l.search l.out (length l.search.lists.order.now) l.known
