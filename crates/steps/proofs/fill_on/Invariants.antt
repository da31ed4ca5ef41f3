-- `steps::fill_on` meets its contract. The loop's invariant: `Filling`, the places before m are entered, and the memory is current for them.
-- Assumes nothing.
use mathlib.Core.Path.{◌≡◌}
use lib.ListN.{length}
use Rattle.places.specs.Places.{Entered}
use Rattle.choices.specs.Memory.{Memory}
use Rattle.choices.specs.Over.{on}
use Rattle.steps.proofs.Filling.{Filling}
use Rattle.steps.proofs.fill_on.Given as goal

abbrev pub invariant-loop-m : goal.invariant-loop-m
invariant-loop-m l = on Filling l.search l.initial.out l.from l.out l.m × (length l.at ≡ 128) × Entered l.search.lists.order.now l.out l.m l.at
    × on Memory l.search l.out l.m l.known
