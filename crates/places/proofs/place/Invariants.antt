-- `places::place` meets its contract. The loop's invariant: the first i places are entered. Assumes nothing.
use mathlib.Core.Path.{◌≡◌}
use lib.ListN.{length}
use Rattle.places.specs.Places.{Entered}
use Rattle.places.proofs.place.Given as goal

abbrev pub invariant-loop-i : goal.invariant-loop-i
invariant-loop-i l = (length l.at ≡ length l.initial.at) × Entered l.order l.w l.i l.at
