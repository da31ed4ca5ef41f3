-- `heads::enter` meets its contract. The loop's invariant: the pads at places before i are in. Assumes nothing.
use mathlib.Core.Path.{◌≡◌}
use Rattle.heads.specs.Given.{EnteringOn}
use Rattle.heads.proofs.enter.Given as goal

abbrev pub invariant-loop-i : goal.invariant-loop-i
invariant-loop-i l = EnteringOn l.lists l.kept l.a l.i × (l.kept.at ≡ l.initial.kept.at)
