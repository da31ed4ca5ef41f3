-- `places::high` meets its contract. The loop's invariant: no port from h to b - 1 is taken. Assumes nothing.
use Prim.Native.Nat.{ℕ, ◌≤◌, ◌<◌}
use lib.ListN.{get_or}
use Rattle.places.proofs.high.Given as goal

abbrev pub invariant-loop-b : goal.invariant-loop-b
invariant-loop-b l = (q : ℕ) → l.h ≤ q → q < l.b → l.m ≤ get_or l.at q 0
