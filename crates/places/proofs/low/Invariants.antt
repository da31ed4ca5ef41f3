-- `places::low` meets its contract. The loop's invariant: no port from q to l - 1 is taken. Assumes nothing.
use Prim.Native.Nat.{ℕ, ◌≤◌, ◌<◌}
use lib.ListN.{get_or}
use Rattle.places.proofs.low.Given as goal

abbrev pub invariant-loop-q : goal.invariant-loop-q
invariant-loop-q l = (q : ℕ) → l.q ≤ q → q < l.l → l.m ≤ get_or l.at q 0
