-- `counting::count_strip` and `counting::number` meet their contracts. A strip is counted by way of narrower ones: the measure is its width, and that what it takes to
-- count it is known. The loop's invariant: `Round`. Assumes nothing.
use Prim.Native.Nat.{◌+◌, ◌-◌, ◌*◌}
use Rattle.counting.proofs.Rounds.{Round}
use Rattle.counting.proofs.+strips.Given as goal

abbrev pub decreases-count_strip : goal.decreases-count_strip
decreases-count_strip l = 2 * (l.b - l.a)

abbrev pub decreases-number : goal.decreases-number
decreases-number l = 2 * (l.b - l.a) + 1

abbrev pub invariant-count_strip-loop-q : goal.invariant-count_strip-loop-q
invariant-count_strip-loop-q l = Round l.sets l.a l.b l.numbers l.q-iterator.0 l.sum
