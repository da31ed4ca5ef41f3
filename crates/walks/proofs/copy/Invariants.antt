-- `walks::copy` meets its contract. The loop's invariant: the first i entries are copied. Assumes nothing.
use Rattle.numbers.specs.Copies.{Copied}
use Rattle.walks.proofs.copy.Given as goal

abbrev pub invariant-loop-i : goal.invariant-loop-i
invariant-loop-i l = Copied l.i l.at l.from l.initial.to l.to
