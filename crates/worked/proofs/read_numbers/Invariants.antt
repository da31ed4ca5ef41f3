-- `worked::read_numbers` meets its contract. Assumes nothing.
use Rattle.std.proofs.Common.{◌≤◌, length}
use Rattle.worked.proofs.read_numbers.Given as goal

abbrev pub invariant-loop-start : goal.invariant-loop-start
invariant-loop-start l = l.count ≤ length l.out

abbrev pub decreases-loop-start : goal.decreases-loop-start
decreases-loop-start l = length l.rest
