-- `worked::run_all` meets its contract. Assumes nothing.
use Rattle.std.proofs.Common.{length}
use Rattle.worked.proofs.run_all.Given as goal

abbrev pub invariant-loop-rest : goal.invariant-loop-rest
invariant-loop-rest g l = Unit {0}

abbrev pub decreases-loop-rest : goal.decreases-loop-rest
decreases-loop-rest g l = length l.rest
