-- `checks::tries::whole` meets its contract. Assumes nothing.
use Rattle.find.specs.Search.{first_where}
use Rattle.checks.proofs.tries.whole.Goals as goal

pub returns-then-fault : goal.returns-then-fault
unfolding first_where
returns-then-fault c = rw c.if-fault.true c.refused.ensures

pub returns-else-fault : goal.returns-else-fault
unfolding first_where
returns-else-fault c = rw c.if-fault.false
