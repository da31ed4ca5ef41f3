-- `measure::total` meets its contract. Assumes nothing.
use native.Mathlib.Omega.{arith}
use Rattle.paper.proofs.laws.Totals.{sum_none, sum_more}
use Rattle.measure.proofs.total.Goals as goal

pub loop-i-init : goal.loop-i-init
loop-i-init c = (sum_none _, omega arith)

pub loop-i-preserved : goal.loop-i-preserved
loop-i-preserved c =
    (sum_more _ c.loop-i.i c.loop-i.sum c.from-sum.result c.loop-i.invariant.0 (cc), omega arith)
