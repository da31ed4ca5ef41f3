-- `totals::corner` meets its contract. Assumes nothing.
use native.Mathlib.Omega.{arith}
use Rattle.totals.proofs.Corners.{corner_twice, corner_top}
use Rattle.totals.proofs.corner.Goals as goal

pub overflow_mul-result : goal.overflow_mul-result
overflow_mul-result c = omega (arith, corner_twice c.args.b, corner_top c.args.b c.requires)

pub returns : goal.returns
returns c = (omega (arith, corner_twice c.args.b), omega (arith, corner_twice c.args.b, corner_top c.args.b c.requires))
