-- `counting::base_of` meets its contract. Assumes nothing.
use native.Mathlib.Omega.{arith}
use Rattle.totals.proofs.Corners.{corner_step}
use Rattle.counting.proofs.base_of.Goals as goal

pub returns : goal.returns
returns c = (omega (arith, c.corner.ensures.0, corner_step c.args.n), omega (arith, c.corner.ensures.1, c.requires))
