-- `draw::quarter_of` meets its contract: the cast loses nothing, and the product with 0.25 is the quarter. Assumes nothing.
use mathlib.Core.Path.{ap, ◌∙◌}
use native.Mathlib.Omega.{arith}
use lib.Dec.{lit<}
use lib.IntN.{ℤ}
use lib.Ieee.{binary32, of_int, mul, of_bits}
use mir.Syntax.{w32}
use Rattle.paper.proofs.laws.Quarter.{quarter_of_cast}
use Rattle.draw.proofs.Bits.{height_back, in_float_lem}
use Rattle.draw.proofs.quarter_of.Goals as goal

pub int_to_float-result : goal.int_to_float-result
int_to_float-result c =
    rw (height_back w32 (lit< tt) c.args.v c.requires) (in_float_lem c.args.v c.requires)

pub returns : goal.returns
unfolding of_bits
returns c =
    ap (λ (z : ℤ). mul binary32 (of_int binary32 z) (of_bits binary32 0x3e80_0000)) (height_back w32 (lit< tt) c.args.v c.requires)
    ∙ quarter_of_cast c.args.v (omega (arith, c.requires))
