-- Numbers of the sheet in the machine: signed, 32 or 64 bits, and small. Assumes nothing.
use mathlib.Core.Path.{◌≡◌}
use Prim.Native.Nat.{◌^◌, ◌≤◌, ◌<◌}
use native.Mathlib.Nat.{le_trans, lt_of_le_of_lt}
use lib.Dec.{T, lit≤, le→leb, lt→ltb}
use lib.IntN.{ℤ, pos, negsuc, nat_abs}
use lib.Ieee.{binary32, in_float}
use mir.Syntax.{Width}
use mir.Val.{to_z, of_z, hbits}
use Rattle.numbers.proofs.Bits.{back}

-- In a width whose signed numbers go beyond 1,000,000 each number of the sheet is read back.
pub height_back : (w : Width) → 1000000 < 2 ^ hbits w → (z : ℤ) → nat_abs z ≤ 1000000 → to_z w (of_z w z) ≡ z
height_back w room z h = back w z (lt_of_le_of_lt h room)

-- `f32` counts whole numbers up to 2 ^ 24 without a gap.
counted : (z : ℤ) → nat_abs z ≤ 2 ^ 24 → T (in_float binary32 z)
unfolding in_float
counted (pos n) h = le→leb n (2 ^ 24) h
counted (negsuc n) h = lt→ltb n (2 ^ 24) h

pub in_float_lem : (z : ℤ) → nat_abs z ≤ 1000000 → T (in_float binary32 z)
in_float_lem z h = counted z (le_trans h (lit≤ tt))
