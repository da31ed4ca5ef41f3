-- Sizes of integers. Assumes nothing.
use Rattle.std.specs.Prelude.{◌≡◌, refl, zero, suc, ℤ, pos, negsuc, neg_ℤ, nat_abs}
use Rattle.numbers.specs.Whole.{apart}
use Rattle.numbers.proofs.Whole.{whole, apart_num}

-- A number and its negative have one size.
pub nat_abs_neg : (z : ℤ) → nat_abs (neg_ℤ z) ≡ nat_abs z
nat_abs_neg (pos zero) = refl
nat_abs_neg (pos (suc n)) = refl
nat_abs_neg (negsuc n) = refl

-- Two integers are 0 apart exactly where they are equal.
pub apart_zero : (z w : ℤ) → apart z w ≡ 0 → z ≡ w
apart_zero z w h = omega (whole, apart_num z w)

pub zero_apart : (z w : ℤ) → z ≡ w → apart z w ≡ 0
zero_apart z w e = omega (whole, apart_num z w)
