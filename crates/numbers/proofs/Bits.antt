-- Signed numbers as the machine has them. A local of width w holds bits, so each value that is passed on, returned or computed with comes back as
-- `to_z w (of_z w z)`, which is z where z fits. Assumes nothing.
use Rattle.std.specs.Prelude.{◌≡◌, ◌⊎◌, ℕ, suc, ◌+◌, ◌^◌, ◌≤◌, ◌<◌, ℤ, pos, negsuc, neg_ℤ, nat_abs, ◌+ℤ◌, ◌-ℤ◌}
use Rattle.std.proofs.Common.{sym, ap, ◌∙◌, subst, inl, inr, ⊎_elim, le_refl, lt_of_le_of_lt, le_of_eq, arith, to_z-of_z}
use Rattle.std.proofs.Math.Nat.{le-suc}
use Rattle.std.proofs.Math.IntN.{+ℤ_idl}
use Rattle.std.specs.Int.Signed.{mag}
use Rattle.std.specs.Int.{Width, w64}
use mir.Val.{SFits, to_z, of_z, hbits}
use Rattle.std.proofs.lemmas.Int.{to_z_pos}
use Rattle.numbers.specs.Whole.{up, dn}
use Rattle.numbers.proofs.Whole.{plus_num, minus_num, apart_num}
use Rattle.numbers.proofs.Signs.{nat_abs_neg}

pub mag_le : (z : ℤ) → mag z ≤ nat_abs z
mag_le (pos n) = le_refl n
mag_le (negsuc n) = le-suc n

pub fits : (w : Width) (z : ℤ) → nat_abs z < 2 ^ hbits w → SFits w z
fits w z h = record { sfits = lt_of_le_of_lt (mag_le z) h }

fits_neg : (w : Width) (z : ℤ) → nat_abs z < 2 ^ hbits w → SFits w (neg_ℤ z)
fits_neg w z h = fits w (neg_ℤ z) (lt_of_le_of_lt (le_of_eq (nat_abs_neg z)) h)

-- A number that fits 64 bits is read back from its bits.
pub read_back : (z : ℤ) → mag z < 2 ^ 63 → to_z w64 (of_z w64 z) ≡ z
read_back z h = to_z-of_z {w = w64} (record { sfits = h })

-- So is one whose size fits a width, from the bits of that width.
pub back : (w : Width) (z : ℤ) → nat_abs z < 2 ^ hbits w → to_z w (of_z w z) ≡ z
back w z h = to_z-of_z (fits w z h)

-- `==` compares the bits.
pub same_bits : (a b : ℤ) → mag a < 2 ^ 63 → mag b < 2 ^ 63 → of_z w64 a ≡ of_z w64 b → a ≡ b
same_bits a b h k e = sym (read_back a h) ∙ ap (to_z w64) e ∙ read_back b k

mag_num : (z : ℤ) → (up z ≤ mag z) × (dn z ≤ suc (mag z))
mag_num (pos n) = (omega arith, omega arith)
mag_num (negsuc n) = (omega arith, omega arith)

-- Two heights of 32 bits are less than 2 ^ 32 apart, so their difference fits 64 bits.
pub difference_small : (y q : ℤ) → mag y < 2147483648 → mag q < 2147483648 → nat_abs (y -ℤ q) < 4294967296
difference_small y q h k = omega (arith, apart_num y q, mag_num y, mag_num q)

pub difference_fits : (y q : ℤ) → mag y < 2147483648 → mag q < 2147483648 → mag (y -ℤ q) < 2 ^ 63
difference_fits y q h k = omega (arith, difference_small y q h k, mag_le (y -ℤ q))

-- A height of 32 bits and a number of 16: sum and difference are less than 2 ^ 32.
sign : (z : ℤ) → (up z ≡ 0) ⊎ (dn z ≡ 0)
sign (pos n) = inr (omega arith)
sign (negsuc n) = inl (omega arith)

mag_most : (z : ℤ) → mag z ≤ up z + dn z
mag_most (pos n) = omega arith
mag_most (negsuc n) = omega arith

pub sum_small : (y : ℤ) (n : ℕ) → mag y < 2147483648 → n < 65536 → mag (y +ℤ pos n) < 4294967296
sum_small y n h k =
    ⊎_elim (λ e. omega (arith, mag_most (y +ℤ pos n), mag_num y, plus_num y n)) (λ e. omega (arith, mag_most (y +ℤ pos n), mag_num y, plus_num y n)) (sign (y +ℤ pos n))

pub less_small : (y : ℤ) (n : ℕ) → mag y < 2147483648 → n < 65536 → mag (y -ℤ pos n) < 4294967296
less_small y n h k =
    ⊎_elim (λ e. omega (arith, mag_most (y -ℤ pos n), mag_num y, minus_num y n)) (λ e. omega (arith, mag_most (y -ℤ pos n), mag_num y, minus_num y n)) (sign (y -ℤ pos n))

-- A number of 16 bits, read as a signed one of 64.
pub word_back : (n : ℕ) → n < 65536 → to_z w64 n ≡ pos n
word_back n h = to_z_pos w64 n (omega arith)

-- `-z` is 0 - z: it fits, and it is the negative.
zero_minus : (w : Width) (z : ℤ) → nat_abs z < 2 ^ hbits w → pos 0 -ℤ to_z w (of_z w z) ≡ neg_ℤ z
zero_minus w z h = ap (λ (y : ℤ). pos 0 -ℤ y) (back w z h) ∙ +ℤ_idl (neg_ℤ z)

pub minus_fits : (w : Width) (z : ℤ) → nat_abs z < 2 ^ hbits w → SFits w (pos 0 -ℤ to_z w (of_z w z))
minus_fits w z h = subst (SFits w) (sym (zero_minus w z h)) (fits_neg w z h)

pub minus_back : (w : Width) (z : ℤ) → nat_abs z < 2 ^ hbits w → to_z w (of_z w (pos 0 -ℤ to_z w (of_z w z))) ≡ neg_ℤ z
minus_back w z h = ap (λ (y : ℤ). to_z w (of_z w y)) (zero_minus w z h) ∙ to_z-of_z (fits_neg w z h)
