-- A whole number of the job is drawn as the 32-bit float that is a quarter of it. Below 2 ^ 24 this float is exact, and no other is.
--     quarter_is, quarter_only;  quarter_of_cast: how it is computed;  four_times_mul: four times it is the number;  negated_after_differs: why y is reversed first
use Rattle.std.specs.Prelude.{◌≡◌, refl, ℕ, ◌*◌, ◌^◌, ◌≤◌, ◌<◌, true, false, ℤ, pos, negsuc, nat_abs, neg_ℤ, Float}
use Rattle.std.proofs.Common.{sym, ap, ◌∙◌, subst, lt_of_lt_of_le, mul_assoc, mul-one, zero-lt-suc, zero-mul, mul-pos, lt_irrefl, true≢false, lit<, lit≤, shl_lt}
use Rattle.std.specs.Float.{fin, binary32}
use Rattle.std.specs.Float.Ieee.{up, round, of_int, mul, neg}
use Rattle.std.specs.Float.Ieee.Exact.{HasValue, round_exact}
use Rattle.std.specs.Float.Ieee.Back.{round_whole}
use Rattle.std.specs.Float.Ieee.Fits.{round-fits, down_pos}
use Rattle.std.specs.Float.Ieee.Scale.{round_same}
use Rattle.numbers.proofs.Floats.{value_unique, scaled}
use Rattle.paper.specs.Canvas.{negative, FourTimesIs}
use Rattle.paper.specs.laws.Quarter.{quarter}

-- ---- the quarter is exact, and nothing else is

-- Four times the quarter of v is exactly v.
pub quarter_is : (v : ℤ) → nat_abs v < 2 ^ 24 → FourTimesIs (quarter v) v
unfolding quarter
quarter_is v h = record {
  single = round-fits binary32 (negative v) (nat_abs v) 4;
  exact =
      round_exact binary32 (negative v) (nat_abs v) 4 (nat_abs v) 147 (lit< tt) h
      (lt_of_lt_of_le (shl_lt 24 147 h) (lit≤ tt))
      (sym (mul_assoc (nat_abs v) (2 ^ 147) 4));
}

-- The words "four times it is exactly v" leave one 32-bit float, for any v.
pub four_times_one : {a b : Float} (v : ℤ) → FourTimesIs a v → FourTimesIs b v → a ≡ b
four_times_one {a} {b} v p q =
    value_unique binary32 a b (negative v) (nat_abs v) 4 (zero-lt-suc 3) p.single q.single p.exact q.exact

-- It is the quarter.
pub quarter_only : {a : Float} (v : ℤ) → nat_abs v < 2 ^ 24 → FourTimesIs a v → a ≡ quarter v
quarter_only v h p = four_times_one v p (quarter_is v h)

-- ---- zero

-- The quarter of 0 is +0.
pub quarter_zero : quarter (pos 0) ≡ fin false 0 (pos 0)
unfolding quarter round
quarter_zero = refl

-- So a drawn zero is positive zero.
pub zero_positive : {a : Float} → FourTimesIs a (pos 0) → a ≡ fin false 0 (pos 0)
zero_positive p = quarter_only (pos 0) (lit< tt) p ∙ quarter_zero

not_minus_zero : (v : ℤ) (e : ℤ) → HasValue (fin true 0 e) (negative v) (nat_abs v) 4 → ⊥
not_minus_zero (pos n) e p = true≢false p.0
not_minus_zero (negsuc n) e p =
    lt_irrefl 0
    (subst (λ (x : ℕ). 0 < x) (sym p.1 ∙ ap (λ (y : ℕ). y * 4) (zero-mul (up e)) ∙ zero-mul 4) (mul-pos (zero-lt-suc n) (down_pos e)))

-- No quarter is -0.
pub quarter_not_minus_zero : (v : ℤ) (e : ℤ) → nat_abs v < 2 ^ 24 → quarter v ≡ fin true 0 e → ⊥
quarter_not_minus_zero v e h z = not_minus_zero v e (subst (λ (a : Float). FourTimesIs a v) z (quarter_is v h)).exact

-- Reversed after the change to a float, height 0 is drawn as -0,
negated_after : neg (quarter (pos 0)) ≡ fin true 0 (pos 0)
unfolding neg quarter round
negated_after = refl

-- which is not the quarter of the height reversed before.
pub negated_after_differs : neg (quarter (pos 0)) ≡ quarter (neg_ℤ (pos 0)) → ⊥
negated_after_differs e = quarter_not_minus_zero (pos 0) (pos 0) (lit< tt) (sym e ∙ negated_after)

-- ---- as the machine computes

cast_is : (v : ℤ) → of_int binary32 v ≡ round binary32 (negative v) (nat_abs v) 1
unfolding of_int
cast_is (pos n) = refl
cast_is (negsuc n) = refl

-- An integer up to 2 ^ 24, cast to a float and multiplied by 0.25 (1 * 2 ^ -2), is the quarter.
pub quarter_of_cast : (v : ℤ) → nat_abs v ≤ 2 ^ 24 → mul binary32 (of_int binary32 v) (fin false 1 (negsuc 1)) ≡ quarter v
unfolding quarter
quarter_of_cast v h =
    ap (λ (a : Float). mul binary32 a (fin false 1 (negsuc 1))) (cast_is v)
    ∙ scaled binary32 (round binary32 (negative v) (nat_abs v) 1) (negative v) (nat_abs v) 1 (negsuc 1) (zero-lt-suc 0)
    (round_whole binary32 (negative v) (nat_abs v) h)
    ∙ ap (λ (n : ℕ). round binary32 (negative v) n 4) (mul-one (nat_abs v))

-- Where four times a is exactly v, the machine's product of a and 4 (1 * 2 ^ 2) is v cast to a float.
pub four_times_mul : {a : Float} (v : ℤ) → FourTimesIs a v → mul binary32 a (fin false 1 (pos 2)) ≡ of_int binary32 v
four_times_mul {a} v p =
    scaled binary32 a (negative v) (nat_abs v) 4 (pos 2) (zero-lt-suc 3) p.exact
    ∙ round_same binary32 (negative v) (nat_abs v * 4) 4 (nat_abs v) 1 (zero-lt-suc 3) (zero-lt-suc 0) (mul-one (nat_abs v * 4))
    ∙ sym (cast_is v)
