-- Whole numbers for `omega`, which reads naturals alone. The integer z is up z - dn z; `omega whole` reads z ≤ w, z < w, z = w and |z - w| among the hypotheses and
-- proves them as goals. Assumes nothing.
use Rattle.std.specs.Prelude.{◌≡◌, refl, ◌⊎◌, Bool, true, false, cond, not, ℕ, zero, suc, ◌+◌, ◌*◌, ◌-◌, ◌≤◌, ◌<◌, T, ltb, ℤ, pos, negsuc, nat_abs, neg_ℤ, ◌-ℤ◌, ◌+ℤ◌, ◌*ℤ◌, ◌≤ℤ◌, ◌<ℤ◌}
use Rattle.std.proofs.Common.{ap, inl, inr, arith, ltb→lt, lt→ltb, nltb→le, leb→le, le→leb}
use Rattle.std.proofs.Math.Decide.{dec_le, dec_lt}
use Rattle.std.proofs.Math.IntN.{sub_ℕ}
use Rattle.numbers.specs.Whole.{apart, up, dn}

pub le_num : (z w : ℤ) → z ≤ℤ w → up z + dn w ≤ up w + dn z
le_num (pos a) (pos b) t = omega (arith, leb→le a b t.le)
le_num (pos a) (negsuc b) t = absurd t.le
le_num (negsuc a) (pos b) t = omega arith
le_num (negsuc a) (negsuc b) t = omega (arith, leb→le b a t.le)

pub num_le : (z w : ℤ) → up z + dn w ≤ up w + dn z → z ≤ℤ w
num_le (pos a) (pos b) h = record { le = le→leb a b (omega arith) }
num_le (pos a) (negsuc b) h = absurd (omega arith)
num_le (negsuc a) (pos b) h = record { le = tt }
num_le (negsuc a) (negsuc b) h = record { le = le→leb b a (omega arith) }

pub lt_num : (z w : ℤ) → z <ℤ w → up z + dn w < up w + dn z
lt_num (pos a) (pos b) t = omega (arith, ltb→lt a b t.lt)
lt_num (pos a) (negsuc b) t = absurd t.lt
lt_num (negsuc a) (pos b) t = omega arith
lt_num (negsuc a) (negsuc b) t = omega (arith, ltb→lt b a t.lt)

pub num_lt : (z w : ℤ) → up z + dn w < up w + dn z → z <ℤ w
num_lt (pos a) (pos b) h = record { lt = lt→ltb a b (omega arith) }
num_lt (pos a) (negsuc b) h = absurd (omega arith)
num_lt (negsuc a) (pos b) h = record { lt = tt }
num_lt (negsuc a) (negsuc b) h = record { lt = lt→ltb b a (omega arith) }

pub eq_num : (z w : ℤ) → z ≡ w → up z + dn w ≡ up w + dn z
eq_num z w e = rw e (refl)

pub num_eq : (z w : ℤ) → up z + dn w ≡ up w + dn z → z ≡ w
num_eq (pos a) (pos b) h = ap pos (omega arith)
num_eq (pos a) (negsuc b) h = absurd (omega arith)
num_eq (negsuc a) (pos b) h = absurd (omega arith)
num_eq (negsuc a) (negsuc b) h = ap negsuc (omega arith)

-- `omega` takes no rule about a `¬`: list this with its arguments, `omega (whole, nlt_num z w n)`
pub nlt_num : (z w : ℤ) → ¬ (z <ℤ w) → up w + dn z ≤ up z + dn w
nlt_num z w n = go (dec_lt (up z + dn w) (up w + dn z))
  where
    go : Dec (up z + dn w < up w + dn z) → up w + dn z ≤ up z + dn w
    go (yes h) = absurd (n (num_lt z w h))
    go (no h) = omega arith

pub ruleset whole = (arith, le_num, num_le, lt_num, num_lt, eq_num, num_eq)

-- ---- sizes, sums, distances and multiples

pub abs_num : (z : ℤ) → nat_abs z ≡ up z + dn z
abs_num (pos n) = omega arith
abs_num (negsuc n) = omega arith

-- a - b, for two naturals
pub sub_num : (a b : ℕ) → up (sub_ℕ a b) + b ≡ a + dn (sub_ℕ a b)
sub_num a b = go (ltb a b) (ltb→lt a b) (nltb→le a b)
  where
    go : (c : Bool) → (T c → a < b) → (T (not c) → b ≤ a)
        → up (cond c (negsuc (b - suc a)) (pos (a - b))) + b ≡ a + dn (cond c (negsuc (b - suc a)) (pos (a - b)))
    go true f g = omega (arith, f tt)
    go false f g = omega (arith, g tt)

pub plus_num : (z : ℤ) (s : ℕ) → up (z +ℤ pos s) + dn z ≡ up z + s + dn (z +ℤ pos s)
plus_num (pos a) s = omega arith
plus_num (negsuc a) s = omega (arith, sub_num s (suc a))

pub minus_num : (z : ℤ) (s : ℕ) → up (z -ℤ pos s) + dn z + s ≡ up z + dn (z -ℤ pos s)
minus_num (pos a) zero = omega arith
minus_num (pos a) (suc s) = omega (arith, sub_num a (suc s))
minus_num (negsuc a) zero = omega (arith, sub_num 0 (suc a))
minus_num (negsuc a) (suc s) = omega arith

pub less_num : (z w : ℤ) → up (z -ℤ w) + up w + dn z ≡ up z + dn w + dn (z -ℤ w)
less_num z (pos s) = omega (arith, minus_num z s)
less_num z (negsuc s) = omega (arith, plus_num z (suc s))

nat_abs_sub : (a b : ℕ) → nat_abs (sub_ℕ a b) ≡ (a - b) + (b - a)
nat_abs_sub a b = go (ltb a b) (ltb→lt a b) (nltb→le a b)
  where
    go : (c : Bool) → (T c → a < b) → (T (not c) → b ≤ a) → nat_abs (cond c (negsuc (b - suc a)) (pos (a - b))) ≡ (a - b) + (b - a)
    go true f g = omega (arith, f tt)
    go false f g = omega (arith, g tt)

pub apart_num : (z w : ℤ) → apart z w ≡ ((up z + dn w) - (up w + dn z)) + ((up w + dn z) - (up z + dn w))
apart_num (pos a) (pos zero) = omega arith
apart_num (pos a) (pos (suc b)) = omega (arith, nat_abs_sub a (suc b))
apart_num (pos a) (negsuc b) = omega arith
apart_num (negsuc a) (pos zero) = omega (arith, nat_abs_sub 0 (suc a))
apart_num (negsuc a) (pos (suc b)) = omega arith
apart_num (negsuc a) (negsuc b) = omega (arith, nat_abs_sub (suc b) (suc a))

neg_num : (n : ℕ) → (up (neg_ℤ (pos n)) ≡ 0) × (dn (neg_ℤ (pos n)) ≡ n)
neg_num zero = (refl, refl)
neg_num (suc n) = (refl, refl)

pub times_up : (k : ℕ) (z : ℤ) → up (pos k *ℤ z) ≡ k * up z
times_up k (pos n) = refl
times_up k (negsuc n) = omega (arith, neg_num (k * suc n))

pub times_dn : (k : ℕ) (z : ℤ) → dn (pos k *ℤ z) ≡ k * dn z
times_dn k (pos n) = omega arith
times_dn k (negsuc n) = omega (arith, neg_num (k * suc n))

-- ---- the order

pub ≤ℤ-trans : (a b c : ℤ) → a ≤ℤ b → b ≤ℤ c → a ≤ℤ c
≤ℤ-trans a b c h k = omega whole

pub antisym : (a b : ℤ) → a ≤ℤ b → b ≤ℤ a → a ≡ b
antisym a b h k = omega whole

pub le_or_le : (z w : ℤ) → (z ≤ℤ w) ⊎ (w ≤ℤ z)
le_or_le z w = go (dec_le (up z + dn w) (up w + dn z))
  where
    go : Dec (up z + dn w ≤ up w + dn z) → (z ≤ℤ w) ⊎ (w ≤ℤ z)
    go (yes l) = inl (omega whole)
    go (no l) = inr (omega whole)

-- ---- upside down

pub neg_nums : (z : ℤ) → (up (neg_ℤ z) ≡ dn z) × (dn (neg_ℤ z) ≡ up z)
neg_nums (pos zero) = (refl, refl)
neg_nums (pos (suc n)) = (refl, refl)
neg_nums (negsuc n) = (refl, refl)
