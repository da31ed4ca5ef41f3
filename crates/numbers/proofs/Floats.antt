-- Three laws of IEEE 754's formats that the kit lacks. `value_unique`: a value that fits its format is told by its sign and its size, as a fraction of any
-- denominator (the kit has it for whole numbers, `lib.Ieee.Back`, whose steps up to `zero_exp` are private there and stand here again).
-- `round_back`: a float's own value, as such a fraction, is rounded to that float.
-- `scaled`: a product with a power of two rounds once. Assumes nothing.
use Rattle.std.specs.Prelude.{◌≡◌, refl, ℕ, zero, suc, ◌+◌, ◌*◌, ◌-◌, ◌%◌, ◌^◌, ◌≤◌, ◌<◌, Bool, true, false, ◌&&◌, T, leb, ltb, eqb, ℤ, pos, negsuc}
use Rattle.std.proofs.Common.{sym, ap, ◌∙◌, subst, mul_left_comm, mul_right_comm, mul-one, one-mul, zero-lt-suc, zero-mul, mul-pos, lt_irrefl, mul_assoc, mul_comm, not-le_of_lt, lt_of_mul-lt-mul_right, mul-lt-mul_of_pos_right, arith, eqb→eq, ltb→lt, leb→le, pow-add, pow_pos}
use Rattle.std.proofs.Math.Nat.{mul-mul-mul_comm, pow-succ', eq_of_mul-eq-mul_right, suc_inj}
use Rattle.std.proofs.Math.Decide.{dec_lt}
use Rattle.std.proofs.Math.Pow.{pow-lt}
use lib.Ieee.{Float, nan, inf, fin, Format, prec, emax, low, up, down, round, mul, fits, unlike}
use Rattle.std.specs.Float.Ieee.Exact.{HasValue, round_exact}
use Rattle.std.specs.Float.Ieee.Digits.{back}
use Rattle.std.specs.Float.Ieee.Fits.{down_pos, up_pos, and_l, and_r, round-fits}
use Rattle.std.specs.Float.Ieee.Scale.{round_same}

-- ---- one float for each value

even_odd : (m t : ℕ) → m % 2 ≡ 1 → m ≡ 2 * t → ⊥
even_odd m t o h = omega arith

twice : (n b : ℕ) → n * 2 ^ suc b ≡ 2 * (n * 2 ^ b)
twice n b = ap (λ (x : ℕ). n * x) (pow-succ' 2 b) ∙ mul_left_comm n 2 (2 ^ b)

-- an odd number times a power of two is written in one way
odd_pow : (m n a b : ℕ) → m % 2 ≡ 1 → n % 2 ≡ 1 → m * 2 ^ a ≡ n * 2 ^ b → (m ≡ n) × (a ≡ b)
odd_pow m n zero zero o p h = (sym (mul-one m) ∙ h ∙ mul-one n, refl)
odd_pow m n zero (suc b) o p h = absurd (even_odd m (n * 2 ^ b) o (sym (mul-one m) ∙ h ∙ twice n b))
odd_pow m n (suc a) zero o p h = absurd (even_odd n (m * 2 ^ a) p (sym (mul-one n) ∙ sym h ∙ twice m a))
odd_pow m n (suc a) (suc b) o p h =
    let r = odd_pow m n a b o p (omega (arith, twice m a, twice n b)) in
    (r.0, ap suc r.1)

-- two odd numbers, each times a power of two of any sign
odd_exp : (m n : ℕ) (e g : ℤ) → m % 2 ≡ 1 → n % 2 ≡ 1 → m * up e * down g ≡ n * up g * down e → (m ≡ n) × (e ≡ g)
odd_exp m n (pos a) (pos b) o p h = let r = odd_pow m n a b o p (omega arith) in (r.0, ap pos r.1)
odd_exp m n (pos a) (negsuc b) o p h = absurd (even_odd n (m * 2 ^ a * 2 ^ b) p (omega (arith, twice (m * 2 ^ a) b)))
odd_exp m n (negsuc a) (pos b) o p h = absurd (even_odd m (n * 2 ^ b * 2 ^ a) o (omega (arith, twice (n * 2 ^ b) a)))
odd_exp m n (negsuc a) (negsuc b) o p h =
    let r = odd_pow m n (suc b) (suc a) o p (ap (λ (x : ℕ). x * 2 ^ suc b) (sym (mul-one m)) ∙ h ∙ ap (λ (x : ℕ). x * 2 ^ suc a) (mul-one n)) in
    (r.0, ap negsuc (sym (suc_inj r.1)))

-- of a value that fits: its number m is odd, or it is 0 with the exponent 0
is_odd : (f : Format) (s : Bool) (m : ℕ) (e : ℤ) → T (fits f (fin s (suc m) e)) → suc m % 2 ≡ 1
unfolding fits
is_odd f s m e t =
    let a = eqb (suc m % 2) 1 in
    let b = ltb (suc m) (2 ^ prec f) in
    let c = leb (down e) (2 ^ low f) in
    eqb→eq (suc m % 2) 1 (and_l a b (and_l (a && b) c (and_l (a && b && c) (ltb (suc m * up e) (2 ^ suc (emax f) * down e)) t)))

two_up : (p : ℕ) → 0 < p → 2 * p ≡ 1 → ⊥
two_up p h e = omega arith

flat : (e : ℤ) → up e * down e ≡ 1 → e ≡ pos 0
flat (pos zero) h = refl
flat (pos (suc k)) h = absurd (two_up (2 ^ k) (pow_pos k) (sym (pow-succ' 2 k) ∙ sym (mul-one (2 ^ suc k)) ∙ h))
flat (negsuc k) h = absurd (two_up (2 ^ k) (pow_pos k) (sym (pow-succ' 2 k) ∙ sym (one-mul (2 ^ suc k)) ∙ h))

zero_exp : (f : Format) (s : Bool) (e : ℤ) → T (fits f (fin s zero e)) → e ≡ pos 0
unfolding fits
zero_exp f s e t = flat e (eqb→eq (up e * down e) 1 t)

-- x / c and y / d are both a / k
cross : (x y c d a k : ℕ) → 0 < k → x * k ≡ a * c → y * k ≡ a * d → x * d ≡ y * c
cross x y c d a k K g h =
    eq_of_mul-eq-mul_right k K (x * d) (y * c)
    (mul_right_comm x d k ∙ ap (λ (z : ℕ). z * d) g ∙ mul_right_comm a c d ∙ ap (λ (z : ℕ). z * c) (sym h) ∙ mul_right_comm y k c)

not_zero : (m : ℕ) (g e : ℤ) → zero * up e * down g ≡ suc m * up g * down e → ⊥
not_zero m g e h =
    lt_irrefl 0
    (subst (λ (x : ℕ). 0 < x) (sym h ∙ ap (λ (y : ℕ). y * down g) (zero-mul (up e)) ∙ zero-mul (down g))
    (mul-pos (mul-pos (zero-lt-suc m) (up_pos g)) (down_pos e)))

-- Two values of a format that are the same fraction a / k, with the same sign, are one.
pub value_unique : (f : Format) (x y : Float) (s : Bool) (a k : ℕ) → 0 < k → T (fits f x) → T (fits f y) → HasValue x s a k → HasValue y s a k → x ≡ y
value_unique f (fin t zero e) (fin u zero g) s a k K p q v w =
    λ i. fin ((v.0 ∙ sym w.0) i) zero ((zero_exp f t e p ∙ sym (zero_exp f u g q)) i)
value_unique f (fin t zero e) (fin u (suc n) g) s a k K p q v w =
    absurd (not_zero n g e (cross (zero * up e) (suc n * up g) (down e) (down g) a k K v.1 w.1))
value_unique f (fin t (suc m) e) (fin u zero g) s a k K p q v w =
    absurd (not_zero m e g (cross (zero * up g) (suc m * up e) (down g) (down e) a k K w.1 v.1))
value_unique f (fin t (suc m) e) (fin u (suc n) g) s a k K p q v w =
    let same = cross (suc m * up e) (suc n * up g) (down e) (down g) a k K v.1 w.1 in
    let r = odd_exp (suc m) (suc n) e g (is_odd f t m e p) (is_odd f u n g q) same in
    λ i. fin ((v.0 ∙ sym w.0) i) (r.0 i) (r.1 i)
value_unique f nan y s a k K p q v w = elim v [ ]
value_unique f (inf _) y s a k K p q v w = elim v [ ]
value_unique f (fin t zero e) nan s a k K p q v w = elim w [ ]
value_unique f (fin t zero e) (inf _) s a k K p q v w = elim w [ ]
value_unique f (fin t (suc m) e) nan s a k K p q v w = elim w [ ]
value_unique f (fin t (suc m) e) (inf _) s a k K p q v w = elim w [ ]

-- ---- a float's own value rounds to it

-- Powers of 2 are in the order of their exponents.
pow_within : (i j : ℕ) → 2 ^ i ≤ 2 ^ j → i ≤ j
pow_within i j h = go (dec_lt j i)
  where
    go : Dec (j < i) → i ≤ j
    go (yes l) = absurd (not-le_of_lt (pow-lt l) h)
    go (no w) = omega arith

-- 2 ^ e, not below 2 ^ -l, is 2 ^ j times 2 ^ -l.
in_units : (l : ℕ) (e : ℤ) → down e ≤ 2 ^ l → (j : ℕ) × (2 ^ j * down e ≡ up e * 2 ^ l)
in_units l (pos k) h = (k + l, mul-one (2 ^ (k + l)) ∙ pow-add 2 k l)
in_units l (negsuc k) h =
    (l - suc k, sym (pow-add 2 (l - suc k) (suc k)) ∙ ap (λ (x : ℕ). 2 ^ x) (back l (suc k) (pow_within (suc k) l h)) ∙ sym (one-mul (2 ^ l)))

-- m * 2 ^ e that a format holds, as the fraction a / c, is rounded to that value;
round_own : (f : Format) (s : Bool) (m : ℕ) (e : ℤ) (a c : ℕ) → 0 < c → m < 2 ^ prec f → down e ≤ 2 ^ low f → m * up e < 2 ^ suc (emax f) * down e
    → m * up e * c ≡ a * down e → HasValue (round f s a c) s a c
round_own f s m e a c C small lowest highest v = go (in_units (low f) e lowest)
  where
    go : (j : ℕ) × (2 ^ j * down e ≡ up e * 2 ^ low f) → HasValue (round f s a c) s a c
    go (j, u) =
        let l = 2 ^ low f in
        let d = down e in
        let r = 2 ^ suc (emax f) in
        let w : m * 2 ^ j * d ≡ m * up e * l = mul_assoc m (2 ^ j) d ∙ ap (λ (x : ℕ). m * x) u ∙ sym (mul_assoc m (up e) l) in
        let g : r * d * l ≡ 2 ^ (low f + suc (emax f)) * d =
        mul_comm (r * d) l ∙ sym (mul_assoc l r d) ∙ ap (λ (x : ℕ). x * d) (sym (pow-add 2 (low f) (suc (emax f)))) in
        round_exact f s a c m j C small
        (lt_of_mul-lt-mul_right d (rw (w, ← g) (mul-lt-mul_of_pos_right highest (pow_pos (low f)))))
        (eq_of_mul-eq-mul_right d (down_pos e) (a * l) (m * 2 ^ j * c)
        (mul_right_comm a l d ∙ ap (λ (x : ℕ). x * l) (sym v) ∙ mul_right_comm (m * up e) c l ∙ ap (λ (x : ℕ). x * c) (sym w) ∙ mul_right_comm (m * 2 ^ j) d c))

-- so is the value of any float of the format,
round_held : (f : Format) (x : Float) (s : Bool) (a c : ℕ) → 0 < c → T (fits f x) → HasValue x s a c → HasValue (round f s a c) s a c
unfolding fits
round_held f (fin t zero e) s a c C p v =
    round_own f s zero (pos 0) a c C (pow_pos (prec f)) (pow_pos (low f)) (mul-pos (pow_pos (suc (emax f))) (zero-lt-suc 0))
    (eq_of_mul-eq-mul_right (down e) (down_pos e) (zero * 1 * c) (a * 1) (simp (zero-mul, mul-one) (simp zero-mul at v.1)))
round_held f (fin t (suc m) e) s a c C p v =
    let i = eqb (suc m % 2) 1 in
    let j = ltb (suc m) (2 ^ prec f) in
    let k = leb (down e) (2 ^ low f) in
    let n = ltb (suc m * up e) (2 ^ suc (emax f) * down e) in
    let q = and_l (i && j && k) n p in
    round_own f s (suc m) e a c C
    (ltb→lt (suc m) (2 ^ prec f) (and_r i j (and_l (i && j) k q)))
    (leb→le (down e) (2 ^ low f) (and_r (i && j) k q))
    (ltb→lt (suc m * up e) (2 ^ suc (emax f) * down e) (and_r (i && j && k) n p))
    v.1
round_held f nan s a c C p v = elim v [ ]
round_held f (inf _) s a c C p v = elim v [ ]

-- and a / c rounded is that float.
pub round_back : (f : Format) (x : Float) (s : Bool) (a c : ℕ) → 0 < c → T (fits f x) → HasValue x s a c → round f s a c ≡ x
round_back f x s a c C p v = value_unique f (round f s a c) x s a c C (round-fits f s a c) p (round_held f x s a c C p v) v

-- ---- a product with a power of two

unlike_false : (t : Bool) → unlike t false ≡ t
unlike_false true = refl
unlike_false false = refl

-- A float that is n / c, times the float 2 ^ g, is the quotient n * 2 ^ g / c rounded once.
pub scaled : (f : Format) (x : Float) (s : Bool) (n c : ℕ) (g : ℤ) → 0 < c → HasValue x s n c → mul f x (fin false 1 g) ≡ round f s (n * up g) (c * down g)
unfolding mul
scaled f (fin t m e) s n c g C a =
    round_same f (unlike t false) (m * up e * (1 * up g)) (down e * down g) (n * up g) (c * down g)
    (mul-pos (down_pos e) (down_pos g))
    (mul-pos C (down_pos g))
    (ap (λ (z : ℕ). m * up e * z * (c * down g)) (one-mul (up g))
    ∙ mul-mul-mul_comm (m * up e) (up g) c (down g)
    ∙ ap (λ (z : ℕ). z * (up g * down g)) a.1
    ∙ mul-mul-mul_comm n (down e) (up g) (down g))
    ∙ ap (λ (b : Bool). round f b (n * up g) (c * down g)) (unlike_false t ∙ a.0)
scaled f nan s n c g C a = elim a [ ]
scaled f (inf _) s n c g C a = elim a [ ]
