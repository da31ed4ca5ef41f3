-- What `decimal` comes to.
use Rattle.std.specs.Prelude.{◌≡◌, Bool, false, cond, List, [], ◌∷◌, ◌++◌, length}
use Rattle.std.proofs.Math.Path.{refl}
use Rattle.std.proofs.Common.{sym, ap, ◌∙◌, arith, length-append, lt-ltb, le-ltb}
use Rattle.std.proofs.Math.Bool.{true}
use Prim.Native.Nat.{ℕ, zero, suc, ◌+◌, ◌*◌, ◌-◌, ◌^◌, ◌/◌, ◌%◌, ◌≤◌, ◌<◌}
use Rattle.std.proofs.Math.Decide.{dec_lt}
use Rattle.text.specs.Text.{digits, decimal, Begins, read_digits}

-- A number below 10 is its digit; any other has its last digit after those of its tenth.
pub digits_one : (k n : ℕ) → n < 10 → digits (suc k) n ≡ (48 + n) ∷ []
unfolding digits
digits_one k n h = rw (lt-ltb n 10 h)

pub digits_more : (k n : ℕ) → 10 ≤ n → digits (suc k) n ≡ digits k (n / 10) ++ ((48 + n % 10) ∷ [])
unfolding digits
digits_more k n h = rw (le-ltb n 10 h)

-- It does not matter how many digits were asked for, where there are enough.
enough : (k m n : ℕ) → n < k → n < m → digits k n ≡ digits m n
enough zero m n h g = absurd (omega arith)
enough (suc k) zero n h g = absurd (omega arith)
enough (suc k) (suc m) n h g = go (λ l. enough k m (n / 10) (omega arith) (omega arith)) (dec_lt n 10)
  where
    go : (10 ≤ n → digits k (n / 10) ≡ digits m (n / 10)) → Dec (n < 10) → digits (suc k) n ≡ digits (suc m) n
    go f (yes l) = rw (digits_one k n l, digits_one m n l)
    go f (no w) =
        let l : 10 ≤ n = omega arith in
        rw (digits_more k n l, digits_more m n l, f l)

pub decimal_one : (n : ℕ) → n < 10 → decimal n ≡ (48 + n) ∷ []
unfolding decimal
decimal_one n = digits_one n n

pub decimal_more : (n : ℕ) → 10 ≤ n → decimal n ≡ decimal (n / 10) ++ ((48 + n % 10) ∷ [])
unfolding decimal
decimal_more n h = rw (digits_more n n h, enough n (suc (n / 10)) (n / 10) (omega arith) (omega arith))

pub length_one : (n : ℕ) → n < 10 → length (decimal n) ≡ 1
length_one n h = ap length (decimal_one n h)

pub length_more : (n : ℕ) → 10 ≤ n → length (decimal n) ≡ length (decimal (n / 10)) + 1
length_more n h = ap length (decimal_more n h) ∙ simp length-append

-- A number below 10 to the k + 1 has at most k + 1 digits,
few : (m k n : ℕ) → n < 10 ^ suc k → length (digits m n) ≤ suc k
unfolding digits
few zero k n h = omega arith
few (suc m) zero n h = rw (digits_one m n h) (omega arith)
few (suc m) (suc k) n h = go (few m k (n / 10) (omega arith)) (dec_lt n 10)
  where
    go : length (digits m (n / 10)) ≤ suc k → Dec (n < 10) → length (digits (suc m) n) ≤ suc (suc k)
    go f (yes l) = rw (digits_one m n l) (omega arith)
    go f (no w) = rw (digits_more m n (omega arith)) (simp length-append (omega arith))

pub decimal_few : (k n : ℕ) → n < 10 ^ suc k → length (decimal n) ≤ suc k
unfolding decimal
decimal_few k n = few (suc n) k n

-- so that one of 64 bits has at most 20.
pub decimal_short : (n : ℕ) → n < 2 ^ 64 → length (decimal n) ≤ 20
decimal_short n h = decimal_few 19 n (omega arith)

-- A number below 10 to the k + 1 is the k + 1 digits asked for, or fewer.
pub decimal-digits : (k n : ℕ) → n < 10 ^ suc k → decimal n ≡ digits (suc k) n
decimal-digits zero n h = decimal_one n (omega arith) ∙ sym (digits_one 0 n (omega arith))
decimal-digits (suc k) n h = go (decimal-digits k (n / 10) (omega arith)) (dec_lt n 10)
  where
    go : decimal (n / 10) ≡ digits (suc k) (n / 10) → Dec (n < 10) → decimal n ≡ digits (suc (suc k)) n
    go f (yes l) = decimal_one n l ∙ sym (digits_one (suc k) n l)
    go f (no w) =
        let l : 10 ≤ n = omega arith in
        rw (decimal_more n l, digits_more (suc k) n l, f)

pub read-append : (v : ℕ) (s t : List ℕ) → read_digits v (s ++ t) ≡ read_digits (read_digits v s) t
read-append v [] t = refl
read-append v (d ∷ s) t = read-append (10 * v + (d - 48)) s t

reads : (k n : ℕ) → n < k → read_digits 0 (digits k n) ≡ n
reads zero n h = absurd (omega arith)
reads (suc k) n h = go (λ l. reads k (n / 10) (omega arith)) (dec_lt n 10)
  where
    go : (10 ≤ n → read_digits 0 (digits k (n / 10)) ≡ n / 10) → Dec (n < 10) → read_digits 0 (digits (suc k) n) ≡ n
    go f (yes l) = rw (digits_one k n l) (omega arith)
    go f (no w) =
        let l : 10 ≤ n = omega arith in
        rw (digits_more k n l, read-append 0 (digits k (n / 10)) ((48 + n % 10) ∷ []), f l) (omega arith)

-- THEOREM: the text tells the number.
pub decimal_reads : (n : ℕ) → read_digits 0 (decimal n) ≡ n
unfolding decimal
decimal_reads n = reads (suc n) n (omega arith)

-- ---- its bytes

-- A text has no byte of which `at` says so.
abbrev pub free : (ℕ → Bool) → List ℕ → Bool
free at [] = true
free at (c ∷ s) = cond (at c) false (free at s)

pub free-append : (at : ℕ → Bool) (s t : List ℕ) → free at s ≡ true → free at t ≡ true → free at (s ++ t) ≡ true
free-append at [] t h g = g
free-append at (c ∷ s) t h g = go (at c) (free-append at s t) h g
  where
    go : (b : Bool) → (free at s ≡ true → free at t ≡ true → free at (s ++ t) ≡ true) → cond b false (free at s) ≡ true → free at t ≡ true
        → cond b false (free at (s ++ t)) ≡ true
    go true f h g = h
    go false f h g = f h g

-- What is false of each digit is false of each byte of a number in decimal,
module _ (at : ℕ → Bool) (h : (d : ℕ) → d < 10 → at (48 + d) ≡ false) where
  one_free : (d : ℕ) → d < 10 → free at ((48 + d) ∷ []) ≡ true
  one_free d l = rw (h d l)

  digits-free : (k n : ℕ) → free at (digits k n) ≡ true
  unfolding digits
  digits-free zero n = refl
  digits-free (suc k) n = go (digits-free k (n / 10)) (dec_lt n 10)
    where
      go : free at (digits k (n / 10)) ≡ true → Dec (n < 10) → free at (digits (suc k) n) ≡ true
      go f (yes l) = rw (digits_one k n l) (one_free n l)
      go f (no w) =
          rw (digits_more k n (omega arith))
          (free-append at (digits k (n / 10)) ((48 + n % 10) ∷ []) f (one_free (n % 10) (omega arith)))

  pub decimal-free : (n : ℕ) → free at (decimal n) ≡ true
  unfolding decimal
  decimal-free n = digits-free (suc n) n

-- and the first of them is a digit.
pub begins_append : (s t : List ℕ) → Begins s → Begins (s ++ t)
begins_append s t (d, r, l, e) = (d, r ++ t, l, rw e)

digits-first : (k n : ℕ) → Begins (digits (suc k) n)
digits-first zero n = go (dec_lt n 10)
  where
    go : Dec (n < 10) → Begins (digits 1 n)
    go (yes l) = (n, [], l, digits_one 0 n l)
    go (no w) = (n % 10, [], omega arith, digits_more 0 n (omega arith) ∙ (unfold digits in refl))
digits-first (suc k) n = go (digits-first k (n / 10)) (dec_lt n 10)
  where
    go : Begins (digits (suc k) (n / 10)) → Dec (n < 10) → Begins (digits (suc (suc k)) n)
    go f (yes l) = (n, [], l, digits_one (suc k) n l)
    go f (no w) = rw (digits_more (suc k) n (omega arith)) (begins_append (digits (suc k) (n / 10)) ((48 + n % 10) ∷ []) f)

pub decimal-first : (n : ℕ) → Begins (decimal n)
unfolding decimal
decimal-first n = digits-first n n
