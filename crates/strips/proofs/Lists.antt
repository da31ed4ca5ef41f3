-- Lists of pad numbers: the members that pass a test, and lists without repeats.
-- Assumes nothing.
use Prim.Native.Nat.{ℕ, zero, suc, ◌≤◌, ◌<◌, zero-le}
use Rattle.std.specs.Prelude.{Bool, ◌&&◌, ◌≡◌}
use Rattle.std.proofs.Math.Bool.{true, false, cond}
use Rattle.std.proofs.Common.{true≢false, sym, ◌∙◌, arith}
use Rattle.std.proofs.lemmas.Bool.{false≢true}
use mathlib.Core.List.Memᴰ
use mathlib.Core.List.{List, [], ◌∷◌, ◌++◌, Memᴰ}
use Rattle.std.proofs.Math.Path.{refl, ap}
use Rattle.std.proofs.Math.ListN.{length}
use Rattle.strips.specs.Lists.{All, keep, every, Distinct}

pub nil_all : (P : ℕ → Type 0) → All P []
nil_all P x m = absurd (Memᴰ.not-nil m)

pub cons_all : (P : ℕ → Type 0) {x : ℕ} {xs : List ℕ} → P x → All P xs → All P (x ∷ xs)
cons_all P h t y (Memᴰ.head e) = rw e h
cons_all P h t y (Memᴰ.tail m) = t y m

-- In a list without repeats, what stands before j is not j.
pub distinct_apart : (xs : List ℕ) (j : ℕ) (ys : List ℕ) → Distinct (xs ++ (j ∷ ys)) → (i : ℕ) → Memᴰ i xs → i ≡ j → ⊥
unfolding Distinct
distinct_apart (x ∷ xs) j ys d i (Memᴰ.head h) e = d.0 (Memᴰ.append_right xs (Memᴰ.head (sym h ∙ e)))
distinct_apart (x ∷ xs) j ys d i (Memᴰ.tail m) e = distinct_apart xs j ys d.1 i m e
distinct_apart [] j ys d i x3 e = elim x3 [ ]

pub both : (s t : Bool) → (s && t) ≡ true → (s ≡ true) × (t ≡ true)
both true true e = (refl, refl)
both true false e = absurd (false≢true e)
both false t e = absurd (false≢true e)

module _ (p : ℕ → Bool) where
  -- P of a kept list, by whether its first pad is kept.
  pub keep_if : (P : List ℕ → Type 0) (x : ℕ) (xs : List ℕ) → (p x ≡ true → P (x ∷ keep p xs)) → (p x ≡ false → P (keep p xs)) → P (keep p (x ∷ xs))
  unfolding keep
  keep_if P x xs h k = go (p x) refl
    where
      go : (b : Bool) → p x ≡ b → P (cond b (x ∷ keep p xs) (keep p xs))
      go true e = h e
      go false e = k e

  pub keep_yes : (x : ℕ) (xs : List ℕ) → p x ≡ true → keep p (x ∷ xs) ≡ x ∷ keep p xs
  unfolding keep
  keep_yes x xs e = rw e

  pub keep_no : (x : ℕ) (xs : List ℕ) → p x ≡ false → keep p (x ∷ xs) ≡ keep p xs
  unfolding keep
  keep_no x xs e = rw e

  pub keep-length : (xs : List ℕ) → length (keep p xs) ≤ length xs
  unfolding keep
  keep-length [] = zero-le
  keep-length (x ∷ xs) = let h = keep-length xs in keep_if (λ ys. length ys ≤ suc (length xs)) x xs (λ e. omega arith) (λ e. omega arith)

  -- A kept number is a member that passes the test.
  pub kept_mem : (xs : List ℕ) {y : ℕ} → Memᴰ y (keep p xs) → Memᴰ y xs × (p y ≡ true)
  unfolding keep
  kept_mem [] m = absurd (Memᴰ.not-nil m)
  kept_mem (x ∷ xs) {y} m = step (p x) refl (kept_mem xs) m
    where
      step : (b : Bool) → p x ≡ b → (Memᴰ y (keep p xs) → Memᴰ y xs × (p y ≡ true)) → Memᴰ y (cond b (x ∷ keep p xs) (keep p xs))
          → Memᴰ y (x ∷ xs) × (p y ≡ true)
      step true e ih (Memᴰ.head h) = (Memᴰ.head h, ap p h ∙ e)
      step true e ih (Memᴰ.tail k) = (Memᴰ.tail (ih k).0, (ih k).1)
      step false e ih k = (Memᴰ.tail (ih k).0, (ih k).1)

  -- A member that passes the test is kept.
  pub mem_kept : (xs : List ℕ) {y : ℕ} → Memᴰ y xs → p y ≡ true → Memᴰ y (keep p xs)
  unfolding keep
  mem_kept (x ∷ xs) {y} (Memᴰ.head h) t = rw (sym (ap p h) ∙ t) (Memᴰ.head h)
  mem_kept (x ∷ xs) {y} (Memᴰ.tail k) t = let m = mem_kept xs k t in keep_if (Memᴰ y) x xs (λ e. Memᴰ.tail m) (λ e. m)
  mem_kept [] {y = y} x'' t = elim x'' [ ]

  pub keep_all : (P : ℕ → Type 0) (xs : List ℕ) → All P xs → All P (keep p xs)
  keep_all P xs h y m = h y (kept_mem xs m).0

  pub keep_same : (xs : List ℕ) → All (λ x. p x ≡ true) xs → keep p xs ≡ xs
  unfolding keep
  keep_same [] h = refl
  keep_same (x ∷ xs) h = rw (h x (Memᴰ.head refl), keep_same xs (λ y m. h y (Memᴰ.tail m)))

  -- A weaker test before p changes nothing.
  pub keep-keep : (w : ℕ → Bool) (xs : List ℕ) → All (λ x. p x ≡ true → w x ≡ true) xs → keep p (keep w xs) ≡ keep p xs
  unfolding keep
  keep-keep w [] h = refl
  keep-keep w (x ∷ xs) h = step (p x) (w x) refl refl (keep-keep w xs (λ y m. h y (Memᴰ.tail m)))
    where
      step : (s t : Bool) → p x ≡ s → w x ≡ t → keep p (keep w xs) ≡ keep p xs → keep p (cond t (x ∷ keep w xs) (keep w xs)) ≡ cond s (x ∷ keep p xs) (keep p xs)
      step true true e k ih = rw (e, ih)
      step false true e k ih = rw (e, ih)
      step true false e k ih = let z : true ≡ false = cc (h x (Memᴰ.head refl) e) in absurd (true≢false z)
      step false false e k ih = ih

  pub keep_append : (xs ys : List ℕ) → keep p (xs ++ ys) ≡ keep p xs ++ keep p ys
  unfolding keep
  keep_append [] ys = refl
  keep_append (x ∷ xs) ys = step (p x) (keep_append xs ys)
    where
      step : (b : Bool) → keep p (xs ++ ys) ≡ keep p xs ++ keep p ys
          → cond b (x ∷ keep p (xs ++ ys)) (keep p (xs ++ ys)) ≡ cond b (x ∷ keep p xs) (keep p xs) ++ keep p ys
      step true h = rw h
      step false h = h

  -- Two tests, one after the other.
  pub keep_and : (w : ℕ → Bool) (xs : List ℕ) → keep p (keep w xs) ≡ keep (λ x. p x && w x) xs
  unfolding keep
  keep_and w [] = refl
  keep_and w (x ∷ xs) = step (p x) (w x) refl (keep_and w xs)
    where
      step : (s t : Bool) → p x ≡ s → keep p (keep w xs) ≡ keep (λ y. p y && w y) xs
          → keep p (cond t (x ∷ keep w xs) (keep w xs)) ≡ cond (s && t) (x ∷ keep (λ y. p y && w y) xs) (keep (λ y. p y && w y) xs)
      step true true e ih = rw (e, ih)
      step false true e ih = rw (e, ih)
      step true false e ih = ih
      step false false e ih = ih

  pub keep_distinct : (xs : List ℕ) → Distinct xs → Distinct (keep p xs)
  unfolding keep Distinct
  keep_distinct [] d = tt
  keep_distinct (x ∷ xs) d = let k = keep_distinct xs d.1 in keep_if Distinct x xs (λ e. (λ m. d.0 (kept_mem xs m).0, k)) (λ e. k)

  pub every_all : (xs : List ℕ) → every p xs ≡ true → All (λ x. p x ≡ true) xs
  unfolding every
  every_all [] e = nil_all (λ x. p x ≡ true)
  every_all (x ∷ xs) e = let t = both (p x) (every p xs) e in cons_all (λ y. p y ≡ true) t.0 (every_all xs t.1)

  pub all_every : (xs : List ℕ) → All (λ x. p x ≡ true) xs → every p xs ≡ true
  unfolding every
  all_every [] h = refl
  all_every (x ∷ xs) h = rw (h x (Memᴰ.head refl)) (all_every xs (λ y m. h y (Memᴰ.tail m)))

-- Two tests are the same if each passes where the other does.
pub same_test : (s t : Bool) → (s ≡ true → t ≡ true) → (t ≡ true → s ≡ true) → s ≡ t
same_test true t h k = sym (h refl)
same_test false true h k = k refl
same_test false false h k = refl

pub keep_cong : {p w : ℕ → Bool} → ((x : ℕ) → p x ≡ w x) → (xs : List ℕ) → keep p xs ≡ keep w xs
keep_cong h xs = λ i. keep (λ x. h x i) xs

-- Induction by the length of a list: P of all shorter lists gives P of the list.
module _ {ℓ} (P : List ℕ → Type ℓ) (step : (xs : List ℕ) → ((ys : List ℕ) → length ys < length xs → P ys) → P xs) where
  by_fuel : (n : ℕ) (xs : List ℕ) → length xs ≤ n → P xs
  by_fuel zero xs h = step xs (λ ys l. absurd (omega arith))
  by_fuel (suc n) xs h = step xs (λ ys l. by_fuel n ys (omega arith))

  pub by_length : (xs : List ℕ) → P xs
  by_length xs = by_fuel (length xs) xs (omega arith)
