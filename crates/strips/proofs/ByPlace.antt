-- The recursive definitions read at places of the list: touching pairs, the order of layouts, and the total by record number.
-- Assumes nothing.
use Prim.Native.Nat.{ℕ, zero, suc, ◌+◌, ◌<◌}
use mathlib.Core.Bool.{Bool, true, false, not}
use mathlib.Core.List.Memᴰ
use mathlib.Core.List.{List, [], ◌∷◌, Memᴰ}
use Rattle.std.proofs.Math.Logic.{inl, inr}
use Rattle.std.specs.Prelude.{◌≡◌, eqb, get_or}
use Rattle.std.proofs.Math.Path.{refl, sym}
use Rattle.std.proofs.Common.{◌∙◌, eq-eqb, ne_eqb}
use native.Mathlib.Omega.{arith}
use Rattle.std.proofs.Math.Decide.{dec_lt}
use Rattle.std.proofs.Math.ListN.{length}
use Rattle.strips.specs.Lists.{All, keep, Distinct}
use Rattle.strips.proofs.Lists.{keep_yes, keep_no, keep_same, keep_distinct, kept_mem, mem_kept}
use Rattle.strips.specs.Grid.{Grid, Misses, NoneTouch, cost_sum}
use Rattle.strips.specs.Order.{EarlierOn}
use Rattle.strips.specs.ByPlace.{DifferAt, sum_to}

-- Where a member stands, and that what stands there is a member.
pub mem_at : (xs : List ℕ) (x : ℕ) → Memᴰ x xs → (k : ℕ) × (k < length xs) × (get_or xs k 0 ≡ x)
mem_at [] x m = absurd (Memᴰ.not-nil m)
mem_at (y ∷ ys) x (Memᴰ.head e) = (0, omega arith, sym e)
mem_at (y ∷ ys) x (Memᴰ.tail m) = let t = mem_at ys x m in (suc t.0, omega (arith, t.1), t.2)

pub place_mem : (xs : List ℕ) (k : ℕ) → k < length xs → Memᴰ (get_or xs k 0) xs
place_mem [] k h = absurd (omega arith)
place_mem (x ∷ xs) zero h = Memᴰ.head refl
place_mem (x ∷ xs) (suc k) h = Memᴰ.tail (place_mem xs k (omega arith))

-- ---- touching pairs

module _ (B : Grid) (f : ℕ → ℕ) where
  pub free_places : (js : List ℕ) → NoneTouch B js f → (p q : ℕ) → p < q → q < length js → Misses B (f (get_or js p 0)) (get_or js q 0) (f (get_or js q 0))
  unfolding NoneTouch
  free_places [] F p q h l = absurd (omega arith)
  free_places (j ∷ js) F p zero h l = absurd (omega arith)
  free_places (j ∷ js) F zero (suc q) h l = F.0 (get_or js q 0) (place_mem js q (omega arith))
  free_places (j ∷ js) F (suc p) (suc q) h l = free_places js F.1 p q (omega arith) (omega arith)

  pub places_free : (js : List ℕ) → ((p q : ℕ) → p < q → q < length js → Misses B (f (get_or js p 0)) (get_or js q 0) (f (get_or js q 0))) → NoneTouch B js f
  unfolding NoneTouch
  places_free [] h = tt
  places_free (j ∷ js) h = (λ k m. first k (mem_at js k m), places_free js (λ p q u v. h (suc p) (suc q) (omega arith) (omega arith)))
    where
      first : (k : ℕ) → (i : ℕ) × (i < length js) × (get_or js i 0 ≡ k) → Misses B (f j) k (f k)
      first k t = rw t.2 at (h 0 (suc t.0) (omega arith) (omega (arith, t.1)))

module _ (f g : ℕ → ℕ) where
  pub earlier_differ : (js : List ℕ) → EarlierOn js f g → DifferAt js f g
  unfolding EarlierOn
  earlier_differ [] h = absurd h
  earlier_differ (j ∷ js) (inl h) = record { place = 0; inside = omega arith; less = h; alike = λ p l. absurd (omega arith) }
  earlier_differ (j ∷ js) (inr h) = let d = earlier_differ js h.1 in
      record { place = suc d.place; inside = omega (arith, d.inside); less = d.less; alike = λ p l. go d p l }
    where
      go : (d : DifferAt js f g) (p : ℕ) → p < suc d.place → f (get_or (j ∷ js) p 0) ≡ g (get_or (j ∷ js) p 0)
      go d zero l = h.0
      go d (suc p) l = d.alike p (omega arith)

  pub differ_earlier : (js : List ℕ) (m : ℕ) → m < length js → f (get_or js m 0) < g (get_or js m 0) → ((p : ℕ) → p < m → f (get_or js p 0) ≡ g (get_or js p 0))
      → EarlierOn js f g
  unfolding EarlierOn
  differ_earlier [] m h l a = absurd (omega arith)
  differ_earlier (j ∷ js) zero h l a = inl l
  differ_earlier (j ∷ js) (suc m) h l a = inr (a 0 (omega arith), differ_earlier js m (omega arith) l (λ p u. a (suc p) (omega arith)))

other : ℕ → ℕ → Bool
other m j = not (eqb j m)

other_yes : (m j : ℕ) → (j ≡ m → ⊥) → other m j ≡ true
unfolding other
other_yes m j h = rw (ne_eqb j m h) refl

other_no : (m j : ℕ) → j ≡ m → other m j ≡ false
unfolding other
other_no m j h = rw (eq-eqb j m h) refl

yes_other : (m j : ℕ) → other m j ≡ true → j ≡ m → ⊥
yes_other m j e h = let z : true ≡ false = sym e ∙ other_no m j h in mathlib.Core.Bool.true≢false z

module _ (C : ℕ → ℕ → ℕ) (f : ℕ → ℕ) where
  sum_remove : (m : ℕ) (xs : List ℕ) → Distinct xs → Memᴰ m xs → cost_sum C xs f ≡ C m (f m) + cost_sum C (keep (other m) xs) f
  unfolding cost_sum Distinct
  sum_remove m [] d n = absurd (Memᴰ.not-nil n)
  sum_remove m (x ∷ xs) d (Memᴰ.head e) =
      rw (keep_no (other m) x xs (other_no m x (sym e)), keep_same (other m) xs (λ j k. other_yes m j (λ h. d.0 (rw (sym e ∙ sym h) k))), e) refl
  sum_remove m (x ∷ xs) d (Memᴰ.tail n) =
      let u = sum_remove m xs d.1 n in
      rw (keep_yes (other m) x xs (other_yes m x (λ h. d.0 (rw h n)))) (omega arith)

  -- A list of the numbers below n, each once, sums as the numbers in their order do.
  pub sum_order : (n : ℕ) (xs : List ℕ) → Distinct xs → All (λ j. j < n) xs → ((j : ℕ) → j < n → Memᴰ j xs) → cost_sum C xs f ≡ sum_to (λ j. C j (f j)) n
  unfolding cost_sum sum_to
  sum_order zero [] d h c = refl
  sum_order zero (x ∷ xs) d h c = absurd (omega (arith, h x (Memᴰ.head refl)))
  sum_order (suc n) xs d h c =
      let e = sum_remove n xs d (c n (omega arith)) in
      let r = sum_order n (keep (other n) xs) (keep_distinct (other n) xs d) (λ j m. let t = kept_mem (other n) xs m in
      below j (h j t.0) (yes_other n j t.1) (dec_lt j n)) (λ j l. mem_kept (other n) xs (c j (omega arith)) (other_yes n j (λ k. omega arith))) in
      omega arith
    where
      below : (j : ℕ) → j < suc n → (j ≡ n → ⊥) → Dec (j < n) → j < n
      below j l w (yes u) = u
      below j l w (no u) = absurd (w (omega arith))
