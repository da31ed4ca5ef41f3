-- The order of layouts: at the first pad of the list where two differ, the smaller port comes earlier.
-- Assumes nothing.
use Rattle.std.specs.Prelude.{ℕ, ◌⊎◌, ◌≡◌, refl}
use mathlib.Core.List.Memᴰ
use mathlib.Core.List.{List, [], ◌∷◌, ◌++◌}
use Rattle.std.proofs.Math.Logic.{inl, inr}
use Rattle.std.proofs.Common.{sym, ◌∙◌}
use native.Mathlib.Omega.{arith}
use Rattle.strips.proofs.Lists.{nil_all, cons_all}
use Rattle.strips.specs.Order.{SameOn, EarlierOn}

module _ (f g : ℕ → ℕ) where
  pub same_append : (xs ys : List ℕ) → SameOn xs f g → SameOn ys f g → SameOn (xs ++ ys) f g
  same_append [] ys h k = k
  same_append (x ∷ xs) ys h k = cons_all (λ i. f i ≡ g i) (h x (Memᴰ.head refl)) (same_append xs ys (λ i m. h i (Memᴰ.tail m)) k)

  pub same_snoc : (xs : List ℕ) (j : ℕ) → SameOn xs f g → f j ≡ g j → SameOn (xs ++ (j ∷ [])) f g
  same_snoc xs j h e = same_append xs (j ∷ []) h (cons_all (λ i. f i ≡ g i) e (nil_all (λ i. f i ≡ g i)))

  pub earlier_left : (xs ys : List ℕ) → EarlierOn xs f g → EarlierOn (xs ++ ys) f g
  unfolding EarlierOn
  earlier_left [] ys h = absurd h
  earlier_left (x ∷ xs) ys (inl h) = inl h
  earlier_left (x ∷ xs) ys (inr h) = inr (h.0, earlier_left xs ys h.1)

  pub earlier_right : (xs ys : List ℕ) → SameOn xs f g → EarlierOn ys f g → EarlierOn (xs ++ ys) f g
  unfolding EarlierOn
  earlier_right [] ys s h = h
  earlier_right (x ∷ xs) ys s h = inr (s x (Memᴰ.head refl), earlier_right xs ys (λ i m. s i (Memᴰ.tail m)) h)

  pub earlier_cases : (xs ys : List ℕ) → EarlierOn (xs ++ ys) f g → EarlierOn xs f g ⊎ (SameOn xs f g × EarlierOn ys f g)
  unfolding EarlierOn
  earlier_cases [] ys h = inr (nil_all (λ i. f i ≡ g i), h)
  earlier_cases (x ∷ xs) ys (inl h) = inl (inl h)
  earlier_cases (x ∷ xs) ys (inr h) = go (earlier_cases xs ys h.1)
    where
      go : EarlierOn xs f g ⊎ (SameOn xs f g × EarlierOn ys f g) → EarlierOn (x ∷ xs) f g ⊎ (SameOn (x ∷ xs) f g × EarlierOn ys f g)
      go (inl k) = inl (inr (h.0, k))
      go (inr k) = inr (cons_all (λ i. f i ≡ g i) h.0 k.0, k.1)

  pub earlier_not_same : (js : List ℕ) → EarlierOn js f g → SameOn js f g → ⊥
  unfolding EarlierOn
  earlier_not_same [] h s = h
  earlier_not_same (j ∷ js) (inl h) s = omega (arith, s j (Memᴰ.head refl))
  earlier_not_same (j ∷ js) (inr h) s = earlier_not_same js h.1 (λ i m. s i (Memᴰ.tail m))

  pub earlier_asym : (js : List ℕ) → EarlierOn js f g → EarlierOn js g f → ⊥
  unfolding EarlierOn
  earlier_asym [] h k = h
  earlier_asym (j ∷ js) (inl h) (inl k) = omega arith
  earlier_asym (j ∷ js) (inl h) (inr k) = omega arith
  earlier_asym (j ∷ js) (inr h) (inl k) = omega arith
  earlier_asym (j ∷ js) (inr h) (inr k) = earlier_asym js h.1 k.1

pub earlier_cong : (js : List ℕ) (f f' g : ℕ → ℕ) → SameOn js f f' → EarlierOn js f g → EarlierOn js f' g
unfolding EarlierOn
earlier_cong [] f f' g s h = h
earlier_cong (j ∷ js) f f' g s (inl h) = inl (omega (arith, s j (Memᴰ.head refl)))
earlier_cong (j ∷ js) f f' g s (inr h) = inr (sym (s j (Memᴰ.head refl)) ∙ h.0, earlier_cong js f f' g (λ i m. s i (Memᴰ.tail m)) h.1)
