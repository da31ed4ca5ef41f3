-- Layouts compared, and pads one by one: what the counting needs of the order and of the listing besides their own laws.
-- Assumes nothing.
use Rattle.std.specs.Prelude.{ℕ, ◌<◌, ◌⊎◌, ◌≡◌}
use mathlib.Core.List.Memᴰ
use mathlib.Core.List.{List, [], ◌∷◌, ◌++◌, append_assoc}
use Rattle.std.proofs.Math.Logic.{inl, inr}
use native.Mathlib.Omega.{arith}
use Rattle.std.proofs.Math.Decide.{dec_lt}
use Rattle.strips.specs.Lists.{All}
use Rattle.strips.proofs.Lists.{nil_all, cons_all}
use Rattle.strips.specs.Grid.{Grid, Lawful, BestIn}
use Rattle.strips.specs.Prefix.{Lies}
use Rattle.strips.proofs.Prefix.{chosen}
use Rattle.strips.specs.Order.{SameOn, EarlierOn}
use Rattle.strips.specs.Following.{EachPad, EachBest}

-- Two layouts are the same on the list, or one is earlier.
module _ (f g : ℕ → ℕ) where
  pub compare_layouts : (js : List ℕ) → SameOn js f g ⊎ (EarlierOn js f g ⊎ EarlierOn js g f)
  unfolding EarlierOn
  compare_layouts [] = inl (nil_all (λ i. f i ≡ g i))
  compare_layouts (j ∷ js) = go (dec_lt (f j) (g j)) (dec_lt (g j) (f j)) (compare_layouts js)
    where
      go : Dec (f j < g j) → Dec (g j < f j) → SameOn js f g ⊎ (EarlierOn js f g ⊎ EarlierOn js g f)
          → SameOn (j ∷ js) f g ⊎ (EarlierOn (j ∷ js) f g ⊎ EarlierOn (j ∷ js) g f)
      go (yes h) d c = inr (inl (inl h))
      go (no h) (yes k) c = inr (inr (inl k))
      go (no h) (no k) (inl s) = inl (cons_all (λ i. f i ≡ g i) (omega arith) s)
      go (no h) (no k) (inr (inl e)) = inr (inl (inr (omega arith, e)))
      go (no h) (no k) (inr (inr e)) = inr (inr (inr (omega arith, e)))

pub each_map : (P Q : List ℕ → ℕ → List ℕ → Type 0) → ((is : List ℕ) (j : ℕ) (js : List ℕ) → P is j js → Q is j js) → (done todo : List ℕ) → EachPad P done todo
    → EachPad Q done todo
unfolding EachPad
each_map P Q h done [] s = tt
each_map P Q h done (j ∷ todo) s = (h done j todo s.0, each_map P Q h (done ++ (j ∷ [])) todo s.1)

-- Each pad of a best layout has a locally best port.
module _ (B : Grid) (lawful : Lawful B) (a b : ℕ) where
  pub best_filled : (done todo : List ℕ) (f : ℕ → ℕ) → All (Lies B a b) todo → BestIn B (done ++ todo) a b f → EachBest B a b f done todo
  unfolding EachPad
  best_filled done [] f h s = tt
  best_filled done (j ∷ todo) f h s = (
    chosen B lawful done j todo a b f (λ k m. h k (Memᴰ.tail m)) s,
    best_filled (done ++ (j ∷ [])) todo f (λ k m. h k (Memᴰ.tail m)) (rw (append_assoc done (j ∷ []) todo) s),
  )
