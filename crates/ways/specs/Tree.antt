-- Counting: layouts chosen pad by pad by a test; how many there are, and at which place in their order each stands.
-- Assumes nothing.
use Prim.Native.Nat.{ℕ, zero, ◌+◌, ◌<◌}
use Rattle.std.specs.Prelude.{Bool, true, cond, ◌≡◌, eqb}
use mathlib.Core.List.{List, [], ◌∷◌, ◌++◌}
use Rattle.strips.specs.Order.{SameOn}
use Rattle.strips.specs.Following.{EachPad}
use Rattle.strips.specs.ByPlace.{sum_to}

-- ---- layouts, pad by pad

-- f with port q at pad j.
unfoldable pub put : (ℕ → ℕ) → ℕ → ℕ → ℕ → ℕ
put f j q k = cond (eqb k j) q (f k)

-- The test says which ports below p pad j may have after the pads before it, and looks at the ports of those only.
module _ (p : ℕ) (test : (ℕ → ℕ) → List ℕ → ℕ → List ℕ → ℕ → Bool) where
  -- How many layouts go on from f's ports for the pads `done`.
  unfoldable pub ways : (ℕ → ℕ) → List ℕ → List ℕ → ℕ
  ways f done [] = 1
  ways f done (j ∷ todo) = sum_to (λ q. cond (test f done j todo q) (ways (put f j q) (done ++ (j ∷ [])) todo) zero) p

  -- How many of them have port q at the next pad.
  abbrev pub ways_at : (ℕ → ℕ) → List ℕ → ℕ → List ℕ → ℕ → ℕ
  ways_at f done j todo q = cond (test f done j todo q) (ways (put f j q) (done ++ (j ∷ [])) todo) zero

  -- How many of them are earlier than f.
  unfoldable pub rank : (ℕ → ℕ) → List ℕ → List ℕ → ℕ
  rank f done [] = zero
  rank f done (j ∷ todo) = sum_to (ways_at f done j todo) (f j) + rank f (done ++ (j ∷ [])) todo

  -- f passes the test at each pad.
  pub record PassesAt (f : ℕ → ℕ) (done : List ℕ) (j : ℕ) (todo : List ℕ) : Type 0 where
    pub small : f j < p
    pub passes : test f done j todo (f j) ≡ true

  abbrev pub Passes : (ℕ → ℕ) → List ℕ → List ℕ → Type 0
  Passes f done todo = EachPad (PassesAt f) done todo

  module _ (looks : (f g : ℕ → ℕ) (done : List ℕ) (j : ℕ) (todo : List ℕ) (q : ℕ) → SameOn done f g → test f done j todo q ≡ test g done j todo q) where
    -- Each place below their number is taken.
    pub record Placed (f : ℕ → ℕ) (done todo : List ℕ) (k : ℕ) : Type 0 where
      pub layout : ℕ → ℕ
      pub before : SameOn done f layout
      pub passes : Passes layout done todo
      pub place : rank layout done todo ≡ k
