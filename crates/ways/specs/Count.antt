-- How many best layouts there are, by the numbers for the smaller parts of the board.
-- Assumes nothing.
use Prim.Native.Nat.{ℕ, zero, ◌+◌, ◌*◌, ◌≤◌, ◌<◌}
use Rattle.std.specs.Prelude.{Bool, false, cond, ◌&&◌, ◌⊎◌, ◌≡◌, leb, ltb, eqb}
use mathlib.Core.List.{List, [], ◌∷◌}
use Rattle.strips.specs.Lists.{All}
use Rattle.strips.specs.Least.{Least, none, some}
use Rattle.strips.specs.Grid.{Grid, Lawful, Misses, below, above, best, local}
use Rattle.strips.specs.Prefix.{AtStrip}
use Rattle.ways.specs.Tree.{ways, ways_at}

-- Both are numbers, and the same.
unfoldable pub same_number : Least → Least → Bool
same_number none y = false
same_number (some u) none = false
same_number (some u) (some v) = eqb u v

module _ (B : Grid) where
  -- Port q is locally best for pad j in the strip c .. d - 1 whose other pads are given.
  unfoldable pub is_choice : ℕ → ℕ → List ℕ → ℕ → ℕ → Bool
  is_choice q j pads c d = leb c q && (ltb q d && same_number (local B j pads c d q) (best B (j ∷ pads) c d))

  -- The same at the strip of pad j.
  abbrev pub may_take : ℕ → ℕ → (ℕ → ℕ) → List ℕ → ℕ → List ℕ → ℕ → Bool
  may_take a b f done j todo q = AtStrip B (is_choice q j) f done j todo a b

  module _ (p : ℕ) where
    -- How many best layouts go on from f's ports for the pads `done`.
    abbrev pub ways_in : ℕ → ℕ → (ℕ → ℕ) → List ℕ → List ℕ → ℕ
    ways_in a b f done todo = ways p (may_take a b) f done todo

    -- How many best layouts a strip has.
    abbrev pub many : List ℕ → ℕ → ℕ → ℕ
    many js a b = ways_in a b (λ k. zero) [] js

module _ (B : Grid) (lawful : Lawful B) (p r a b q : ℕ) (low : a ≤ q) (high : q < b) where
  -- The pads `is` have their ports, clear of port q, and those of `todo` are below or above it.
  pub record Cut (is todo : List ℕ) (f : ℕ → ℕ) : Type 0 where
    pub at : f r ≡ q
    pub clear : All (λ i. Misses B q i (f i)) is
    pub sides : All (λ j. (B.hi j ≤ q) ⊎ (q < B.lo j)) todo

module _ (B : Grid) (p : ℕ) where
  -- How many best layouts of a strip have port q at its rightmost pad.
  abbrev pub many_at : ℕ → ℕ → List ℕ → ℕ → ℕ → ℕ
  many_at q r rest a b = cond (is_choice B q r rest a b) (many B p (below B q rest) a q * many B p (above B q rest) (q + 1) b) zero

module _ (B : Grid) (lawful : Lawful B) (p : ℕ) where
  -- SHARE: the layouts that go on from the ports of the pads `done` are those of the next pad's strip, each with each of the rest, and so
  -- are those with port q at the next pad.
  pub record Share (done : List ℕ) (j : ℕ) (todo : List ℕ) (a b : ℕ) (f : ℕ → ℕ) : Type 0 where
    pub others : ℕ
    pub all : ways_in B p a b f done (j ∷ todo) ≡ others * AtStrip B (λ pads c d. many B p (j ∷ pads) c d) f done j todo a b
    pub each : (q : ℕ) → ways_at p (may_take B a b) f done j todo q ≡ others * AtStrip B (many_at B p q j) f done j todo a b
