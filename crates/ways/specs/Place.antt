-- DEFINITIONS. The place of a best layout in their order, counted from 0, and how many there are.
use Rattle.std.specs.Prelude.{◌≡◌, List, ℕ, zero, suc, ◌+◌}
use Rattle.strips.specs.Grid.{Grid}
use Rattle.strips.specs.Order.{EarliestOn}
use Rattle.strips.specs.FirstNext.{Optimal, Later}

module _ (B : Grid) (order : List ℕ) (p : ℕ) where
  -- PLACE k: First, followed by k calls of Next, comes to the layout f.
  unfoldable pub AtPlace : ℕ → (ℕ → ℕ) → Type 0
  AtPlace zero f = EarliestOn order (Optimal B order p) f
  AtPlace (suc k) f = (g : ℕ → ℕ) × AtPlace k g × EarliestOn order (Later B order p g) f

  -- THE COUNT: one more than the last place, that of a layout after which there is none.
  pub record HowMany (c : ℕ) : Type 0 where
    pub last : ℕ
    pub layout : ℕ → ℕ
    pub at : AtPlace last layout
    pub end : (g : ℕ → ℕ) → Later B order p layout g → ⊥
    pub more : c ≡ last + 1
