-- Where a walk reads figures and totals, and that they are right there: the table for as many ports as pads, or, where there are no heads, the work list of slots.
use Rattle.std.specs.Prelude.{◌≡◌, cond, List, ℕ, ◌<◌, eqb, length}
use Rattle.std.proofs.Common.{eq-eqb, ne_eqb}
use Rattle.strips.specs.Least.{Least}
use Rattle.strips.specs.Grid.{Grid}
use Rattle.pads.specs.Pads.{sides_of}
use Rattle.totals.specs.Strip.{grid}
use Rattle.totals.specs.Cell.{figures, grid_of}
use Rattle.totals.specs.Cell as totals
use Rattle.slots.specs.Slots.{figures_in, slot_grid}
use Rattle.slots.specs.Slots as slots

pub record Source : Type 0 where
  pub heads : List ℕ
  pub totals : List ℕ
  pub costs : List ℕ
  pub bars : List ℕ
  pub ports : ℕ

abbrev pub source : List ℕ → List ℕ → List ℕ → List ℕ → ℕ → Source
source hs ts cs bs p = record { heads = hs; totals = ts; costs = cs; bars = bs; ports = p }

-- The figures of n pads: those of the work list, or those of the table, none where it has a bar.
abbrev pub figures_on : Source → ℕ → ℕ → ℕ → Least
figures_on T n j q = cond (eqb (length T.heads) 0) (figures_in T.totals n T.ports j q) (figures T.costs T.bars n j q)

-- The board.
abbrev pub grid_on : List ℕ → Source → List ℕ → List ℕ → Grid
grid_on order T lo hi = grid (sides_of lo hi) (figures_on T (length order))

-- What is read there is right.
pub record Full (order : List ℕ) (T : Source) (lo hi : List ℕ) : Type 0 where
  pub ports : T.ports ≡ length order
  pub table : totals.Table order T.costs T.bars lo hi T.heads T.totals

pub record Right (order : List ℕ) (T : Source) (lo hi : List ℕ) : Type 0 where
  pub full : 0 < length T.heads → Full order T lo hi
  pub slotted : length T.heads ≡ 0 → slots.SlotTable order lo hi T.ports T.totals

-- The board is that of the work list, or that of the table.
module _ (order : List ℕ) (T : Source) (lo hi : List ℕ) where
  pub slots_grid : length T.heads ≡ 0 → grid_on order T lo hi ≡ slot_grid order lo hi T.ports T.totals
  slots_grid e =
      λ i. grid (sides_of lo hi) (λ j q. cond (eq-eqb (length T.heads) 0 e i) (figures_in T.totals (length order) T.ports j q)
      (figures T.costs T.bars (length order) j q))

  pub full_grid : (length T.heads ≡ 0 → ⊥) → grid_on order T lo hi ≡ grid_of order T.costs T.bars lo hi
  full_grid n =
      λ i. grid (sides_of lo hi) (λ j q. cond (ne_eqb (length T.heads) 0 n i) (figures_in T.totals (length order) T.ports j q)
      (figures T.costs T.bars (length order) j q))
