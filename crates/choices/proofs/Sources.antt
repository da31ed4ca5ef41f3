-- Laws of where a walk reads: in either table its figures are those of the board, and what is asked there is had.
use mathlib.Core.Path.{◌≡◌, refl, sym, ap, subst}
use mathlib.Core.Logic.{⊎_elim}
use mathlib.Core.Bool.{Bool, true, false, cond}
use mathlib.Core.List.{List}
use Prim.Native.Nat.{ℕ, ◌^◌, ◌≤◌, ◌<◌}
use native.Mathlib.Omega.{arith}
use lib.Dec.{eqb}
use lib.ListN.{length}
use borrow.Author.Tests.{eqb-false}
use Rattle.std.specs.Prelude.{Option, MatchOption}
use Rattle.strips.specs.Least as least
use Rattle.strips.specs.Grid.{Grid, best}
use Rattle.pads.specs.Pads.{Pads}
use Rattle.pads.specs.Counts.{le_or_lt}
use Rattle.totals.specs.Cell.{figures, grid_of, FullFrom, Leads, NextPort}
use Rattle.totals.specs.Totals.{Capped}
use Rattle.totals.proofs.Cells.{figures_cheap}
use Rattle.slots.specs.Slots.{figures_in, slot_grid, stored, Inside}
use Rattle.slots.proofs.Values.{figure_cheap}
use Rattle.slots.proofs.Layers.{whole_none}
use Rattle.choices.specs.Source.{Source, figures_on, grid_on, Full, Right, slots_grid, full_grid}
use Rattle.choices.specs.Choices.{Ready}

-- What the search of either table answers.
abbrev Answers : Grid → List ℕ → ℕ → ℕ → ℕ → ℕ → Option ℕ → Type 0
Answers B order m a b from r = MatchOption r (NextPort (Leads B order m a b) from b b) (λ q. NextPort (Leads B order m a b) from b q × (q < b))

module _ (order : List ℕ) (T : Source) (lo hi : List ℕ) where
  -- What each of the two asks for.
  module _ (none : length T.heads ≡ 0) where
    pub slots_inside : (m a b : ℕ) → Ready (grid_on order T lo hi) order T.ports m a b
        → Inside (slot_grid order lo hi T.ports T.totals) order T.ports m a b
    slots_inside m a b R = record { ports = R.ports; listed = R.listed; here = record { low = R.here.low; high = R.here.high } }

  pub full_pads : Full order T lo hi → Pads order lo hi T.ports → Pads order lo hi (length order)
  full_pads F P = subst (Pads order lo hi) F.ports P

  module _ (some : length T.heads ≡ 0 → ⊥) where
    pub full_ready : (m a b : ℕ) → Full order T lo hi → Ready (grid_on order T lo hi) order T.ports m a b
        → FullFrom (grid_of order T.costs T.bars lo hi) order m a b
    full_ready m a b F R =
        let S = subst (λ (B : Grid). Ready B order T.ports m a b) (full_grid order T lo hi some) R in
        record { ports = omega (arith, S.ports, F.ports); listed = S.listed; here = S.here; full = S.full (sym F.ports) }

  -- What each answers.
  module _ (none : length T.heads ≡ 0) (m a b : ℕ) where
    pub slots_next : (from : ℕ) (r : Option ℕ) → Answers (slot_grid order lo hi T.ports T.totals) order m a b from r
        → Answers (grid_on order T lo hi) order m a b from r
    slots_next from r = subst (λ (B : Grid). Answers B order m a b from r) (sym (slots_grid order T lo hi none))

  module _ (F : Full order T lo hi) (m a b : ℕ) where
    some : length T.heads ≡ 0 → ⊥
    some e = omega (arith, F.table.sizes.heads)

    pub full_next : (from : ℕ) (r : Option ℕ) → Answers (grid_of order T.costs T.bars lo hi) order m a b from r
        → Answers (grid_on order T lo hi) order m a b from r
    full_next from r = subst (λ (B : Grid). Answers B order m a b from r) (sym (full_grid order T lo hi some))

-- ---- totals

-- No figure is above 2 ^ 32, so that every least total is far below 2 ^ 62.
module _ {order : List ℕ} {T : Source} {lo hi : List ℕ} (R : Right order T lo hi) where
  cheap_on : (j q : ℕ) → Capped (2 ^ 32) (figures_on T (length order) j q)
  cheap_on j q = go (eqb (length T.heads) 0) refl
    where
      go : (x : Bool) → eqb (length T.heads) 0 ≡ x
          → Capped (2 ^ 32) (cond x (figures_in T.totals (length order) T.ports j q) (figures T.costs T.bars (length order) j q))
      go true e = figure_cheap _
      go false e = figures_cheap (R.full (let n = eqb-false (length T.heads) 0 e in omega arith)).table.sizes j q

  pub least_small : Pads order lo hi T.ports → (v : ℕ) → best (grid_on order T lo hi) order 0 T.ports ≡ least.some v → v < 2 ^ 62
  least_small P v e = ⊎_elim large (λ l. l) (le_or_lt (2 ^ 62) v)
    where
      large : 2 ^ 62 ≤ v → v < 2 ^ 62
      large h =
          let n = whole_none lo hi order (figures_on T (length order)) T.ports v P.level P.narrow cheap_on P.few P.top (ap stored (sym e)) h in
          let z : ◌≡◌ {A = ℕ} 0 1 = cc in absurd (omega arith)
