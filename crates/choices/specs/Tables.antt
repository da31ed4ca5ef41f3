-- What the tables that are lent have.
use Rattle.std.specs.Prelude.{List, [], ℕ}
use Rattle.std.proofs.Common.{arith}
use Rattle.slots.specs.Slots as slots
use Rattle.choices.specs.Source.{Source, source, Full, Right}
use Rattle.choices.specs.declared.Tables.{Tables}
use Rattle.choices.specs.declared.Tables.TheVariants.{Full as Stacked, Slotted}

abbrev pub heads_of : Tables → List ℕ
heads_of (Stacked table figures) = table.heads.now
heads_of (Slotted work) = []

abbrev pub totals_of : Tables → List ℕ
totals_of (Stacked table figures) = table.totals.now
totals_of (Slotted work) = work.now

abbrev pub costs_of : Tables → List ℕ
costs_of (Stacked table figures) = figures.cost.now
costs_of (Slotted work) = []

abbrev pub bars_of : Tables → List ℕ
bars_of (Stacked table figures) = figures.bars.now
bars_of (Slotted work) = []

-- What a search reads there, on so many ports, ..
abbrev pub source_of : Tables → ℕ → Source
source_of t p = source (heads_of t) (totals_of t) (costs_of t) (bars_of t) p

-- .. and that it is right.
abbrev pub RightIn : Tables → List ℕ → List ℕ → List ℕ → ℕ → Type 0
RightIn (Stacked table figures) order lo hi p = Full order (source table.heads.now table.totals.now figures.cost.now figures.bars.now p) lo hi
RightIn (Slotted work) order lo hi p = slots.SlotTable order lo hi p work.now

pub right_in : (t : Tables) (order lo hi : List ℕ) (p : ℕ) → RightIn t order lo hi p → Right order (source_of t p) lo hi
right_in (Stacked table figures) order lo hi p R = record { full = λ h. R; slotted = λ e. absurd (omega (arith, R.table.sizes.heads)) }
right_in (Slotted work) order lo hi p R = record { full = λ h. absurd (omega arith); slotted = λ e. R }
