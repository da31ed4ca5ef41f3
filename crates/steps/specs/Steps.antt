-- What First and Next are about, over plain lists of numbers, and what they promise. T is where figures and totals are read.
use Rattle.std.specs.Prelude.{◌≡◌, Bool, true, false, List, ℕ, ◌^◌, ◌≤◌, length, take}
use Rattle.numbers.specs.Kept.{KeptFrom}
use Rattle.strips.specs.Least.{none, some}
use Rattle.strips.specs.Grid.{Sol, cost_sum, best}
use Rattle.strips.specs.Order.{SameOn, EarliestOn}
use Rattle.strips.specs.FirstNext.{Optimal, Later, FilledFrom}
use Rattle.places.specs.Places.{port_in}
use Rattle.choices.specs.Source.{Source, grid_on}

-- A layout without touching leaders, each pad on a port that it may use.
abbrev pub UntouchingLayout : List ℕ → Source → List ℕ → List ℕ → List ℕ → Type 0
UntouchingLayout order T lo hi w = Sol (grid_on order T lo hi) order 0 T.ports (port_in w)

-- There is such a layout.
abbrev pub Solvable : List ℕ → Source → List ℕ → List ℕ → Type 0
Solvable order T lo hi = (f : ℕ → ℕ) × Sol (grid_on order T lo hi) order 0 T.ports f

-- A best layout.
abbrev pub BestLayout : List ℕ → Source → List ℕ → List ℕ → List ℕ → Type 0
BestLayout order T lo hi w = Optimal (grid_on order T lo hi) order T.ports (port_in w)

-- The total of a layout.
abbrev pub total_in : List ℕ → Source → List ℕ → List ℕ → List ℕ → ℕ
total_in order T lo hi w = cost_sum (grid_on order T lo hi).cost order (port_in w)

-- t is the least total; where there is no layout, a number from 2 ^ 62 on.
pub record IsLeast (order : List ℕ) (T : Source) (lo hi : List ℕ) (t : ℕ) : Type 0 where
  pub total : (v : ℕ) → best (grid_on order T lo hi) order 0 T.ports ≡ some v → t ≡ v
  pub none : best (grid_on order T lo hi) order 0 T.ports ≡ none → 2 ^ 62 ≤ t

-- FIRST: v holds the earliest best layout.
pub record FirstIs (order : List ℕ) (T : Source) (lo hi w v : List ℕ) : Type 0 where
  pub earliest : EarliestOn order (Optimal (grid_on order T lo hi) order T.ports) (port_in v)
  pub kept : KeptFrom (length order) w v

-- NEXT: v holds the earliest best layout after the layout of w; or there is none, and v is w.
pub record NextIs (order : List ℕ) (T : Source) (lo hi w v : List ℕ) : Type 0 where
  pub earliest : EarliestOn order (Later (grid_on order T lo hi) order T.ports (port_in w)) (port_in v)
  pub kept : KeptFrom (length order) w v

pub record EndIs (order : List ℕ) (T : Source) (lo hi w v : List ℕ) : Type 0 where
  pub none : (g : ℕ → ℕ) → Later (grid_on order T lo hi) order T.ports (port_in w) g → ⊥
  pub same : v ≡ w

abbrev pub StepIs : List ℕ → Source → List ℕ → List ℕ → List ℕ → List ℕ → Bool → Type 0
StepIs order T lo hi w v true = NextIs order T lo hi w v
StepIs order T lo hi w v false = EndIs order T lo hi w v

-- r says whether P.
abbrev pub SaysWhether : Bool → Type 0 → Type 0
SaysWhether true P = P
SaysWhether false P = P → ⊥

-- What filling from place k on leaves in v, where w was.
pub record FilledUp (order : List ℕ) (T : Source) (lo hi w v : List ℕ) (k : ℕ) : Type 0 where
  pub kept : KeptFrom (length order) w v
  pub before : SameOn (take k order) (port_in w) (port_in v)
  pub filled : FilledFrom (grid_on order T lo hi) T.ports order k (port_in v)
