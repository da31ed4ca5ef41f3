-- What the search for a port works with, over plain lists of numbers, and what it answers. T is where figures and totals are read.
use Rattle.std.specs.Prelude.{◌≡◌, List, ℕ, ◌+◌, ◌-◌, ◌≤◌, ◌<◌, length, get_or, drop, Option, Some, None}
use Rattle.strips.specs.Lists.{keep}
use Rattle.strips.specs.Grid.{Grid}
use Rattle.strips.specs.Prefix.{lies, Lies}
use Rattle.strips.specs.FirstNext.{Extends, At}
use Rattle.numbers.specs.Arrangement.{Arrangement}
use Rattle.pads.specs.Pads.{Pads}
use Rattle.places.specs.Places.{port_in}
use Rattle.choices.specs.Source.{Source, grid_on, Right}

-- A proper board: 64 pads at most, each listed once, and 128 ports at most.
pub record ProperLists (order : List ℕ) (T : Source) (lo hi : List ℕ) : Type 0 where
  pub pads : Pads order lo hi T.ports
  pub arranged : Arrangement (length order) order

-- What First and Next work with: a proper board, its table, and a list with room for a layout.
pub record Working (order : List ℕ) (T : Source) (lo hi w : List ℕ) : Type 0 where
  pub proper : ProperLists order T lo hi
  pub table : Right order T lo hi
  pub room : length order ≤ length w

-- The pad at place m lies in the strip a .. b - 1; where there are as many pads as ports, it and the pads after it fill the strip.
pub record Ready (B : Grid) (order : List ℕ) (p m a b : ℕ) : Type 0 where
  pub ports : b ≤ p
  pub listed : m < length order
  pub here : Lies B a b (get_or order m 0)
  pub full : length order ≡ p → length (keep (lies B a b) (drop (m + 1) order)) + 1 ≡ b - a

-- The ports that w gives to the first m pads are those of some best layout.
abbrev pub Begun : List ℕ → Source → List ℕ → List ℕ → List ℕ → ℕ → Type 0
Begun order T lo hi w m = Extends (grid_on order T lo hi) T.ports order m (port_in w)

-- Port q is a locally best one for the pad at place m, when the pads before it have the ports of w.
abbrev pub LocallyBest : List ℕ → Source → List ℕ → List ℕ → List ℕ → ℕ → ℕ → Type 0
LocallyBest order T lo hi w m = At (grid_on order T lo hi) T.ports order (port_in w) m

-- What the search for a port answers: the first port from `from` on with Q, or 128.
pub record Chosen (Q : ℕ → Type 0) (from q : ℕ) : Type 0 where
  pub start : q < 128 → from ≤ q
  pub found : q < 128 → Q q
  pub passed : (i : ℕ) → from ≤ i → i < q → Q i → ⊥

-- The same of an answer that may be none.
abbrev pub Choice : (ℕ → Type 0) → ℕ → Option ℕ → Type 0
Choice Q from (Some q) = Chosen Q from q × (q < 128)
Choice Q from None = Chosen Q from 128
