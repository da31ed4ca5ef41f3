-- The lists of a board: what the search works with, said of the paper's board.
use Rattle.std.specs.Prelude.{◌≡◌, ◌↔◌, List, ℕ, ◌≤◌, ◌<◌, length, ℤ, ◌≤ℤ◌, ◌<ℤ◌}
use Rattle.numbers.specs.Filled.{Filled}
use Rattle.order.specs.Falling.{OrderOf}
use Rattle.paper.specs.Layouts.{Board, Proper}
use Rattle.paper.specs.laws.Squares.{Open}
use Rattle.strips.specs.Least.{none, some}
use Rattle.choices.specs.Source.{Source, figures_on}

-- Of n ports P holds of the first c, and of no other.
pub record FirstOnes (n : ℕ) (P : ℕ → Type 0) (c : ℕ) : Type 0 where
  pub top : c ≤ n
  pub which : (q : ℕ) → q < n → (q < c) ↔ P q

-- The heights of n ports rise, as a proper board's do: c of them lie strictly below the height h; c lie at it or below. (These are the first ones.)
abbrev pub Rises : ℕ → (ℕ → ℤ) → Type 0
Rises n port = (a c : ℕ) → a < c → c < n → port a <ℤ port c

abbrev pub Under : ℕ → (ℕ → ℤ) → ℤ → ℕ → Type 0
Under n port h c = FirstOnes n (λ q. port q <ℤ h) c

abbrev pub Upto : ℕ → (ℕ → ℤ) → ℤ → ℕ → Type 0
Upto n port h c = FirstOnes n (λ q. port q ≤ℤ h) c

-- The first k entries of lo say how many ports are below their pads, those of hi how many are at their heights or below.
abbrev pub Lows : Board → List ℕ → ℕ → Type 0
Lows b lo k = Filled b.pads (λ j v. Under b.ports b.port (b.y j) v) lo k

abbrev pub Highs : Board → List ℕ → ℕ → Type 0
Highs b hi k = Filled b.pads (λ j v. Upto b.ports b.port (b.y j) v) hi k

-- Both lists, for every pad.
pub record SidesOf (b : Board) (lo hi : List ℕ) : Type 0 where
  pub low : Lows b lo b.pads
  pub high : Highs b hi b.pads

-- Lists of the right lengths for n pads, lent to be filled.
pub record RoomFor (n : ℕ) (order lo hi : List ℕ) : Type 0 where
  pub places : length order ≡ n
  pub lows : length lo ≡ n
  pub highs : length hi ≡ n

-- The lists of a proper board of at most 64 pads and 128 ports.
pub record ListsOf (b : Board) (order lo hi : List ℕ) : Type 0 where
  pub proper : Proper b
  pub few : b.pads ≤ 64
  pub slots_few : b.ports ≤ 128
  pub listed : OrderOf b.pads b.x order
  pub sides : SidesOf b lo hi

-- Where the search reads, it reads what each pad costs with each port of the board to which its leader is open, and none for the others.
pub record CostsOn (b : Board) (cost : ℕ → ℕ → ℕ) (T : Source) : Type 0 where
  pub ports : T.ports ≡ b.ports
  pub at : (j q : ℕ) → j < b.pads → q < b.ports → Open b j q → figures_on T b.pads j q ≡ some (cost j q)
  pub shut : (j q : ℕ) → j < b.pads → q < b.ports → ¬ Open b j q → figures_on T b.pads j q ≡ none
