-- The bars of a board: for each pad the ports to which its leader would meet the square of another pad, said of the paper's board.
use Rattle.std.specs.Prelude.{◌≡◌, ◌↔◌, List, ℕ, ◌+◌, ◌*◌, ◌≤◌, ◌<◌, length, get_or, pos, ◌+ℤ◌, ◌-ℤ◌}
use Rattle.paper.specs.Layouts.{Board}
use Rattle.paper.specs.laws.Squares.{OpenTo, Open}
use Rattle.board.specs.declared.bars.Square.{Square}
use Rattle.board.specs.Lists.{Under, Upto}

-- A byte for each pad with each port, pad by pad: that of pad i with port q is 0.
abbrev pub Unbarred : Board → List ℕ → ℕ → ℕ → Type 0
Unbarred b bars i q = get_or bars (i * b.ports + q) 0 ≡ 0

-- It is 0 exactly if the leader is open.
pub record BarsOf (b : Board) (bars : List ℕ) : Type 0 where
  pub long : length bars ≡ b.pads * b.ports
  pub at : (i q : ℕ) → i < b.pads → q < b.ports → Unbarred b bars i q ↔ Open b i q

-- While they are worked out: the squares of the pads before k have been looked at for all pads, and that of pad k for the pads before m.
pub record BarsTo (b : Board) (k m : ℕ) (bars : List ℕ) : Type 0 where
  pub long : length bars ≡ b.pads * b.ports
  pub passed : (i q : ℕ) → i < b.pads → q < b.ports → i < m → Unbarred b bars i q ↔ OpenTo b (k + 1) i q
  pub rest : (i q : ℕ) → i < b.pads → q < b.ports → m ≤ i → Unbarred b bars i q ↔ OpenTo b k i q

-- All bytes are 0.
abbrev pub Clear : List ℕ → Type 0
Clear bars = (k : ℕ) → get_or bars k 0 ≡ 0

-- The square of pad j in numbers.
pub record SquareOf (b : Board) (j : ℕ) (s : Square) : Type 0 where
  pub inside : j < b.pads
  pub x_is : s.x ≡ b.x j
  pub half_is : s.half ≡ b.half j
  pub large : 0 < s.half
  pub bottom_is : s.bottom ≡ b.y j -ℤ pos s.half
  pub top_is : s.top ≡ b.y j +ℤ pos s.half
  pub below : Under b.ports b.port s.bottom s.from
  pub reached : Upto b.ports b.port s.top s.to
