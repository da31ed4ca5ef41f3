-- DEFINITIONS. Touching and meeting by any point of the plane: its coordinates are numbers of any line that holds the whole numbers in their order, such as the fractions
-- or the reals. (Leaders of pads with different x that share such a point share a whole one: `touch_plane`; so do a leader and a square: `meets_plane`.)
use Rattle.std.specs.Prelude.{◌≡◌, ◌⊎◌, ℕ, ℤ, pos, ◌+ℤ◌, ◌-ℤ◌, ◌≤ℤ◌}
use Rattle.paper.specs.Leaders.{Leader, Square}

-- A line of numbers in order, and the whole numbers in it.
pub record Line : Type 1 where
  pub number : Type 0
  pub le : number → number → Type 0
  pub at : ℤ → number
  pub trans : (a b c : number) → le a b → le b c → le a c
  pub keeps : (z w : ℤ) → z ≤ℤ w → le (at z) (at w)
  pub tells : (z w : ℤ) → le (at z) (at w) → z ≤ℤ w

-- v lies between the whole numbers a and b, ends included.
abbrev pub BetweenIn : (line : Line) → line.number → ℤ → ℤ → Type 0
BetweenIn line v a b = (line.le (line.at a) v × line.le v (line.at b)) ⊎ (line.le (line.at b) v × line.le v (line.at a))

-- The point (u, v) is on the leader: on its hand or on its arm.
abbrev pub OnIn : (line : Line) → Leader → line.number → line.number → Type 0
OnIn line l u v =
    ((u ≡ line.at (pos l.x)) × BetweenIn line v l.y l.port)
    ⊎ ((v ≡ line.at l.port) × line.le (line.at (pos 0)) u × line.le u (line.at (pos l.x)))

-- Two leaders share a point of the plane.
abbrev pub TouchIn : Line → Leader → Leader → Type 0
TouchIn line l m = (u : line.number) × (v : line.number) × OnIn line l u v × OnIn line m u v

-- The number r is at most n from the whole number z; the point (u, v) is in the square; and a leader and a square share a point of the plane.
abbrev pub Near : (line : Line) → line.number → ℤ → ℕ → Type 0
Near line r z n = line.le (line.at (z -ℤ pos n)) r × line.le r (line.at (z +ℤ pos n))

abbrev pub InIn : (line : Line) → Square → line.number → line.number → Type 0
InIn line s u v = Near line u (pos s.x) s.half × Near line v s.y s.half

abbrev pub MeetsIn : Line → Leader → Square → Type 0
MeetsIn line l s = (u : line.number) × (v : line.number) × OnIn line l u v × InIn line s u v
