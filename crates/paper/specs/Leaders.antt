-- DEFINITIONS. 01, "Leaders, touching and totals": a leader is a set of points of the sheet. So is a pad, which is a square (02).
-- A point is (x, y): x counts from the label edge to the right, y is a height. No leader has a point left of the edge.
-- Whole points are enough: the sides lie along the axes and the corners are whole, so that leaders of pads with different x that share any point
-- of the plane share a whole one (`touch_plane`), and so do a leader and a square (`meets_plane`).
use Rattle.std.specs.Prelude.{◌≡◌, ◌⊎◌, cond, ℕ, ◌+◌, ◌≤◌, eqb, ℤ, pos, nat_abs, ◌-ℤ◌, ◌≤ℤ◌}

-- A point of the sheet. (`Point` is one of the canvas.)
pub record Spot : Type 0 where
  pub x : ℕ
  pub y : ℤ

-- A pad at (x, y), led to a port of the height `port`.
pub record Leader : Type 0 where
  pub x : ℕ
  pub y : ℤ
  pub port : ℤ

-- m lies between a and b, ends included.
abbrev pub Between : ℤ → ℤ → ℤ → Type 0
Between m a b = ((a ≤ℤ m) × (m ≤ℤ b)) ⊎ ((b ≤ℤ m) × (m ≤ℤ a))

-- The hand: on the vertical line at the pad's x, from the pad's height to the port's.
abbrev pub OnHand : Leader → Spot → Type 0
OnHand l p = (p.x ≡ l.x) × Between p.y l.y l.port

-- The arm: at the port's height, from the pad's x to 0.
abbrev pub OnArm : Leader → Spot → Type 0
OnArm l p = (p.y ≡ l.port) × (p.x ≤ l.x)

abbrev pub On : Leader → Spot → Type 0
On l p = OnHand l p ⊎ OnArm l p

-- Two leaders touch when they share a point.
abbrev pub Touch : Leader → Leader → Type 0
Touch l m = (p : Spot) × On l p × On m p

-- How far apart two heights are, or two x.
abbrev pub distance : ℤ → ℤ → ℕ
distance a b = nat_abs (a -ℤ b)

-- A pad: the closed square around (x, y) whose sides are twice its half-side. It may reach over the label edge.
pub record Square : Type 0 where
  pub x : ℕ
  pub y : ℤ
  pub half : ℕ

abbrev pub In : Square → Spot → Type 0
In s p = (distance (pos p.x) (pos s.x) ≤ s.half) × (distance p.y s.y ≤ s.half)

-- A leader meets a square when they share a point.
abbrev pub Meets : Leader → Square → Type 0
Meets l s = (p : Spot) × On l p × In s p

-- A leader's length is x plus the distance of y and the port's height. It has 0 bends if these are the same, so that
-- their distance is 0, else 1 (`bends_iff`).
unfoldable pub length_of : Leader → ℕ
length_of l = l.x + distance l.y l.port

unfoldable pub bends_of : Leader → ℕ
bends_of l = cond (eqb (distance l.y l.port) 0) 0 1
