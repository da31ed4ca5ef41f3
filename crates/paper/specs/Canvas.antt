-- DEFINITIONS. 01, "The calls", Draw: one canvas unit is four job units and y grows downward; all numbers are 32-bit floats, in the kit's
-- account of IEEE 754.
use Rattle.std.specs.Prelude.{◌≡◌, ◌≢◌, Bool, true, false, List, [], ◌∷◌, ℕ, T, ℤ, pos, negsuc, nat_abs, neg_ℤ, Float, Ok, Err}
use Rattle.std.specs.Float.{binary32}
use Rattle.std.specs.Float.Ieee.{fits}
use Rattle.std.specs.Float.Ieee.Exact.{HasValue}
use Rattle.paper.specs.declared.Point.{Point}
use Rattle.paper.specs.declared.Polyline.TheVariants.{Straight, Bent}
use Rattle.paper.specs.Answers.{Drawn}
use Rattle.paper.specs.Leaders.{Leader}

abbrev pub negative : ℤ → Bool
negative (pos n) = false
negative (negsuc n) = true

-- `HasValue a s n d` of the kit: a is finite, has the sign s, and is n / d in size.
-- Four times the 32-bit float a is exactly v: a is finite, its size is |v| / 4, and its sign is v's, so that a drawn zero is positive zero.
pub record FourTimesIs (a : Float) (v : ℤ) : Type 0 where
  pub single : T (fits binary32 a)
  pub exact : HasValue a (negative v) (nat_abs v) 4

-- The drawn point a stands for the point (x, y) of the sheet: four times its numbers are exactly x and exactly -y.
pub record StandsFor (a : Point) (x : ℕ) (y : ℤ) : Type 0 where
  pub across : FourTimesIs a.x (pos x)
  pub down : FourTimesIs a.y (neg_ℤ y)

-- A leader is straight exactly if there is no bend: two points, pad and port. Else three: pad, bend and port.
pub record DrawnStraight (l : Leader) (p q : Point) : Type 0 where
  pub level : l.y ≡ l.port
  pub pad : StandsFor p l.x l.y
  pub port : StandsFor q 0 l.port

pub record DrawnBent (l : Leader) (p m q : Point) : Type 0 where
  pub bends : l.y ≢ l.port
  pub pad : StandsFor p l.x l.y
  pub bend : StandsFor m l.x l.port
  pub port : StandsFor q 0 l.port

-- The answer d draws the leader l.
abbrev pub Draws : Leader → Drawn → Type 0
Draws l (Ok (Straight p q)) = DrawnStraight l p q
Draws l (Ok (Bent p m q)) = DrawnBent l p m q
Draws l (Err r) = ⊥

-- The points' coordinates, x before y.
abbrev pub coordinates : Drawn → List Float
coordinates (Ok (Straight p q)) = p.x ∷ p.y ∷ q.x ∷ q.y ∷ []
coordinates (Ok (Bent p m q)) = p.x ∷ p.y ∷ m.x ∷ m.y ∷ q.x ∷ q.y ∷ []
coordinates (Err r) = []
