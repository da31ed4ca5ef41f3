-- What is drawn of a leader. That it satisfies the words of Canvas, and nothing else does, is proofs/laws/Drawn.
use Rattle.std.specs.Prelude.{ℕ, ◌≤◌, eqb, pos, neg_ℤ, nat_abs, ℤ, Ok}
use Rattle.std.proofs.Math.Bool.{cond}
use Rattle.paper.specs.declared.Point.{Point}
use Rattle.paper.specs.declared.Polyline.{Polyline}
use Rattle.paper.specs.declared.Polyline.TheVariants.{Straight, Bent}
use Rattle.paper.specs.Answers.{Drawn}
use Rattle.paper.specs.Leaders.{Leader, distance}
use Rattle.paper.specs.laws.Quarter.{quarter}

-- The point (x, y) of the sheet on the canvas.
unfoldable pub canvas : ℕ → ℤ → Point
canvas x y = record { x = quarter (pos x); y = quarter (neg_ℤ y) }

-- The points of a leader without a bend, and of one with a bend.
abbrev pub two_of : Leader → Polyline
two_of l = Straight (canvas l.x l.y) (canvas 0 l.port)

abbrev pub three_of : Leader → Polyline
three_of l = Bent (canvas l.x l.y) (canvas l.x l.port) (canvas 0 l.port)

-- One of two, by whether the leader bends: the first where the heights are equal.
unfoldable pub by_bend : {A : Type 0} → Leader → A → A → A
by_bend l straight bent = cond (eqb (distance l.y l.port) 0) straight bent

-- The leader as it is drawn.
unfoldable pub leader_drawn : Leader → Drawn
leader_drawn l = by_bend l (Ok (two_of l)) (Ok (three_of l))

-- ---- the paper's words

-- A leader within the ranges of the job.
pub record OnSheet (l : Leader) : Type 0 where
  pub right : l.x ≤ 1000000
  pub pad : nat_abs l.y ≤ 1000000
  pub port : nat_abs l.port ≤ 1000000
