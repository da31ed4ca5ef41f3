-- Leaders that do not touch need not be longer; and where pads are points every accepted job has an untouching layout.
--     straight_total: no layout, touching or not, is shorter than some whose leaders do not touch;  points_exist
use Rattle.std.specs.Prelude.{◌≡◌, ◌≢◌, ◌⊎◌, ℕ, ◌+◌, ◌≤◌, ◌<◌, ℤ}
use Rattle.std.proofs.Math.Logic.{inl, inr}
use Rattle.std.proofs.Math.Decide.{dec_lt}
use Rattle.std.proofs.Common.{arith}
use Rattle.numbers.proofs.Whole.{whole, apart_num}
use Rattle.numbers.proofs.Tests.{dec_iff}
use Rattle.paper.specs.Leaders.{Between, distance, length_of}
use Rattle.paper.specs.Layouts.{Board, leader, Layout, Untouching, sum}
use Rattle.paper.specs.Points.{Points, LeadersApart}
use Rattle.paper.specs.Layouts.{Proper}
use Rattle.paper.specs.laws.Tests.{between}
use Rattle.paper.proofs.laws.Touching.{between_iff}
use Rattle.paper.proofs.laws.Boards.{leaders_apart_iff}
use Rattle.paper.proofs.laws.Squares.{points_apart}
use Rattle.paper.proofs.laws.Straighten.{Gain, Uncross, straighten}

-- The way from a to c is no longer than that by m; and as long, where m lies between them.
triangle : (a m c : ℤ) → distance a c ≤ distance a m + distance m c
triangle a m c = omega (arith, apart_num a c, apart_num a m, apart_num m c)

on_the_way : (a m c : ℤ) → Between m a c → distance a c ≡ distance a m + distance m c
on_the_way a m c (inl t) = omega (whole, apart_num a c, apart_num a m, apart_num m c)
on_the_way a m c (inr t) = omega (whole, apart_num a c, apart_num a m, apart_num m c)

module _ (b : Board) (proper : Proper b) where
  -- Two ports are at two heights.
  away : (a q : ℕ) → a < b.ports → q < b.ports → a ≢ q → 0 < distance (b.port a) (b.port q)
  away a q k l ne = go (dec_lt a q)
    where
      go : Dec (a < q) → 0 < distance (b.port a) (b.port q)
      go (yes m) = omega (whole, apart_num (b.port a) (b.port q), proper.rising a q m l)
      go (no m) = omega (whole, apart_num (b.port a) (b.port q), proper.rising q a (omega arith) k)

  -- The length of the leader of pad i to port q; and by 01's criterion a leader on port a does not touch that of pad j, further left, on port q.
  abbrev long : ℕ → ℕ → ℕ
  long i q = length_of (leader b i q)

  abbrev Clear : ℕ → ℕ → ℕ → Type 0
  Clear a j q = ¬ Between (b.port a) (b.y j) (b.port q)

  -- Where a leader touches one further left, the heights of the pad and the two ports stand in a row, and a swap gains what lies between the ports.
  uncross : Uncross b long Clear
  unfolding length_of
  uncross a j q k l ne = go (dec_iff (between (b.port a) (b.y j) (b.port q)) (between_iff (b.port a) (b.y j) (b.port q)))
    where
      go : Dec (Between (b.port a) (b.y j) (b.port q)) → Clear a j q ⊎ Gain long a j q
      go (no t) = inl t
      go (yes t) =
          let w = on_the_way (b.y j) (b.port a) (b.port q) t in
          inr (omega (arith, w, away a q k l ne), λ i. omega (arith, w, triangle (b.y i) (b.port a) (b.port q)))

  -- THEOREM (Lemma 1 of "Algorithms for Multi-Criteria One-Sided Boundary Labeling", for a vertical hand): for every layout, touching or not, there is an
  -- one whose leaders do not touch and together are no longer.
  pub straight_total : (f : ℕ → ℕ) → Layout b f
      → (g : ℕ → ℕ) × LeadersApart b g × (sum b.pads (λ i. length_of (leader b i (g i))) ≤ sum b.pads (λ i. length_of (leader b i (f i))))
  straight_total f l =
      let (g, s, free, less) = straighten b long Clear uncross f l in
      (g, record { layout = s; apart = (leaders_apart_iff b g proper.differ).1 free }, less)

  -- THEOREM: where pads are points an untouching layout exists. It is a straightening of 'pad i on port i'.
  pub points_exist : Points b → (f : ℕ → ℕ) × Untouching b f
  points_exist points =
      let s = straight_total (λ i. i) (record { inside = λ i l. omega (arith, proper.enough); own = omega arith }) in
      (s.0, (points_apart b points s.0).1 s.1)
