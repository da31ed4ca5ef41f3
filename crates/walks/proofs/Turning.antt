-- Laws of the walk: from its start, turn by turn; what the loop of `turn` has at each turn, and what it leaves.
use mathlib.Core.Path.{◌≡◌, refl, ◌∙◌}
use mathlib.Core.Logic.{inl, inr}
use mathlib.Core.Bool.{true}
use mathlib.Core.List.{List}
use Prim.Native.Nat.{ℕ, ◌+◌, ◌-◌, ◌*◌, ◌/◌, ◌≤◌, ◌<◌}
use native.Mathlib.Nat.{mul-le-mul, mul-le-mul_left, suc-mul}
use native.Mathlib.Numerals.{add-one}
use native.Mathlib.Omega.{arith}
use lib.ListN.{length}
use Rattle.choices.specs.Source.{Source}
use Rattle.choices.specs.Choices.{Working}
use Rattle.steps.specs.Steps.{BestLayout, NextIs, EndIs}
use Rattle.steps.proofs.Filling.{working_with}
use Rattle.numbers.specs.Copies.{Copied}
use Rattle.walks.specs.declared.Start.{Start}
use Rattle.walks.specs.declared.Start.TheVariants.{First, Given}
use Rattle.walks.specs.Walks.{list_rules, Begins, SteppedOn, Turned}

-- A walk goes on from its start.
pub began : {order : List ℕ} {T : Source} {lo hi w : List ℕ} (start : Start) (l : List ℕ) → Working order T lo hi w
    → Begins (list_rules order T lo hi) start w l true → Working order T lo hi l × BestLayout order T lo hi l
began First l W b = (working_with l W b.kept.long, b.earliest.has)
began Given l W b = rw b.1 (W, b.0)

-- So many layouts fit a page.
module _ (n page : ℕ) (some : 0 < n) where
  pub room_for : (k : ℕ) → k < page / n → (k + 1) * n ≤ page
  room_for k h = omega (arith, mul-le-mul {n₁ = k + 1} {m₁ = n} {n₂ = page / n} {m₂ = n} (omega arith) (omega arith))

module _ (order : List ℕ) (T : Source) (lo hi l before : List ℕ) where
  -- From the layout of l on, k layouts are on the page, and w holds the last, which is best.
  pub record Turning (w page : List ℕ) (k : ℕ) : Type 0 where
    pub steps : SteppedOn (list_rules order T lo hi) (length order) l before w page k
    pub best : BestLayout order T lo hi w
    pub inside : k * length order ≤ length before
    pub long : length w ≡ length l
    pub wide : length page ≡ length before

  pub turning_none : BestLayout order T lo hi l → Turning l before 0
  unfolding SteppedOn
  turning_none s = record { steps = (refl, refl); best = s; inside = omega arith; long = refl; wide = refl }

  module _ (w page : List ℕ) (k : ℕ) (G : Turning w page k) where
    -- It has at least as many entries as layouts.
    pub turning_count : 0 < length order → k ≤ k * length order
    turning_count h = omega (arith, mul-le-mul_left {m = 1} {n = length order} k (omega arith))

    -- A step, and its layout goes to the page.
    pub turning_more : (v after : List ℕ) → (k + 1) * length order ≤ length before → NextIs order T lo hi w v
        → Copied (length order) (k * length order) v page after → Turning v after (k + 1)
    unfolding SteppedOn
    turning_more v after room N C = record {
      steps = rw (add-one k) (w, page, G.steps, N, C);
      best = N.earliest.has.best;
      inside = room;
      long = N.kept.long ∙ G.long;
      wide = C.long ∙ G.wide;
    }

    -- No step is left, or no room.
    pub turning_end : (v : List ℕ) → EndIs order T lo hi w v → Turned (list_rules order T lo hi) (length order) l before v page k
    turning_end v E = rw E.same (record {
      fit = G.inside;
      steps = G.steps;
      all = inr (record { none = E.none; same = refl });
    })

    pub turning_full : length page - k * length order < length order → Turned (list_rules order T lo hi) (length order) l before w page k
    turning_full h = record {
      fit = G.inside;
      steps = G.steps;
      all = inl (omega (arith, suc-mul k (length order), G.inside, G.wide));
    }
