-- Where 8 and 9 are passed, a list holds an untouching layout.
use Rattle.std.specs.Prelude.{◌↔◌, List, ℕ, ◌<◌}
use Rattle.std.proofs.Common.{inl, inr, lt_of_not-le, arith}
use Rattle.paper.specs.Layouts.{Board, held, Untouching}
use Rattle.paper.specs.Refusals.{BadEntry, Passed, layout_trials}

-- 8 and 9 are passed exactly if the list holds an untouching layout, on any board.
pub layout_passed : (b : Board) (list : List ℕ) → Passed (layout_trials b list) ↔ Untouching b (held list)
layout_passed b list = (
  (λ (c8, (c9, _)). record {
    layout = record { inside = λ i l. lt_of_not-le (λ h. c8 i l (inl h)); own = λ i j l k e. c8 i k (inr (j, l, e)) };
    apart = λ i j l k t. c9 i k (j, l, t);
  }),
  (λ u. (entries u, ((λ i l (j, k, t). u.apart i j k l t), tt))),
)
  where
    entries : Untouching b (held list) → (i : ℕ) → i < b.pads → ¬ BadEntry b.ports list i
    entries u i l (inl h) = omega (arith, u.layout.inside i l)
    entries u i l (inr (j, k, e)) = u.layout.own i j k l e
