-- The least total of a proper board is that of each best layout; either table's answer is it.
use Rattle.std.specs.Prelude.{◌≡◌, List, ℕ, ◌^◌, ◌≤◌, length}
use Rattle.std.proofs.Common.{sym, ap, ◌∙◌, arith}
use Rattle.strips.specs.Grid.{Grid, best}
use Rattle.strips.proofs.FirstNext.{optimal_best}
use Rattle.totals.specs.Cell.{grid_of, coded_by, no_total, coded, least_of}
use Rattle.slots.specs.Slots.{no_sum, stored, TellsLeast}
use Rattle.places.specs.Places.{port_in}
use Rattle.choices.specs.Source.{Source, grid_on, slots_grid, full_grid}
use Rattle.choices.specs.Choices.{ProperLists}
use Rattle.choices.specs.Lists.{listed}
use Rattle.steps.specs.Steps.{total_in, IsLeast, BestLayout}

pub best_total : {order : List ℕ} {T : Source} {lo hi : List ℕ} → ProperLists order T lo hi → (t : ℕ) → IsLeast order T lo hi t → (w : List ℕ)
    → BestLayout order T lo hi w → t ≡ total_in order T lo hi w
best_total {order} {T} {lo} {hi} P t is w O =
    is.total (total_in order T lo hi w) (optimal_best (grid_on order T lo hi) T.ports order (listed P) (port_in w) O).total

module _ (order : List ℕ) (T : Source) (lo hi : List ℕ) (t : ℕ) where
  -- what a table's answer t says of the least total, by the number z from 2 ^ 62 on that stands for none
  told : (z : ℕ) → 2 ^ 62 ≤ z → t ≡ coded_by z (best (grid_on order T lo hi) order 0 T.ports) → IsLeast order T lo hi t
  told z large is = record { total = λ v e. is ∙ ap (coded_by z) e; none = λ e. let s = is ∙ ap (coded_by z) e in omega arith }

  pub slots_least : length T.heads ≡ 0 → TellsLeast order lo hi T.ports T.totals t → IsLeast order T lo hi t
  slots_least empty A =
      told no_sum (omega arith) (A.total ∙ ap stored (sym (ap (λ (B : Grid). best B order 0 T.ports) (slots_grid order T lo hi empty))))

  pub full_least : (length T.heads ≡ 0 → ⊥) → T.ports ≡ length order → t ≡ least_of order T.costs T.bars lo hi → IsLeast order T lo hi t
  full_least filled same is =
      told no_total (omega arith) (is ∙ ap coded (sym (ap (λ (p : ℕ). best (grid_of order T.costs T.bars lo hi) order 0 p) same)
      ∙ sym (ap (λ (B : Grid). best B order 0 T.ports) (full_grid order T lo hi filled))))
