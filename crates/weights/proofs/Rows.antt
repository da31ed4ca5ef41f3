-- The laws of figures as they are filled.
use mathlib.Core.Path.{◌≡◌, ap, ◌∙◌}
use mathlib.Core.List.{List}
use Prim.Native.Nat.{ℕ, ◌+◌, ◌*◌, ◌<◌}
use native.Mathlib.Nat.{suc-mul, add-sub_cancel_left}
use native.Mathlib.Numerals.{add-one}
use native.Mathlib.Omega.{arith}
use lib.Arith.{digits_div, digits_mod}
use lib.ListN.{length, get_or, set}
use Rattle.numbers.proofs.Filled.{filled_more, filled_to, place_in}
use Rattle.paper.specs.Layouts.{Board, TableOf}
use Rattle.weights.specs.Rows.{placed, FilledTo, lent_figure, FilledFrom, FiguresFrom}

-- The end of row j is the start of the next.
pub row_end : (j p q : ℕ) → q ≡ p → j * p + q ≡ (j + 1) * p
row_end j p q e = rw (add-one j, suc-mul j p) (omega arith)

-- The cost of pad j with port q is at its place.
in_place : (b : Board) (cost : ℕ → ℕ → ℕ) (j : ℕ) {q : ℕ} → q < b.ports → placed b cost (j * b.ports + q) ≡ cost j q
in_place b cost j l = λ i. cost (digits_div j l i) (digits_mod j l i)

-- A store writes the cost of pad j with port q.
pub filled_place : (b : Board) (cost : ℕ → ℕ → ℕ) (cs : List ℕ) (j q v : ℕ) → j < b.pads → q < b.ports → FilledTo b cost cs (j * b.ports + q)
    → v ≡ cost j q → FilledTo b cost (set cs (j * b.ports + q) v) (j * b.ports + (q + 1))
filled_place b cost cs j q v h l W e = filled_to (omega arith) (filled_more (place_in b.pads b.ports j q h l) W v (rw (in_place b cost j l) e))

-- When all are written, that is the table.
pub table_filled : {b : Board} {cost : ℕ → ℕ → ℕ} {cs : List ℕ} → FilledTo b cost cs (b.pads * b.ports) → TableOf b cost cs
table_filled {b} {cost} W = record { long = W.long; at = λ j q h l. W.at (j * b.ports + q) (place_in b.pads b.ports j q h l) ∙ in_place b cost j l }

-- From place base on: at first nothing is written;
pub from_none : (b : Board) (cost : ℕ → ℕ → ℕ) (bars : List ℕ) (base : ℕ) {n : ℕ} {work : List ℕ} → length work ≡ n → FilledFrom b cost bars base n work 0
from_none b cost bars base e = record { long = e; at = λ m h l. absurd (omega arith) }

-- a store writes the figure whose place comes next;
pub from_more : (b : Board) (cost : ℕ → ℕ → ℕ) (bars : List ℕ) (base n : ℕ) (work : List ℕ) (k v : ℕ) → base + k < n → FilledFrom b cost bars base n work k
    → v ≡ lent_figure (get_or bars k 0) (placed b cost k) → FilledFrom b cost bars base n (set work (base + k) v) (k + 1)
from_more b cost bars base n work k v h W e = filled_to (omega arith) (filled_more h W v (λ l. rw (add-sub_cancel_left base k) e))

-- when all are written, those are the figures.
pub figures_filled : {b : Board} {cost : ℕ → ℕ → ℕ} {bars : List ℕ} {base n : ℕ} {work : List ℕ} → FilledFrom b cost bars base n work (b.pads * b.ports)
    → FiguresFrom b cost bars base work
figures_filled {b} {cost} {bars} {base} W = record {
  at = λ i q h l.
      let place = i * b.ports + q in
      let here = W.at (base + place) (omega (arith, place_in b.pads b.ports i q h l)) (omega arith) in
      (rw (add-sub_cancel_left base place) at here) ∙ ap (lent_figure (get_or bars place 0)) (in_place b cost i l);
}
