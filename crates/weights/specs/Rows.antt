-- Figures as they are filled, pad by pad, ports rising: that of pad j with port q comes at place j * ports + q.
use Rattle.std.specs.Prelude.{◌≡◌, cond, List, ℕ, ◌+◌, ◌-◌, ◌*◌, ◌/◌, ◌%◌, ◌≤◌, ◌<◌, eqb, get_or}
use Rattle.numbers.specs.Filled.{Filled}
use Rattle.paper.specs.Layouts.{Board}

-- The cost whose place is k.
abbrev pub placed : Board → (ℕ → ℕ → ℕ) → ℕ → ℕ
placed b cost k = cost (k / b.ports) (k % b.ports)

-- The first k places of a table have their costs.
abbrev pub FilledTo : Board → (ℕ → ℕ → ℕ) → List ℕ → ℕ → Type 0
FilledTo b cost figures k = Filled (b.pads * b.ports) (λ m v. v ≡ placed b cost m) figures k

-- A figure in a work list: where a bar, a number other than 0, says that the pad may not use the port, it is 2 ^ 32, and that is none.
abbrev pub lent_figure : ℕ → ℕ → ℕ
lent_figure bar x = cond (eqb bar 0) x 4294967296

-- Of a list of n numbers, the first k places from place base on have the figures so.
abbrev pub FilledFrom : Board → (ℕ → ℕ → ℕ) → List ℕ → ℕ → ℕ → List ℕ → ℕ → Type 0
FilledFrom b cost bars base n work k = Filled n (λ m v. base ≤ m → v ≡ lent_figure (get_or bars (m - base) 0) (placed b cost (m - base))) work (base + k)

-- All figures stand in a list from place base on.
pub record FiguresFrom (b : Board) (cost : ℕ → ℕ → ℕ) (bars : List ℕ) (base : ℕ) (work : List ℕ) : Type 0 where
  pub at : (i q : ℕ) → i < b.pads → q < b.ports → get_or work (base + (i * b.ports + q)) 0 ≡ lent_figure (get_or bars (i * b.ports + q) 0) (cost i q)
