-- The total of the layout that a list holds.
use Rattle.std.specs.Prelude.{List, ℕ}
use Rattle.paper.specs.Layouts.{Board, held, Badness, cost_of, total}

-- The total of the layout that a list holds, by weights or by a table.
abbrev pub total_of : Board → Badness → List ℕ → ℕ
total_of b bad list = total b (cost_of b bad) (held list)
