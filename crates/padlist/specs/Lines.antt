-- A line and all lines: the code's answers as those of laws/Parsing, as fields' Fronts has them of what stands in a line.
use Rattle.std.specs.Prelude.{◌≡◌, List, ℕ, suc, ◌*◌, ◌≤◌, length, take, Option, Some, None, Result, Ok, Err}
use Rattle.std.specs.Borrow.{Bor}
use Rattle.paper.specs.laws.Parsing.{Front, got, none, listed, good, bad, rows_bytes}
use Rattle.paper.specs.laws.Parsing.{Row as RowOf}
use Rattle.padlist.specs.declared.Row.{Row}
use Rattle.padlist.specs.declared.BadLine.{BadLine}

abbrev pub row_of : Row → RowOf
row_of r = record { name = r.name; x = r.x; y = r.y }

abbrev pub row_front : Option (Row × Bor (List ℕ)) → Front RowOf
row_front (Some read) = got (row_of read.0) read.1.now
row_front None = none

-- The rows of all lines after the first, of which 64 or fewer stand in `made`; or the first bad line.
abbrev pub ListedIs : List ℕ → Result ℕ BadLine → List ℕ → Type 0
ListedIs text (Ok n) made = (rows : List RowOf) × (listed text ≡ good rows) × (n ≡ length rows) × (n ≤ 64 → take (16 * n) made ≡ rows_bytes rows)
ListedIs text (Err e) made = (k : ℕ) × (listed text ≡ bad k) × (e.line ≡ suc k)
