-- What the search reads: the figures of a job of records, pad by pad, ports rising.
use Rattle.std.specs.Prelude.{List, ℕ}
use Rattle.paper.specs.Job.{records}
use Rattle.paper.specs.Layouts.{board_of, cost_of, Badness, TableOf}

abbrev pub FiguresOf : List ℕ → Badness → List ℕ → Type 0
FiguresOf job bad = TableOf (board_of (records job)) (cost_of (board_of (records job)) bad)
