-- `find::first_bad_entry` meets its contract. The loop's invariant: what stood among the first i entries is marked, and nothing else. Assumes nothing.
use Prim.Native.Nat.{ℕ, ◌<◌}
use Rattle.std.specs.Prelude.{None}
use mathlib.Core.Path.{◌≡◌}
use mathlib.Core.Bool.{Bool, false}
use mathlib.Core.List.{List}
use lib.Dec.{eqb}
use lib.ListN.{length, get_or}
use Rattle.paper.specs.Layouts.{held}
use Rattle.paper.specs.laws.Tests.{somewhere, bad_entry}
use Rattle.find.specs.Search.{first_where}
use Rattle.find.proofs.first_bad_entry.Given as goal

-- of each number below 128 the mark says whether it stood among the first i entries
abbrev pub Marked : List ℕ → ℕ → List Bool → Type 0
Marked list i marks = (length marks ≡ 128) × ((q : ℕ) → q < 128 → get_or marks q false ≡ somewhere (λ j. eqb q (held list j)) i)

abbrev pub invariant-loop-k : goal.invariant-loop-k
invariant-loop-k l = (first_where (bad_entry l.p l.list) l.k ≡ None) × Marked l.list l.k l.marks
