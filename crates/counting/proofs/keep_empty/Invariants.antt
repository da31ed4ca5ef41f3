-- `counting::keep_empty` meets its contract. The loop's invariant: the first b strips of no ports have 1, and `at` is the place of the next. Assumes nothing.
use mathlib.Core.Path.{◌≡◌}
use Rattle.totals.specs.Cell.{place}
use Rattle.counting.specs.Counting.{EmptyKept}
use Rattle.counting.proofs.keep_empty.Given as goal

abbrev pub invariant-loop-b : goal.invariant-loop-b
invariant-loop-b l = EmptyKept l.b l.initial.numbers l.numbers × (l.at ≡ place l.b l.b)
