-- `slots::fill_strips` meets its contract. The loop's invariant: the strips that end before b are filled, and `column` is where b's column starts. Assumes nothing.
use mathlib.Core.Path.{◌≡◌}
use Rattle.slots.specs.Slots.{cell_at, FilledStrips}
use Rattle.slots.proofs.fill_strips.Given as goal

abbrev pub invariant-loop-b : goal.invariant-loop-b
invariant-loop-b l = (l.column ≡ cell_at l.p l.here 0 l.b) × FilledStrips l.row l.initial.work l.work l.here l.p l.a l.h l.b
