-- `slots::Column::by_four` meets its contract. The loop's invariant: v is the least over the ports a .. c + 4 turn - 1. Assumes nothing.
use mathlib.Core.Path.{◌≡◌}
use Prim.Native.Nat.{◌+◌, ◌*◌, ◌-◌}
use Rattle.slots.specs.Slots.{lowest}
use Rattle.slots.specs.Columns.{total_at}
use Rattle.slots.proofs.Column.by_four.Given as goal

abbrev pub invariant-loop-turn : goal.invariant-loop-turn
invariant-loop-turn l = l.v ≡ lowest (total_at l.self) l.a (l.c + 4 * l.turn - l.a)
