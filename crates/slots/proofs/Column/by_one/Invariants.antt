-- `slots::Column::by_one` meets its contract. The loop's invariant: v is the least over the ports a .. q - 1. Assumes nothing.
use mathlib.Core.Path.{◌≡◌}
use Prim.Native.Nat.{◌-◌}
use Rattle.slots.specs.Slots.{lowest}
use Rattle.slots.specs.Columns.{total_at}
use Rattle.slots.proofs.Column.by_one.Given as goal

abbrev pub invariant-loop-q : goal.invariant-loop-q
invariant-loop-q l = l.v ≡ lowest (total_at l.self) l.a (l.q - l.a)
