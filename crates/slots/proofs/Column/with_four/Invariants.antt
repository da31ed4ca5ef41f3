-- `slots::Column::with_four` meets its contract. The loop's invariant: `least` is the least over the ports a .. q + k - 1. Assumes nothing.
use mathlib.Core.Path.{◌≡◌}
use Prim.Native.Nat.{◌+◌, ◌-◌}
use Rattle.slots.specs.Slots.{lowest}
use Rattle.slots.specs.Columns.{total_at}
use Rattle.slots.proofs.Column.with_four.Given as goal

abbrev pub invariant-loop-k : goal.invariant-loop-k
invariant-loop-k l = l.least ≡ lowest (total_at l.self) l.a (l.q + l.k - l.a)
