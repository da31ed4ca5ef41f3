-- `slots::next_port` meets its contract. The loop's invariant: no port from `from` to q - 1 leads. Assumes nothing.
use Prim.Native.Nat.{ℕ, ◌≤◌, ◌<◌}
use Rattle.totals.specs.Cell.{Leads}
use Rattle.slots.specs.Filling.{slot_grid_on}
use Rattle.slots.proofs.next_port.Given as goal

abbrev pub invariant-loop-q : goal.invariant-loop-q
invariant-loop-q l = (i : ℕ) → l.from ≤ i → i < l.q → Leads (slot_grid_on l.lists l.work) l.lists.order.now l.m l.a l.b i → ⊥
