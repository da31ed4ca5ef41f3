-- `totals::next_port` meets its contract. The loop's invariant: `below` is the place of a .. q - 1, and no port from `from` to q - 1 is locally best. Assumes nothing.
use mathlib.Core.Path.{◌≡◌}
use Prim.Native.Nat.{ℕ, ◌≤◌, ◌<◌}
use Rattle.totals.specs.Cell.{place}
use Rattle.totals.specs.Lent.{LeadsOn}
use Rattle.totals.proofs.next_port.Given as goal

abbrev pub invariant-loop-q : goal.invariant-loop-q
invariant-loop-q l = (l.below ≡ place l.a l.q) × ((i : ℕ) → l.from ≤ i → i < l.q → LeadsOn l.fn.lists l.fn.figures l.r l.a l.b i → ⊥)
