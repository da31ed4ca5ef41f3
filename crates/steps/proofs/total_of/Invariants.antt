-- `steps::total_of` meets its contract. The loop's invariant: the total of the pads from place k on. Assumes nothing.
use mathlib.Core.Path.{◌≡◌}
use Prim.Native.Nat.{◌-◌, ◌*◌, ◌^◌, ◌≤◌}
use lib.ListN.{length, drop}
use Rattle.strips.specs.Grid.{cost_sum}
use Rattle.places.specs.Places.{port_in}
use Rattle.choices.specs.Over.{grid_in}
use Rattle.steps.proofs.total_of.Given as goal

abbrev pub invariant-loop-k : goal.invariant-loop-k
invariant-loop-k l = (l.sum ≡ cost_sum (grid_in l.search).cost (drop l.k l.search.lists.order.now) (port_in l.w)) × (l.sum ≤ (length l.search.lists.order.now - l.k) * 2 ^ 32)
