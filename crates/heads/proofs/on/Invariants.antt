-- `heads::on` meets its contract. The loop's invariant: from place k on the strip has pads enough, and `rest` of them after place k. Assumes nothing.
use mathlib.Core.Path.{◌≡◌}
use Prim.Native.Nat.{◌+◌, ◌-◌, ◌≤◌, ◌<◌}
use lib.ListN.{length, drop}
use Rattle.pads.specs.Pads.{pads_in}
use Rattle.pads.specs.Sides.{sides}
use Rattle.heads.proofs.on.Given as goal

abbrev pub invariant-loop-rest : goal.invariant-loop-rest
invariant-loop-rest l = (l.k < length l.lists.order.now) × (l.b - l.a ≤ pads_in (sides l.lists) l.a l.b (drop l.k l.lists.order.now)) ×
    (l.rest ≡ pads_in (sides l.lists) l.a l.b (drop (l.k + 1) l.lists.order.now))

abbrev pub decreases-loop-rest : goal.decreases-loop-rest
decreases-loop-rest l = length l.lists.order.now - l.k
