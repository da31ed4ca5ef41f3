-- `heads::back` meets its contract. The loop's invariant: `Scan`, m pads of the strip stand at place k or after it, fewer than b - a after it. Assumes nothing.
use Rattle.heads.proofs.Scan.{Scan}
use Rattle.pads.specs.Sides.{sides}
use Rattle.heads.proofs.back.Given as goal

abbrev pub invariant-loop-m : goal.invariant-loop-m
invariant-loop-m l = Scan (sides l.lists) l.lists.order.now l.a l.b l.k l.m

abbrev pub decreases-loop-m : goal.decreases-loop-m
decreases-loop-m l = l.k
