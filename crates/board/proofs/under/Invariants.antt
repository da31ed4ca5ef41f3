-- `board::under` meets its contract: the ports before a are below h, those from b on are not. Assumes nothing.
use Prim.Native.Nat.{◌-◌}
use Rattle.paper.specs.Job.{port_of}
use Rattle.job.specs.Board.{ports_on}
use Rattle.board.proofs.Counts.{Halved}
use Rattle.board.proofs.under.Given as goal

abbrev pub invariant-loop-a : goal.invariant-loop-a
invariant-loop-a l = Halved (ports_on l.job) (port_of l.job.form l.job.ports.now) l.h l.a l.b

abbrev pub decreases-loop-a : goal.decreases-loop-a
decreases-loop-a l = l.b - l.a
