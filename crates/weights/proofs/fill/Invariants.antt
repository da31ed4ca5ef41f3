-- `weights::fill` meets its contract: the first j rows are written. Assumes nothing.
use Prim.Native.Nat.{◌*◌}
use Rattle.paper.specs.Layouts.{weighted}
use Rattle.job.specs.Board.{board_on}
use Rattle.weights.specs.Rows.{FilledTo}
use Rattle.weights.proofs.fill.Given as goal

abbrev pub invariant-loop-j : goal.invariant-loop-j
invariant-loop-j l = let b = board_on l.job in FilledTo b (weighted b l.w.length l.w.bend) l.figures (l.j * b.ports)
