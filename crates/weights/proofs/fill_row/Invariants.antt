-- `weights::fill_row` meets its contract: the first q places of row j are written. Assumes nothing.
use Prim.Native.Nat.{◌+◌, ◌*◌}
use Rattle.paper.specs.Layouts.{weighted}
use Rattle.job.specs.Board.{board_on}
use Rattle.weights.specs.Rows.{FilledTo}
use Rattle.weights.proofs.fill_row.Given as goal

abbrev pub invariant-loop-q : goal.invariant-loop-q
invariant-loop-q l = let b = board_on l.job in FilledTo b (weighted b l.w.length l.w.bend) l.figures (l.j * b.ports + l.q)
