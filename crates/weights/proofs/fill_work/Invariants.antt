-- `weights::fill_work` meets its contract: the first k figures are written. Assumes nothing.
use lib.ListN.{length}
use Rattle.paper.specs.Layouts.{weighted}
use Rattle.job.specs.Board.{board_on}
use Rattle.weights.specs.Rows.{FilledFrom}
use Rattle.weights.proofs.fill_work.Given as goal

abbrev pub invariant-loop-k : goal.invariant-loop-k
invariant-loop-k l = let b = board_on l.job in FilledFrom b (weighted b l.w.length l.w.bend) l.bars l.base (length l.initial.work) l.work l.k
