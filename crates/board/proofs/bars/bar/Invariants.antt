-- `board::bars::bar` meets its contract: the squares of the pads before j have been looked at. Assumes nothing.
use Rattle.job.specs.Board.{board_on}
use Rattle.board.specs.Bars.{BarsTo}
use Rattle.board.proofs.bars.bar.Given as goal

abbrev pub invariant-loop-j : goal.invariant-loop-j
invariant-loop-j l = BarsTo (board_on l.job) l.j 0 l.bars
