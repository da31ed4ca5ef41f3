-- `board::bars::bar_square` meets its contract: the square has been looked at for the pads before i. Assumes nothing.
use Rattle.job.specs.Board.{board_on}
use Rattle.board.specs.Bars.{BarsTo}
use Rattle.board.proofs.bars.bar_square.Given as goal

abbrev pub invariant-loop-i : goal.invariant-loop-i
invariant-loop-i l = BarsTo (board_on l.job) l.j l.i l.bars
