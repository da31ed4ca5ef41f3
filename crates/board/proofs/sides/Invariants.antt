-- `board::sides` meets its contract: the first j entries of lo and hi are filled. Assumes nothing.
use Rattle.job.specs.Board.{board_on}
use Rattle.board.specs.Lists.{Lows, Highs}
use Rattle.board.proofs.sides.Given as goal

abbrev pub invariant-loop-j : goal.invariant-loop-j
invariant-loop-j l = Lows (board_on l.job) l.lo l.j × Highs (board_on l.job) l.hi l.j
