-- `svg::lines` meets its contract: the lines so far are written. Assumes nothing.
use Rattle.text.specs.Text.{Writes}
use Rattle.paper.specs.Job.{records}
use Rattle.paper.specs.Layouts.{board_of, held}
use Rattle.paper.specs.laws.Texts.{lines_text}
use Rattle.svg.proofs.lines.Given as goal

abbrev pub invariant-loop-i : goal.invariant-loop-i
invariant-loop-i l = Writes l.initial.out 0 (lines_text (board_of (records l.fn.job)) (held l.list) l.i) l.at l.out
