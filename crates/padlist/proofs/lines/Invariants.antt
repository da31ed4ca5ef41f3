-- `padlist::lines` meets its contract: the lines up to the rest were read. Assumes nothing.
use lib.ListN.{length}
use Rattle.padlist.specs.Laws.{Reading}
use Rattle.padlist.proofs.lines.Given as goal

abbrev pub invariant-loop-rest : goal.invariant-loop-rest
invariant-loop-rest l = Reading l.text l.initial.made l.initial.rest l.made l.rest l.n

abbrev pub decreases-loop-rest : goal.decreases-loop-rest
decreases-loop-rest l = length l.rest
