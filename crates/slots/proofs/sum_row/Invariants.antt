-- `slots::sum_row` meets its contract. The loop's invariant: the ports a .. q - 1 are done. Assumes nothing.
use Rattle.slots.proofs.Rows.{SumsTo}
use Rattle.slots.proofs.sum_row.Given as goal

abbrev pub invariant-loop-q : goal.invariant-loop-q
invariant-loop-q l = SumsTo l.row l.work l.figures l.next l.p l.a l.q
