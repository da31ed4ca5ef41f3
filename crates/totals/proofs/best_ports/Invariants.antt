-- `totals::best_ports` meets its contract. The loop's invariant: v has the least over the ports a .. q - 1, and those that have it. Assumes nothing.
use Rattle.totals.specs.Cell.{BestOf}
use Rattle.totals.specs.Lent.{choice_on}
use Rattle.totals.proofs.best_ports.Given as goal

abbrev pub invariant-loop-q : goal.invariant-loop-q
invariant-loop-q l = BestOf (choice_on l.fn.lists l.fn.figures l.r l.a l.b) l.a l.q l.v
