-- `slots::open_row` meets its contract. The loop's invariant: the first q ports are done. Assumes nothing.
use Rattle.slots.specs.Slots.{opened_from, Written}
use Rattle.slots.proofs.open_row.Given as goal

abbrev pub invariant-loop-q : goal.invariant-loop-q
invariant-loop-q l = Written l.initial.work l.work l.to l.p (opened_from l.shut l.initial.work l.from) l.q
