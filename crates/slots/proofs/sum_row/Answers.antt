use native.Mathlib.Omega.{arith}
use Rattle.slots.proofs.Spots.{cell_in}
use Rattle.slots.proofs.sum_row.Goals as goal

pub bounds-work-next : goal.bounds-work-next
bounds-work-next c = omega (arith, cell_in c.args.p c.args.a c.loop-q.q (omega (arith, c.requires.start)) (omega (arith, c.loop-q-test.true)), c.requires.layer)
