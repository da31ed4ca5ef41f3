-- `totals::strip_best` meets its contract. Assumes nothing.
use mathlib.Core.Path.{◌≡◌, ap}
use Prim.Native.Nat.{◌-◌}
use native.Mathlib.Omega.{arith}
use Rattle.pads.specs.Pads.{head_of}
use Rattle.totals.proofs.Cells.{head_strip, head_cell, empty_cell}
use Rattle.totals.proofs.Marking.{best_marks}
use Rattle.totals.proofs.strip_best.Goals as goal

pub best_ports-requires-clause-strip : goal.best_ports-requires-clause-strip
best_ports-requires-clause-strip c =
    let e : head_of c.args.head - 1 ≡ c.in-Some-2.r = omega (arith, ap head_of c.in-Some-2.is) in
    rw e at (head_strip _ _ _ _ _ c.requires.a_le_b.2 (λ z. absurd (omega (arith, ap head_of c.in-Some-2.is))) (omega (arith, c.if-a-b.false, c.requires.a_le_b.0)) c.requires.a_le_b.1)

pub returns-in-Some-clause-valued : goal.returns-in-Some-clause-valued
returns-in-Some-clause-valued c = empty_cell _ _ _ _ _ _ c.requires.a_le_b.2 (λ z. absurd (omega (arith, ap head_of c.in-Some.is))) c.if-a-b.true

pub returns-in-Some-2-clause-valued : goal.returns-in-Some-2-clause-valued
returns-in-Some-2-clause-valued c =
    let e : c.in-Some-2.r ≡ head_of c.args.head - 1 = omega (arith, ap head_of c.in-Some-2.is) in
    head_cell _ _ c.args.a c.args.b (head_of c.args.head) c.requires.a_le_b.2 (λ z. absurd (omega (arith, ap head_of c.in-Some-2.is))) (omega (arith, c.if-a-b.false, c.requires.a_le_b.0))
    _ _ (rw e at c.best_ports.ensures.total)

pub returns-in-Some-2-clause-marks : goal.returns-in-Some-2-clause-marks
returns-in-Some-2-clause-marks c =
    let e : c.in-Some-2.r ≡ head_of c.args.head - 1 = omega (arith, ap head_of c.in-Some-2.is) in
    λ some u. best_marks c.args.lists.now.order.now c.args.figures.now.cost.now c.args.figures.now.bars.now c.args.lists.now.lo.now c.args.lists.now.hi.now c.args.a c.args.b
    (head_of c.args.head) _ (λ z. absurd (omega (arith, ap head_of c.in-Some-2.is))) u (returns-in-Some-2-clause-valued c) (rw e at c.best_ports.ensures) some
