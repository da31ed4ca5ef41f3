use native.Mathlib.Omega.{arith}
use Rattle.slots.proofs.Spots.{cell_in}
use Rattle.slots.proofs.Rows.{strips_read, strips_more}
use Rattle.slots.proofs.fill_strips.Goals as goal

pub least_total-requires : goal.least_total-requires
least_total-requires c = strips_read c.args.row.now c.args.work.now c.args.here c.args.p c.args.a c.args.h c.requires c.loop-b.work c.loop-b.b _
    (omega (arith, c.loop-b.invariant.0, c.layer_of-layer.ensures.0)) c.loop-b.auto.b (omega (arith, c.loop-b-test.true)) c.loop-b.invariant.1

pub bounds-work-column : goal.bounds-work-column
bounds-work-column c = omega (
  arith,
  c.loop-b.invariant.0,
  cell_in c.args.p c.args.a c.loop-b.b (omega (arith, c.requires.start, c.requires.end)) (omega (arith, c.loop-b-test.true)),
  c.requires.layers,
  c.loop-b.invariant.1.kept.long,
)

pub loop-b-preserved : goal.loop-b-preserved
loop-b-preserved c = (
  omega (arith, c.loop-b.invariant.0),
  strips_more c.args.row.now c.args.work.now c.args.here c.args.p c.args.a c.args.h c.requires c.loop-b.work c.loop-b.b _ _ _ (omega (arith, c.loop-b.invariant.0))
      (omega (arith, c.loop-b.invariant.0, c.layer_of-layer.ensures.0)) c.loop-b.auto.b (omega (arith, c.loop-b-test.true)) c.least_total.ensures c.loop-b.invariant.1,
)
