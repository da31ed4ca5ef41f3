use native.Mathlib.Omega.{arith}
use Prim.Native.Nat.{◌+◌}
use lib.ListN.{length-set}
use Rattle.choices.specs.Over.{working_in}
use Rattle.choices.proofs.Memory.{memory_more, memory_store}
use Rattle.steps.proofs.Filling.{placeable, filling_more, filling_entered, filling_done}
use Rattle.steps.proofs.fill_on.Goals as goal

pub place-requires : goal.place-requires
place-requires c = placeable (working_in c.args.search.now c.args.out.now c.requires.room) c.args.from c.requires.from_in_bounds c.requires.begun

pub loop-m-preserved : goal.loop-m-preserved
loop-m-preserved c =
    let P = c.args.search.now.proper in
    let I = c.loop-m.invariant in
    let C = c.lowest-port.ensures.chosen.0 in
    let h = c.loop-m-test.true in rw c.from-j.ensures (
      filling_more c.args.from c.loop-m.m c.lowest-port.result P c.requires.room I.0 h C,
      simp length-set I.1,
      filling_entered c.args.from c.loop-m.m c.lowest-port.result P c.requires.room I.0 h C I.1 I.2,
      memory_store (c.loop-m.m + 1) c.loop-m.m c.lowest-port.result P (omega (arith, c.requires.room, I.0.kept.long)) h (omega arith)
          (memory_more c.loop-m.m (omega (arith, h, P.pads.few)) I.3 c.lowest-port.ensures.learnt),
    )

pub returns-clause-filled_up : goal.returns-clause-filled_up
returns-clause-filled_up c = filling_done c.args.from c.loop-m.m c.loop-m.invariant.0 c.loop-m-test.false
