use Prim.Native.Nat.{◌-◌}
use native.Mathlib.Omega.{arith}
use lib.ListN.{length}
use Rattle.choices.specs.Over.{working_in}
use Rattle.choices.proofs.Memory.{memory_again, memory_store}
use Rattle.steps.proofs.Stepping.{placeable_best, looking_none, looking_inside, looking_port, looking_placed, looking_more, looking_filled, looking_found, looking_end}
use Rattle.steps.proofs.step.Goals as goal

pub place-requires : goal.place-requires
place-requires c = placeable_best c.args.out.now (working_in c.args.search.now c.args.out.now c.requires.room) c.requires.best_layout

pub loop-m-init : goal.loop-m-init
loop-m-init c = (looking_none (working_in c.args.search.now c.args.out.now c.requires.room) c.requires.best_layout, c.place.ensures.placed, c.requires.memory)

pub above-higher-requires-clause-placed : goal.above-higher-requires-clause-placed
above-higher-requires-clause-placed c = (looking_placed c.loop-m.m c.loop-m.invariant.0 c.loop-m-test.true _ c.loop-m.invariant.1, c.loop-m.invariant.2.facts)

pub above-higher-requires-clause-current : goal.above-higher-requires-clause-current
above-higher-requires-clause-current c =
    let h = looking_inside c.loop-m.m c.loop-m.invariant.0 c.loop-m-test.true in
    (c.loop-m.invariant.2.current (c.loop-m.m - 1) h, omega arith, rw (c.from-q.ensures, c.from-j.ensures) (omega (arith, looking_port c.loop-m.m c.loop-m.invariant.0 c.loop-m-test.true)))

pub fill_on-requires-clause-begun : goal.fill_on-requires-clause-begun
fill_on-requires-clause-begun c =
    let C = rw (c.from-q.ensures, c.from-j.ensures) at c.in-Some.ensures.chosen in
    rw c.from-j.ensures (looking_filled c.loop-m.m c.loop-m.invariant.0 c.loop-m-test.true c.in-Some.next C.0 C.1)

pub fill_on-requires-clause-memory : goal.fill_on-requires-clause-memory
fill_on-requires-clause-memory c =
    let L = c.loop-m.invariant.0 in
    let n = length c.args.search.now.lists.order.now in
    let h = looking_inside c.loop-m.m L c.loop-m-test.true in
    rw c.from-j.ensures (memory_store n (c.loop-m.m - 1) c.in-Some.next L.working.proper L.working.room h h
    (memory_again n (c.loop-m.m - 1) L.working.proper.pads.few c.loop-m.invariant.2 c.above-higher.ensures.learnt))

pub returns-in-Some-clause-step_is : goal.returns-in-Some-clause-step_is
returns-in-Some-clause-step_is c =
    let C = rw (c.from-q.ensures, c.from-j.ensures) at c.in-Some.ensures.chosen in
    looking_found c.loop-m.m c.loop-m.invariant.0 c.loop-m-test.true c.in-Some.next C.0 C.1 _ (rw c.from-j.ensures at c.fill_on.ensures.filled_up)

pub loop-m-preserved : goal.loop-m-preserved
loop-m-preserved c =
    let C = rw (c.from-q.ensures, c.from-j.ensures) at c.in_default.ensures.chosen in (
      looking_more c.loop-m.m c.loop-m.invariant.0 c.loop-m-test.true 128 C (omega arith),
      c.loop-m.invariant.1,
      memory_again _ (c.loop-m.m - 1) c.args.search.now.proper.pads.few c.loop-m.invariant.2 c.above-higher.ensures.learnt,
    )

pub returns-clause-step_is : goal.returns-clause-step_is
returns-clause-step_is c = looking_end c.loop-m.m c.loop-m.invariant.0 c.loop-m-test.false
