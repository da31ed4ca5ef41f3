-- `totals::best_ports` meets its contract. Assumes nothing.
use Prim.Native.Nat.{◌+◌, ◌≤◌}
use native.Mathlib.Omega.{arith}
use Rattle.pads.specs.Sides.{square_pads}
use Rattle.totals.proofs.Ports.{in_row}
use Rattle.totals.proofs.Cells.{port_ready}
use Rattle.totals.proofs.Marking.{best_none, ports_small, port_step}
use Rattle.totals.proofs.best_ports.Goals as goal

pub loop-q-init : goal.loop-q-init
loop-q-init c = best_none _ _

pub better-v-requires-clause-port : goal.better-v-requires-clause-port
better-v-requires-clause-port c =
    let few : c.args.b ≤ 64 = omega (arith, c.requires.strip.ports, (square_pads c.args.lists.now c.requires.square).few) in
    rw c.trial_of-trial.ensures (port_ready (square_pads c.args.lists.now c.requires.square) c.requires.ready.sizes c.args.r c.args.a c.args.b c.requires.strip c.requires.ready.parts c.loop-q.q c.loop-q.auto.q c.loop-q-test.true _ _
    (in_row c.args.a c.args.b c.loop-q.q c.requires.ready.copied c.loop-q.auto.q c.loop-q-test.true few) (omega (arith, c.corner-base.ensures.0)))

pub better-v-requires-clause-q_bound : goal.better-v-requires-clause-q_bound
better-v-requires-clause-q_bound c = (omega (arith, c.loop-q-test.true, c.requires.strip.ports, (square_pads c.args.lists.now c.requires.square).few), ports_small c.loop-q.invariant)

pub loop-q-preserved : goal.loop-q-preserved
loop-q-preserved c =
    let few : c.args.b ≤ 64 = omega (arith, c.requires.strip.ports, (square_pads c.args.lists.now c.requires.square).few) in
    port_step (square_pads c.args.lists.now c.requires.square) c.requires.ready.sizes c.args.r c.args.a c.args.b c.requires.strip c.requires.ready.parts c.loop-q.q c.loop-q.auto.q c.loop-q-test.true c.loop-q.q
    (c.corner-base.result + 1 + c.loop-q.q) (in_row c.args.a c.args.b c.loop-q.q c.requires.ready.copied c.loop-q.auto.q c.loop-q-test.true few)
    (omega (arith, c.corner-base.ensures.0)) c.loop-q.v c.better-v.result c.loop-q.invariant (rw c.trial_of-trial.ensures at c.better-v.ensures)
