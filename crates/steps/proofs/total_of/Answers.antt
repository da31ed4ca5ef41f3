use Prim.Native.Nat.{◌-◌, ◌<◌}
use native.Mathlib.Omega.{arith}
use lib.ListN.{length, get_or}
use Rattle.strips.proofs.ByPlace.{place_mem}
use Rattle.places.specs.Places.{port_in}
use Rattle.choices.specs.Over.{grid_in}
use Rattle.steps.proofs.Whole.{sum_none, sum_step}
use Rattle.steps.proofs.total_of.Goals as goal

pub loop-k-init : goal.loop-k-init
loop-k-init c = (sum_none _ c.args.search.now.lists.order.now (port_in c.args.w.now), omega arith)

pub figure-sum-requires : goal.figure-sum-requires
figure-sum-requires c =
    let place : c.loop-k.k - 1 < length c.args.search.now.lists.order.now = omega (arith, c.loop-k-test.true, c.loop-k.auto.k) in
    let port = c.requires.untouching_layout.inside (get_or c.args.search.now.lists.order.now (c.loop-k.k - 1) 0) (place_mem c.args.search.now.lists.order.now (c.loop-k.k - 1) place) in
    rw (c.from.ensures, c.from-j.ensures) (c.args.search.now.proper.pads.listed (c.loop-k.k - 1) place, omega (arith, port.high), port.allowed)

pub loop-k-preserved : goal.loop-k-preserved
loop-k-preserved c =
    let e = sum_step (grid_in c.args.search.now).cost c.args.search.now.lists.order.now (port_in c.args.w.now) c.loop-k.k c.loop-k-test.true c.loop-k.auto.k in
    let f = rw (c.from.ensures, c.from-j.ensures) at c.figure-sum.ensures.0 in
    (omega (arith, e, f, c.loop-k.invariant.0), omega (arith, c.figure-sum.ensures.1, c.loop-k.invariant.1, c.loop-k.auto.k, c.loop-k-test.true))
