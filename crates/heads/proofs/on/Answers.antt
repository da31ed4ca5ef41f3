use mathlib.Core.Path.{refl}
use Prim.Native.Nat.{◌+◌}
use lib.ListN.{drop}
use Rattle.pads.specs.Pads.{pads_in}
use Rattle.heads.proofs.Scan.{on_placed, on_step, on_found}
use native.Mathlib.Omega.{arith}
use Rattle.pads.specs.Sides.{sides}
use Rattle.heads.proofs.on.Goals as goal

pub stands-requires-clause-k_in_bounds : goal.stands-requires-clause-k_in_bounds
stands-requires-clause-k_in_bounds c = on_placed _ _ _ _ _ _ (omega (arith, c.requires.a_lt_b.0, c.requires.a_lt_b.1)) c.requires.from_in_bounds.1

pub loop-rest-init : goal.loop-rest-init
loop-rest-init c = let l = on_placed (sides c.args.lists.now) c.args.lists.now.order.now c.args.a c.args.b c.args.from c.args.here (omega (arith, c.requires.a_lt_b.0, c.requires.a_lt_b.1)) c.requires.from_in_bounds.1 in (
  l,
  omega (arith, c.requires.a_lt_b.1, c.requires.from_in_bounds.1),
  omega (
    arith,
    c.stands.ensures,
    (on_step (sides c.args.lists.now) c.args.lists.now.order.now c.args.a c.args.b c.args.from
        c.args.here l c.requires.from_in_bounds.1).1,
  ),
)

pub stands-rest-requires-clause-k_in_bounds : goal.stands-rest-requires-clause-k_in_bounds
stands-rest-requires-clause-k_in_bounds c = on_placed _ _ _ _ (c.loop-rest.k + 1) c.loop-rest.rest (omega (arith, c.loop-rest-test.true, c.requires.a_lt_b.0)) c.loop-rest.invariant.2

pub loop-rest-preserved : goal.loop-rest-preserved
loop-rest-preserved c = let h = on_placed (sides c.args.lists.now) c.args.lists.now.order.now c.args.a c.args.b (c.loop-rest.k + 1) c.loop-rest.rest
    (omega (arith, c.loop-rest-test.true, c.requires.a_lt_b.0)) c.loop-rest.invariant.2 in (
      h,
      omega (arith, c.loop-rest.invariant.2, c.loop-rest-test.true),
      omega
          (arith, c.stands-rest.ensures, (on_step (sides c.args.lists.now) c.args.lists.now.order.now c.args.a c.args.b (c.loop-rest.k + 1) c.loop-rest.rest h c.loop-rest.invariant.2).1),
    )

pub returns : goal.returns
returns c = let m = pads_in (sides c.args.lists.now) c.args.a c.args.b (drop c.loop-rest.k c.args.lists.now.order.now) in
    on_found (sides c.args.lists.now) c.args.lists.now.order.now c.args.a c.args.b c.loop-rest.k m c.loop-rest.invariant.0 refl c.loop-rest.invariant.1
    (omega (arith, (on_step (sides c.args.lists.now) c.args.lists.now.order.now c.args.a c.args.b c.loop-rest.k m c.loop-rest.invariant.0 refl).1, c.loop-rest.invariant.2, c.loop-rest-test.false))
