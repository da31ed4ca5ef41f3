use mathlib.Core.Path.{◌≡◌, ap}
use Prim.Native.Nat.{ℕ, ◌+◌, ◌*◌, ◌-◌, ◌<◌}
use native.Mathlib.Omega.{arith}
use lib.ListN.{length, get_or}
use Rattle.pads.specs.Sides.{sides}
use Rattle.slots.proofs.Spots.{rows_fit, sizes_small}
use Rattle.slots.proofs.Opening.{marked_none, open_none, marked_more, open_more}
use Rattle.slots.proofs.open_figures.Goals as goal

pub loop-k-init : goal.loop-k-init
loop-k-init c = (marked_none (sides c.args.lists.now) c.args.lists.now.order.now c.args.lists.now.ports c.args.lists.now.proper.ports, open_none _ _ _ _ _)

pub open_row-requires : goal.open_row-requires
open_row-requires c =
    let l = c.args.lists.now in
    let kn : c.loop-k.k - 1 < length l.order.now = omega (arith, c.loop-k-test.true) in
    let t = rows_fit c.requires (c.loop-k.k - 1) (get_or l.order.now (c.loop-k.k - 1) 0) kn (l.proper.listed (c.loop-k.k - 1) kn) in
    let e = (sizes_small c.requires c.layer_of.result c.layer_of.ensures.0).0 in
    let j = ap (λ (i : ℕ). i * l.ports) c.from-j.ensures in
    (omega (arith, c.loop-k.invariant.0.long, l.proper.ports), omega (arith, t.0), omega (arith, t.1, c.loop-k.invariant.1.kept.long))

pub loop-k-preserved : goal.loop-k-preserved
loop-k-preserved c =
    let l = c.args.lists.now in
    let kn : c.loop-k.k - 1 < length l.order.now = omega (arith, c.loop-k-test.true) in
    let e : c.loop-k.k ≡ c.loop-k.k - 1 + 1 = omega (arith, c.loop-k-test.true) in
    let s = (sizes_small c.requires c.layer_of.result c.layer_of.ensures.0).0 in
    let j = ap (λ (i : ℕ). i * l.ports) c.from-j.ensures in
    let M = rw e at c.loop-k.invariant.0 in (
      marked_more (sides l) l.order.now c.loop-k.shut _ l.ports (c.loop-k.k - 1) l.proper.ports kn
          (rw (c.from-low.ensures, c.from-high.ensures, c.from-j.ensures) at c.shut_port.ensures) M,
      open_more (sides l) l.order.now l.ports c.args.work.now c.loop-k.shut c.loop-k.work _ (c.loop-k.k - 1) kn (l.proper.listed (c.loop-k.k - 1) kn) M
          (rw e at c.loop-k.invariant.1) _ _ (omega arith) (omega arith) c.open_row.ensures,
    )
