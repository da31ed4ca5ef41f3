use mathlib.Core.Path.{◌≡◌, refl}
use Prim.Native.Nat.{◌+◌, ◌*◌, ◌≤◌}
use native.Mathlib.Omega.{arith}
use lib.ListN.{length, get_or, drop}
use Rattle.pads.specs.Sides.{sides}
use Rattle.slots.specs.Slots.{layer_of}
use Rattle.slots.specs.Filling.{figures_on}
use Rattle.slots.proofs.Spots.{spot, sizes_small}
use Rattle.slots.proofs.Values.{figure_cheap}
use Rattle.slots.proofs.Layers.{layer_kept, opens_kept, summed, fillable, to_more}
use Rattle.slots.proofs.fill_rows.Goals as goal

pub sum_row-requires : goal.sum_row-requires
sum_row-requires c =
    let l = c.args.lists.now in let j = get_or l.order.now c.args.k 0 in let t = spot c.requires.room c.args.k c.requires.k_in_bounds.0 in
    let S = sides l in let C = figures_on l c.args.work.now in
    let e : c.args.here + c.layer_of-layer.result ≡ c.args.here + layer_of l.ports = omega (arith, c.layer_of-layer.ensures.0) in
    let m = (sizes_small c.requires.room c.layer_of-layer.result c.layer_of-layer.ensures.0).0 in
    let low : c.loop-a.a ≤ get_or l.lo.now j 0 = rw (← c.from-j.ensures, ← c.from-low.ensures) (omega (arith, c.loop-a-test.true)) in
    rw e (summed S C l.proper.level l.proper.narrow (λ j q. figure_cheap _) l.order.now l.proper.few l.ports c.args.k c.loop-a.work _ (c.args.here + layer_of l.ports)
    (omega arith) c.requires.k_in_bounds.0
    (opens_kept S C l.order.now l.ports c.loop-a.invariant.kept (omega (arith, t.layers, c.requires.k_in_bounds.1)) c.requires.opens)
    (layer_kept S C (drop (c.args.k + 1) l.order.now) l.ports (c.args.here + layer_of l.ports) c.loop-a.invariant.kept (omega arith) c.requires.layer)
    c.loop-a.a (omega (arith, l.proper.level j, l.proper.top j, low)) l.proper.ports
    (omega (arith, t.row, c.loop-a.invariant.kept.long)) (omega (arith, t.layers, t.whole, c.requires.k_in_bounds.1, c.loop-a.invariant.kept.long)))

pub fill_strips-requires : goal.fill_strips-requires
fill_strips-requires c =
    let l = c.args.lists.now in let j = get_or l.order.now c.args.k 0 in let t = spot c.requires.room c.args.k c.requires.k_in_bounds.0 in
    let S = sides l in let C = figures_on l c.args.work.now in
    let e : c.args.here + c.layer_of-layer.result ≡ c.args.here + layer_of l.ports = omega (arith, c.layer_of-layer.ensures.0) in
    let m = (sizes_small c.requires.room c.layer_of-layer.result c.layer_of-layer.ensures.0).0 in
    let low : c.loop-a.a ≤ get_or l.lo.now j 0 = rw (← c.from-j.ensures, ← c.from-low.ensures) (omega (arith, c.loop-a-test.true)) in
    rw (c.from-high.ensures, c.from-j.ensures) (fillable S C l.proper.level l.proper.narrow (λ j q. figure_cheap _) l.order.now l.proper.few l.ports c.args.k c.loop-a.work
    ((length l.order.now + 1) * c.layer_of-layer.result + c.args.k * l.ports) (c.args.here + layer_of l.ports) (omega arith) c.requires.k_in_bounds.0
    (opens_kept S C l.order.now l.ports c.loop-a.invariant.kept (omega (arith, t.layers, c.requires.k_in_bounds.1)) c.requires.opens)
    (layer_kept S C (drop (c.args.k + 1) l.order.now) l.ports (c.args.here + layer_of l.ports) c.loop-a.invariant.kept (omega arith) c.requires.layer)
    _ c.args.here c.loop-a.a (get_or l.hi.now j 0) refl (omega (arith, l.proper.level j, low)) (l.proper.top j) l.proper.ports
    (omega (arith, t.layers, t.whole, c.requires.k_in_bounds.1, c.loop-a.invariant.kept.long)) (rw e at c.sum_row.ensures))

pub loop-a-preserved : goal.loop-a-preserved
loop-a-preserved c =
    let l = c.args.lists.now in let j = get_or l.order.now c.args.k 0 in let t = spot c.requires.room c.args.k c.requires.k_in_bounds.0 in
    let S = sides l in let C = figures_on l c.args.work.now in
    let e : c.args.here + c.layer_of-layer.result ≡ c.args.here + layer_of l.ports = omega (arith, c.layer_of-layer.ensures.0) in
    let m = (sizes_small c.requires.room c.layer_of-layer.result c.layer_of-layer.ensures.0).0 in
    let low : c.loop-a.a ≤ get_or l.lo.now j 0 = rw (← c.from-j.ensures, ← c.from-low.ensures) (omega (arith, c.loop-a-test.true)) in
    to_more S C l.proper.level l.proper.narrow (λ j q. figure_cheap _) l.order.now l.proper.few l.ports c.args.k c.args.work.now c.loop-a.work _ _ c.args.here
    ((length l.order.now + 1) * c.layer_of-layer.result + c.args.k * l.ports) c.loop-a.a (omega arith) c.requires.k_in_bounds.0
    (opens_kept S C l.order.now l.ports c.loop-a.invariant.kept (omega (arith, t.layers, c.requires.k_in_bounds.1)) c.requires.opens)
    (layer_kept S C (drop (c.args.k + 1) l.order.now) l.ports (c.args.here + layer_of l.ports) c.loop-a.invariant.kept (omega arith) c.requires.layer)
    (rw e at c.sum_row.ensures) low (rw (c.from-high.ensures, c.from-j.ensures) at c.fill_strips.ensures) c.loop-a.invariant
