-- `slots::fill_layer` meets its contract. Assumes nothing.
use mathlib.Core.Path.{refl, sym, subst}
use Prim.Native.Nat.{ℕ, ◌+◌}
use native.Mathlib.Omega.{arith}
use lib.ListN.{length, drop}
use Rattle.numbers.proofs.Kept.{kept_later}
use Rattle.strips.specs.Least.{Least}
use Rattle.pads.specs.Sides.{sides}
use Rattle.slots.specs.Slots.{layer_of, figures_at, Written, follows, Layer, LayerTo, figures_same}
use Rattle.slots.specs.Filling.{figures_on}
use Rattle.slots.proofs.Spots.{spot}
use Rattle.slots.proofs.Values.{figure_cheap}
use Rattle.slots.proofs.Layers.{layer_kept, to_none}
use Rattle.slots.proofs.fill_layer.Goals as goal

pub fill_rows-requires-clause-layer : goal.fill_rows-requires-clause-layer
fill_rows-requires-clause-layer c =
    let l = c.args.lists.now in let n = length l.order.now in let t = spot c.requires.room c.args.k c.requires.k_in_bounds.0 in
    let W : Written c.args.work.now c.double.new.work c.args.here (layer_of l.ports) (follows c.args.work.now (c.args.here + layer_of l.ports)) (layer_of l.ports)
    = rw c.layer_of.ensures.0 at c.double.ensures in
    let e = figures_same n l.ports {w = c.args.work.now} {v = c.double.new.work} (kept_later (figures_at n l.ports) (omega (arith, t.layers, t, c.requires.k_in_bounds.1)) W.kept) in
    subst (λ (D : ℕ → ℕ → Least). Layer (sides l) D (drop (c.args.k + 1) l.order.now) l.ports c.double.new.work (c.args.here + layer_of l.ports)) (sym e)
    (layer_kept (sides l) (figures_on l c.args.work.now) (drop (c.args.k + 1) l.order.now) l.ports (c.args.here + layer_of l.ports) W.kept (omega arith) c.requires.layer)

pub fill_rows-requires-clause-layer_to : goal.fill_rows-requires-clause-layer_to
fill_rows-requires-clause-layer_to c =
    let l = c.args.lists.now in let n = length l.order.now in let t = spot c.requires.room c.args.k c.requires.k_in_bounds.0 in
    let W : Written c.args.work.now c.double.new.work c.args.here (layer_of l.ports) (follows c.args.work.now (c.args.here + layer_of l.ports)) (layer_of l.ports)
    = rw c.layer_of.ensures.0 at c.double.ensures in
    let e = figures_same n l.ports {w = c.args.work.now} {v = c.double.new.work} (kept_later (figures_at n l.ports) (omega (arith, t.layers, t, c.requires.k_in_bounds.1)) W.kept) in
    let T = to_none (sides l) (figures_on l c.args.work.now) l.proper.level l.proper.narrow (λ j q. figure_cheap _) l.order.now l.proper.few l.ports c.args.k c.args.work.now c.double.new.work c.args.here c.requires.k_in_bounds.0 W c.requires.layer in
    subst (λ (D : ℕ → ℕ → Least). LayerTo (sides l) D l.order.now l.ports c.args.k c.double.new.work c.double.new.work c.args.here 0) (sym e)
    (record { kept = record { long = refl; rest = λ i h. refl }; cells = T.cells })

pub returns-clause-layer_2 : goal.returns-clause-layer_2
returns-clause-layer_2 c =
    let l = c.args.lists.now in let n = length l.order.now in let t = spot c.requires.room c.args.k c.requires.k_in_bounds.0 in
    let W : Written c.args.work.now c.double.new.work c.args.here (layer_of l.ports) (follows c.args.work.now (c.args.here + layer_of l.ports)) (layer_of l.ports)
    = rw c.layer_of.ensures.0 at c.double.ensures in
    let e = figures_same n l.ports {w = c.args.work.now} {v = c.double.new.work} (kept_later (figures_at n l.ports) (omega (arith, t.layers, t, c.requires.k_in_bounds.1)) W.kept) in
    subst (λ (D : ℕ → ℕ → Least). Layer (sides l) D (drop c.args.k l.order.now) l.ports c.fill_rows.new.work c.args.here) e c.fill_rows.ensures.layer_2
