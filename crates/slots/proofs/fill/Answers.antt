use mathlib.Core.Path.{◌≡◌, refl, sym, ap, ◌∙◌, subst}
use Prim.Native.Nat.{ℕ, ◌+◌, ◌*◌, ◌-◌, ◌≤◌, ◌<◌}
use native.Mathlib.Omega.{arith}
use lib.ListN.{length, drop}
use Rattle.numbers.specs.Kept.{KeptFrom}
use Rattle.numbers.proofs.Kept.{kept_later, kept_twice}
use Rattle.strips.specs.Least.{Least}
use Rattle.pads.specs.Sides.{sides}
use Rattle.slots.specs.Slots.{layer_of, figures_at, Written, Layer, figures_same}
use Rattle.slots.specs.Filling.{figures_on, LayerOn}
use Rattle.slots.proofs.Spots.{cell_in, layer_fits}
use Rattle.slots.specs.Lending.{figures_fit}
use Rattle.slots.proofs.Layers.{LayersFrom, from_last, from_more, whole_is, whole_none}
use Rattle.slots.proofs.Values.{figure_cheap}
use Rattle.slots.proofs.fill.Goals as goal

pub loop-k-init : goal.loop-k-init
loop-k-init c = let l = c.args.lists.now in let n = length l.order.now in
    let r = c.layer_of-layer.ensures.0 in (
      record { long = refl; rest = λ i h. refl },
      from_last (sides l) l.order.now l.ports c.args.work.now c.open_figures.new.work c.clear.new.work (n * c.layer_of-layer.result) (ap (λ (i : ℕ). n * i) r)
          c.open_figures.ensures.kept_from c.open_figures.ensures.opens
          (subst (λ (i : ℕ). Written c.open_figures.new.work c.clear.new.work (n * c.layer_of-layer.result) i (λ _. 0) i) r c.clear.ensures),
    )

pub fill_layer-requires-clause-layer : goal.fill_layer-requires-clause-layer
fill_layer-requires-clause-layer c =
    let l = c.args.lists.now in let n = length l.order.now in
    let f : c.loop-k.k ≡ c.loop-k.k - 1 + 1 = omega (arith, c.loop-k-test.true) in
    let e : c.loop-k.k * layer_of l.ports ≡ (c.loop-k.k - 1) * layer_of l.ports + layer_of l.ports = ap (λ (i : ℕ). i * layer_of l.ports) f ∙ omega arith in
    let h = ap (λ (i : ℕ). (c.loop-k.k - 1) * i) c.layer_of-layer.ensures.0 in
    let g : c.loop-k.k * layer_of l.ports ≡ (c.loop-k.k - 1) * c.layer_of-layer.result + layer_of l.ports = omega (arith, h, e) in
    let s = figures_same n l.ports {w = c.clear.new.work} {v = c.loop-k.work} c.loop-k.invariant.0 in
    subst (λ (D : ℕ → ℕ → Least). Layer (sides l) D (drop (c.loop-k.k - 1 + 1) l.order.now) l.ports c.loop-k.work ((c.loop-k.k - 1) * c.layer_of-layer.result + layer_of l.ports)) (sym s)
    (subst (λ (i : ℕ). LayerOn l c.clear.new.work i c.loop-k.work ((c.loop-k.k - 1) * c.layer_of-layer.result + layer_of l.ports)) f
    (subst (λ (i : ℕ). LayerOn l c.clear.new.work c.loop-k.k c.loop-k.work i) g (c.loop-k.invariant.1.right c.loop-k.k (omega arith) c.loop-k.auto.k)))

pub loop-k-preserved : goal.loop-k-preserved
loop-k-preserved c = let l = c.args.lists.now in let n = length l.order.now in
    let kn : c.loop-k.k - 1 < n = omega (arith, c.loop-k.auto.k, c.loop-k-test.true) in
    let f : c.loop-k.k ≡ c.loop-k.k - 1 + 1 = omega (arith, c.loop-k-test.true) in
    let h : (c.loop-k.k - 1) * c.layer_of-layer.result ≡ (c.loop-k.k - 1) * layer_of l.ports = ap (λ (i : ℕ). (c.loop-k.k - 1) * i) c.layer_of-layer.ensures.0 in
    let A : KeptFrom ((c.loop-k.k - 1) * layer_of l.ports + layer_of l.ports) c.loop-k.work c.fill_layer.new.work = subst (λ (i : ℕ). KeptFrom (i + layer_of l.ports) c.loop-k.work c.fill_layer.new.work) h c.fill_layer.ensures.kept_from in (
      kept_twice c.loop-k.invariant.0 (kept_later (figures_at n l.ports) (let t = layer_fits n l.ports (c.loop-k.k - 1) (omega arith) in omega arith) A),
      from_more (sides l) l.order.now l.ports c.clear.new.work c.loop-k.work c.fill_layer.new.work (c.loop-k.k - 1) kn c.loop-k.invariant.0 (rw f at c.loop-k.invariant.1) A
          (subst (λ (i : ℕ). LayerOn l c.loop-k.work (c.loop-k.k - 1) c.fill_layer.new.work i) h c.fill_layer.ensures.layer_2),
    )

pub bounds-work-p : goal.bounds-work-p
bounds-work-p c = let l = c.args.lists.now in let n = length l.order.now in
    omega (
      arith,
      cell_in l.ports 0 l.ports (omega arith) (omega arith),
      layer_fits n l.ports 0 (omega arith),
      figures_fit c.requires,
      c.loop-k.invariant.0.long,
      c.clear.ensures.kept.long,
      c.open_figures.ensures.kept_from.long,
    )

pub returns : goal.returns
returns c =
    let l = c.args.lists.now in let n = length l.order.now in
    let k0 : c.loop-k.k ≡ 0 = omega (arith, c.loop-k-test.false) in
    let s = figures_same n l.ports {w = c.clear.new.work} {v = c.loop-k.work} c.loop-k.invariant.0 in
    let L : LayersFrom (sides l) (figures_on l c.loop-k.work) l.order.now l.ports c.loop-k.work 0 =
    subst (λ (D : ℕ → ℕ → Least). LayersFrom (sides l) D l.order.now l.ports c.loop-k.work 0) (sym s) (rw k0 at c.loop-k.invariant.1) in
    let W : Written c.open_figures.new.work c.clear.new.work (n * c.layer_of-layer.result) (layer_of l.ports) (λ _. 0) (layer_of l.ports) =
    subst (λ (i : ℕ). Written c.open_figures.new.work c.clear.new.work (n * c.layer_of-layer.result) i (λ _. 0) i) c.layer_of-layer.ensures.0 c.clear.ensures in
    let fits : n * c.layer_of-layer.result + layer_of l.ports ≤ figures_at n l.ports = (let t = layer_fits n l.ports n (omega arith) in let u = ap (λ (i : ℕ). n * i) c.layer_of-layer.ensures.0 in omega arith) in
    let A = kept_twice (kept_twice c.open_figures.ensures.kept_from (kept_later (figures_at n l.ports) fits W.kept)) c.loop-k.invariant.0 in record {
      kept_from = A;
      slot_table = record { room = rw A.long c.requires; opens = L.opens; layers = λ k h. L.right k (omega arith) h };
      tells_least = (let e = whole_is l.lo.now l.hi.now l.order.now (figures_on l c.loop-k.work) l.ports c.loop-k.work l.proper.top L in
          record {
            total = e;
            none = whole_none l.lo.now l.hi.now l.order.now (figures_on l c.loop-k.work) l.ports _ l.proper.level l.proper.narrow (λ j q. figure_cheap _) l.proper.few l.proper.top e;
          });
    }
