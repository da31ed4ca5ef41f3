-- Laws of locally best ports, from a table that is right.
use mathlib.Core.Path.{◌≡◌, sym, ap, ◌∙◌, subst}
use mathlib.Core.List.{List}
use Prim.Native.Nat.{ℕ, ◌+◌, ◌*◌, ◌^◌, ◌≤◌, ◌<◌, min}
use native.Mathlib.Omega.{arith}
use lib.ListN.{length, get_or, drop}
use Rattle.strips.specs.Least.{Least}
use Rattle.pads.specs.Pads.{Sides, sides_of, Pads}
use Rattle.totals.specs.Strip.{best_within, local_within}
use Rattle.totals.specs.Cell.{Leads}
use Rattle.totals.specs.Totals.{Capped}
use Rattle.totals.specs.Leads.{leads_none, leads_yes, leads_no}
use Rattle.slots.specs.Slots.{no_sum, stored, layer_of, cell_at, opens_at, figures_in, slot_grid, Layer, Three, SlotTable, Inside}
use Rattle.slots.proofs.Spots.{cell_in}
use Rattle.slots.proofs.Values.{figure_cheap}
use Rattle.slots.proofs.Layers.{best_small, stored_best, summed, lower_is, port_is}

module _ {order lo hi w : List ℕ} {p : ℕ} (P : Pads order lo hi p) (T : SlotTable order lo hi p w) (m a b : ℕ) (I : Inside (slot_grid order lo hi p w) order p m a b) where
  abbrev S : Sides
  S = sides_of lo hi

  abbrev C : ℕ → ℕ → Least
  C = figures_in w (length order) p

  abbrev rest : List ℕ
  rest = drop (m + 1) order

  abbrev first : ℕ
  first = get_or order m 0

  pub strip_start : a ≤ b
  strip_start = omega (arith, I.here.low, I.here.high, P.level first)

  -- the strip's own cell
  table_best : get_or w (cell_at p (m * layer_of p) a b) 0 ≡ stored (best_within S C (drop m order) a b)
  table_best = T.layers m (omega (arith, I.listed)) a b strip_start I.ports

  whole_small : Capped (2 ^ 60) (best_within S C (drop m order) a b)
  whole_small = best_small S C P.level P.narrow (λ j q. figure_cheap _) order P.few p m a b

  -- a strip with no layout has no such port
  pub none_leads : no_sum ≤ get_or w (cell_at p (m * layer_of p) a b) 0 → (q : ℕ) → Leads (slot_grid order lo hi p w) order m a b q → ⊥
  none_leads h =
      let most = stored_best S C P.level P.narrow (λ j q. figure_cheap _) order P.few p m a b in
      leads_none S C order m a b I.listed I.here no_sum (2 ^ 60) whole_small (omega arith) (omega (arith, table_best))

  -- what `port_total` asks
  pub three : (q row next above : ℕ) → a ≤ q → q < b → row ≡ opens_at (length order) p + m * p → next ≡ (m + 1) * layer_of p → above ≡ cell_at p next 1 b
      → row + p ≤ length w → next + layer_of p ≤ length w → Three w (row + q) (cell_at p next a q) (above + q)
  three q row next above aq qb er en ea rows layers =
      let n : (m + 1) ≤ length order = omega (arith, I.listed) in
      let bp = I.ports in
      let L : Layer S C rest p w next = subst (λ (i : ℕ). (a b : ℕ) → a ≤ b → b ≤ p → get_or w (cell_at p i a b) 0 ≡ stored (best_within S C rest a b)) (sym en) (T.layers (m + 1) n) in
      let s = summed S C P.level P.narrow (λ j q. figure_cheap _) order P.few p m w row next er I.listed T.opens L a (omega (arith, strip_start)) P.ports rows layers in
      let e : above + q ≡ cell_at p next (q + 1) b = omega arith in
      record {
        figure_in = omega arith;
        below_in = omega (arith, cell_in p a q (omega (arith, strip_start)) (omega arith));
        above_in = omega (arith, cell_in p (q + 1) b (omega arith) bp);
        figure_small = s.small_figures q (omega arith);
        below_small = s.small_totals q aq (omega arith);
        above_small = rw (e, L (q + 1) b (omega arith) bp) (stored_best S C P.level P.narrow (λ j q. figure_cheap _) order P.few p (m + 1) (q + 1) b);
      }

  -- the sum of a port's three numbers says whether it leads
  module _ (q : ℕ) (aq : a ≤ q) (qb : q < b) (row next above least x : ℕ) (er : row ≡ opens_at (length order) p + m * p) (en : next ≡ (m + 1) * layer_of p)
      (ea : above ≡ cell_at p next 1 b) (el : least ≡ get_or w (cell_at p (m * layer_of p) a b) 0) (has : least < no_sum)
      (ex : x ≡ get_or w (row + q) 0 + get_or w (cell_at p next a q) 0 + get_or w (above + q) 0) where
    port_sum_lem : min no_sum x ≡ stored (local_within S C first rest a b q)
    port_sum_lem =
        let n : (m + 1) ≤ length order = omega (arith, I.listed) in
        let L = subst (λ (i : ℕ). (a b : ℕ) → a ≤ b → b ≤ p → get_or w (cell_at p i a b) 0 ≡ stored (best_within S C rest a b)) (sym en) (T.layers (m + 1) n) in
        let low = lower_is S C P.level P.narrow (λ j q. figure_cheap _) order P.few p m w row next er I.listed T.opens L a q aq (omega (arith, I.ports)) in
        let all = port_is S C P.level P.narrow (λ j q. figure_cheap _) order P.few p m w row next er I.listed T.opens L a b q
        (min no_sum (get_or w (row + q) 0 + get_or w (cell_at p next a q) 0)) aq qb I.ports low in
        let at = ap (λ (i : ℕ). get_or w (i + q) 0) ea in
        (omega (arith, ex, at)) ∙ all

    pub sum_leads : x ≡ least → Leads (slot_grid order lo hi p w) order m a b q
    sum_leads e = leads_yes S C order m a b I.listed I.here no_sum q (min no_sum x) least port_sum_lem (el ∙ table_best) (λ n. omega arith) aq qb (omega arith)

    pub sum_other : (x ≡ least → ⊥) → Leads (slot_grid order lo hi p w) order m a b q → ⊥
    sum_other ne = leads_no S C order m a b I.listed I.here no_sum q (min no_sum x) least port_sum_lem (el ∙ table_best) (λ n. omega arith) (λ e. ne (omega arith))
