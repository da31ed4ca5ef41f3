-- Laws of locally best ports, from a table that is right.
use mathlib.Core.Path.{◌≡◌, refl, sym, ap, ◌∙◌}
use mathlib.Core.Bool.{Bool}
use mathlib.Core.List.{List, [], ◌∷◌}
use Prim.Native.Nat.{ℕ, ◌+◌, ◌-◌, ◌*◌, ◌^◌, ◌≤◌, ◌<◌, zero-le}
use native.Mathlib.Omega.{arith}
use lib.ListN.{length, get_or, drop}
use lib.Dec.{eqb}
use borrow.Author.Tests.{eqb-true, eqb-false}
use Rattle.strips.specs.Least.{Least}
use Rattle.strips.specs.Lists.{keep}
use Rattle.strips.proofs.Lists.{keep_if}
use Rattle.pads.specs.Pads.{Sides, fits, bit, pads_in, sides_of, Pads}
use Rattle.totals.specs.Strip.{best_within}
use Rattle.totals.specs.Cell.{no_total, figures, grid_of, choice, place, coded, Strip, FullFrom, Table, Leads, Says, Parts, Port, port_total}
use Rattle.pads.specs.Counts.{count_step}
use Rattle.totals.specs.Totals.{most_best}
use Rattle.totals.specs.Leads.{here, same_keep, leads_none, leads_yes, leads_no}
use Rattle.totals.proofs.Ports.{Lower, in_table}
use Rattle.totals.proofs.Cells.{cell_right, figures_cheap, port_right, port_ready}

-- the pads that count are those that are kept
pub count-keep : (S : Sides) (a b : ℕ) (js : List ℕ) → pads_in S a b js ≡ length (keep (fits S a b) js)
unfolding pads_in keep
count-keep S a b [] = refl
count-keep S a b (j ∷ js) =
    let ih = count-keep S a b js in
    keep_if (fits S a b) (λ ks. bit (fits S a b j) + pads_in S a b js ≡ length ks) j js (λ e. rw e (omega arith)) (λ e. rw e (omega arith))

module _ {hs ts order cs bs lo hi : List ℕ} (P : Pads order lo hi (length order)) (T : Table order cs bs lo hi hs ts) (r a b : ℕ) (O : FullFrom (grid_of order cs bs lo hi) order r a b) where
  abbrev S : Sides
  S = sides_of lo hi

  abbrev C : ℕ → ℕ → Least
  C = figures cs bs (length order)

  abbrev rest : List ℕ
  rest = drop (r + 1) order

  pub ready_strip : Strip S order a b r
  ready_strip = record { ports = O.ports; listed = O.listed; rest = ap (λ (k : ℕ). k + 1) (count-keep S a b rest ∙ ap length (same_keep S C order r a b O.listed O.here)) ∙ O.full }

  headed : pads_in S a b (drop r order) ≡ b - a
  headed = let u = count_step S order a b r O.listed in let v = ready_strip.rest in let w = ap bit (here S C order r a b O.listed O.here) in omega arith

  pub table_parts : Parts S C order hs ts a b
  table_parts q aq qb = (T.rows a q zero-le aq (omega (arith, O.ports)), T.rows (q + 1) b zero-le (omega arith) O.ports)

  -- the strip's own cell
  pub table_best : get_or ts (place a b) 0 ≡ coded (best_within S C (drop r order) a b)
  table_best =
      cell_right S C order a b (get_or hs (place a b) 0) (get_or ts (place a b) 0)
      (T.rows a b zero-le (omega (arith, O.full)) O.ports) r (omega (arith, O.listed)) headed

  -- a strip with no layout has no such port
  pub none_leads : coded (best_within S C (drop r order) a b) ≡ no_total → (q : ℕ) → Leads (grid_of order cs bs lo hi) order r a b q → ⊥
  none_leads e =
      leads_none S C order r a b O.listed O.here no_total (pads_in S a b (drop r order) * 2 ^ 32)
      (most_best S C P.level (figures_cheap T.sizes) (drop r order) a b) (omega (arith, headed, O.ports, P.few)) e

  -- what `attains` asks of a port, and what its answer says of it
  module _ (q : ℕ) (aq : a ≤ q) (qb : q < b) (row below above : ℕ) (er : row ≡ get_or order r 0 * length order)
      (eb : below ≡ place a q) (ea : above ≡ place (q + 1) b) where
    lower : Lower hs ts hs ts a q below
    lower = in_table T.sizes a q below aq (omega (arith, O.ports)) (omega (arith, O.ports, P.few)) eb

    pub port_here : Port hs ts hs ts cs bs (r + 1) row q below above
    port_here = rw er (port_ready P T.sizes r a b ready_strip table_parts q aq qb below above lower ea)

    right : port_total hs ts hs ts cs bs (r + 1) row q below above ≡ coded (choice order cs bs lo hi r a b q)
    right = rw er (port_right P T.sizes r a b ready_strip table_parts q aq qb below above lower ea)

    pub attains_says : (best : ℕ) → best ≡ coded (best_within S C (drop r order) a b) → (best ≡ no_total → ⊥)
        → (x : Bool) → x ≡ eqb (port_total hs ts hs ts cs bs (r + 1) row q below above) best → Says (Leads (grid_of order cs bs lo hi) order r a b q) x
    attains_says best whole has x is = record {
      yes = λ e. leads_yes S C order r a b O.listed O.here no_total q _ best right whole has aq qb (eqb-true _ best (sym is ∙ e));
      no = λ e. leads_no S C order r a b O.listed O.here no_total q _ best right whole has (eqb-false _ best (sym is ∙ e));
    }
