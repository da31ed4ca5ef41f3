-- Laws of one port's total, as the code reads it.
use mathlib.Core.Path.{◌≡◌, refl, sym, ap, ◌∙◌}
use mathlib.Core.Bool.{Bool, true, false, cond}
use mathlib.Core.List.{List}
use Prim.Native.Nat.{ℕ, ◌+◌, ◌*◌, ◌^◌, ◌≤◌, ◌<◌}
use native.Mathlib.Omega.{arith}
use native.Mathlib.Nat.{mul-le-mul}
use lib.Dec.{ltb, eqb}
use lib.ListN.{length, get_or}
use borrow.Author.Tests.{ltb-true, eqb-true, eqb-false, eq-eqb, ne_eqb}
use Rattle.strips.proofs.Lists.{both}
use Rattle.totals.specs.Cell.{no_total, place, Sizes, CopiedRow, Port, opens, sum_at, port_total}
use Rattle.totals.proofs.Corners.{corner_top, place-listed}

-- the lists hb and tb have at `below` what the tables have of the strip a .. q - 1
pub record Lower (hb tb hs ts : List ℕ) (a q below : ℕ) : Type 0 where
  pub head_listed : below < length hb
  pub total-listed : below < length tb
  pub head : get_or hb below 0 ≡ get_or hs (place a q) 0
  pub total : get_or tb below 0 ≡ get_or ts (place a q) 0

pub in_table : {hs ts order cs bs : List ℕ} → Sizes hs ts order cs bs → (a q below : ℕ) → a ≤ q → q ≤ length order → q ≤ 64 → below ≡ place a q
    → Lower hs ts hs ts a q below
in_table {hs} {ts} {order} Z a q below aq qn q64 e = let t = corner_top q q64 in record {
  head_listed = omega (arith, Z.heads);
  total-listed = omega (arith, Z.totals, place-listed a q (length order) aq qn);
  head = ap (λ (k : ℕ). get_or hs k 0) e;
  total = ap (λ (k : ℕ). get_or ts k 0) e;
}

pub in_row : {rh rt hs ts : List ℕ} (a b q : ℕ) → CopiedRow rh rt hs ts a b → a ≤ q → q < b → b ≤ 64 → Lower rh rt hs ts a q q
in_row a b q K aq qb b64 = record {
  head_listed = omega (arith, K.heads);
  total-listed = omega (arith, K.totals);
  head = (K.same q aq qb).0;
  total = (K.same q aq qb).1;
}

module _ {hb tb hs ts cs bs : List ℕ} {past row q below above : ℕ} (P : Port hb tb hs ts cs bs past row q below above) where
  -- what `sum_at` asks
  pub port_sum_lem : opens hb hs past below above ≡ true
      → ((below < length tb) × (above < length ts) × (row + q < length cs)) × ((get_or tb below 0 ≤ 2 ^ 38) × (get_or ts above 0 ≤ 2 ^ 38))
  port_sum_lem e =
      let t = both (ltb past (get_or hb below 0)) (ltb past (get_or hs above 0)) e in
      ((P.low_total, P.high_total, P.listed), P.small (ltb-true past (get_or hb below 0) t.0) (ltb-true past (get_or hs above 0) t.1))

  abbrev bar : ℕ
  bar = get_or bs (row + q) 0

  abbrev total : ℕ
  total = port_total hb tb hs ts cs bs past row q below above

  -- an open port's total s, where it is not barred
  module _ (s : ℕ) (open-port : opens hb hs past below above ≡ true) (is : s ≡ sum_at tb ts cs row q below above) where
    port_by : total ≡ cond (eqb bar 0) s no_total
    port_by = rw (open-port, is) refl

    pub port_free : bar ≡ 0 → total ≡ s
    port_free z = port_by ∙ rw (eq-eqb bar 0 z) refl

    pub port_barred : (bar ≡ 0 → ⊥) → total ≡ no_total
    port_barred n = port_by ∙ rw (ne_eqb bar 0 n) refl

    -- s is more than v
    pub port_more : (v : ℕ) → v < s → v ≤ no_total → v ≤ total
    port_more v h k = go (eqb bar 0) refl
      where
        go : (z : Bool) → eqb bar 0 ≡ z → v ≤ total
        go true e = omega (arith, port_free (eqb-true bar 0 e))
        go false e = omega (arith, port_barred (eqb-false bar 0 e))

    pub port_apart : (v : ℕ) → v < s → total ≡ v → total < no_total → ⊥
    port_apart v h = go (eqb bar 0) refl
      where
        go : (z : Bool) → eqb bar 0 ≡ z → total ≡ v → total < no_total → ⊥
        go true e w x = let f = port_free (eqb-true bar 0 e) in omega arith
        go false e w x = let f = port_barred (eqb-false bar 0 e) in omega arith

    -- s is v, or not
    pub port_equal : (v : ℕ) → (v ≡ no_total → ⊥) → s ≡ v → eqb bar 0 ≡ eqb total v
    port_equal v ne e = go (eqb bar 0) refl
      where
        go : (z : Bool) → eqb bar 0 ≡ z → z ≡ eqb total v
        go true k = sym (eq-eqb total v (port_free (eqb-true bar 0 k) ∙ e))
        go false k = sym (ne_eqb total v (λ w. ne (sym w ∙ port_barred (eqb-false bar 0 k))))

    pub port_other : (v : ℕ) → (v ≡ no_total → ⊥) → (s ≡ v → ⊥) → false ≡ eqb total v
    port_other v ne n = sym (ne_eqb total v (go (eqb bar 0) refl))
      where
        go : (z : Bool) → eqb bar 0 ≡ z → total ≡ v → ⊥
        go true k w = n (sym (port_free (eqb-true bar 0 k)) ∙ w)
        go false k w = ne (sym w ∙ port_barred (eqb-false bar 0 k))

  pub port_shut : opens hb hs past below above ≡ false → total ≡ no_total
  port_shut e = rw e refl

  pub port_unequal : (v : ℕ) → (v ≡ no_total → ⊥) → opens hb hs past below above ≡ false → false ≡ eqb total v
  port_unequal v ne e = sym (ne_eqb total v (λ w. ne (sym w ∙ port_shut e)))

-- a pad's row of figures starts early
pub row_small : (n j : ℕ) → j < n → n ≤ 64 → j * n ≤ 4096
row_small n j h l = mul-le-mul (let u : j ≤ 64 = omega arith in u) l
