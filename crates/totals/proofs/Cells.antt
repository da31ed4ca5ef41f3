-- Laws of the table's cells: what a cell says of its strip, and how a strip's cell comes from the cells of its parts.
use mathlib.Core.Path.{◌≡◌, refl, sym, ap, ap₂, ◌∙◌, subst}
use mathlib.Core.Logic.{◌⊎◌, inl, inr, ⊎_elim}
use mathlib.Core.Bool.{Bool, true, false, cond, ◌&&◌}
use Rattle.strips.specs.Least.{Least, none, some, least}
use mathlib.Core.List.{List, ◌∷◌}
use Prim.Native.Nat.{ℕ, ◌+◌, ◌-◌, ◌*◌, ◌^◌, ◌≤◌, ◌<◌, min}
use native.Mathlib.Omega.{arith}
use native.Mathlib.Numerals.{add-one}
use lib.Dec.{ltb, eqb}
use lib.ListN.{length, drop, get_or}
use lib.Seq.{drop-cons}
use borrow.Author.Tests.{ltb-true, ltb-false, eqb-true, eqb-false}
use Rattle.numbers.proofs.Filled.{place_in}
use Rattle.pads.specs.Pads.{Sides, fits, bit, pads_in, sides_of, Pads, Head}
use Rattle.totals.specs.Strip.{parted_within, best_within, local_within}
use Rattle.totals.specs.Cell.{no_total, figures, choice, place, coded, Sizes, Strip, Valued, Cell, Parts, Port, sum_at, port_total}
use Rattle.pads.specs.Counts.{le_or_lt, bit_le, bit_true, count_step, count-drop, count_end}
use Rattle.totals.specs.Parted.{parted_least, parts_most, parted_less}
use Rattle.totals.proofs.Corners.{corner_top, place-listed}
use Rattle.totals.specs.Masks.{add, best_in, local_parted}
use Rattle.totals.proofs.Ports.{Lower}
use Rattle.totals.specs.Totals.{local_none, crowded, same_from, idle, Capped, most_best, coded_none, coded_some, local_most, coded-least}

-- ---- cells

module _ (S : Sides) (C : ℕ → ℕ → Least) (order : List ℕ) (a b h v : ℕ) (L : Cell S C order a b h v) (k : ℕ) where
  -- from a place before the head on there are pads enough
  cell_more : k < h → b - a ≤ pads_in S a b (drop k order)
  cell_more kh =
      let e : h ≡ h - 1 + 1 = omega arith in
      let here = L.full (h - 1) e in
      let more = count-drop S a b order k (h - 1) (omega arith) in
      omega arith

  -- and the total, where there are no more than enough
  cell_some : k < h → pads_in S a b (drop k order) ≡ b - a → best_within S C (drop k order) a b ≡ some v
  cell_some kh e =
      let eh : h ≡ h - 1 + 1 = omega arith in
      same_from S C order k (h - 1) a b (omega arith) (e ∙ sym (L.full (h - 1) eh)) ∙ L.value (h - 1) eh

  -- what a user of the table reads: from any place k on that leaves the strip its number of pads
  pub cell_right : k ≤ length order → pads_in S a b (drop k order) ≡ b - a → v ≡ coded (best_within S C (drop k order) a b)
  cell_right kn e = ⊎_elim late (λ (u : k < h). ap coded (sym (cell_some u e))) (le_or_lt h k)
    where
      late : h ≤ k → v ≡ coded (best_within S C (drop k order) a b)
      late u =
          ⊎_elim
          (λ (z : h ≤ 0). L.nothing (omega arith) ∙ ap coded (sym (L.past k u kn e)))
          (λ (z : 0 < h).
          let eh : h ≡ h - 1 + 1 = omega arith in
          let w = sym (L.value (h - 1) eh) ∙ same_from S C order (h - 1) k a b (omega arith) (L.full (h - 1) eh ∙ sym e) ∙ L.past k u kn e in
          let one : ◌≡◌ {A = ℕ} 0 1 = cc in absurd (omega arith))
          (le_or_lt h 0)

-- ---- one port of a strip, from the cells of the two parts that it makes

module _ (S : Sides) (C : ℕ → ℕ → Least) (level : (j : ℕ) → S.lo j ≤ S.hi j) (j : ℕ) (rest : List ℕ) (a b q : ℕ) (aq : a ≤ q) (qb : q < b)
    (full : pads_in S a b rest + 1 ≡ b - a) where
  -- no layout of a part with a pad for each port; a part with fewer leaves too many to the other
  no_part : (pads_in S a q rest ≡ q - a → pads_in S (q + 1) b rest ≡ b - (q + 1) → (best_within S C rest a q ≡ none) ⊎ (best_within S C rest (q + 1) b ≡ none))
      → local_within S C j rest a b q ≡ none
  no_part h = local_none S C j rest a b q aq qb (λ e. let all = parted_least S a b q rest e in
      ⊎_elim
      (λ (u : pads_in S a q rest ≤ q - a). ⊎_elim
      (λ (v : pads_in S (q + 1) b rest ≤ b - (q + 1)). h (omega arith) (omega arith))
      (λ (v : b - (q + 1) < pads_in S (q + 1) b rest). inr (crowded S C rest (q + 1) b (omega arith)))
      (le_or_lt (pads_in S (q + 1) b rest) (b - (q + 1))))
      (λ (u : q - a < pads_in S a q rest). inl (crowded S C rest a q (omega arith)))
      (le_or_lt (pads_in S a q rest) (q - a)))

  -- enough in each: q parts the strip
  enough : q - a ≤ pads_in S a q rest → b - (q + 1) ≤ pads_in S (q + 1) b rest → parted_within S a b q rest ≡ true
  enough u v = go (parted_within S a b q rest) refl
    where
      go : (x : Bool) → parted_within S a b q rest ≡ x → parted_within S a b q rest ≡ true
      go true e = e
      go false e = let less = parted_less S level a b q aq qb rest e in absurd (omega arith)

module _ (S : Sides) (C : ℕ → ℕ → Least) (level : (j : ℕ) → S.lo j ≤ S.hi j) (cheap : (j q : ℕ) → Capped (2 ^ 32) (C j q))
    (order : List ℕ) (r a b q : ℕ) (rn : r < length order) (b64 : b ≤ 64) (aq : a ≤ q) (qb : q < b) (full : pads_in S a b (drop (r + 1) order) + 1 ≡ b - a)
    (h x : ℕ) (below : Cell S C order a q h x) (h' y : ℕ) (above : Cell S C order (q + 1) b h' y) (j : ℕ) where
  no_below : h ≤ r + 1 → local_within S C j (drop (r + 1) order) a b q ≡ none
  no_below u = no_part S C level j (drop (r + 1) order) a b q aq qb full (λ e f. inl (below.past (r + 1) u (omega arith) e))

  no_above : h' ≤ r + 1 → local_within S C j (drop (r + 1) order) a b q ≡ none
  no_above u = no_part S C level j (drop (r + 1) order) a b q aq qb full (λ e f. inr (above.past (r + 1) u (omega arith) f))

  module _ (u : r + 1 < h) (v : r + 1 < h') where
    counts : (pads_in S a q (drop (r + 1) order) ≡ q - a) × (pads_in S (q + 1) b (drop (r + 1) order) ≡ b - (q + 1))
    counts =
        let most = parts_most S level a b q aq qb (drop (r + 1) order) in
        let low = cell_more S C order a q h x below (r + 1) u in
        let high = cell_more S C order (q + 1) b h' y above (r + 1) v in
        (omega arith, omega arith)

    is_below : best_within S C (drop (r + 1) order) a q ≡ some x
    is_below = cell_some S C order a q h x below (r + 1) u counts.0

    is_above : best_within S C (drop (r + 1) order) (q + 1) b ≡ some y
    is_above = cell_some S C order (q + 1) b h' y above (r + 1) v counts.1

    -- the sums stay far below the largest u64
    small_parts : (x ≤ 2 ^ 38) × (y ≤ 2 ^ 38)
    small_parts =
        let p : x ≤ pads_in S a q (drop (r + 1) order) * 2 ^ 32 = subst (Capped (pads_in S a q (drop (r + 1) order) * 2 ^ 32)) is_below
        (most_best S C level cheap (drop (r + 1) order) a q) in
        let s : y ≤ pads_in S (q + 1) b (drop (r + 1) order) * 2 ^ 32 = subst (Capped (pads_in S (q + 1) b (drop (r + 1) order) * 2 ^ 32)) is_above
        (most_best S C level cheap (drop (r + 1) order) (q + 1) b) in
        let c = counts.0 in let d = counts.1 in
        (omega arith, omega arith)

    some_parts : local_within S C j (drop (r + 1) order) a b q ≡ add (C j q) (some (x + y))
    some_parts =
        let c = counts.0 in let d = counts.1 in
        local_parted S C j (drop (r + 1) order) a b q aq qb (enough S C level j (drop (r + 1) order) a b q aq qb full (omega arith) (omega arith))
        ∙ ap₂ (λ (s t : Least). add (C j q) (add s t)) is_below is_above

-- ---- the same of the lists that the code has

pub figures_cheap : {hs ts order cs bs : List ℕ} → Sizes hs ts order cs bs → (j q : ℕ) → Capped (2 ^ 32) (figures cs bs (length order) j q)
figures_cheap {hs} {ts} {order} {cs} {bs} Z j q = go (eqb (get_or bs (j * length order + q) 0) 0)
  where
    go : (z : Bool) → Capped (2 ^ 32) (cond z (some (get_or cs (j * length order + q) 0)) none)
    go true = let u = Z.cheap (j * length order + q) in omega arith
    go false = tt

module _ {hs ts order cs bs lo hi : List ℕ} (P : Pads order lo hi (length order)) (Z : Sizes hs ts order cs bs) (r a b : ℕ) (T : Strip (sides_of lo hi) order a b r)
    (D : Parts (sides_of lo hi) (figures cs bs (length order)) order hs ts a b) (q : ℕ) (aq : a ≤ q) (qb : q < b) where
  abbrev h_below : ℕ
  h_below = get_or hs (place a q) 0

  abbrev h_above : ℕ
  h_above = get_or hs (place (q + 1) b) 0

  abbrev x_below : ℕ
  x_below = get_or ts (place a q) 0

  abbrev x_above : ℕ
  x_above = get_or ts (place (q + 1) b) 0

  abbrev row : ℕ
  row = get_or order r 0 * length order

  b64 : b ≤ 64
  b64 = omega (arith, T.ports, P.few)

  -- the pad's figure, and what the parts have: none where it is barred
  figured : (z : Bool) → cond z (sum_at ts ts cs row q (place a q) (place (q + 1) b)) no_total
      ≡ coded (add (cond z (some (get_or cs (row + q) 0)) none) (some (x_below + x_above)))
  figured true = refl
  figured false = refl

  answer : (x y : Bool) → ltb (r + 1) h_below ≡ x → ltb (r + 1) h_above ≡ y
      → cond ((x && y) && eqb (get_or bs (row + q) 0) 0) (sum_at ts ts cs row q (place a q) (place (q + 1) b)) no_total ≡ coded (choice order cs bs lo hi r a b q)
  answer true true u v =
      figured (eqb (get_or bs (row + q) 0) 0)
      ∙ sym (ap coded (some_parts (sides_of lo hi) (figures cs bs (length order)) P.level (figures_cheap Z) order r a b q T.listed b64 aq qb T.rest
      h_below x_below (D q aq qb).0 h_above x_above (D q aq qb).1 (get_or order r 0) (ltb-true (r + 1) h_below u) (ltb-true (r + 1) h_above v)))
  answer true false u v =
      sym (ap coded (no_above (sides_of lo hi) (figures cs bs (length order)) P.level (figures_cheap Z) order r a b q T.listed b64 aq qb T.rest
      h_below x_below (D q aq qb).0 h_above x_above (D q aq qb).1 (get_or order r 0) (ltb-false (r + 1) h_above v)))
  answer false y u v =
      sym (ap coded (no_below (sides_of lo hi) (figures cs bs (length order)) P.level (figures_cheap Z) order r a b q T.listed b64 aq qb T.rest
      h_below x_below (D q aq qb).0 h_above x_above (D q aq qb).1 (get_or order r 0) (ltb-false (r + 1) h_below u)))

  -- the least so far, and one port more
  pub least_step : (v : ℕ) → v ≡ coded (least (choice order cs bs lo hi r a b) a (q - a))
      → min v (coded (choice order cs bs lo hi r a b q)) ≡ coded (least (choice order cs bs lo hi r a b) a (q + 1 - a))
  least_step v e =
      ap (λ (k : ℕ). min k (coded (choice order cs bs lo hi r a b q))) e
      ∙ coded-least ((1 + pads_in (sides_of lo hi) a b (drop (r + 1) order)) * 2 ^ 32) (choice order cs bs lo hi r a b) a q (omega (arith, T.rest, T.ports, P.few)) aq
      (λ i u v. local_most (sides_of lo hi) (figures cs bs (length order)) P.level (figures_cheap Z) (get_or order r 0) (drop (r + 1) order) a b i u (omega arith))

  module _ {hb tb : List ℕ} (below above : ℕ) (L : Lower hb tb hs ts a q below) (ea : above ≡ place (q + 1) b) where
    -- what the code adds up for a port is the total with the pad on it
    pub port_right : port_total hb tb hs ts cs bs (r + 1) row q below above ≡ coded (choice order cs bs lo hi r a b q)
    port_right = rw (L.head, L.total, ea) (answer (ltb (r + 1) h_below) (ltb (r + 1) h_above) refl refl)

    pub port_ready : Port hb tb hs ts cs bs (r + 1) row q below above
    port_ready = record {
      low_head = L.head_listed;
      low_total = L.total-listed;
      high_head = let t = corner_top b b64 in omega (arith, b64, Z.heads);
      high_total = omega (arith, Z.totals, place-listed (q + 1) b (length order) (omega arith) T.ports);
      listed = let f = place_in (length order) (length order) (get_or order r 0) q (P.listed r T.listed) (omega (arith, T.ports)) in omega (arith, Z.square);
      bar_listed = let f = place_in (length order) (length order) (get_or order r 0) q (P.listed r T.listed) (omega (arith, T.ports)) in omega (arith, Z.bars);
      small = rw (L.head, L.total, ea) (λ u v. small_parts (sides_of lo hi) (figures cs bs (length order)) P.level (figures_cheap Z) order r a b q T.listed b64 aq qb
          T.rest
          h_below x_below (D q aq qb).0 h_above x_above (D q aq qb).1 (get_or order r 0) u v);
    }

-- ---- a strip's cell

module _ (S : Sides) (order : List ℕ) (a b h : ℕ) (H : Head S order a b h) (some-head : h ≡ 0 → ⊥) (ab : a < b) where
  pub head_listed : h - 1 < length order
  head_listed =
      ⊎_elim
      (λ (u : length order ≤ h - 1).
      let e : h ≡ (h - 1) + 1 = omega arith in
      let none = count_end S order a b (h - 1) u in
      let here = H.at (h - 1) e in absurd (omega arith))
      (λ (u : h - 1 < length order). u)
      (le_or_lt (length order) (h - 1))

  pub head_counts : (bit (fits S a b (get_or order (h - 1) 0)) ≡ 1) × (pads_in S a b (drop (h - 1 + 1) order) + 1 ≡ b - a)
  head_counts =
      let e : h ≡ h - 1 + 1 = omega arith in
      let listed = head_listed in
      let here = H.at (h - 1) e in
      let after = H.past (h - 1 + 1) (omega arith) (omega arith) in
      let step = count_step S order a b (h - 1) listed in
      let one = bit_le (fits S a b (get_or order (h - 1) 0)) in
      (omega arith, omega arith)

  pub head_strip : b ≤ length order → Strip S order a b (h - 1)
  head_strip bn = record { ports = bn; listed = head_listed; rest = head_counts.1 }

  pub head_cell : (C : ℕ → ℕ → Least) (v : ℕ) → v ≡ coded (least (local_within S C (get_or order (h - 1) 0) (drop (h - 1 + 1) order) a b) a (b - a))
      → Valued S C order a b h v
  head_cell C v e =
      record {
        head = H;
        value = λ s es. let same : s ≡ h - 1 = omega arith in
            subst (λ (k : ℕ). v ≡ coded (best_within S C (drop k order) a b)) (sym same)
            (e ∙ ap coded (sym (best_in S C (get_or order (h - 1) 0) (drop (h - 1 + 1) order) a b (bit_true (fits S a b (get_or order (h - 1) 0)) head_counts.0)))
            ∙ ap (λ (k : ℕ). coded (best_within S C (get_or order (h - 1) 0 ∷ drop k order) a b)) (add-one (h - 1))
            ∙ ap (λ (l : List ℕ). coded (best_within S C l a b)) (sym (drop-cons order (h - 1) 0 head_listed)));
        nothing = λ z. absurd (some-head z);
      }

-- a strip of no ports
pub empty_cell : (S : Sides) (C : ℕ → ℕ → Least) (order : List ℕ) (a b h : ℕ) → Head S order a b h → (h ≡ 0 → ⊥) → a ≡ b → Valued S C order a b h 0
empty_cell S C order a b h H some-head ab = record {
  head = H;
  value = λ s e. sym (ap coded (idle S C (drop s order) a b (let w = H.at s e in omega arith)));
  nothing = λ z. absurd (some-head z);
}

-- the cell that is stored: the head only where there is a layout
pub kept_cell : (S : Sides) (C : ℕ → ℕ → Least) → ((j : ℕ) → S.lo j ≤ S.hi j) → ((j q : ℕ) → Capped (2 ^ 32) (C j q)) → (order : List ℕ) (a b h v r : ℕ) → b ≤ 64
    → Valued S C order a b h v → r ≡ cond (eqb v no_total) 0 h → Cell S C order a b r v
kept_cell S C level cheap order a b h v r b64 is e = rw e (go (eqb v no_total) refl)
  where
    H : Head S order a b h
    H = is.head

    -- from any place with the strip's number of pads on
    same : (k : ℕ) → k ≤ length order → pads_in S a b (drop k order) ≡ b - a → v ≡ coded (best_within S C (drop k order) a b)
    same k kn e =
        ⊎_elim
        (λ (u : h ≤ k). absurd (let w = H.past k u kn in omega arith))
        (λ (u : k < h). let eh : h ≡ h - 1 + 1 = omega arith in
        is.value (h - 1) eh ∙ ap coded (sym (same_from S C order k (h - 1) a b (omega arith) (e ∙ sym (H.at (h - 1) eh)))))
        (le_or_lt h k)

    go : (x : Bool) → eqb v no_total ≡ x → Cell S C order a b (cond x 0 h) v
    go true e =
        let z : v ≡ no_total = eqb-true v no_total e in
        record {
          top = omega arith;
          past = λ k u kn c. coded_none no_total (pads_in S a b (drop k order) * 2 ^ 32) (best_within S C (drop k order) a b) (most_best S C level cheap (drop k order) a b)
              (omega arith) (sym (same k kn c) ∙ z);
          full = λ s es. absurd (omega arith);
          value = λ s es. absurd (omega arith);
          nothing = λ u. z;
        }
    go false e =
        let ne = eqb-false v no_total e in
        record {
          top = H.top;
          past = λ k u kn c. absurd (let w = H.past k u kn in omega arith);
          full = H.at;
          value = λ s es. coded_some no_total (best_within S C (drop s order) a b) (λ n. ne (is.value s es ∙ n)) ∙ ap {B = Least} some (sym (is.value s es));
          nothing = is.nothing;
        }
