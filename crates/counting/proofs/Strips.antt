-- Laws of strips that have a pad for each port: their rightmost pad, by the table's heads, and their two parts.
use mathlib.Core.Path.{◌≡◌, refl, sym, ap, ◌∙◌}
use mathlib.Core.Bool.{Bool, true, false, ◌&&◌}
use mathlib.Core.List.{List, [], ◌∷◌, ◌++◌}
use Prim.Native.Nat.{ℕ, ◌+◌, ◌-◌, ◌≤◌, ◌<◌, zero-le}
use native.Mathlib.Omega.{arith}
use native.Mathlib.Decide.{dec_le}
use lib.Dec.{leb, ltb}
use lib.ListN.{length, get_or, drop, take, length-append, length-drop}
use borrow.Author.Tests.{leb-true, ltb-true, le-leb, lt-ltb}
use Rattle.strips.specs.Least.{Least, none, some}
use Rattle.strips.specs.Lists.{keep}
use Rattle.strips.proofs.Lists.{keep_yes, keep_no, keep-length, keep_append, keep_and, keep_cong, both, same_test}
use Rattle.strips.specs.Grid.{Grid, Lawful, LocalBest, below, above}
use Rattle.strips.specs.Grid as strip
use Rattle.strips.proofs.Strips.{local_parts}
use Rattle.strips.specs.Prefix.{lies}
use Rattle.strips.proofs.Prefix.{lies_yes, yes_lies}
use Rattle.strips.proofs.Room.{full_parts}
use Rattle.strips.specs.FirstNext.{Listed}
use Rattle.pads.specs.Pads.{spans, pads_in, sides_of}
use Rattle.pads.specs.Counts.{drop_at, drop_split}
use Rattle.totals.specs.Strip.{best_within}
use Rattle.totals.specs.Cell.{figures, grid_of, corner_of, place, Cell, Table, FullFrom, Leads, Marks, MarkedFrom}
use Rattle.totals.proofs.Corners.{place-listed}
use Rattle.totals.proofs.Leading.{count-keep}
use Rattle.counting.specs.Counting.{pads_from, Solved, Led, Marked}

pub nil_of : (xs : List ℕ) → length xs ≡ 0 → xs ≡ []
nil_of [] e = refl
nil_of (x ∷ xs) e = absurd (omega arith)

-- As many are kept from place s on as from an earlier place k on: they are the same ..
keep-later : (p : ℕ → Bool) (xs : List ℕ) (k s : ℕ) → k ≤ s → length (keep p (drop k xs)) ≡ length (keep p (drop s xs)) → keep p (drop k xs) ≡ keep p (drop s xs)
keep-later p xs k s h e = whole ∙ ap (◌++ keep p (drop s xs)) (nil_of front none_before)
  where
    front : List ℕ
    front = keep p (take (s - k) (drop k xs))

    whole : keep p (drop k xs) ≡ front ++ keep p (drop s xs)
    whole = ap (keep p) (drop_split xs k s h) ∙ keep_append p (take (s - k) (drop k xs)) (drop s xs)

    none_before : length front ≡ 0
    none_before = let l = ap length whole in let m = length-append front (keep p (drop s xs)) in omega arith

-- .. and so are any two lists of as many.
keep_one : (p : ℕ → Bool) (xs : List ℕ) (k s : ℕ) → length (keep p (drop k xs)) ≡ length (keep p (drop s xs)) → keep p (drop k xs) ≡ keep p (drop s xs)
keep_one p xs k s e = go (dec_le k s)
  where
    go : Dec (k ≤ s) → keep p (drop k xs) ≡ keep p (drop s xs)
    go (yes h) = keep-later p xs k s h e
    go (no h) = sym (keep-later p xs s k (omega arith) (sym e))

module _ (B : Grid) (order : List ℕ) where
  pub full_here : (r a b : ℕ) → FullFrom B order r a b → keep (lies B a b) (drop r order) ≡ get_or order r 0 ∷ keep (lies B a b) (drop (r + 1) order)
  full_here r a b R = ap (keep (lies B a b)) (drop_at order r R.listed)
      ∙ keep_yes (lies B a b) (get_or order r 0) (drop (r + 1) order) (lies_yes B a b (get_or order r 0) R.here)

  pub full_length : (r a b : ℕ) → FullFrom B order r a b → length (pads_from B order a b r) ≡ b - a
  full_length r a b R = let e = ap length (full_here r a b R) in let f = R.full in omega arith

  -- From whatever place the strip has a pad for each port, they are the pad at place r and those after it.
  pub full_whole : (r a b : ℕ) → FullFrom B order r a b → (k : ℕ) → length (pads_from B order a b k) ≡ b - a
      → pads_from B order a b k ≡ get_or order r 0 ∷ keep (lies B a b) (drop (r + 1) order)
  full_whole r a b R k e = keep_one (lies B a b) order k r (e ∙ sym (full_length r a b R)) ∙ full_here r a b R

  -- The pads of the strip below port q are those of the part below it, ..
  pub below_strip : (a b q : ℕ) (xs : List ℕ) → q ≤ b → below B q (keep (lies B a b) xs) ≡ keep (lies B a q) xs
  below_strip a b q xs h = keep_and (λ j. leb (B.hi j) q) (lies B a b) xs
      ∙ keep_cong (λ j. same_test (leb (B.hi j) q && lies B a b j) (lies B a q j) (there j) (back j)) xs
    where
      there : (j : ℕ) → (leb (B.hi j) q && lies B a b j) ≡ true → lies B a q j ≡ true
      there j e =
          let t = both (leb (B.hi j) q) (lies B a b j) e in
          rw (both (leb a (B.lo j)) (leb (B.hi j) b) t.1).0 t.0

      back : (j : ℕ) → lies B a q j ≡ true → (leb (B.hi j) q && lies B a b j) ≡ true
      back j e =
          let t = both (leb a (B.lo j)) (leb (B.hi j) q) e in
          rw (t.0, t.1) (le-leb (B.hi j) b (let u = leb-true (B.hi j) q t.1 in omega arith))

  -- .. and those above it of the part above.
  pub above_strip : (a b q : ℕ) (xs : List ℕ) → a ≤ q → above B q (keep (lies B a b) xs) ≡ keep (lies B (q + 1) b) xs
  above_strip a b q xs h = keep_and (λ j. ltb q (B.lo j)) (lies B a b) xs
      ∙ keep_cong (λ j. same_test (ltb q (B.lo j) && lies B a b j) (lies B (q + 1) b j) (there j) (back j)) xs
    where
      there : (j : ℕ) → (ltb q (B.lo j) && lies B a b j) ≡ true → lies B (q + 1) b j ≡ true
      there j e =
          let t = both (ltb q (B.lo j)) (lies B a b j) e in
          rw (le-leb (q + 1) (B.lo j) (let u = ltb-true q (B.lo j) t.0 in omega arith)) (both (leb a (B.lo j)) (leb (B.hi j) b) t.1).1

      back : (j : ℕ) → lies B (q + 1) b j ≡ true → (ltb q (B.lo j) && lies B a b j) ≡ true
      back j e =
          let t = both (leb (q + 1) (B.lo j)) (leb (B.hi j) b) e in
          let u = leb-true (q + 1) (B.lo j) t.0 in
          rw (lt-ltb q (B.lo j) (omega arith), le-leb a (B.lo j) (omega arith)) t.1

-- The parts of a strip at a locally best port have layouts.
module _ {B : Grid} {order : List ℕ} (lawful : Lawful B) (r a b : ℕ) (R : FullFrom B order r a b) (q : ℕ) (l : Leads B order r a b q) where
  abbrev rest : List ℕ
  rest = keep (lies B a b) (drop (r + 1) order)

  parts : LocalBest B (get_or order r 0) rest a b q → (length (below B q rest) ≡ q - a) × (length (above B q rest) ≡ b - (q + 1))
  parts t = full_parts B lawful (get_or order r 0) rest a b q t.total (let e = R.full in omega arith) t.low t.high
      (local_parts B (get_or order r 0) rest a b q t.total t.here)

  -- Of the pads after place r there is one for each port of either part.
  pub full_below : length (pads_from B order a q (r + 1)) ≡ q - a
  full_below = ap length (sym (below_strip B order a b q (drop (r + 1) order) (omega (arith, l.high)))) ∙ (parts l).0

  pub full_above : length (pads_from B order (q + 1) b (r + 1)) ≡ b - (q + 1)
  full_above = ap length (sym (above_strip B order a b q (drop (r + 1) order) l.low)) ∙ (parts l).1

  pub solved_below : Solved B order a q
  solved_below =
      let t = local_parts B (get_or order r 0) rest a b q l.total l.here in
      let e = below_strip B order a b q (drop (r + 1) order) (omega (arith, l.high)) in
      record {
        low = l.low;
        high = omega (arith, l.high, R.ports);
        place = r + 1;
        inside = omega (arith, R.listed);
        full = full_below;
        total = t.under;
        least = rw e at t.least_under;
      }

  pub solved_above : Solved B order (q + 1) b
  solved_above =
      let t = local_parts B (get_or order r 0) rest a b q l.total l.here in
      let e = above_strip B order a b q (drop (r + 1) order) l.low in
      record {
        low = omega (arith, l.high);
        high = R.ports;
        place = r + 1;
        inside = omega (arith, R.listed);
        full = full_above;
        total = t.over;
        least = rw e at t.least_over;
      }

-- The table's head of such a strip is 1 more than the place of its rightmost pad.
module _ {hs ts order cs bs lo hi : List ℕ} (T : Table order cs bs lo hi hs ts) (a b : ℕ) (O : Solved (grid_of order cs bs lo hi) order a b) (some-port : a < b) where
  abbrev B : Grid
  B = grid_of order cs bs lo hi

  abbrev C : ℕ → ℕ → Least
  C = figures cs bs (length order)

  abbrev h : ℕ
  h = get_or hs (place a b) 0

  cell : Cell (sides_of lo hi) C order a b h (get_or ts (place a b) 0)
  cell = T.rows a b zero-le O.low O.high

  count_pads : (k : ℕ) → pads_in (sides_of lo hi) a b (drop k order) ≡ length (pads_from B order a b k)
  unfolding spans
  count_pads k = count-keep (sides_of lo hi) a b (drop k order)

  best_pads : (k : ℕ) → best_within (sides_of lo hi) C (drop k order) a b ≡ strip.best B (pads_from B order a b k) a b
  unfolding best_within spans
  best_pads k = refl

  clash : (x : Least) (v : ℕ) → x ≡ none → x ≡ some v → ⊥
  clash x v e k = let z : ◌≡◌ {A = ℕ} 0 1 = cc in absurd (omega arith)

  pub head_some : 0 < h
  head_some = go (dec_le h O.place)
    where
      go : Dec (h ≤ O.place) → 0 < h
      go (yes k) = absurd (clash (best_within (sides_of lo hi) C (drop O.place order) a b) O.total
          (cell.past O.place k O.inside (count_pads O.place ∙ O.full)) (best_pads O.place ∙ O.least))
      go (no k) = omega arith

  abbrev s : ℕ
  s = h - 1

  next : h ≡ s + 1
  next = let k = head_some in omega arith

  full : length (pads_from B order a b s) ≡ b - a
  full = sym (count_pads s) ∙ cell.full s next

  inside : s < length order
  inside = let l = keep-length (lies B a b) (drop s order) in let m = length-drop s order in let f = full in omega arith

  here : lies B a b (get_or order s 0) ≡ true
  here = go (lies B a b (get_or order s 0)) refl
    where
      go : (x : Bool) → lies B a b (get_or order s 0) ≡ x → x ≡ true
      go true e = refl
      go false e =
          let k = ap (keep (lies B a b)) (drop_at order s inside) ∙ keep_no (lies B a b) (get_or order s 0) (drop (s + 1) order) e in
          absurd (clash (strip.best B (pads_from B order a b (s + 1)) a b) (get_or ts (place a b) 0)
          (sym (best_pads (s + 1)) ∙ cell.past (s + 1) (let n = next in omega arith) (let n = inside in omega arith)
          (count_pads (s + 1) ∙ ap length (sym k) ∙ full))
          (ap (λ (l : List ℕ). strip.best B l a b) (sym k) ∙ sym (best_pads s) ∙ cell.value s next))

  pub head_full : FullFrom (grid_of order cs bs lo hi) order (h - 1) a b
  head_full = record {
    ports = O.high;
    listed = inside;
    here = yes_lies B a b (get_or order s 0) here;
    full = let k = ap (keep (lies B a b)) (drop_at order s inside) ∙ keep_yes (lies B a b) (get_or order s 0) (drop (s + 1) order) here in
        let l = ap length k in let f = full in omega arith;
  }

-- So a list that begins with the ports that lead each strip of a right table marks the board.
pub marked_by : {hs ts order cs bs lo hi : List ℕ} (ms : List ℕ) → Listed (grid_of order cs bs lo hi) (length order) order → Table order cs bs lo hi hs ts
    → MarkedFrom order cs bs lo hi hs ms 0 → corner_of (length order + 1) ≤ length ms → (bf : List ℕ)
    → ((i : ℕ) → i < corner_of (length order + 1) → get_or bf i 0 ≡ get_or ms i 0) → Marked (grid_of order cs bs lo hi) order bf
marked_by {order = order} ms L T K long bf same = record {
  listed = L;
  led = λ a b l O. let p = place-listed a b (length order) O.low O.high in record {
    head = _;
    full = head_full T a b O l;
    marks = rw (same (place a b) p) (K a b zero-le l O.high (omega arith) (head_some T a b O l));
  };
}

-- From whatever place on the strip is full, the same ports lead its rightmost pad.
pub marks_at : {B : Grid} {order : List ℕ} (m a b : ℕ) {x : ℕ} → FullFrom B order m a b → Led B order a b x → Marks B order m a b x
marks_at {B} {order} m a b R O = record { picks = O.marks.picks; set = O.marks.set; says = λ q u. rw (pad, rest) (O.marks.says q u) }
  where
    same : (get_or order m 0 ∷ keep (lies B a b) (drop (m + 1) order)) ≡ (get_or order O.head 0 ∷ keep (lies B a b) (drop (O.head + 1) order))
    same = sym (full_here B order m a b R) ∙ full_whole B order O.head a b O.full m (full_length B order m a b R)

    pad : get_or order m 0 ≡ get_or order O.head 0
    pad = ap (λ (xs : List ℕ). get_or xs 0 0) same

    rest : keep (lies B a b) (drop (m + 1) order) ≡ keep (lies B a b) (drop (O.head + 1) order)
    rest = ap (drop 1) same
