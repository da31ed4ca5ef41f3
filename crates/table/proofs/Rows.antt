-- Laws of a row of the tables while it is filled.
use mathlib.Core.Path.{◌≡◌, refl, sym, ap, ◌∙◌, subst}
use mathlib.Core.Logic.{⊎_elim, ◌≢◌}
use mathlib.Core.Bool.{Bool, true, false, cond}
use Rattle.strips.specs.Least.{Least}
use mathlib.Core.List.{List, [], ◌∷◌}
use Prim.Native.Nat.{ℕ, ◌+◌, ◌-◌, ◌≤◌, ◌<◌, zero-le}
use native.Mathlib.Omega.{arith}
use lib.Dec.{eqb}
use lib.ListN.{length, get_or, set, length-set}
use lib.Seq.{get_or-set_same, get_or-set_other}
use borrow.Author.Tests.{eqb-false}
use Rattle.std.proofs.Common.{Option, None}
use Rattle.strips.proofs.Lists.{keep_same}
use Rattle.strips.specs.Grid.{Grid}
use Rattle.strips.specs.Grid as strip
use Rattle.pads.specs.Pads.{Sides, fits, bit, pads_in, sides_of, Pads, head_of}
use Rattle.totals.specs.Strip.{best_within}
use Rattle.totals.specs.Cell.{no_total, figures, grid_of, corner_of, place, coded, Sizes, Cell, Rows, Parts, CopiedRow, Table, Marks, MarkedFrom}
use Rattle.pads.specs.Counts.{le_or_lt, spans_by}
use Rattle.totals.proofs.Corners.{corner_mono, corner_top, place-listed, place_start, place_end}
use Rattle.totals.proofs.Cells.{cell_right}
use Rattle.table.specs.Noted.{Stored}

-- the rows after a are right, and the row of a is right before b
pub record Row (S : Sides) (C : ℕ → ℕ → Least) (order hs ts : List ℕ) (a b : ℕ) : Type 0 where
  pub after : Rows S C order hs ts (a + 1)
  pub done : (b' : ℕ) → a ≤ b' → b' < b → Cell S C order a b' (get_or hs (place a b') 0) (get_or ts (place a b') 0)

-- tables for 64 ports are long enough
pub long_enough : (n l : ℕ) → n ≤ 64 → l ≡ 2145 → corner_of (n + 1) ≤ l
unfolding corner_of
long_enough n l few e = omega (arith, corner_mono (n + 1) 65 (omega arith))

-- other tables of the same length
pub sizes_with : {hs ts hs' ts' order cs bs : List ℕ} → Sizes hs ts order cs bs → length hs' ≡ 2145 → corner_of (length order + 1) ≤ length ts'
    → Sizes hs' ts' order cs bs
sizes_with Z h t = record { heads = h; totals = t; square = Z.square; bars = Z.bars; cheap = Z.cheap }

module _ (S : Sides) (C : ℕ → ℕ → Least) (order : List ℕ) where
  pub row_start : (hs ts : List ℕ) (a : ℕ) → Rows S C order hs ts (a + 1) → Row S C order hs ts a a
  row_start hs ts a R = record { after = R; done = λ b' u v. absurd (omega arith) }

  pub row_parts : (hs ts : List ℕ) (a b : ℕ) → b ≤ length order → Row S C order hs ts a b → Parts S C order hs ts a b
  row_parts hs ts a b bn R q aq qb = (R.done q aq qb, R.after (q + 1) b (omega arith) (omega arith) bn)

  -- a cell elsewhere is as it was
  cell_kept : (hs ts : List ℕ) (p h v a b : ℕ) → place a b ≢ p → Cell S C order a b (get_or hs (place a b) 0) (get_or ts (place a b) 0)
      → Cell S C order a b (get_or (set hs p h) (place a b) 0) (get_or (set ts p v) (place a b) 0)
  cell_kept hs ts p h v a b ne L = rw (get_or-set_other hs p (place a b) h 0 ne, get_or-set_other ts p (place a b) v 0 ne) L

  pub row_step : (hs ts : List ℕ) (a b h v p : ℕ) → p ≡ place a b → length order ≤ 64 → a ≤ b → b ≤ length order → length hs ≡ 2145
      → corner_of (length order + 1) ≤ length ts → Cell S C order a b h v → Row S C order hs ts a b → Row S C order (set hs p h) (set ts p v) a (b + 1)
  row_step hs ts a b h v p e few ab bn lh lt L R = rw e (record {
    after = λ a' b' u w x. cell_kept hs ts (place a b) h v a' b' (λ e. let s = place_start a' b' a b w ab e in absurd (omega arith)) (R.after a' b' u w x);
    done = λ b' u w. ⊎_elim
        (λ (x : b ≤ b'). let e : b ≡ b' = omega arith in
        subst (λ (k : ℕ). Cell S C order a k (get_or (set hs (place a b) h) (place a k) 0) (get_or (set ts (place a b) v) (place a k) 0)) e
        (let t = corner_top b (omega arith) in let l = place-listed a b (length order) ab bn in
        rw (get_or-set_same hs (place a b) h 0 (omega arith), get_or-set_same ts (place a b) v 0 (omega arith)) L))
        (λ (x : b' < b). cell_kept hs ts (place a b) h v a b' (λ e. let s = place_end a b' a b u ab e in absurd (omega arith)) (R.done b' u x))
        (le_or_lt b b');
  })

  pub row_end : (hs ts : List ℕ) (a b : ℕ) → length order < b → Row S C order hs ts a b → Rows S C order hs ts a
  row_end hs ts a b h R a' b' u v w =
      ⊎_elim
      (λ (x : a' ≤ a). let e : a ≡ a' = omega arith in
      subst (λ (k : ℕ). Cell S C order k b' (get_or hs (place k b') 0) (get_or ts (place k b') 0)) e (R.done b' (omega arith) (omega arith)))
      (λ (x : a < a'). R.after a' b' (omega arith) v w)
      (le_or_lt a' a)

-- the row's short lists get each cell that the tables get
pub copied_start : (rh rt hs ts : List ℕ) (a : ℕ) → length rh ≡ 65 → length rt ≡ 65 → CopiedRow rh rt hs ts a a
copied_start rh rt hs ts a lh lt = record { heads = lh; totals = lt; same = λ q u v. absurd (omega arith) }

same_after : (rs hs : List ℕ) (a b h p q : ℕ) → p ≡ place a b → length rs ≡ 65 → place a b < length hs → a ≤ b → b ≤ 64 → a ≤ q → q < b + 1
    → (q < b → get_or rs q 0 ≡ get_or hs (place a q) 0) → get_or (set rs b h) q 0 ≡ get_or (set hs p h) (place a q) 0
same_after rs hs a b h p q e lr lh ab b64 aq qb was = rw e (⊎_elim
    (λ (x : b ≤ q). let s : b ≡ q = omega arith in subst (λ (k : ℕ). get_or (set rs b h) k 0 ≡ get_or (set hs (place a b) h) (place a k) 0) s
    (get_or-set_same rs b h 0 (omega arith) ∙ sym (get_or-set_same hs (place a b) h 0 lh)))
    (λ (x : q < b). get_or-set_other rs b q h 0 (λ n. absurd (omega arith)) ∙ was x
    ∙ sym (get_or-set_other hs (place a b) (place a q) h 0 (λ n. let s = place_end a q a b aq ab n in absurd (omega arith))))
    (le_or_lt b q))

pub copied_step : (rh rt hs ts : List ℕ) (a b h v p : ℕ) → p ≡ place a b → a ≤ b → b ≤ 64 → place a b < length hs → place a b < length ts
    → CopiedRow rh rt hs ts a b → CopiedRow (set rh b h) (set rt b v) (set hs p h) (set ts p v) a (b + 1)
copied_step rh rt hs ts a b h v p e ab b64 lh lt K = record {
  heads = length-set rh b h ∙ K.heads;
  totals = length-set rt b v ∙ K.totals;
  same = λ q u w. (
    same_after rh hs a b h p q e K.heads lh ab b64 u w (λ x. (K.same q u x).0),
    same_after rt ts a b v p q e K.totals lt ab b64 u w (λ x. (K.same q u x).1),
  );
}

-- ---- the ports of each strip

pub stored : (ms : List ℕ) (p m : ℕ) → Stored ms (set ms p m) p m
stored ms p m = record { long = length-set ms p m; here = λ h. get_or-set_same ms p m 0 h; other = λ i ne. get_or-set_other ms p i m 0 ne }

pub passed_by : (ms : List ℕ) (p m : ℕ) → length ms ≤ p → Stored ms ms p m
passed_by ms p m h = record { long = refl; here = λ l. absurd (omega arith); other = λ i ne. refl }

-- the head that is stored, and that it is stored only where there is a layout
pub kept_head : (v : ℕ) (head : Option ℕ) → head_of (cond (eqb v no_total) None head) ≡ cond (eqb v no_total) 0 (head_of head)
kept_head v head = go (eqb v no_total)
  where
    go : (x : Bool) → head_of (cond x None head) ≡ cond x 0 (head_of head)
    go true = refl
    go false = refl

pub kept_marks : (B : Grid) (order : List ℕ) (a b h v m k : ℕ) → k ≡ cond (eqb v no_total) 0 h → ((v ≡ no_total → ⊥) → a < b → Marks B order (h - 1) a b m)
    → a < b → 0 < k → Marks B order (k - 1) a b m
kept_marks B order a b h v m k e marks ab = rw e (go (eqb v no_total) refl)
  where
    go : (x : Bool) → eqb v no_total ≡ x → 0 < cond x 0 h → Marks B order (cond x 0 h - 1) a b m
    go true f u = absurd (omega arith)
    go false f u = marks (eqb-false v no_total f) ab

module _ (order cs bs lo hi : List ℕ) where
  abbrev B : Grid
  B = grid_of order cs bs lo hi

  -- the rows after a are marked, and the row of a is before b
  pub record MarkedRow (hs ms : List ℕ) (a b : ℕ) : Type 0 where
    pub after : MarkedFrom order cs bs lo hi hs ms (a + 1)
    pub done : (b' : ℕ) → a < b' → b' < b → place a b' < length ms → 0 < get_or hs (place a b') 0
        → Marks B order (get_or hs (place a b') 0 - 1) a b' (get_or ms (place a b') 0)

  pub marked_start : (hs ms : List ℕ) (a : ℕ) → MarkedFrom order cs bs lo hi hs ms (a + 1) → MarkedRow hs ms a a
  marked_start hs ms a R = record { after = R; done = λ b' u v. absurd (omega arith) }

  -- a strip elsewhere is as it was
  marks_kept : (hs ms ms' : List ℕ) (p h m a b : ℕ) → place a b ≢ p → Stored ms ms' p m
      → (place a b < length ms → 0 < get_or hs (place a b) 0 → Marks B order (get_or hs (place a b) 0 - 1) a b (get_or ms (place a b) 0))
      → place a b < length ms' → 0 < get_or (set hs p h) (place a b) 0 → Marks B order (get_or (set hs p h) (place a b) 0 - 1) a b (get_or ms' (place a b) 0)
  marks_kept hs ms ms' p h m a b ne N was = rw (get_or-set_other hs p (place a b) h 0 ne, N.other (place a b) ne, N.long) was

  pub marked_step : (hs ms ms' : List ℕ) (a b h m p : ℕ) → p ≡ place a b → length order ≤ 64 → a ≤ b → b ≤ length order → length hs ≡ 2145 → Stored ms ms' p m
      → (p < length ms → a < b → 0 < h → Marks B order (h - 1) a b m) → MarkedRow hs ms a b → MarkedRow (set hs p h) ms' a (b + 1)
  marked_step hs ms ms' a b h m p e few ab bn lh N marks R = record {
    after = λ a' b' u w x. marks_kept hs ms ms' p h m a' b' (λ f. let s = place_start a' b' a b (omega arith) ab (f ∙ e) in absurd (omega arith)) N (R.after a' b' u w x);
    done = λ b' u w. ⊎_elim
        (λ (x : b ≤ b'). let f : b ≡ b' = omega arith in
        subst (λ (k : ℕ). place a k < length ms' → 0 < get_or (set hs p h) (place a k) 0 → Marks B order (get_or (set hs p h) (place a k) 0 - 1) a k (get_or ms' (place a k) 0)) f
        (here (omega arith)))
        (λ (x : b' < b). marks_kept hs ms ms' p h m a b' (λ f. let s = place_end a b' a b (omega arith) ab (f ∙ e) in absurd (omega arith)) N (R.done b' u x))
        (le_or_lt b b');
  }
    where
      here : a < b → place a b < length ms' → 0 < get_or (set hs p h) (place a b) 0 → Marks B order (get_or (set hs p h) (place a b) 0 - 1) a b (get_or ms' (place a b) 0)
      here u l = let t = corner_top b (omega arith) in
          rw (sym e, get_or-set_same hs p h 0 (omega arith), N.here (omega (arith, N.long))) (λ w. marks (omega (arith, N.long)) u w)

  pub marked_end : (hs ms : List ℕ) (a b : ℕ) → length order < b → MarkedRow hs ms a b → MarkedFrom order cs bs lo hi hs ms a
  marked_end hs ms a b h R a' b' u v w =
      ⊎_elim
      (λ (x : a' ≤ a). let e : a ≡ a' = omega arith in
      subst (λ (k : ℕ). place k b' < length ms → 0 < get_or hs (place k b') 0 → Marks B order (get_or hs (place k b') 0 - 1) k b' (get_or ms (place k b') 0)) e
      (R.done b' (omega arith) (omega arith)))
      (λ (x : a < a'). R.after a' b' (omega arith) v w)
      (le_or_lt a' a)

-- ---- the whole board

whole_count : (S : Sides) (n : ℕ) → ((j : ℕ) → S.hi j ≤ n) → (js : List ℕ) → pads_in S 0 n js ≡ length js
unfolding pads_in
whole_count S n h [] = refl
whole_count S n h (j ∷ js) =
    ap (λ (x : Bool). bit x + pads_in S 0 n js) (spans_by 0 n (S.lo j) (S.hi j) zero-le (h j)) ∙ (let more = whole_count S n h js in omega arith)

-- the first row's last cell has the best total of all pads on all ports
pub whole_best : {order cs bs lo hi hs ts : List ℕ} → Pads order lo hi (length order) → Table order cs bs lo hi hs ts
    → get_or ts (corner_of (length order)) 0 ≡ coded (strip.best (grid_of order cs bs lo hi) order 0 (length order))
unfolding best_within
whole_best {order} {cs} {bs} {lo} {hi} {hs} {ts} P T =
    let n = length order in
    let e : corner_of n + 0 ≡ corner_of n = omega arith in
    ap (λ (k : ℕ). get_or ts k 0) (sym e)
    ∙ cell_right (sides_of lo hi) (figures cs bs n) order 0 n (get_or hs (place 0 n) 0) (get_or ts (place 0 n) 0) (T.rows 0 n zero-le zero-le (omega arith)) 0 zero-le
    (whole_count (sides_of lo hi) n P.top order ∙ omega arith)
    ∙ ap (λ (l : List ℕ). coded (strip.best (grid_of order cs bs lo hi) l 0 n))
    (keep_same (fits (sides_of lo hi) 0 n) order (λ j m. spans_by 0 n (get_or lo j 0) (get_or hi j 0) zero-le (P.top j)))
