-- Laws of the numbers kept from one row to the next: the pads that lie above exactly a ports come in, one place after the other.
use mathlib.Core.Path.{◌≡◌, refl, sym, ap, ◌∙◌}
use mathlib.Core.Logic.{⊎_elim}
use mathlib.Core.List.{List, [], ◌∷◌}
use Prim.Native.Nat.{ℕ, ◌+◌, ◌≤◌, ◌<◌, zero-le}
use native.Mathlib.Omega.{arith}
use native.Mathlib.Decide.{ℕ_discrete}
use lib.Dec.{leb}
use lib.ListN.{length, drop, get_or, set, replicate, get_or-replicate, length-drop}
use lib.Seq.{get_or-set_same, get_or-set_other}
use borrow.Author.Tests.{le-leb, lt-leb}
use Rattle.pads.specs.Pads.{Sides, spans, fits, bit, pads_in}
use Rattle.heads.specs.Heads.{Tally, Tallies, Entering, EnteringAll}
use Rattle.pads.specs.Counts.{le_or_lt, spans_by, spans_not_lo, spans_not_hi, count_step, bit_le, count_end}

-- ---- one pad, in the strips from a on and from a + 1 on

bits_fresh : (a b l h : ℕ) → l ≡ a → h ≤ b → (bit (spans a b l h) ≡ 1) × (bit (spans (a + 1) b l h) ≡ 0)
bits_fresh a b l h e u = (ap bit (spans_by a b l h (omega arith) u), ap bit (spans_not_lo (a + 1) b l h (omega arith)))

bits_over : (a b l h : ℕ) → l ≡ a → b < h → bit (spans a b l h) ≡ bit (spans (a + 1) b l h)
bits_over a b l h e u = ap bit (spans_not_hi a b l h (omega arith) u ∙ sym (spans_not_lo (a + 1) b l h (omega arith)))

bits_other : (a b l h : ℕ) → (l ≡ a → ⊥) → bit (spans a b l h) ≡ bit (spans (a + 1) b l h)
bits_other a b l h ne =
    ⊎_elim
    (λ (u : a ≤ l). ⊎_elim
    (λ (v : h ≤ b). ap bit (spans_by a b l h u v ∙ sym (spans_by (a + 1) b l h (above u) v)))
    (λ (v : b < h). ap bit (spans_not_hi a b l h u v ∙ sym (spans_not_hi (a + 1) b l h (above u) v))) (le_or_lt h b))
    (λ (u : l < a). ap bit (spans_not_lo a b l h u ∙ sym (spans_not_lo (a + 1) b l h (omega arith))))
    (le_or_lt a l)
  where
    above : a ≤ l → a + 1 ≤ l
    above u = ⊎_elim (λ (v : l ≤ a). absurd (ne (omega arith))) (λ (v : a < l). omega arith) (le_or_lt l a)

-- ---- counts

count_most : (S : Sides) (a b : ℕ) (js : List ℕ) → pads_in S a b js ≤ length js
unfolding pads_in
count_most S a b [] = zero-le
count_most S a b (j ∷ js) = let m = count_most S a b js in let one = bit_le (fits S a b j) in omega arith

one_fewer : (a b l h : ℕ) → bit (spans (a + 1) b l h) ≤ bit (spans a b l h)
one_fewer a b l h = go (ℕ_discrete l a)
  where
    go : Dec (l ≡ a) → bit (spans (a + 1) b l h) ≤ bit (spans a b l h)
    go (yes e) = let z = ap bit (spans_not_lo (a + 1) b l h (omega arith)) in omega arith
    go (no n) = let e = bits_other a b l h n in omega arith

count_fewer : (S : Sides) (a b : ℕ) (js : List ℕ) → pads_in S (a + 1) b js ≤ pads_in S a b js
unfolding pads_in
count_fewer S a b [] = zero-le
count_fewer S a b (j ∷ js) = let m = count_fewer S a b js in let one = one_fewer a b (S.lo j) (S.hi j) in omega arith

count_none : (S : Sides) (a b : ℕ) → ((j : ℕ) → S.lo j < a) → (js : List ℕ) → pads_in S a b js ≡ 0
unfolding pads_in
count_none S a b h [] = refl
count_none S a b h (j ∷ js) = let z = ap bit (spans_not_lo a b (S.lo j) (S.hi j) (h j)) in let m = count_none S a b h js in omega arith

-- ---- one cell

module _ (S : Sides) (order : List ℕ) (a b k : ℕ) where
  entering_start : (m : ℕ) → k ≤ length order → m ≡ pads_in S (a + 1) b (drop k order) → Entering S order a 0 b k m
  entering_start m h e = record { placed = h; before = λ u. e; after = λ u. let z : k ≡ 0 = omega arith in let f = rw z at e in rw z (omega arith) }

  entering_end : (m : ℕ) → Entering S order a (length order) b k m → m ≡ pads_in S a b (drop k order)
  entering_end m E =
      let s = E.after E.placed in
      let z = count_end S order a b (length order) (omega arith) in
      let y = count_end S order (a + 1) b (length order) (omega arith) in omega arith

  module _ (i : ℕ) (inside : i < length order) where
    entering_step : (m m' : ℕ) → (k ≤ i → m' + bit (fits S (a + 1) b (get_or order i 0)) ≡ m + bit (fits S a b (get_or order i 0))) → (i < k → m' ≡ m)
        → Entering S order a i b k m → Entering S order a (i + 1) b k m'
    entering_step m m' up past E = record {
      placed = E.placed;
      before = λ u. past (omega arith) ∙ E.before (omega arith);
      after = λ u. ⊎_elim
          (λ (v : k ≤ i).
          let s = count_step S order a b i inside in let t = count_step S order (a + 1) b i inside in
          let old = E.after v in let new = up v in omega arith)
          (λ (v : i < k).
          let e : k ≡ i + 1 = omega arith in
          let s = ap (λ (p : ℕ). pads_in S a b (drop p order)) e in let t = ap (λ (p : ℕ). pads_in S (a + 1) b (drop p order)) e in
          let old = E.before (omega arith) in let new = past v in omega arith)
          (le_or_lt k i);
    }

    entering_small : (m : ℕ) → Entering S order a i b k m → m ≤ length order
    entering_small m E =
        ⊎_elim
        (λ (v : k ≤ i). let old = E.after v in let f = count_fewer S a b (drop i order) in let c = count_most S a b (drop k order) in let l = length-drop k order in
        omega arith)
        (λ (v : i < k). let old = E.before (omega arith) in let c = count_most S (a + 1) b (drop k order) in let l = length-drop k order in omega arith)
        (le_or_lt k i)

-- ---- all cells

-- the cells before b have the pad at place i, those from b on not yet
pub record Marking (S : Sides) (order at seen all : List ℕ) (a i b : ℕ) : Type 0 where
  pub done : (b' : ℕ) → b' ≤ length order → b' < b → Entering S order a (i + 1) b' (get_or at b' 0) (get_or seen b' 0) × Entering S order a (i + 1) b' 0 (get_or all b' 0)
  pub waiting : (b' : ℕ) → b' ≤ length order → b ≤ b' → Entering S order a i b' (get_or at b' 0) (get_or seen b' 0) × Entering S order a i b' 0 (get_or all b' 0)

module _ (S : Sides) (order : List ℕ) (a : ℕ) where
  pub enter_start : (at seen all : List ℕ) → Tallies S order at seen all (a + 1) → EnteringAll S order at seen all a 0
  enter_start at seen all T b h =
      let t = T b h in (entering_start S order a b (get_or at b 0) (get_or seen b 0) t.placed t.seen, entering_start S order a b 0 (get_or all b 0) zero-le t.all)

  pub enter_end : (at seen all : List ℕ) → EnteringAll S order at seen all a (length order) → Tallies S order at seen all a
  enter_end at seen all E b h =
      let t = E b h in
      record { placed = t.0.placed; seen = entering_end S order a b (get_or at b 0) (get_or seen b 0) t.0; all = entering_end S order a b 0 (get_or all b 0) t.1 }

  -- the pad at place i lies above another number of ports
  pub enter_other : (at seen all : List ℕ) (i : ℕ) → i < length order → (S.lo (get_or order i 0) ≡ a → ⊥) → EnteringAll S order at seen all a i
      → EnteringAll S order at seen all a (i + 1)
  enter_other at seen all i h ne E b l =
      let e = bits_other a b (S.lo (get_or order i 0)) (S.hi (get_or order i 0)) ne in (
        entering_step S order a b (get_or at b 0) i h (get_or seen b 0) (get_or seen b 0) (λ u. omega arith) (λ u. refl) (E b l).0,
        entering_step S order a b 0 i h (get_or all b 0) (get_or all b 0) (λ u. omega arith) (λ u. refl) (E b l).1,
      )

  module _ (i : ℕ) (inside : i < length order) (fresh : S.lo (get_or order i 0) ≡ a) where
    pub marking_start : (at seen all : List ℕ) → EnteringAll S order at seen all a i → Marking S order at seen all a i (S.hi (get_or order i 0))
    marking_start at seen all E = record {
      done = λ b l u.
          let e = bits_over a b (S.lo (get_or order i 0)) (S.hi (get_or order i 0)) fresh u in (
            entering_step S order a b (get_or at b 0) i inside (get_or seen b 0) (get_or seen b 0) (λ v. omega arith) (λ v. refl) (E b l).0,
            entering_step S order a b 0 i inside (get_or all b 0) (get_or all b 0) (λ v. omega arith) (λ v. refl) (E b l).1,
          );
      waiting = λ b l u. E b l;
    }

    pub marking_end : (at seen all : List ℕ) (b : ℕ) → length order < b → Marking S order at seen all a i b → EnteringAll S order at seen all a (i + 1)
    marking_end at seen all b h M b' l = M.done b' l (omega arith)

    pub marking_small : (at seen all : List ℕ) (b : ℕ) → b ≤ length order → Marking S order at seen all a i b
        → (get_or seen b 0 ≤ length order) × (get_or all b 0 ≤ length order)
    marking_small at seen all b h M =
        let e = M.waiting b h (omega arith) in
        (entering_small S order a b (get_or at b 0) i inside (get_or seen b 0) e.0, entering_small S order a b 0 i inside (get_or all b 0) e.1)

    more_seen : (b k m : ℕ) → S.hi (get_or order i 0) ≤ b → Entering S order a i b k m → Entering S order a (i + 1) b k (m + bit (leb k i))
    more_seen b k m h E =
        let e = bits_fresh a b (S.lo (get_or order i 0)) (S.hi (get_or order i 0)) fresh h in
        entering_step S order a b k i inside m (m + bit (leb k i))
        (λ u. let t = ap bit (le-leb k i u) in omega arith) (λ u. let t = ap bit (lt-leb k i u) in omega arith) E

    pub marking_step : (at seen all : List ℕ) (b s t : ℕ) → length seen ≡ 65 → length all ≡ 65 → length order ≤ 64 → b ≤ length order → S.hi (get_or order i 0) ≤ b
        → s ≡ get_or seen b 0 + bit (leb (get_or at b 0) i) → t ≡ get_or all b 0 + 1
        → Marking S order at seen all a i b → Marking S order at (set seen b s) (set all b t) a i (b + 1)
    marking_step at seen all b s t ls la few bn hb es et M = record {
      done = λ b' l u. ⊎_elim
          (λ (v : b ≤ b'). let e : b' ≡ b = omega arith in
          rw e (rw (get_or-set_same seen b s 0 (omega arith), get_or-set_same all b t 0 (omega arith)) (
            rw es (more_seen b (get_or at b 0) (get_or seen b 0) hb (M.waiting b bn (omega arith)).0),
            rw et (rw (le-leb 0 i zero-le) at (more_seen b 0 (get_or all b 0) hb (M.waiting b bn (omega arith)).1)),
          )))
          (λ (v : b' < b). rw (get_or-set_other seen b b' s 0 (λ e. omega arith), get_or-set_other all b b' t 0 (λ e. omega arith)) (M.done b' l v))
          (le_or_lt b b');
      waiting = λ b' l u. rw (get_or-set_other seen b b' s 0 (λ e. omega arith), get_or-set_other all b b' t 0 (λ e. omega arith)) (M.waiting b' l (omega arith));
    }

-- ---- between the rows

-- before the first row no pad is in
pub tallies_none : (S : Sides) (order : List ℕ) (a : ℕ) → ((j : ℕ) → S.lo j < a) → length order ≤ 64
    → Tallies S order (replicate {A = ℕ} 65 0) (replicate {A = ℕ} 65 0) (replicate {A = ℕ} 65 0) a
tallies_none S order a h few b l =
    rw (get_or-replicate {A = ℕ} 65 b 0 0 (omega arith)) (record { placed = zero-le; seen = sym (count_none S a b h order); all = sym (count_none S a b h order) })

-- another place for the strip a .. b - 1, with its number of pads
pub tallies_set : (S : Sides) (order at seen all : List ℕ) (a b k m : ℕ) → length at ≡ 65 → length seen ≡ 65 → length order ≤ 64 → b ≤ length order → k ≤ length order
    → m ≡ pads_in S a b (drop k order)
    → Tallies S order at seen all a → Tallies S order (set at b k) (set seen b m) all a
tallies_set S order at seen all a b k m la ls few bn kn e T b' l =
    ⊎_elim
    (λ (v : b ≤ b'). ⊎_elim
    (λ (w : b' ≤ b). let q : b' ≡ b = omega arith in
    rw q (rw (get_or-set_same at b k 0 (omega arith), get_or-set_same seen b m 0 (omega arith))
    (record { placed = kn; seen = e; all = (T b bn).all })))
    (λ (w : b < b'). other (λ x. omega arith)) (le_or_lt b' b))
    (λ (v : b' < b). other (λ x. omega arith))
    (le_or_lt b b')
  where
    other : (b' ≡ b → ⊥) → Tally S order a b' (get_or (set at b k) b' 0) (get_or (set seen b m) b' 0) (get_or all b' 0)
    other ne = rw (get_or-set_other at b b' k 0 ne, get_or-set_other seen b b' m 0 ne) (T b' l)
