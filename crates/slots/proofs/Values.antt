-- Totals as the work list holds them: what sums and least ones of them are.
use mathlib.Core.Path.{◌≡◌, refl, sym, ap, ap₂, ◌∙◌}
use mathlib.Core.Bool.{Bool, true, false, cond, ◌&&◌, ◌||◌, not}
use mathlib.Core.List.{List, [], ◌∷◌}
use Prim.Native.Nat.{ℕ, zero, suc, ◌+◌, ◌-◌, ◌^◌, ◌≤◌, ◌<◌, min, zero-le}
use native.Mathlib.Omega.{arith}
use lib.Dec.{leb, ltb}
use lib.ListN.{length}
use borrow.Author.Tests.{leb-true, leb-false, ltb-true, ltb-false}
use Rattle.strips.specs.Least.{Least, none, some, least}
use Rattle.pads.specs.Pads.{Sides, fits, pads_in}
use Rattle.totals.specs.Strip.{cut, parted_within, best_within, local_within}
use Rattle.pads.specs.Counts.{bit_le, spans_by, spans_not_lo, spans_not_hi}
use Rattle.totals.specs.Parted.{spans_lo, spans_hi}
use Rattle.totals.specs.Masks.{add, local_parted, local_blocked}
use Rattle.totals.specs.Totals.{Capped, most_least, coded_meet}
use Rattle.slots.specs.Slots.{no_sum, stored, figure_of, level, barred, lowest}

-- ---- small totals

pub stored_most : (o : Least) → Capped (2 ^ 61) o → stored o ≤ no_sum
stored_most none h = omega arith
stored_most (some v) h = omega arith

pub stored-plus : (x y : Least) → Capped (2 ^ 60) x → Capped (2 ^ 60) y → min no_sum (stored x + stored y) ≡ stored (add x y)
stored-plus none y p q = omega arith
stored-plus (some x) none p q = omega arith
stored-plus (some x) (some y) p q = omega arith

-- ---- the least of numbers, and of totals

pub lowest_more : (f : ℕ → ℕ) (a q : ℕ) → a ≤ q → min (lowest f a (q - a)) (f q) ≡ lowest f a (q + 1 - a)
unfolding lowest
lowest_more f a q h =
    let e : a + (q - a) ≡ q = omega arith in
    let s : q + 1 - a ≡ suc (q - a) = omega arith in
    ap (λ (i : ℕ). min (lowest f a (q - a)) (f i)) (sym e) ∙ ap (λ (i : ℕ). lowest f a i) (sym s)

pub lowest_start : (f : ℕ → ℕ) (a : ℕ) → no_sum ≡ lowest f a (a - a)
unfolding lowest
lowest_start f a = let e : a - a ≡ 0 = omega arith in ap (λ (i : ℕ). lowest f a i) (sym e)

-- The smallest of v and f q, .., f (q + 3).
abbrev pub with_four : (ℕ → ℕ) → ℕ → ℕ → ℕ
with_four f v q = min (min (min (min v (f q)) (f (q + 1))) (f (q + 2))) (f (q + 3))

-- four ports more
pub lowest_four : (f : ℕ → ℕ) (a q v : ℕ) → a ≤ q → v ≡ lowest f a (q - a) → with_four f v q ≡ lowest f a (q + 4 - a)
lowest_four f a q v h e =
    let one = lowest_more f a q h in
    let two = lowest_more f a (q + 1) (omega arith) in
    let three = lowest_more f a (q + 2) (omega arith) in
    let four = lowest_more f a (q + 3) (omega arith) in
    let b : q + 1 + 1 - a ≡ q + 2 - a = omega arith in
    let c : q + 2 + 1 - a ≡ q + 3 - a = omega arith in
    let d : q + 3 + 1 - a ≡ q + 4 - a = omega arith in
    ap (λ (x : ℕ). min (min (min (min x (f q)) (f (q + 1))) (f (q + 2))) (f (q + 3))) e
    ∙ ap (λ (x : ℕ). min (min (min x (f (q + 1))) (f (q + 2))) (f (q + 3))) one
    ∙ ap (λ (x : ℕ). min (min x (f (q + 2))) (f (q + 3))) (two ∙ ap (λ (i : ℕ). lowest f a i) b)
    ∙ ap (λ (x : ℕ). min x (f (q + 3))) (three ∙ ap (λ (i : ℕ). lowest f a i) c)
    ∙ four ∙ ap (λ (i : ℕ). lowest f a i) d

-- four ports, one after the other
pub in_four : (f : ℕ → ℕ) (v q s t u w i j k : ℕ) → s ≡ min v (f q) → t ≡ min s (f i) → u ≡ min t (f j) → w ≡ min u (f k) → i ≡ q + 1 → j ≡ q + 2 → k ≡ q + 3
    → w ≡ with_four f v q
in_four f v q s t u w i j k one two three four x y z =
    let least : ℕ → ℕ → ℕ = λ n m. min n (f m) in
    four ∙ ap₂ least (three ∙ ap₂ least (two ∙ ap₂ least one x) y) z

-- 0 stays the least
lowest_drops : (f : ℕ → ℕ) (a k m : ℕ) → lowest f a (k + m) ≤ lowest f a k
unfolding lowest
lowest_drops f a k zero = let e : k + zero ≡ k = omega arith in rw e (omega arith)
lowest_drops f a k (suc m) =
    let e : k + suc m ≡ suc (k + m) = omega arith in let t = lowest_drops f a k m in rw e (omega arith)

pub lowest_zero : (f : ℕ → ℕ) (a k m v : ℕ) → v ≡ lowest f a k → v ≡ 0 → k ≤ m → 0 ≡ lowest f a m
lowest_zero f a k m v e z h =
    let s : k + (m - k) ≡ m = omega arith in
    let t = lowest_drops f a k (m - k) in
    (let u : 0 ≡ lowest f a (k + (m - k)) = omega arith in u) ∙ ap (λ (i : ℕ). lowest f a i) s

lowest_most : (f : ℕ → ℕ) (a k : ℕ) → lowest f a k ≤ no_sum
unfolding lowest
lowest_most f a zero = omega arith
lowest_most f a (suc k) = let t = lowest_most f a k in omega arith

pub lowest_is : (F : ℕ → Least) (f : ℕ → ℕ) (a k : ℕ) → ((q : ℕ) → a ≤ q → q < a + k → min no_sum (f q) ≡ stored (F q))
    → ((q : ℕ) → a ≤ q → q < a + k → Capped (2 ^ 61) (F q)) → lowest f a k ≡ stored (least F a k)
unfolding lowest least
lowest_is F f a zero h small = refl
lowest_is F f a (suc k) h small =
    let ih = lowest_is F f a k (λ q u v. h q u (omega arith)) (λ q u v. small q u (omega arith)) in
    let here = h (a + k) (omega arith) (omega arith) in
    let most = lowest_most f a k in
    let both = coded_meet no_sum (2 ^ 61) (least F a k) (F (a + k)) (most_least (2 ^ 61) F a k (λ q u v. small q u (omega arith))) (small (a + k) (omega arith) (omega arith)) (omega arith) in
    omega arith

-- ---- figures

pub figure_cheap : (x : ℕ) → Capped (2 ^ 32) (figure_of x)
unfolding figure_of
figure_cheap x = go (ltb x 4294967296) refl
  where
    go : (t : Bool) → ltb x 4294967296 ≡ t → Capped (2 ^ 32) (cond t (some x) none)
    go true e = let h = ltb-true x 4294967296 e in omega arith
    go false e = tt

pub count-length : (S : Sides) (a b : ℕ) (js : List ℕ) → pads_in S a b js ≤ length js
unfolding pads_in
count-length S a b [] = zero-le
count-length S a b (j ∷ js) = let t = count-length S a b js in let u = bit_le (fits S a b j) in omega arith

-- ---- ports at a pad's height

module _ (S : Sides) (level-sides : (j : ℕ) → S.lo j ≤ S.hi j) (narrow : (j : ℕ) → S.hi j ≤ S.lo j + 1) (a b q : ℕ) (aq : a ≤ q) (qb : q < b) where
  cut_level : (j : ℕ) → cut (fits S a b j) (fits S a q j) (fits S (q + 1) b j) ≡ not (level S q j)
  unfolding level
  cut_level j = go (leb (S.lo j) q) (ltb q (S.hi j)) refl refl
    where
      go : (s t : Bool) → leb (S.lo j) q ≡ s → ltb q (S.hi j) ≡ t → cut (fits S a b j) (fits S a q j) (fits S (q + 1) b j) ≡ not (s && t)
      go true true d f =
          let u = leb-true (S.lo j) q d in
          let v = ltb-true q (S.hi j) f in
          let n = narrow j in
          rw (
            spans_by a b (S.lo j) (S.hi j) (omega arith) (omega arith),
            spans_not_hi a q (S.lo j) (S.hi j) (omega arith) v,
            spans_not_lo (q + 1) b (S.lo j) (S.hi j) (omega arith),
          )
      go true false d f = low (fits S a b j) refl
        where
          low : (x : Bool) → fits S a b j ≡ x → cut x (fits S a q j) (fits S (q + 1) b j) ≡ true
          low false e = refl
          low true e = rw (spans_by a q (S.lo j) (S.hi j) (spans_lo a b (S.lo j) (S.hi j) e) (ltb-false q (S.hi j) f))
      go false t d f = high (fits S a b j) refl
        where
          or_true : (x : Bool) → (x || true) ≡ true
          or_true true = refl
          or_true false = refl

          high : (x : Bool) → fits S a b j ≡ x → cut x (fits S a q j) (fits S (q + 1) b j) ≡ true
          high false e = refl
          high true e = let u = leb-false (S.lo j) q d in
              rw (spans_by (q + 1) b (S.lo j) (S.hi j) (omega arith) (spans_hi a b (S.lo j) (S.hi j) e)) (or_true (fits S a q j))

  pub parted_open : (js : List ℕ) → parted_within S a b q js ≡ not (barred S q js)
  unfolding parted_within barred
  parted_open [] = refl
  parted_open (j ∷ js) = go (level S q j) (cut_level j) (parted_open js)
    where
      go : (x : Bool) → cut (fits S a b j) (fits S a q j) (fits S (q + 1) b j) ≡ not x → parted_within S a b q js ≡ not (barred S q js)
          → (cut (fits S a b j) (fits S a q j) (fits S (q + 1) b j) && parted_within S a b q js) ≡ not (x || barred S q js)
      go true e f = rw e
      go false e f = rw (e, f)

  -- a port's total from its open figure
  pub local_open : (C : ℕ → ℕ → Least) (r : ℕ) (rest : List ℕ)
      → local_within S C r rest a b q ≡ add (add (cond (barred S q rest) none (C r q)) (best_within S C rest a q)) (best_within S C rest (q + 1) b)
  local_open C r rest = go (barred S q rest) refl
    where
      three : (x y z : Least) → add x (add y z) ≡ add (add x y) z
      three none y z = refl
      three (some x) none z = refl
      three (some x) (some y) none = refl
      three (some x) (some y) (some z) = ap some (omega arith)

      go : (t : Bool) → barred S q rest ≡ t
          → local_within S C r rest a b q ≡ add (add (cond t none (C r q)) (best_within S C rest a q)) (best_within S C rest (q + 1) b)
      go true e = local_blocked S C r rest a b q aq qb (parted_open rest ∙ ap not e)
      go false e = local_parted S C r rest a b q aq qb (parted_open rest ∙ ap not e) ∙ three (C r q) (best_within S C rest a q) (best_within S C rest (q + 1) b)
