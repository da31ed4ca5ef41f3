-- Laws of the lent buffer: the sets of ports, and the numbers of strips.
use mathlib.Core.Path.{◌≡◌, refl, ◌∙◌}
use mathlib.Core.List.{List}
use Prim.Native.Nat.{ℕ, ◌+◌, ◌*◌, ◌≤◌, ◌<◌}
use native.Mathlib.Omega.{arith}
use native.Mathlib.Decide.{ℕ_discrete, dec_lt, dec_le}
use native.Mathlib.Nat.{mul-le-mul_right}
use lib.ListN.{length, get_or, set, length-set}
use lib.Seq.{get_or-set_same, get_or-set_other}
use Rattle.strips.specs.Grid.{Grid}
use Rattle.totals.specs.Cell.{corner_of, place}
use Rattle.totals.proofs.Corners.{corner_step, corner_twice, corner_mono, corner_top, place-listed, place_end, place_start}
use Rattle.counting.specs.Counting.{limit, not_yet, Solved, Marked, SetsOf, CountOf, Countable, Numbers, EmptyKept}
use Rattle.counting.proofs.Sums.{empty_count}

-- The lent room is enough.
pub room_enough : (n : ℕ) → corner_of (n + 1) + corner_of (n + 1) ≤ 2 * ((n + 2) * (n + 2))
room_enough n =
    let t = corner_twice (n + 1) in
    let e : n + 1 + 1 ≡ n + 2 = omega arith in
    let m = mul-le-mul_right {m = n + 1} {n = n + 2} (n + 2) (omega arith) in
    let u = rw e at t in
    omega arith

-- Where the numbers begin is small, ..
pub base_few : (n : ℕ) → n ≤ 64 → corner_of (n + 1) ≤ 2145
base_few n h = omega (arith, corner_step n, corner_top n h)

-- .. and more ports need more sets.
pub ports_few : (n : ℕ) → corner_of (n + 1) ≤ 2145 → n ≤ 64
unfolding corner_of
ports_few n h = go (dec_le n 64)
  where
    go : Dec (n ≤ 64) → n ≤ 64
    go (yes l) = l
    go (no l) = let m = corner_mono 66 (n + 1) (omega arith) in absurd (omega arith)

-- ---- the sets

-- Lists with the same sets mark the same boards.
pub marked_same : {x y : List ℕ} {B : Grid} {order : List ℕ} → ((i : ℕ) → i < corner_of (length order + 1) → get_or y i 0 ≡ get_or x i 0)
    → Marked B order x → Marked B order y
marked_same {order = order} same M = record {
  listed = M.listed;
  led = λ a b l O. rw (same (place a b) (place-listed a b (length order) O.low O.high)) (M.led a b l O);
}

module _ {B : Grid} {order ms : List ℕ} (S : SetsOf B order ms) where
  pub sets_few : length ms ≤ 2145 → length order ≤ 64
  sets_few h = ports_few (length order) (omega (arith, S.long))

  pub strip_listed : {a b : ℕ} → Solved B order a b → place a b < length ms
  strip_listed {a} {b} O = omega (arith, S.long, place-listed a b (length order) O.low O.high)

-- A strip that can be counted lies among the ports, and its number is one that is told.
module _ {ms : List ℕ} {a b : ℕ} (C : Countable ms a b) where
  pub countable_low : a ≤ b
  countable_low = C.solved.low

  pub countable_listed : place a b < length ms
  countable_listed = strip_listed C.sets C.solved

  pub countable_high : length ms ≤ 2145 → b ≤ 64
  countable_high h = omega (arith, sets_few C.sets h, C.solved.high)

  pub count-told : (c : ℕ) → CountOf ms a b c → c ≤ limit + 1
  count-told c N = let O = C.solved in let e = (N C.board C.order C.sets O).is O.place O.inside O.full in omega arith

-- ---- the numbers

-- With nothing counted but the strips of no ports.
pub numbers_none : {n : ℕ} {ms blank after : List ℕ} → n ≤ 64 → length ms ≡ corner_of (n + 1) → length ms ≤ length after
    → ((k : ℕ) → k < length ms → get_or blank k 0 ≡ not_yet) → EmptyKept (n + 1) blank after → Numbers ms after
numbers_none {n} {ms} {blank} {after} few long room Z E = record {
  few = omega (arith, base_few n few);
  room = room;
  small = λ a b h k. small a b h k (dec_lt a b);
  right = λ a b h k p. right a b h k p (dec_lt a b);
  empty = λ b k. E.ones b (inside b k);
}
  where
    inside : (b : ℕ) → place b b < length ms → b < n + 1
    inside b k = go (dec_lt b (n + 1))
      where
        go : Dec (b < n + 1) → b < n + 1
        go (yes l) = l
        go (no l) = let m = corner_mono (n + 1) b (omega arith) in absurd (omega arith)

    blank_at : (a b : ℕ) → a < b → place a b < length ms → get_or after (place a b) 0 ≡ not_yet
    blank_at a b l k = E.others a b l ∙ Z (place a b) k

    small : (a b : ℕ) → a ≤ b → place a b < length ms → Dec (a < b) → get_or after (place a b) 0 ≤ not_yet
    small a b h k (yes l) = omega (arith, blank_at a b l k)
    small a b h k (no l) = let e : a ≡ b = omega arith in rw e (omega (arith, E.ones b (inside b (rw e at k))))

    right : (a b : ℕ) → a ≤ b → place a b < length ms → get_or after (place a b) 0 < not_yet → Dec (a < b) → CountOf ms a b (get_or after (place a b) 0)
    right a b h k p (yes l) = absurd (omega (arith, blank_at a b l k))
    right a b h k p (no l) = let e : a ≡ b = omega arith in rw (e, E.ones b (inside b (rw e at k))) (λ B order S O. empty_count B order b b refl)

-- A number more is kept.
module _ {ms ns : List ℕ} (a b c : ℕ) (U : Numbers ms ns) (s : a < b) (k : place a b < length ms) where
  apart : (x : ℕ) → place x x ≡ place a b → ⊥
  apart x e = let m = place_start x x a b (omega arith) (omega arith) e in let n = place_end x x a b (omega arith) (omega arith) e in omega arith

  here : get_or (set ns (place a b) c) (place a b) 0 ≡ c
  here = get_or-set_same ns (place a b) c 0 (omega (arith, U.room))

  other : (x y : ℕ) → (place x y ≡ place a b → ⊥) → get_or (set ns (place a b) c) (place x y) 0 ≡ get_or ns (place x y) 0
  other x y e = get_or-set_other ns (place a b) (place x y) c 0 e

  numbers_here : c ≤ limit + 1 → CountOf ms a b c → Numbers ms (set ns (place a b) c)
  numbers_here low N = record {
    few = U.few;
    room = omega (arith, length-set ns (place a b) c, U.room);
    small = λ x y u v. small x y u v (ℕ_discrete (place x y) (place a b));
    right = λ x y u v p. right x y u v p (ℕ_discrete (place x y) (place a b));
    empty = λ x v. other x x (apart x) ∙ U.empty x v;
  }
    where
      at_here : (x y : ℕ) → place x y ≡ place a b → get_or (set ns (place a b) c) (place x y) 0 ≡ c
      at_here x y e = rw e here

      small : (x y : ℕ) → x ≤ y → place x y < length ms → Dec (place x y ≡ place a b) → get_or (set ns (place a b) c) (place x y) 0 ≤ not_yet
      small x y u v (yes e) = omega (arith, at_here x y e)
      small x y u v (no e) = omega (arith, other x y e, U.small x y u v)

      right : (x y : ℕ) → x ≤ y → place x y < length ms → get_or (set ns (place a b) c) (place x y) 0 < not_yet → Dec (place x y ≡ place a b)
          → CountOf ms x y (get_or (set ns (place a b) c) (place x y) 0)
      right x y u v p (yes e) =
          let i = place_start x y a b u (omega arith) e in let j = place_end x y a b u (omega arith) e in
          rw (at_here x y e, i, j) N
      right x y u v p (no e) = let f = other x y e in rw f (U.right x y u v (rw f at p))

  pub numbers_more : (at : ℕ) → at ≡ place a b → c ≤ limit + 1 → CountOf ms a b c → Numbers ms (set ns at c)
  numbers_more at is low N = rw is (numbers_here low N)

-- Keeping the numbers of strips of no ports: none at first, then one more.
pub place-first : place 0 0 ≡ 0
unfolding corner_of
place-first = refl

pub empty_none : (ns : List ℕ) → EmptyKept 0 ns ns
empty_none ns = record { long = refl; ones = λ b h. absurd (omega arith); others = λ a b h. refl }

pub empty_more : (n at : ℕ) (before after : List ℕ) → at ≡ place n n → at < length before → EmptyKept n before after → EmptyKept (n + 1) before (set after at 1)
empty_more n at before after is h E = record {
  long = length-set after at 1 ∙ E.long;
  ones = λ b l. go b l (ℕ_discrete b n);
  others = λ a b l. get_or-set_other after at (place a b) 1 0 (λ e. apart a b l (omega arith)) ∙ E.others a b l;
}
  where
    apart : (a b : ℕ) → a < b → place a b ≡ place n n → ⊥
    apart a b l e = let u = place_start a b n n (omega arith) (omega arith) e in let v = place_end a b n n (omega arith) (omega arith) e in omega arith

    go : (b : ℕ) → b < n + 1 → Dec (b ≡ n) → get_or (set after at 1) (place b b) 0 ≡ 1
    go b l (yes e) = rw (e, ← is) (get_or-set_same after at 1 0 (let f = E.long in omega arith))
    go b l (no e) = get_or-set_other after at (place b b) 1 0 (λ d. e (place_end b b n n (omega arith) (omega arith) (omega arith))) ∙ E.ones b (omega arith)

-- What is kept for a strip that can be counted is its number, or that it is not counted yet; a strip of no ports is.
module _ {ms ns : List ℕ} {a b : ℕ} (U : Numbers ms ns) (C : Countable ms a b) (at : ℕ) (here : at ≡ place a b) where
  pub kept_room : at < length ns
  kept_room = omega (arith, countable_listed C, U.room)

  pub kept_small : get_or ns at 0 ≤ not_yet
  kept_small = rw here (U.small a b C.solved.low (countable_listed C))

  pub kept_count : get_or ns at 0 < not_yet → CountOf ms a b (get_or ns at 0)
  kept_count p = rw here (U.right a b C.solved.low (countable_listed C) (rw here at p))

  pub kept_none : get_or ns at 0 ≡ not_yet → a < b
  kept_none p = go (dec_lt a b)
    where
      inside : place a b < length ms
      inside = countable_listed C

      go : Dec (a < b) → a < b
      go (yes l) = l
      go (no l) = let e : a ≡ b = omega (arith, countable_low C) in let z = rw (here, e) at p in let k : place b b < length ms = rw e at inside in absurd (omega (arith, U.empty b k))
