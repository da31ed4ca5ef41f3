-- Laws of counting a strip, on every board that the sets of ports mark.
use mathlib.Core.Path.{◌≡◌, refl}
use mathlib.Core.List.{List}
use Prim.Native.Nat.{ℕ, ◌+◌, ◌-◌, ◌*◌, ◌≤◌, ◌<◌}
use native.Mathlib.Omega.{arith}
use native.Mathlib.Nat.{mul-le-mul}
use lib.Bits.{bit_and}
use lib.Count.{count_trailing_zeros}
use lib.ListN.{length, get_or}
use Rattle.std.specs.Prelude.{Some}
use Rattle.strips.specs.Grid.{Grid}
use Rattle.totals.specs.Cell.{place, Leads}
use Rattle.counting.specs.Counting.{limit, capped, not_yet, FirstPort, Solved, Led, SetsOf, CountOf, Countable, Numbers}
use Rattle.counting.proofs.Strips.{solved_below, solved_above}
use Rattle.counting.proofs.Sums.{Summing, summing_none, next_from, next_leads, summing_more, summing_done, summing_most}
use Rattle.counting.proofs.Buffers.{sets_few, kept_small, kept_count}

-- What the loop over a strip's ports has, with those below `at` behind.
abbrev pub Sums : List ℕ → ℕ → ℕ → ℕ → ℕ → ℕ → Type 0
Sums ms a b at rest sum =
    (B : Grid) (order : List ℕ) (T : SetsOf B order ms) (O : Solved B order a b) (l : a < b)
    → let L = T.marked.led a b l O in Summing B order L.head a b L.marks.picks at rest sum

at_most_64 : {a b : ℕ} {B : Grid} {order ms : List ℕ} → length ms ≤ 2145 → SetsOf B order ms → Solved B order a b → b ≤ 64
at_most_64 few T O = omega (arith, sets_few T few, O.high)

module _ {ms : List ℕ} {a b : ℕ} (few : length ms ≤ 2145) (some-port : a < b) where
  pub sums_none : (m : ℕ) → m ≡ get_or ms (place a b) 0 → Sums ms a b 0 m 0
  sums_none m is B order T O l =
      let L = T.marked.led a b l O in
      rw is (summing_none T.marked.listed L.head a b L.full L.marks (at_most_64 few T O))

  module _ (at rest sum : ℕ) (S : Sums ms a b at rest sum) where
    pub sums_done : rest ≡ 0 → CountOf ms a b (capped sum)
    sums_done z B order T O =
        let L = T.marked.led a b some-port O in
        summing_done T.marked.listed L.head a b L.full L.marks (at_most_64 few T O) at rest sum (S B order T O some-port) z

    pub sums_most : limit + 1 ≤ sum → CountOf ms a b (capped sum)
    sums_most h B order T O =
        let L = T.marked.led a b some-port O in
        summing_most T.marked.listed L.head a b L.full L.marks (at_most_64 few T O) at rest sum (S B order T O some-port) h

    -- The next port, of a strip that can be counted.
    module _ (left : rest ≡ 0 → ⊥) where
      abbrev q : ℕ
      q = count_trailing_zeros 64 rest

      port : {B : Grid} {order : List ℕ} (T : SetsOf B order ms) (O : Solved B order a b) → Leads B order (T.marked.led a b some-port O).head a b q
      port {B} {order} T O =
          let L = T.marked.led a b some-port O in
          next_leads T.marked.listed L.head a b L.full L.marks (at_most_64 few T O) at rest sum (S B order T O some-port) left

      module _ (C : Countable ms a b) where
        abbrev led : Led C.board C.order a b (get_or ms (place a b) 0)
        led = C.sets.marked.led a b some-port C.solved

        pub port_from : at ≤ q
        port_from = next_from C.sets.marked.listed led.head a b led.full led.marks (at_most_64 few C.sets C.solved) at rest sum
            (S C.board C.order C.sets C.solved some-port) left

        pub port_low : a ≤ q
        port_low = (port C.sets C.solved).low

        pub port_high : q < b
        port_high = (port C.sets C.solved).high

        pub part_below : Countable ms a q
        part_below = record {
          board = C.board;
          order = C.order;
          sets = C.sets;
          solved = solved_below C.sets.marked.listed.lawful led.head a b led.full q (port C.sets C.solved);
        }

        pub part_above : Countable ms (q + 1) b
        part_above = record {
          board = C.board;
          order = C.order;
          sets = C.sets;
          solved = solved_above C.sets.marked.listed.lawful led.head a b led.full q (port C.sets C.solved);
        }

      pub sums_more : (u v sum' : ℕ) → CountOf ms a q u → CountOf ms (q + 1) b v → capped sum' ≡ capped (sum + u * v)
          → Sums ms a b (q + 1) (bit_and rest (rest - 1)) sum'
      sums_more u v sum' M' N' is B order T O l =
          let L = T.marked.led a b l O in
          let X = S B order T O l in
          let K = next_leads T.marked.listed L.head a b L.full L.marks (at_most_64 few T O) at rest sum X left in
          summing_more T.marked.listed L.head a b L.full L.marks (at_most_64 few T O) at rest sum X left u v sum'
          (M' B order T (solved_below T.marked.listed.lawful L.head a b L.full q K))
          (N' B order T (solved_above T.marked.listed.lawful L.head a b L.full q K)) is

-- ---- the sum stays small

-- The product of two numbers that have less than 400,000,000 together.
pub small_product : (u v : ℕ) → u + v < 400000000 → u * v ≤ 160000000000000000
small_product u v h =
    let x : u ≤ 400000000 = omega arith in
    let y : v ≤ 400000000 = omega arith in
    mul-le-mul x y

-- What holds when the loop is at its head, of the sets and the numbers that the buffer has.
pub record Round (ms : List ℕ) (a b : ℕ) (ns : List ℕ) (rest sum : ℕ) : Type 0 where
  pub at : ℕ
  pub low : at ≤ 64
  pub fits : sum ≤ limit + 1 + at * 160000000000000000
  pub sums : Sums ms a b at rest sum
  pub right : Numbers ms ns

pub round_none : {ms ns : List ℕ} {a b : ℕ} (m : ℕ) → Numbers ms ns → a < b → m ≡ get_or ms (place a b) 0 → Round ms a b ns m 0
round_none m U l is = record { at = 0; low = omega arith; fits = omega arith; sums = sums_none U.few l m is; right = U }

-- In a turn of the loop the next port is q: its parts can be counted.
module _ {ms : List ℕ} {a b : ℕ} {ns : List ℕ} {set sum q rest : ℕ} (R : Round ms a b ns set sum) (l : a < b) (C : Countable ms a b)
    (next : FirstPort set (Some q) rest) where
  few : length ms ≤ 2145
  few = R.right.few

  pub round_low : a ≤ q
  round_low = rw next.1 (port_low few l R.at set sum R.sums next.0 C)

  pub round_high : q < b
  round_high = rw next.1 (port_high few l R.at set sum R.sums next.0 C)

  pub round_below : Countable ms a q
  round_below = rw next.1 (part_below few l R.at set sum R.sums next.0 C)

  pub round_above : Countable ms (q + 1) b
  round_above = rw next.1 (part_above few l R.at set sum R.sums next.0 C)

  -- The sum with it, ..
  module _ (u v : ℕ) (M : CountOf ms a q u) (N : CountOf ms (q + 1) b v) where
    sums_then : (sum' : ℕ) → capped sum' ≡ capped (sum + u * v) → Sums ms a b (q + 1) rest sum'
    sums_then sum' is = rw (next.1, next.2) (sums_more few l R.at set sum R.sums next.0 u v sum' (rw next.1 at M) (rw next.1 at N) is)

    -- .. up to the limit, ..
    pub round_large : (after : List ℕ) → Numbers ms after → Round ms a b after rest (capped (capped sum + capped (u * v)))
    round_large after U = record {
      at = q + 1;
      low = omega (arith, round_high, at_most_64 few C.sets C.solved);
      fits = omega arith;
      sums = sums_then (capped (capped sum + capped (u * v))) (omega arith);
      right = U;
    }

  -- .. or in one step, where the numbers read for its parts are small.
  module _ (i j : ℕ) (at-i : i ≡ place a q) (at-j : j ≡ place (q + 1) b) where
    pub round_both : get_or ns i 0 + get_or ns j 0 ≤ not_yet + not_yet
    round_both = omega (arith, kept_small R.right round_below i at-i, kept_small R.right round_above j at-j)

    module _ (small : get_or ns i 0 + get_or ns j 0 < 400000000) where
      below_is : CountOf ms a q (get_or ns i 0)
      below_is = kept_count R.right round_below i at-i (omega arith)

      above_is : CountOf ms (q + 1) b (get_or ns j 0)
      above_is = kept_count R.right round_above j at-j (omega arith)

      fits : sum + get_or ns i 0 * get_or ns j 0 ≤ limit + 1 + (q + 1) * 160000000000000000
      fits =
          let f : R.at ≤ q = rw next.1 (port_from few l R.at set sum R.sums next.0 C) in
          omega (arith, small_product (get_or ns i 0) (get_or ns j 0) small, R.fits)

      high : q + 1 ≤ 64
      high = omega (arith, round_high, at_most_64 few C.sets C.solved)

      pub round_fits : sum + get_or ns i 0 * get_or ns j 0 ≤ limit + 1 + 64 * 160000000000000000
      round_fits = omega (arith, fits, high)

      pub round_small : Round ms a b ns rest (sum + get_or ns i 0 * get_or ns j 0)
      round_small = record {
        at = q + 1;
        low = high;
        fits = fits;
        sums = sums_then (get_or ns i 0) (get_or ns j 0) below_is above_is (sum + get_or ns i 0 * get_or ns j 0) refl;
        right = R.right;
      }

-- After the loop: all ports are behind, or the sum is above the limit.
module _ {ms : List ℕ} {a b : ℕ} {ns : List ℕ} {rest sum : ℕ} (R : Round ms a b ns rest sum) (l : a < b) where
  pub round_done : rest ≡ 0 → CountOf ms a b (capped sum)
  round_done z = sums_done R.right.few l R.at rest sum R.sums z

  pub round_most : limit + 1 ≤ sum → CountOf ms a b (capped sum)
  round_most h = sums_most R.right.few l R.at rest sum R.sums h
