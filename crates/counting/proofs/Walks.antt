-- Laws of the way to a place: the port on which it falls, pad by pad.
use mathlib.Core.Path.{◌≡◌, refl, sym, ap, ◌∙◌, subst}
use mathlib.Core.Bool.{Bool, true, false}
use mathlib.Core.List.Memᴰ
use mathlib.Core.List.{List, [], ◌∷◌, ◌++◌, Memᴰ}
use Prim.Native.Nat.{ℕ, zero, ◌+◌, ◌-◌, ◌*◌, ◌/◌, ◌%◌, ◌≤◌, ◌<◌, zero-le}
use native.Mathlib.Omega.{arith}
use native.Mathlib.Decide.{dec_lt}
use native.Mathlib.Nat.{mod-eq_of_lt, le-mul_of_pos_right, mul_comm, mul-zero, zero-mul, div-eq_of_eq-mul_left}
use Rattle.std.specs.Prelude.{Some}
use lib.Bits.{bit_and}
use lib.Count.{count_trailing_zeros}
use lib.ListN.{length, get_or, take, drop, set, drop_of_length-le}
use lib.Seq.{take_all}
use Rattle.numbers.specs.Kept.{KeptFrom}
use Rattle.numbers.proofs.Kept.{kept_all}
use Rattle.numbers.specs.Sets.{set_of, NextIn}
use Rattle.numbers.proofs.Sets.{set_none, set_gone, set_next}
use Rattle.strips.specs.Lists.{keep, Distinct}
use Rattle.strips.proofs.Lists.{nil_all}
use Rattle.strips.specs.Least.{Least, some}
use Rattle.strips.specs.Grid.{Grid, best, BestIn}
use Rattle.strips.proofs.Strips.{best_cong}
use Rattle.strips.specs.Prefix.{floor, ceil, lies}
use Rattle.strips.proofs.Prefix.{strip-same, floor_most, ceil-least, ceil_le}
use Rattle.strips.specs.Order.{SameOn}
use Rattle.strips.specs.FirstNext.{Listed, Optimal}
use Rattle.strips.proofs.FirstNext.{around, take_more, extends_start, extends_choice, extends_more, extends_full, best_optimal}
use Rattle.strips.specs.ByPlace.{sum_to}
use Rattle.strips.proofs.ByPlace.{place_mem}
use Rattle.ways.specs.Tree.{ways}
use Rattle.ways.proofs.Tree.{sum_cong, sum_mono, sum-skip, sum_none, sum_more, ways_nil, ways_cons, ways_cong}
use Rattle.ways.specs.Tree.{ways_at, rank}
use Rattle.ways.proofs.Tree.{ways_at_cong, ways_at_self, rank_nil, rank_cons}
use Rattle.ways.specs.Count.{may_take, many, many_at, Share}
use Rattle.ways.proofs.Count.{looks, choice_yes, share}
use Rattle.ways.proofs.Ranks.{rank-place}
use Rattle.pads.specs.Pads.{Pads}
use Rattle.pads.specs.Sides.{square_pads}
use Rattle.pads.specs.Counts.{drop_at}
use Rattle.numbers.specs.Arrangement.{Arrangement}
use Rattle.totals.specs.Cell.{place, FullFrom, Leads, Marks}
use Rattle.places.specs.Places.{port_in, Placed, Entered, Lowest, Highest}
use Rattle.places.proofs.Ports.{entered_more, low_floor, high_ceil}
use Rattle.choices.specs.Source.{source}
use Rattle.choices.specs.Choices.{ProperLists}
use Rattle.choices.proofs.Choosing.{lows}
use Rattle.choices.proofs.Stores.{store_here, store_other, store_before, store_kept}
use Rattle.pads.specs.declared.Lists.{Lists}
use Rattle.counting.specs.declared.Picked.{Picked}
use Rattle.counting.specs.Counting.{limit, capped, FirstPort, ProperBoard, costed, Solvable, number_at, number_with, Solved, StripCount, CountOf, Countable, Site, Pickable}
use Rattle.counting.specs.Counting.{Begun, ways_from, ways_with, PickedIs, Choosable, ChosenIs, Walkable, Placeable, WalkIs}
use Rattle.counting.proofs.Strips.{full_here, full_length, solved_below, solved_above, marks_at}
use Rattle.counting.proofs.Buffers.{sets_few}
use Rattle.counting.proofs.Sums.{number_none, number-capped}
use Rattle.counting.proofs.Whole.{some_best}

-- ---- one strip: the ports in rising order

-- What the loop over the ports has, of place k, with those below `at` behind and a set of others left.
pub record Picking (B : Grid) (order : List ℕ) (m a b others k : ℕ) (picks : ℕ → Bool) (at left rest : ℕ) : Type 0 where
  pub high : at ≤ b
  pub left_is : left + set_of picks at ≡ set_of picks b
  pub passed : k ≡ sum_to (number_with B order m a b others) at + rest

module _ {B : Grid} {order : List ℕ} (L : Listed B (length order) order) (m a b : ℕ) (R : FullFrom B order m a b) (others k : ℕ) where
  abbrev F : ℕ → ℕ
  F = number_at B order m a b

  abbrev G : ℕ → ℕ
  G = number_with B order m a b others

  none_at : (q : ℕ) → (Leads B order m a b q → ⊥) → G q ≡ 0
  none_at q h = ap (others *◌) (number_none L m a b R q h) ∙ mul-zero others

  module _ (pos : 0 < others) (few : sum_to G b ≤ limit) where
    at_most : (q : ℕ) → q < b → G q ≤ limit
    at_most q h = omega (arith, sum_mono G q b h)

    -- The numbers of the parts are below the limit here, and so exact.
    exact : (q u v : ℕ) → q < b → Leads B order m a b q → StripCount B order a q u → StripCount B order (q + 1) b v → u * v ≡ F q
    exact q u v h l M N =
        let e = number-capped L m a b R q u v l M N in
        let g = le-mul_of_pos_right (F q) pos in
        let x = mul_comm (F q) others in
        omega (arith, at_most q h)

    exact_few : (q u v : ℕ) → q < b → Leads B order m a b q → StripCount B order a q u → StripCount B order (q + 1) b v
        → (u * v ≤ limit) × (others * (u * v) ≤ limit)
    exact_few q u v h l M N =
        let e = exact q u v h l M N in
        let g = le-mul_of_pos_right (F q) pos in
        let x = mul_comm (F q) others in
        (omega (arith, at_most q h), rw e (at_most q h))

  module _ {x : ℕ} (K : Marks B order m a b x) (b64 : b ≤ 64) where
    abbrev picks : ℕ → Bool
    picks = K.picks

    pub picking_none : Picking B order m a b others k picks 0 x k
    picking_none = record {
      high = zero-le;
      left_is = let z = set_none picks 0 (λ q u. absurd (omega arith)) in let e = K.set in omega arith;
      passed = let e = sum_none G in omega arith;
    }

    module _ (at left rest : ℕ) (S : Picking B order m a b others k picks at left rest) where
      nothing : (i : ℕ) → i < b → picks i ≡ false → G i ≡ 0
      nothing i u e = none_at i ((K.says i u).no e)

      -- The ports do not run out before place k.
      pub picking_never : left ≡ 0 → k < sum_to G b → ⊥
      picking_never z h =
          let t = sum-skip G at b S.high (λ i u v. nothing i v (set_gone picks at b left S.high b64 S.left_is z i u v)) in
          omega (arith, S.passed)

      -- The next port.
      module _ (some_left : left ≡ 0 → ⊥) where
        abbrev q : ℕ
        q = count_trailing_zeros 64 left

        first : NextIn picks at b q
        first = (set_next picks at b left S.high b64 S.left_is some_left).0

        pub picking_leads : Leads B order m a b q
        picking_leads = (K.says q first.below).yes first.picked

        skip : sum_to G q ≡ sum_to G at
        skip = sum-skip G at q first.from (λ i u v. nothing i (let z = first.below in omega arith) (first.passed i u v))

        module _ (pos : 0 < others) (few : sum_to G b ≤ limit) (u v : ℕ) (M : StripCount B order a q u) (N : StripCount B order (q + 1) b v) where
          pub picking_few : (u * v ≤ limit) × (others * (u * v) ≤ limit)
          picking_few = exact_few pos few q u v first.below picking_leads M N

          pub picking_found : rest < others * (u * v) → PickedIs B order m a b others k (record { port = q; rest = rest; ways = others * (u * v) })
          picking_found l = record {
            leads = picking_leads;
            falls = record {
              passed = let e = skip in omega (arith, S.passed);
              count = ap (others *◌) (exact pos few q u v first.below picking_leads M N);
              small = l;
            };
          }

          pub picking_more : others * (u * v) ≤ rest → Picking B order m a b others k picks (q + 1) (bit_and left (left - 1)) (rest - others * (u * v))
          picking_more l = record {
            high = let z = first.below in omega arith;
            left_is = (set_next picks at b left S.high b64 S.left_is some_left).1;
            passed =
                let e = ap (others *◌) (exact pos few q u v first.below picking_leads M N) in
                let t = skip in
                omega (arith, S.passed, sum_more G q);
          }

-- What holds of a pad's site when the loop over its ports is at its head.
pub record Choosing (ms : List ℕ) (a b others k : ℕ) (s : Site) (left rest : ℕ) : Type 0 where
  pub marks : Marks s.board s.order s.place a b (get_or ms (place a b) 0)
  pub at : ℕ
  pub picking : Picking s.board s.order s.place a b others k marks.picks at left rest

pub pickable_countable : {ms : List ℕ} {a b others k : ℕ} {s : Site} → Pickable ms a b others k s → Countable ms a b
pickable_countable {s = s} P = record { board = s.board; order = s.order; sets = P.sets; solved = P.solved }

module _ {ms : List ℕ} {a b others k : ℕ} {s : Site} (P : Pickable ms a b others k s) (few : length ms ≤ 2145) where
  abbrev L : Listed s.board (length s.order) s.order
  L = P.sets.marked.listed

  b64 : b ≤ 64
  b64 = omega (arith, sets_few P.sets few, P.full.ports)

  pub choosing_none : (left : ℕ) → left ≡ get_or ms (place a b) 0 → Choosing ms a b others k s left k
  choosing_none left is = let marks = marks_at s.place a b P.full (P.sets.marked.led a b (omega (arith, P.full.full)) P.solved) in record {
    marks = marks;
    at = 0;
    picking = rw is (picking_none L s.place a b P.full others k marks b64);
  }

  module _ {left rest : ℕ} (R : Choosing ms a b others k s left rest) where
    -- The ports do not run out before place k.
    pub choosing_never : left ≡ 0 → ⊥
    choosing_never z = picking_never L s.place a b P.full others k R.marks b64 R.at left rest R.picking z P.inside

    -- The next port leads the pad, and its parts can be counted.
    module _ {q left' : ℕ} (next : FirstPort left (Some q) left') where
      leads : Leads s.board s.order s.place a b q
      leads = rw next.1 (picking_leads L s.place a b P.full others k R.marks b64 R.at left rest R.picking next.0)

      solved_low : Solved s.board s.order a q
      solved_low = solved_below L.lawful s.place a b P.full q leads

      solved_high : Solved s.board s.order (q + 1) b
      solved_high = solved_above L.lawful s.place a b P.full q leads

      pub choosing_below : Countable ms a q
      choosing_below = record { board = s.board; order = s.order; sets = P.sets; solved = solved_low }

      pub choosing_above : Countable ms (q + 1) b
      choosing_above = record { board = s.board; order = s.order; sets = P.sets; solved = solved_high }

      -- With both numbers: ..
      module _ (u v : ℕ) (U : CountOf ms a q u) (V : CountOf ms (q + 1) b v) where
        under_is : StripCount s.board s.order a (count_trailing_zeros 64 left) u
        under_is = rw next.1 at (U s.board s.order P.sets solved_low)

        over_is : StripCount s.board s.order (count_trailing_zeros 64 left + 1) b v
        over_is = rw next.1 at (V s.board s.order P.sets solved_high)

        -- .. their product is small, ..
        pub choosing_few : (u * v ≤ limit) × (others * (u * v) ≤ limit)
        choosing_few = picking_few L s.place a b P.full others k R.marks b64 R.at left rest R.picking next.0 P.some P.few u v under_is over_is

        -- .. and place k falls on this port, or after it.
        pub choosing_found : rest < others * (u * v)
            → PickedIs s.board s.order s.place a b others k (record { port = q; rest = rest; ways = others * (u * v) })
        choosing_found h = rw next.1 (picking_found L s.place a b P.full others k R.marks b64 R.at left rest R.picking next.0 P.some P.few u v under_is over_is h)

        pub choosing_more : others * (u * v) ≤ rest → Choosing ms a b others k s left' (rest - others * (u * v))
        choosing_more h = record {
          marks = R.marks;
          at = count_trailing_zeros 64 left + 1;
          picking = rw next.2
              (picking_more L s.place a b P.full others k R.marks b64 R.at left rest R.picking next.0 P.some P.few u v under_is over_is h);
        }

-- ---- the strip of the next pad

module _ {B : Grid} {order : List ℕ} (L : Listed B (length order) order) (w : List ℕ) (m : ℕ) (inside : m < length order) (E : Begun B order w m) (a b : ℕ)
    (ea : a ≡ floor (port_in w) (B.lo (get_or order m 0)) (take m order) 0) (eb : b ≡ ceil (port_in w) (B.hi (get_or order m 0)) (take m order) (length order)) where
  abbrev n : ℕ
  n = length order

  abbrev j : ℕ
  j = get_or order m 0

  abbrev todo : List ℕ
  todo = drop (m + 1) order

  pub next_full : FullFrom B order m a b
  next_full = rw (ea, eb) (record {
    ports = ceil_le (port_in w) (B.hi j) (take m order) n;
    listed = inside;
    here = record {
      low = floor_most (port_in w) (B.lo j) (take m order) 0 (B.lo j) zero-le (λ i t k. k);
      high = ceil-least (port_in w) (B.hi j) (take m order) n (B.hi j) (L.lie j (place_mem order m inside)).high (λ i t k. k);
    };
    full = extends_full B n order L m inside (port_in w) refl E;
  })

  next_leads : Leads B order m a b (E.layout (get_or order m 0))
  next_leads = rw (ea, eb) (extends_choice B n order L m inside (port_in w) E)

  pub next_solved : Solved B order a b
  next_solved = record {
    low = let l = next_leads.low in let h = next_leads.high in omega arith;
    high = next_full.ports;
    place = m;
    inside = omega arith;
    full = full_length B order m a b next_full;
    total = next_leads.total;
    least = ap (λ (js : List ℕ). best B js a b) (full_here B order m a b next_full) ∙ next_leads.whole;
  }

  shared : Share B L.lawful n (take m order) j todo 0 n E.layout
  shared = share B L.lawful n (take m order) j todo 0 n E.layout
      (subst Distinct (around order m inside) L.distinct)
      (λ k t. L.lie k (subst (Memᴰ k) (sym (around order m inside)) (Memᴰ.append_right (take m order) (Memᴰ.tail t))))
      (subst (λ (xs : List ℕ). BestIn B xs 0 n E.layout) (around order m inside) E.best)

  -- Each layout of the strip goes with so many of the rest.
  others : ℕ
  others = shared.others

  back : SameOn (take m order) (port_in w) E.layout
  back i t = sym (E.same i t)

  each : (q : ℕ) → ways_with B order w m q ≡ others * number_at B order m a b q
  unfolding others
  each q =
      ways_at_cong n (may_take B 0 n) (looks B 0 n) (port_in w) E.layout (take m order) j todo q back
      ∙ shared.each q
      ∙ ap (others *◌) (strip-same B (many_at B n q j) E.layout (port_in w) (take m order) j todo 0 n E.same
      ∙ (λ i. many_at B n q j (keep (lies B (sym ea i) (sym eb i)) todo) (sym ea i) (sym eb i)))

  all : ways_from B order w m ≡ others * many B n (j ∷ keep (lies B a b) todo) a b
  unfolding others
  all =
      ap (λ (xs : List ℕ). ways n (may_take B 0 n) (port_in w) (take m order) xs) (drop_at order m inside)
      ∙ ways_cong n (may_take B 0 n) (looks B 0 n) (port_in w) E.layout (take m order) (j ∷ todo) back
      ∙ shared.all
      ∙ ap (others *◌) (strip-same B (λ pads c d. many B n (j ∷ pads) c d) E.layout (port_in w) (take m order) j todo 0 n E.same
      ∙ (λ i. many B n (j ∷ keep (lies B (sym ea i) (sym eb i)) todo) (sym ea i) (sym eb i)))

  -- What the code has of it.
  module _ (all_ways here : ℕ) (is : all_ways ≡ ways_from B order w m) (some-way : 0 < all_ways) (few : all_ways ≤ limit) (N : StripCount B order a b here) where
    abbrev strip : ℕ
    strip = many B n (j ∷ keep (lies B a b) todo) a b

    whole : all_ways ≡ others * strip
    whole = is ∙ all

    others_pos : 0 < others
    others_pos = go (dec_lt 0 others)
      where
        go : Dec (0 < others) → 0 < others
        go (yes h) = h
        go (no h) = let e : others ≡ 0 = omega arith in let z = ap (◌* strip) e in let y = zero-mul strip in absurd (omega (arith, whole))

    strip_pos : 0 < strip
    strip_pos = go (dec_lt 0 strip)
      where
        go : Dec (0 < strip) → 0 < strip
        go (yes h) = h
        go (no h) = let e : strip ≡ 0 = omega arith in let z = ap (others *◌) e in let y = mul-zero others in absurd (omega (arith, whole))

    here_is : here ≡ strip
    here_is =
        let t = N.is m (omega arith) (full_length B order m a b next_full) ∙ ap (λ (js : List ℕ). capped (many B n js a b)) (full_here B order m a b next_full) in
        let l = le-mul_of_pos_right strip others_pos in
        let x = mul_comm strip others in
        omega (arith, whole)

    pub here_some : 0 < here
    here_some = omega (arith, here_is, strip_pos)

    others_are : all_ways / here ≡ others
    others_are = div-eq_of_eq-mul_left {n = here} {m = all_ways} {k = others} here_some (whole ∙ ap (others *◌) (sym here_is))

    pub others_some : 0 < all_ways / here
    others_some = omega (arith, others_are, others_pos)

    with_each : (q : ℕ) → ways_with B order w m q ≡ all_ways / here * number_at B order m a b q
    with_each q = each q ∙ ap (◌* number_at B order m a b q) (sym others_are)

    pub with_all : sum_to (number_with B order m a b (all_ways / here)) b ≡ all_ways
    with_all =
        sym (sum-skip (number_with B order m a b (all_ways / here)) b n next_full.ports (λ i u v. nothing i u))
        ∙ sum_cong (λ q. sym (with_each q)) n
        ∙ sym (ways_cons n (may_take B 0 n) (port_in w) (take m order) j todo)
        ∙ ap (λ (xs : List ℕ). ways n (may_take B 0 n) (port_in w) (take m order) xs) (sym (drop_at order m inside))
        ∙ sym is
      where
        nothing : (i : ℕ) → b ≤ i → all_ways / here * number_at B order m a b i ≡ 0
        nothing i u = ap (all_ways / here *◌) (number_none L m a b next_full i (λ l. omega (arith, l.high))) ∙ mul-zero (all_ways / here)

    pub chosen_is : (k : ℕ) (r : Picked) → PickedIs B order m a b (all_ways / here) k r → ChosenIs B order w m k r
    chosen_is k r S = record {
      leads = rw (ea, eb) at S.leads;
      falls = record {
        passed = S.falls.passed ∙ ap (◌+ r.rest) (sum_cong (λ q. sym (with_each q)) r.port);
        count = S.falls.count ∙ sym (with_each r.port);
        small = S.falls.small;
      };
    }

-- The strip of the pad at place m begins at port a and ends before port b.
pub record StripAt (l : Lists) (w : List ℕ) (m a b : ℕ) : Type 0 where
  pub inside : m < length l.order.now
  pub low : a ≡ floor (port_in w) (get_or l.lo.now (get_or l.order.now m 0) 0) (take m l.order.now) 0
  pub high : b ≡ ceil (port_in w) (get_or l.hi.now (get_or l.order.now m 0) 0) (take m l.order.now) (length l.order.now)

pub strip_at : {l : Lists} → ProperBoard l → {w at : List ℕ} (m : ℕ) → m < length l.order.now → Placed l.order.now w m at → (a b : ℕ)
    → Lowest at m (get_or l.lo.now (get_or l.order.now m 0) 0) a → Highest at m (get_or l.hi.now (get_or l.order.now m 0) 0) (length l.order.now) b → StripAt l w m a b
strip_at {l} P m inside placed a b low high =
    let Q = square_pads l P.square in record {
      inside = inside;
      low = low_floor m placed (omega arith) _ _ (omega (arith, lows Q (get_or l.order.now m 0), Q.few)) low;
      high = high_ceil m placed (omega arith) _ _ _ (omega (arith, Q.few)) high;
    }

module _ {l : Lists} {w : List ℕ} {m a b : ℕ} (S : StripAt l w m a b) {C : ℕ → ℕ → Least} {ms : List ℕ} {all_ways : ℕ} (X : Choosable l C ms w m all_ways) where
  strip_solved : Solved (costed l C) l.order.now a b
  strip_solved = next_solved X.sets.marked.listed w m S.inside X.begun a b S.low S.high

  pub choosing_countable : Countable ms a b
  choosing_countable = record { board = _; order = l.order.now; sets = X.sets; solved = strip_solved }

  module _ (here : ℕ) (N : CountOf ms a b here) (k : ℕ) (few : all_ways ≤ limit) (below : k < all_ways) where
    strip_count : StripCount (costed l C) l.order.now a b here
    strip_count = N (costed l C) l.order.now X.sets strip_solved

    pub choosing_some : 0 < here
    choosing_some = here_some X.sets.marked.listed w m S.inside X.begun a b S.low S.high all_ways here X.all (omega arith) few strip_count

    pub choosing_pickable : Pickable ms a b (all_ways / here) k (record { board = costed l C; order = l.order.now; place = m })
    choosing_pickable =
        let t = with_all X.sets.marked.listed w m S.inside X.begun a b S.low S.high all_ways here X.all (omega arith) few strip_count in record {
          sets = X.sets;
          full = next_full X.sets.marked.listed w m S.inside X.begun a b S.low S.high;
          solved = strip_solved;
          some = others_some X.sets.marked.listed w m S.inside X.begun a b S.low S.high all_ways here X.all (omega arith) few strip_count;
          inside = omega arith;
          few = omega arith;
        }

    pub choosing_chosen : (r : Picked) → PickedIs (costed l C) l.order.now m a b (all_ways / here) k r → ChosenIs (costed l C) l.order.now w m k r
    choosing_chosen r T = chosen_is X.sets.marked.listed w m S.inside X.begun a b S.low S.high all_ways here X.all (omega arith) few strip_count k r T

-- ---- from pad to pad

-- What the walk to place k has when it comes to place m: of the layouts with the ports of w so far, of which there are `ways`, it wants the one at place `rest`.
pub record Walking (B : Grid) (order w₀ : List ℕ) (k : ℕ) (w : List ℕ) (m ways rest : ℕ) : Type 0 where
  pub inside : m ≤ length order
  pub kept : KeptFrom (length order) w₀ w
  pub begun : Begun B order w m
  pub count : ways ≡ ways_from B order w m
  pub few : ways ≤ limit
  pub small : rest < ways
  pub place : (f : ℕ → ℕ) → SameOn (take m order) (port_in w) f
      → rank (length order) (may_take B 0 (length order)) f [] order + rest ≡ k + rank (length order) (may_take B 0 (length order)) f (take m order) (drop m order)

module _ {B : Grid} {order lo hi : List ℕ} (P : Pads order lo hi (length order)) (A : Arrangement (length order) order) (L : Listed B (length order) order)
    (S : Solvable B order) where
  pub walking_none : (w : List ℕ) (c k : ℕ) → Walkable B order c k → Walking B order w k w 0 c k
  walking_none w c k X = record {
    inside = zero-le;
    kept = kept_all (length order) w;
    begun = let t = some_best L S in extends_start B (length order) order L t.0 (port_in w) t.1;
    count = X.number ∙ ways_cong (length order) (may_take B 0 (length order)) (looks B 0 (length order)) (λ i. zero) (port_in w) [] order (nil_all (λ i. zero ≡
        port_in w i));
    few = X.few;
    small = X.inside;
    place = λ f s. omega arith;
  }

  module _ (w₀ : List ℕ) (k : ℕ) (w : List ℕ) (m all_ways rest : ℕ) (X : Walking B order w₀ k w m all_ways rest) where
    abbrev test : (ℕ → ℕ) → List ℕ → ℕ → List ℕ → ℕ → Bool
    test = may_take B 0 (length order)

    -- The last pad has its port: the layout is at place k.
    pub walking_done : length order ≤ m → WalkIs B order w₀ k w
    walking_done h = record { at = rank-place B (length order) order L t.0 t.1 k (port_in w) optimal at_k; kept = X.kept }
      where
        t : (u : ℕ) × (best B order 0 (length order) ≡ some u)
        t = some_best L S

        none_left : drop m order ≡ []
        none_left = drop_of_length-le order h

        optimal : Optimal B order (length order) (port_in w)
        optimal = best_optimal B (length order) order L (port_in w)
            (best_cong B L.lawful order 0 (length order) X.begun.layout (port_in w)
            (subst (λ (xs : List ℕ). SameOn xs X.begun.layout (port_in w)) (take_all m order h) X.begun.same) X.begun.best)

        one : all_ways ≡ 1
        one = X.count ∙ ap (λ (xs : List ℕ). ways (length order) test (port_in w) (take m order) xs) none_left
            ∙ ways_nil (length order) test (port_in w) (take m order)

        at_k : rank (length order) test (port_in w) [] order ≡ k
        at_k =
            let e = X.place (port_in w) (λ i n. refl) in
            let f = ap (λ (xs : List ℕ). rank (length order) test (port_in w) (take m order) xs) none_left ∙ rank_nil (length order) test (port_in w) (take m order) in
            omega (arith, one, X.small)

    -- One pad more has its port.
    module _ (room : length order ≤ length w) (inside : m < length order) (r : Picked) (C : ChosenIs B order w m rest r) where
      abbrev v : List ℕ
      v = set w (get_or order m 0) r.port

      abbrev pad : ℕ
      pad = get_or order m 0

      -- for the laws of stores, which read a board's pads alone
      lists : ProperLists order (source [] [] [] [] (length order)) lo hi
      lists = record { pads = P; arranged = A }

      pub walking_port : r.port < 64
      walking_port = omega (arith, C.leads.high, ceil_le (port_in w) (B.hi pad) (take m order) (length order), P.few)

      before : SameOn (take m order) (port_in w) (port_in v)
      before = store_before lists w room m inside r.port m (omega arith)

      here : port_in v pad ≡ r.port
      here = store_here lists w room m inside r.port

      more : take (m + 1) order ≡ take m order ++ (pad ∷ [])
      more = take_more order m inside

      passes : test (port_in v) (take m order) pad (drop (m + 1) order) (port_in v pad) ≡ true
      passes =
          ap (test (port_in v) (take m order) pad (drop (m + 1) order)) here
          ∙ sym (looks B 0 (length order) (port_in w) (port_in v) (take m order) pad (drop (m + 1) order) r.port before)
          ∙ choice_yes B r.port pad
          (keep (lies B (floor (port_in w) (B.lo pad) (take m order) 0) (ceil (port_in w) (B.hi pad) (take m order) (length order))) (drop (m + 1) order))
          (floor (port_in w) (B.lo pad) (take m order) 0) (ceil (port_in w) (B.hi pad) (take m order) (length order)) C.leads

      counted : ways_with B order w m r.port ≡ ways_from B order v (m + 1)
      counted =
          ways_at_cong (length order) test (looks B 0 (length order)) (port_in w) (port_in v) (take m order) pad (drop (m + 1) order) r.port before
          ∙ ap (ways_at (length order) test (port_in v) (take m order) pad (drop (m + 1) order)) (sym here)
          ∙ ways_at_self (length order) test (looks B 0 (length order)) (port_in v) (take m order) pad (drop (m + 1) order) passes
          ∙ ap (λ (xs : List ℕ). ways (length order) test (port_in v) xs (drop (m + 1) order)) (sym more)

      fewer : r.ways ≤ all_ways
      fewer =
          let c = ceil_le (port_in w) (B.hi pad) (take m order) (length order) in
          let t = sum_mono (ways_with B order w m) r.port (length order) (omega (arith, C.leads.high)) in
          let u = ways_cons (length order) test (port_in w) (take m order) pad (drop (m + 1) order) in
          let d = ap (λ (xs : List ℕ). ways (length order) test (port_in w) (take m order) xs) (drop_at order m inside) in
          omega (arith, X.count, C.falls.count)

      step : (f : ℕ → ℕ) → SameOn (take (m + 1) order) (port_in v) f
          → rank (length order) test f [] order + r.rest ≡ k + rank (length order) test f (take (m + 1) order) (drop (m + 1) order)
      step f s =
          let e = X.place f old in
          let d = ap (rank (length order) test f (take m order)) (drop_at order m inside) in
          let c = rank_cons (length order) test f (take m order) pad (drop (m + 1) order) in
          let t = sum_cong (λ p. ways_at_cong (length order) test (looks B 0 (length order)) f (port_in w) (take m order) pad (drop (m + 1) order) p
          (λ i n. sym (old i n))) (f pad)
          ∙ ap (sum_to (ways_with B order w m)) at-pad in
          let g = ap (λ (xs : List ℕ). rank (length order) test f xs (drop (m + 1) order)) more in
          omega (arith, C.falls.passed)
        where
          old : SameOn (take m order) (port_in w) f
          old i n = before i n ∙ s i (subst (Memᴰ i) (sym more) (Memᴰ.append_left (pad ∷ []) n))

          at-pad : f pad ≡ r.port
          at-pad = sym (s pad (subst (Memᴰ pad) (sym more) (Memᴰ.append_right (take m order) (Memᴰ.head refl)))) ∙ here

      walking_next : Walking B order w₀ k (set w (get_or order m 0) r.port) (m + 1) r.ways r.rest
      walking_next = record {
        inside = omega arith;
        kept = store_kept lists w room m inside r.port w₀ X.kept;
        begun = extends_more B (length order) order L m inside (port_in w) (port_in v) X.begun before (rw here C.leads);
        count = C.falls.count ∙ counted;
        few = omega (arith, fewer, X.few);
        small = C.falls.small;
        place = step;
      }

      pub walking_more : Walking B order w₀ k (set w (get_or order m 0) (r.port % 65536)) (m + 1) r.ways r.rest
      walking_more = let l : r.port < 65536 = omega (arith, walking_port) in rw (mod-eq_of_lt l) walking_next

      pub walking_entered : {at : List ℕ} → length at ≡ 128 → Entered order w m at
          → Entered order (set w (get_or order m 0) (r.port % 65536)) (m + 1) (set at r.port m)
      walking_entered {at} long E =
          let l : r.port < 65536 = omega (arith, walking_port) in
          rw (mod-eq_of_lt l) (entered_more v m r.port (omega (arith, P.few)) (omega (arith, walking_port)) E
          (store_other lists w room m inside r.port) here)

-- In a turn of the walk, on the board with costs C: the port chosen is small, and the way goes on with it.
module _ {l : Lists} (P : ProperBoard l) {C : ℕ → ℕ → Least} {ms : List ℕ} {c k : ℕ} (X : Placeable l C ms c k) (w₀ : List ℕ) {w : List ℕ} {m all_ways rest : ℕ}
    (W : Walking (costed l C) l.order.now w₀ k w m all_ways rest) (room : length l.order.now ≤ length w) (inside : m < length l.order.now) {r : Picked}
    (chosen : Choosable l C ms w m all_ways → ChosenIs (costed l C) l.order.now w m rest r) where
  choice : ChosenIs (costed l C) l.order.now w m rest r
  choice = chosen (record { sets = X.sets; begun = W.begun; all = W.count })

  pub turn_port : r.port < 64
  turn_port = walking_port (square_pads l P.square) P.arranged X.sets.marked.listed X.solvable w₀ k w m all_ways rest W room inside r choice

  pub turn_more : Walking (costed l C) l.order.now w₀ k (set w (get_or l.order.now m 0) (r.port % 65536)) (m + 1) r.ways r.rest
  turn_more = walking_more (square_pads l P.square) P.arranged X.sets.marked.listed X.solvable w₀ k w m all_ways rest W room inside r choice

  pub turn_entered : {at : List ℕ} → length at ≡ 128 → Entered l.order.now w m at
      → Entered l.order.now (set w (get_or l.order.now m 0) (r.port % 65536)) (m + 1) (set at r.port m)
  turn_entered long E = walking_entered (square_pads l P.square) P.arranged X.sets.marked.listed X.solvable w₀ k w m all_ways rest W room inside r choice long E
