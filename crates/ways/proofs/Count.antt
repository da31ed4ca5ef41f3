-- How many best layouts there are, by the numbers for the smaller parts of the board.
-- Assumes nothing.
use Prim.Native.Nat.{ℕ, zero, suc, ◌+◌, ◌*◌, ◌≤◌, ◌<◌}
use Rattle.std.specs.Prelude.{Bool, true, false, cond, ◌&&◌, ◌⊎◌, ◌≡◌, refl, leb, ltb, length}
use Rattle.std.proofs.lemmas.Bool.{false≢true}
use mathlib.Core.List.Memᴰ
use mathlib.Core.List.{List, [], ◌∷◌, ◌++◌, append_assoc, append-nil, Memᴰ}
use Rattle.std.proofs.Common.{inl, inr, ◌∙◌, ap, one-mul}
use Rattle.std.proofs.Math.Path.{sym}
use native.Mathlib.Omega.{arith}
use Rattle.std.proofs.Math.Nat.{mul_comm}
use borrow.Author.Tests.{leb-true, ltb-true, eqb-true, le-leb, lt-ltb, lt-leb, le-ltb, eq-eqb}
use Rattle.strips.specs.Lists.{All, keep, Distinct}
use Rattle.strips.proofs.Lists.{both, nil_all, distinct_apart, kept_mem, keep_append, keep_distinct, by_length}
use Rattle.strips.specs.Least.{Least, none, some}
use Rattle.strips.specs.Grid.{Grid, Lawful, Misses, below, above, best, local, LocalBest, BestIn}
use Rattle.strips.specs.Strips.{BestSplit}
use Rattle.strips.proofs.Strips.{best_split, has_best, local_parts, side, sol_clear, below_in, below_out, above_in, above_out, shorter_below, shorter_above}
use Rattle.strips.specs.Prefix.{floor, ceil, lies, Lies, AtStrip, Choice}
use Rattle.strips.proofs.Prefix.{strip-same, strip-nil, strip_below, strip-above, floor_le, ceil_le, below_around, above_around, lies_below, lies_above}
use Rattle.strips.specs.Order.{SameOn}
use Rattle.strips.specs.ByPlace.{sum_to}
use Rattle.strips.specs.Following.{EachBest}
use Rattle.strips.proofs.Following.{filled_best}
use Rattle.ways.proofs.Compare.{each_map, best_filled}
use Rattle.ways.specs.Tree.{put, ways, ways_at, Passes, PassesAt}
use Rattle.ways.proofs.Tree.{sum_cong, put-at, put_other, ways_cong}
use Rattle.ways.specs.Count.{same_number, is_choice, may_take, ways_in, many, Cut, many_at, Share}

same_number_lem : (x y : Least) → same_number x y ≡ true → (u : ℕ) × (x ≡ some u) × (y ≡ some u)
unfolding same_number
same_number_lem none y e = absurd (false≢true e)
same_number_lem (some u) none e = absurd (false≢true e)
same_number_lem (some u) (some v) e = (u, refl, ap some (sym (eqb-true u v e)))

number_same : (x y : Least) (u : ℕ) → x ≡ some u → y ≡ some u → same_number x y ≡ true
unfolding same_number
number_same x y u e k = rw (e, k) (eq-eqb u u refl)

module _ (B : Grid) where
  pub choice_yes : (q j : ℕ) (pads : List ℕ) (c d : ℕ) → LocalBest B j pads c d q → is_choice B q j pads c d ≡ true
  unfolding is_choice
  choice_yes q j pads c d t = rw (le-leb c q t.low, lt-ltb q d t.high) (number_same (local B j pads c d q) (best B (j ∷ pads) c d) t.total t.here
      t.whole)

  pub yes_choice : (q j : ℕ) (pads : List ℕ) (c d : ℕ) → is_choice B q j pads c d ≡ true → LocalBest B j pads c d q
  unfolding is_choice
  yes_choice q j pads c d e =
      let s = both (leb c q) (ltb q d && same_number (local B j pads c d q) (best B (j ∷ pads) c d)) e in
      let t = both (ltb q d) (same_number (local B j pads c d q) (best B (j ∷ pads) c d)) s.1 in
      let u = same_number_lem (local B j pads c d q) (best B (j ∷ pads) c d) t.1 in
      record { low = leb-true c q s.0; high = ltb-true q d t.0; total = u.0; here = u.1; whole = u.2 }

  pub looks : (a b : ℕ) (f g : ℕ → ℕ) (done : List ℕ) (j : ℕ) (todo : List ℕ) (q : ℕ) → SameOn done f g → may_take B a b f done j todo q ≡ may_take B a b g done j todo q
  looks a b f g done j todo q h = strip-same B (is_choice B q j) f g done j todo a b h

  module _ (p : ℕ) where
    filled_passes : (a b : ℕ) (f : ℕ → ℕ) (done todo : List ℕ) → b ≤ p → EachBest B a b f done todo → Passes p (may_take B a b) f done todo
    filled_passes a b f done todo h s = each_map (λ is j js. Choice B f is j js a b (f j)) (PassesAt p (may_take B a b) f) at done todo s
      where
        at : (is : List ℕ) (j : ℕ) (js : List ℕ) → Choice B f is j js a b (f j) → PassesAt p (may_take B a b) f is j js
        at is j js c =
            record {
              small = omega (arith, c.high, ceil_le f (B.hi j) is b);
              passes = choice_yes (f j) j (keep (lies B (floor f (B.lo j) is a) (ceil f (B.hi j) is b)) js) (floor f (B.lo j) is a) (ceil f (B.hi j) is b) c;
            }

    passes_filled : (a b : ℕ) (f : ℕ → ℕ) (done todo : List ℕ) → Passes p (may_take B a b) f done todo → EachBest B a b f done todo
    passes_filled a b f done todo s =
        each_map (PassesAt p (may_take B a b) f) (λ is j js. Choice B f is j js a b (f j))
        (λ is j js c. yes_choice (f j) j (keep (lies B (floor f (B.lo j) is a) (ceil f (B.hi j) is b)) js) (floor f (B.lo j) is a) (ceil f (B.hi j) is b)
        c.passes) done todo s

sum_times : (F : ℕ → ℕ) (x n : ℕ) → sum_to (λ q. F q * x) n ≡ sum_to F n * x
unfolding sum_to
sum_times F x zero = omega arith
sum_times F x (suc n) = omega (arith, sum_times F x n)

-- PARTS: with the rightmost pad r on port q, the best layouts of the strip a .. b - 1 are those of its two parts, each with each.
module _ (B : Grid) (lawful : Lawful B) (p r a b q : ℕ) (low : a ≤ q) (high : q < b) where
  PartWays : List ℕ → Type 0
  PartWays todo = (is : List ℕ) (f : ℕ → ℕ) → Distinct (r ∷ (is ++ todo)) → Cut B lawful p r a b q low high is todo f
      → ways_in B p a b f (r ∷ is) todo ≡ ways_in B p a q f (below B q is) (below B q todo) * ways_in B p (q + 1) b f (above B q is) (above B q todo)

  module _ (is : List ℕ) (j : ℕ) (todo : List ℕ) (f : ℕ → ℕ) (d : Distinct (r ∷ (is ++ (j ∷ todo)))) (c : Cut B lawful p r a b q low high is (j ∷ todo) f) where
    r_apart : r ≡ j → ⊥
    unfolding Distinct
    r_apart e = d.0 (Memᴰ.append_right is (Memᴰ.head e))

    is_apart : (i : ℕ) → Memᴰ i is → i ≡ j → ⊥
    unfolding Distinct
    is_apart i m e = distinct_apart is j todo d.1 i m e

    longer : Distinct (r ∷ ((is ++ (j ∷ [])) ++ todo))
    longer = rw (append_assoc is (j ∷ []) todo) d

    -- The cut with pad j on port s, which is clear of port q.
    cut-put : (s : ℕ) → Misses B q j s → Cut B lawful p r a b q low high (is ++ (j ∷ [])) todo (put f j s)
    cut-put s h = record { at = put_other f j s r r_apart ∙ c.at; clear = clear; sides = λ k m. c.sides k (Memᴰ.tail m) }
      where
        clear : All (λ i. Misses B q i (put f j s i)) (is ++ (j ∷ []))
        clear i m = go (Memᴰ.append_cases is m)
          where
            go : Memᴰ i is ⊎ Memᴰ i (j ∷ []) → Misses B q i (put f j s i)
            go (inl n) = rw (put_other f j s i (is_apart i n)) (c.clear i n)
            go (inr n) = rw (Memᴰ.eq_of_singleton n, put-at f j s) h

    keep_snoc_out : (w : ℕ → Bool) → w j ≡ false → keep w (is ++ (j ∷ [])) ≡ keep w is
    unfolding keep
    keep_snoc_out w e = keep_append w is (j ∷ []) ∙ rw e (append-nil (keep w is))

    keep_snoc_in : (w : ℕ → Bool) → w j ≡ true → keep w (is ++ (j ∷ [])) ≡ keep w is ++ (j ∷ [])
    unfolding keep
    keep_snoc_in w e = keep_append w is (j ∷ []) ∙ rw e

    same_put : (w : ℕ → Bool) (s : ℕ) → SameOn (keep w is) (put f j s) f
    same_put w s i m = put_other f j s i (is_apart i (kept_mem w is m).0)

    part_at-below : PartWays todo → B.hi j ≤ q → (s : ℕ)
        → ways_at p (may_take B a b) f (r ∷ is) j todo s ≡ ways_at p (may_take B a q) f (below B q is) j (below B q todo) s * ways_in B p (q + 1) b f
        (above B q is) (above B q todo)
    unfolding PartWays
    part_at-below ways-of l s = rw (← (strip_below B lawful (is_choice B s j) r is j todo a b f q c.at high l c.clear)) (go (may_take B a q f
        (below B q is) j (below B q todo) s) refl)
      where
        g : ℕ → ℕ
        g = put f j s

        go : (v : Bool) → may_take B a q f (below B q is) j (below B q todo) s ≡ v
            → cond v (ways_in B p a b g (r ∷ (is ++ (j ∷ []))) todo) zero ≡ cond v (ways_in B p a q g (below B q is ++ (j ∷ []))
            (below B q todo)) zero * ways_in B p (q + 1) b f (above B q is) (above B q todo)
        go false e = omega arith
        go true e =
            ways-of (is ++ (j ∷ [])) g longer (cut-put s (inr (
              l,
              omega (
                arith,
                (yes_choice B s j (keep (lies B first end)
                    (below B q todo)) first end e).high,
                ceil_le f (B.hi j) (below B q is) q,
              ),
            ))) ∙
            (λ i. ways_in B p a q g (in_below i) (below B q todo) * ways_in B p (q + 1) b g (out_above i) (above B q todo)) ∙
            ap (ways_in B p a q g (below B q is ++ (j ∷ [])) (below B q todo) *◌) (ways_cong p (may_take B (q + 1) b) (looks B (q + 1) b) g f (above B q is)
            (above B q todo) (same_put (λ k. ltb q (B.lo k)) s))
          where
            first : ℕ
            first = floor f (B.lo j) (below B q is) a

            end : ℕ
            end = ceil f (B.hi j) (below B q is) q

            in_below : below B q (is ++ (j ∷ [])) ≡ below B q is ++ (j ∷ [])
            in_below = keep_snoc_in (λ k. leb (B.hi k) q) (le-leb (B.hi j) q l)

            out_above : above B q (is ++ (j ∷ [])) ≡ above B q is
            out_above = keep_snoc_out (λ k. ltb q (B.lo k)) (le-ltb q (B.lo j) (omega (arith, lawful j)))

    part_at_above : PartWays todo → q < B.lo j → (s : ℕ)
        → ways_at p (may_take B a b) f (r ∷ is) j todo s ≡ ways_at p (may_take B (q + 1) b) f (above B q is) j (above B q todo) s * ways_in B p a q f
        (below B q is) (below B q todo)
    unfolding PartWays
    part_at_above ways-of l s = rw (← (strip-above B lawful (is_choice B s j) r is j todo a b f q c.at low l c.clear)) (go (may_take B (q + 1) b f
        (above B q is) j (above B q todo) s) refl)
      where
        g : ℕ → ℕ
        g = put f j s

        go : (v : Bool) → may_take B (q + 1) b f (above B q is) j (above B q todo) s ≡ v
            → cond v (ways_in B p a b g (r ∷ (is ++ (j ∷ []))) todo) zero ≡ cond v (ways_in B p (q + 1) b g (above B q is ++ (j ∷ []))
            (above B q todo)) zero * ways_in B p a q f (below B q is) (below B q todo)
        go false e = omega arith
        go true e =
            ways-of (is ++ (j ∷ [])) g longer (cut-put s (inl (
              l,
              omega (
                arith,
                (yes_choice B s j (keep (lies B first end)
                    (above B q todo)) first end e).low,
                floor_le f (B.lo j) (above B q is) (q + 1),
              ),
            ))) ∙
            (λ i. ways_in B p a q g (out_below i) (below B q todo) * ways_in B p (q + 1) b g (in_above i) (above B q todo)) ∙
            mul_comm (ways_in B p a q g (below B q is) (below B q todo)) (ways_in B p (q + 1) b g (above B q is ++ (j ∷ [])) (above B q todo)) ∙
            ap (ways_in B p (q + 1) b g (above B q is ++ (j ∷ [])) (above B q todo) *◌) (ways_cong p (may_take B a q) (looks B a q) g f (below B q is)
            (below B q todo) (same_put (λ k. leb (B.hi k) q) s))
          where
            first : ℕ
            first = floor f (B.lo j) (above B q is) (q + 1)

            end : ℕ
            end = ceil f (B.hi j) (above B q is) b

            in_above : above B q (is ++ (j ∷ [])) ≡ above B q is ++ (j ∷ [])
            in_above = keep_snoc_in (λ k. ltb q (B.lo k)) (lt-ltb q (B.lo j) l)

            out_below : below B q (is ++ (j ∷ [])) ≡ below B q is
            out_below = keep_snoc_out (λ k. leb (B.hi k) q) (lt-leb (B.hi j) q (omega (arith, lawful j)))

    part_step : PartWays todo → (B.hi j ≤ q) ⊎ (q < B.lo j)
        → ways_in B p a b f (r ∷ is) (j ∷ todo) ≡ ways_in B p a q f (below B q is) (below B q (j ∷ todo)) * ways_in B p (q + 1) b f (above B q is) (above B q
        (j ∷ todo))
    unfolding ways
    part_step ways-of (inl l) =
        rw (below_in B lawful q j todo l, above_out B lawful q j todo l)
        (sum_cong (part_at-below ways-of l) p ∙ sum_times (ways_at p (may_take B a q) f (below B q is) j (below B q todo)) (ways_in B p (q + 1) b f
        (above B q is) (above B q todo)) p)
    part_step ways-of (inr l) =
        rw (below_out B lawful q j todo l, above_in B lawful q j todo l)
        (sum_cong (part_at_above ways-of l) p ∙
        sum_times (ways_at p (may_take B (q + 1) b) f (above B q is) j (above B q todo)) (ways_in B p a q f (below B q is) (below B q todo)) p ∙
        mul_comm (sum_to (ways_at p (may_take B (q + 1) b) f (above B q is) j (above B q todo)) p) (ways_in B p a q f (below B q is) (below B q todo)))

  part_ways_by : (todo : List ℕ) → PartWays todo
  unfolding PartWays ways keep
  part_ways_by [] is f d c = omega arith
  part_ways_by (j ∷ todo) is f d c = part_step is j todo f d c (part_ways_by todo) (c.sides j (Memᴰ.head refl))

  part_ways : (is todo : List ℕ) (f : ℕ → ℕ) → Distinct (r ∷ (is ++ todo)) → Cut B lawful p r a b q low high is todo f
      → ways_in B p a b f (r ∷ is) todo ≡ ways_in B p a q f (below B q is) (below B q todo) * ways_in B p (q + 1) b f (above B q is) (above B q todo)
  unfolding PartWays
  part_ways is todo f d c = part_ways_by todo is f d c

module _ (B : Grid) (lawful : Lawful B) (p : ℕ) where
  -- The layout that a number starts from does not matter where no pad has its port.
  many_any : (js : List ℕ) (a b : ℕ) (f : ℕ → ℕ) → ways_in B p a b f [] js ≡ many B p js a b
  many_any js a b f = ways_cong p (may_take B a b) (looks B a b) f (λ k. zero) [] js (nil_all (λ i. f i ≡ zero))

  ways_at_lem : (r : ℕ) (rest : List ℕ) (a b : ℕ) (f : ℕ → ℕ) → Distinct (r ∷ rest) → All (Lies B a b) rest → (q : ℕ)
      → ways_at p (may_take B a b) f [] r rest q ≡ many_at B p q r rest a b
  unfolding keep
  ways_at_lem r rest a b f d h q = rw (← (strip-nil B lawful (is_choice B q r) r rest a b f h)) (go (is_choice B q r rest a b) refl)
    where
      g : ℕ → ℕ
      g = put f r q

      go : (v : Bool) → is_choice B q r rest a b ≡ v
          → cond v (ways_in B p a b g (r ∷ []) rest) zero ≡ cond v (many B p (below B q rest) a q * many B p (above B q rest) (q + 1) b) zero
      go false e = refl
      go true e =
          let t = yes_choice B q r rest a b e in
          let c : Cut B lawful p r a b q t.low t.high [] rest g = record {
            at = put-at f r q;
            clear = nil_all (λ i. Misses B q i
                (g i));
            sides = side B lawful q rest (local_parts B r rest a b q t.total t.here).sides;
          } in
          part_ways B lawful p r a b q t.low t.high [] rest g d c ∙ (λ i. many_any (below B q rest) a q g i * many_any (above B q rest) (q + 1) b g i)

  -- COUNT: the number of a strip is the sum, over the locally best ports, of the products of the parts' numbers.
  pub many_cons : (r : ℕ) (rest : List ℕ) (a b : ℕ) → Distinct (r ∷ rest) → All (Lies B a b) rest → many B p (r ∷ rest) a b ≡ sum_to (λ q. many_at B p q r rest a b) p
  unfolding ways
  many_cons r rest a b d h = sum_cong (ways_at_lem r rest a b (λ k. zero) d h) p

  SharesOut : List ℕ → Type 0
  SharesOut done = (j : ℕ) (todo : List ℕ) (a b : ℕ) (f : ℕ → ℕ) → Distinct (done ++ (j ∷ todo)) → All (Lies B a b) todo → BestIn B (done ++ (j ∷ todo)) a b f
      → Share B lawful p done j todo a b f

  regroup : (x m y : ℕ) → x * m * y ≡ x * y * m
  regroup x m y = omega arith

  share_step : (done : List ℕ) → ((is : List ℕ) → length is < length done → SharesOut is) → SharesOut done
  unfolding SharesOut Distinct
  share_step [] ih j todo a b f d h s =
      record {
        others = 1;
        all = many_any (j ∷ todo) a b f ∙ strip-nil B lawful (λ pads c e. many B p (j ∷ pads) c e) j todo a b f h
            ∙ sym (one-mul (AtStrip B (λ pads c e. many B p (j ∷ pads) c e) f [] j todo a b));
        each = λ q. ways_at_lem j todo a b f d h q ∙ strip-nil B lawful (many_at B p q j) j todo a b f h ∙ sym (one-mul (AtStrip B (many_at B p q j) f [] j todo a b));
      }
  share_step (r ∷ is) ih j todo a b f d h s = go (sides j (Memᴰ.append_right is (Memᴰ.head refl)))
    where
      q : ℕ
      q = f r

      rest : List ℕ
      rest = is ++ (j ∷ todo)

      t : BestSplit B lawful r rest a b f
      t = best_split B lawful r rest a b f s

      sides : All (λ i. (B.hi i ≤ q) ⊎ (q < B.lo i)) rest
      sides = side B lawful q rest (local_parts B r rest a b q t.here.total t.here.here).sides

      c : Cut B lawful p r a b q t.here.low t.here.high is (j ∷ todo) f
      c = record {
        at = refl;
        clear = λ i m. sol_clear B lawful r rest a b f s.sol i (Memᴰ.append_left (j ∷ todo) m);
        sides = λ i m. sides i
            (Memᴰ.append_right is m);
      }

      go : (B.hi j ≤ q) ⊎ (q < B.lo j) → Share B lawful p (r ∷ is) j todo a b f
      go (inl l) =
          record {
            others = u.others * y;
            all =
                part_step B lawful p r a b q t.here.low t.here.high is j todo f d c (part_ways_by B lawful p r a b q t.here.low
                t.here.high todo) (inl l) ∙
                rw (below_in B lawful q j todo l, above_out B lawful q j todo l) (ap (◌* y) u.all) ∙
                regroup u.others (AtStrip B whole f (below B q is) j (below B q todo) a q) y ∙
                ap (u.others * y *◌) (strip_below B lawful whole r is j todo a b f q refl t.here.high l c.clear);
            each = λ n.
                part_at-below B lawful p r a b q t.here.low t.here.high is j todo f d c (part_ways_by B lawful p r a b q t.here.low
                t.here.high todo) l n ∙
                ap (◌* y) (u.each n) ∙
                regroup u.others (AtStrip B (many_at B p n j) f (below B q is) j (below B q todo) a q) y ∙
                ap (u.others * y *◌) (strip_below B lawful (many_at B p n j) r is j todo a b f q refl t.here.high l c.clear);
          }
        where
          whole : List ℕ → ℕ → ℕ → ℕ
          whole pads k e = many B p (j ∷ pads) k e

          y : ℕ
          y = ways_in B p (q + 1) b f (above B q is) (above B q todo)

          u : Share B lawful p (below B q is) j (below B q todo) a q f
          u = ih (below B q is) (shorter_below B lawful q is r) j (below B q todo) a q f (rw (below_around B lawful q is j todo l) at (keep_distinct (λ i. leb
              (B.hi i) q) rest d.1)) (lies_below B lawful q a b todo h) (rw (below_around B lawful q is j todo l) at t.under)
      go (inr l) =
          record {
            others = u.others * y;
            all =
                part_step B lawful p r a b q t.here.low t.here.high is j todo f d c (part_ways_by B lawful p r a b q t.here.low
                t.here.high todo) (inr l) ∙
                rw (below_out B lawful q j todo l, above_in B lawful q j todo l) (ap (y *◌) u.all) ∙
                mul_comm y (u.others * AtStrip B whole f (above B q is) j (above B q todo) (q + 1) b) ∙
                regroup u.others (AtStrip B whole f (above B q is) j (above B q todo) (q + 1) b) y ∙
                ap (u.others * y *◌) (strip-above B lawful whole r is j todo a b f q refl t.here.low l c.clear);
            each = λ n.
                part_at_above B lawful p r a b q t.here.low t.here.high is j todo f d c (part_ways_by B lawful p r a b q t.here.low
                t.here.high todo) l n ∙
                ap (◌* y) (u.each n) ∙
                regroup u.others (AtStrip B (many_at B p n j) f (above B q is) j (above B q todo) (q + 1) b) y ∙
                ap (u.others * y *◌) (strip-above B lawful (many_at B p n j) r is j todo a b f q refl t.here.low l c.clear);
          }
        where
          whole : List ℕ → ℕ → ℕ → ℕ
          whole pads k e = many B p (j ∷ pads) k e

          y : ℕ
          y = ways_in B p a q f (below B q is) (below B q todo)

          u : Share B lawful p (above B q is) j (above B q todo) (q + 1) b f
          u = ih (above B q is) (shorter_above B lawful q is r) j (above B q todo) (q + 1) b f (rw (above_around B lawful q is j todo l) at (keep_distinct
              (λ i. ltb q (B.lo i)) rest d.1)) (lies_above B lawful q a b todo h) (rw (above_around B lawful q is j todo l) at t.over)

  pub share : (done : List ℕ) (j : ℕ) (todo : List ℕ) (a b : ℕ) (f : ℕ → ℕ) → Distinct (done ++ (j ∷ todo)) → All (Lies B a b) todo
      → BestIn B (done ++ (j ∷ todo)) a b f → Share B lawful p done j todo a b f
  unfolding SharesOut
  share done = by_length SharesOut share_step done

  -- The layouts that are counted are the best ones.
  pub counted_best : (js : List ℕ) (a b v : ℕ) (f : ℕ → ℕ) → Distinct js → All (Lies B a b) js → best B js a b ≡ some v → Passes p (may_take B a b) f [] js
      → BestIn B js a b f
  counted_best js a b v f d h e s =
      let t = has_best B lawful js a b v d e in
      filled_best B lawful a b [] js f t.0 d h t.1 (nil_all (λ i. t.0 i ≡ f i)) (passes_filled B p a b f [] js s)

  pub best_counted : (js : List ℕ) (a b : ℕ) (f : ℕ → ℕ) → b ≤ p → All (Lies B a b) js → BestIn B js a b f → Passes p (may_take B a b) f [] js
  best_counted js a b f l h s = filled_passes B p a b f [] js l (best_filled B lawful a b [] js f h s)
