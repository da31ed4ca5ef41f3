-- Laws of numbers that are told up to a limit, and of a strip's number as the sum over its locally best ports.
use mathlib.Core.Path.{◌≡◌, refl, sym, ap, ◌∙◌}
use mathlib.Core.Bool.{Bool, true, false, cond}
use mathlib.Core.List.{List, [], ◌∷◌}
use Prim.Native.Nat.{ℕ, zero, suc, ◌+◌, ◌-◌, ◌*◌, ◌≤◌, ◌<◌, zero-le}
use native.Mathlib.Omega.{arith}
use native.Mathlib.Decide.{dec_le, dec_lt}
use lib.Bits.{bit_and}
use lib.Count.{count_trailing_zeros}
use native.Mathlib.Nat.{le-mul_of_pos_right, mul_comm, mul-zero}
use Rattle.numbers.specs.Sets.{set_of, NextIn}
use Rattle.numbers.proofs.Sets.{set_none, set_gone, set_next}
use lib.ListN.{length, get_or, drop}
use Rattle.strips.specs.Lists.{All, keep, Distinct}
use Rattle.strips.proofs.Lists.{keep_distinct, kept_mem}
use Rattle.strips.specs.Grid.{Grid, below, above}
use Rattle.strips.specs.Prefix.{lies, Lies}
use Rattle.strips.proofs.Prefix.{yes_lies}
use Rattle.strips.specs.FirstNext.{Listed}
use Rattle.strips.specs.ByPlace.{sum_to}
use Rattle.ways.proofs.Tree.{ways_nil, sum_mono, sum-skip, sum_none, sum_more}
use Rattle.ways.specs.Count.{may_take, many, is_choice}
use Rattle.ways.proofs.Count.{choice_yes, yes_choice, many_cons}
use Rattle.totals.specs.Cell.{FullFrom, Leads, Marks}
use Rattle.counting.specs.Counting.{limit, capped, pads_from, number_at, StripCount}
use Rattle.counting.proofs.Strips.{nil_of, full_length, full_whole, below_strip, above_strip, full_below, full_above}

-- ---- up to a limit

capped-plus : (x y : ℕ) → capped (x + y) ≡ capped (capped x + capped y)
capped-plus x y = omega arith

capped-least : (x : ℕ) → limit + 1 ≤ x → capped x ≡ limit + 1
capped-least x h = omega arith

capped_small : (x : ℕ) → x ≤ limit + 1 → capped x ≡ x
capped_small x h = omega arith

-- A factor above the limit leaves the first number above it, or 0.
large_times : (x y : ℕ) → limit + 1 ≤ x → capped (x * y) ≡ capped ((limit + 1) * capped y)
large_times x y h = go (dec_lt 0 y)
  where
    go : Dec (0 < y) → capped (x * y) ≡ capped ((limit + 1) * capped y)
    go (yes k) =
        let u = le-mul_of_pos_right x k in
        let v : 0 < capped y = omega arith in
        let w = le-mul_of_pos_right (limit + 1) v in
        capped-least (x * y) (omega arith) ∙ sym (capped-least ((limit + 1) * capped y) w)
    go (no k) = let e : y ≡ 0 = omega arith in rw e (ap capped (mul-zero x))

capped_times : (x y : ℕ) → capped (x * y) ≡ capped (capped x * capped y)
capped_times x y = go (dec_le (limit + 1) x) (dec_le (limit + 1) y)
  where
    go : Dec (limit + 1 ≤ x) → Dec (limit + 1 ≤ y) → capped (x * y) ≡ capped (capped x * capped y)
    go (yes h) d = large_times x y h ∙ ap (λ (z : ℕ). capped (z * capped y)) (sym (capped-least x h))
    go (no h) (yes k) = ap capped (mul_comm x y) ∙ large_times y x k ∙ ap (λ (z : ℕ). capped (z * capped x)) (sym (capped-least y k))
        ∙ ap capped (mul_comm (capped y) (capped x))
    go (no h) (no k) = λ i. capped (sym (capped_small x (omega arith)) i * sym (capped_small y (omega arith)) i)

-- ---- the number of a strip whose rightmost pad stands at place r

-- What the loop over the ports of a strip has, with those below `at` behind and a set of others left.
pub record Summing (B : Grid) (order : List ℕ) (r a b : ℕ) (picks : ℕ → Bool) (at rest sum : ℕ) : Type 0 where
  pub high : at ≤ b
  pub left : rest + set_of picks at ≡ set_of picks b
  pub adds : capped sum ≡ capped (sum_to (number_at B order r a b) at)

distinct_drop : (xs : List ℕ) (k : ℕ) → Distinct xs → Distinct (drop k xs)
unfolding Distinct
distinct_drop xs zero d = d
distinct_drop [] (suc k) d = d
distinct_drop (x ∷ xs) (suc k) d = distinct_drop xs k d.1

module _ {B : Grid} {order : List ℕ} (L : Listed B (length order) order) (r a b : ℕ) (R : FullFrom B order r a b) where
  abbrev rest : List ℕ
  rest = keep (lies B a b) (drop (r + 1) order)

  abbrev F : ℕ → ℕ
  F = number_at B order r a b

  -- A port that is not locally best has none, ..
  pub number_none : (q : ℕ) → (Leads B order r a b q → ⊥) → F q ≡ 0
  number_none q h = go (is_choice B q (get_or order r 0) rest a b) refl
    where
      go : (x : Bool) → is_choice B q (get_or order r 0) rest a b ≡ x
          → cond x (many B (length order) (below B q rest) a q * many B (length order) (above B q rest) (q + 1) b) 0 ≡ 0
      go true e = absurd (h (yes_choice B q (get_or order r 0) rest a b e))
      go false e = refl

  -- .. and one that is has those of the part below it, each with each of the part above.
  number_some : (q : ℕ) → Leads B order r a b q → F q ≡ many B (length order) (pads_from B order a q (r + 1)) a q
      * many B (length order) (pads_from B order (q + 1) b (r + 1)) (q + 1) b
  number_some q l =
      rw (choice_yes B q (get_or order r 0) rest a b l)
      (λ i. many B (length order) (below_strip B order a b q (drop (r + 1) order) (omega (arith, l.high)) i) a q
      * many B (length order) (above_strip B order a b q (drop (r + 1) order) l.low i) (q + 1) b)

  pub number-capped : (q u v : ℕ) → Leads B order r a b q → StripCount B order a q u → StripCount B order (q + 1) b v → capped (F q) ≡ capped (u * v)
  number-capped q u v l M N =
      let k : r + 1 ≤ length order = omega (arith, R.listed) in
      ap capped (number_some q l)
      ∙ capped_times (many B (length order) (pads_from B order a q (r + 1)) a q) (many B (length order) (pads_from B order (q + 1) b (r + 1)) (q + 1) b)
      ∙ (λ i. capped (sym (M.is (r + 1) k (full_below L.lawful r a b R q l)) i * sym (N.is (r + 1) k (full_above L.lawful r a b R q l)) i))

  -- The strip's number is the sum over its ports.
  number_all : many B (length order) (get_or order r 0 ∷ rest) a b ≡ sum_to F b
  number_all =
      many_cons B L.lawful (length order) (get_or order r 0) rest a b distinct lie
      ∙ sum-skip F b (length order) R.ports (λ i u v. number_none i (λ l. omega (arith, l.high)))
    where
      distinct : Distinct (get_or order r 0 ∷ rest)
      distinct = rw (full_whole B order r a b R r (full_length B order r a b R)) at
          (keep_distinct (lies B a b) (drop r order) (distinct_drop order r L.distinct))

      lie : All (Lies B a b) rest
      lie k m = yes_lies B a b k (kept_mem (lies B a b) (drop (r + 1) order) m).1

  summing_all : (sum : ℕ) → sum ≡ capped (sum_to F b) → StripCount B order a b sum
  summing_all sum e = record {
    is = λ k u f. e ∙ ap capped (sym number_all ∙ ap (λ (xs : List ℕ). many B (length order) xs a b) (sym (full_whole B order r a b R k f)));
  }

  module _ {m : ℕ} (K : Marks B order r a b m) (few : b ≤ 64) where
    abbrev picks : ℕ → Bool
    picks = K.picks

    pub summing_none : Summing B order r a b picks 0 m 0
    summing_none = record {
      high = zero-le;
      left = let z = set_none picks 0 (λ q u. absurd (omega arith)) in let e = K.set in omega arith;
      adds = ap capped (sym (sum_none F));
    }

    module _ (at rest sum : ℕ) (S : Summing B order r a b picks at rest sum) where
      -- Ports that the set leaves out have none.
      nothing : (i : ℕ) → i < b → picks i ≡ false → F i ≡ 0
      nothing i u e = number_none i ((K.says i u).no e)

      -- The next port.
      module _ (some : rest ≡ 0 → ⊥) where
        abbrev q : ℕ
        q = count_trailing_zeros 64 rest

        here : NextIn picks at b q
        here = (set_next picks at b rest S.high few S.left some).0

        pub next_from : at ≤ q
        next_from = here.from

        pub next_below : q < b
        next_below = here.below

        pub next_leads : Leads B order r a b q
        next_leads = (K.says q next_below).yes here.picked

        -- The sum with it.
        pub summing_more : (u v sum' : ℕ) → StripCount B order a q u → StripCount B order (q + 1) b v → capped sum' ≡ capped (sum + u * v)
            → Summing B order r a b picks (q + 1) (bit_and rest (rest - 1)) sum'
        summing_more u v sum' M N e =
            let skip = sum-skip F at q next_from (λ i x y. nothing i (let z = next_below in omega arith) (here.passed i x y)) in
            let more = sum_more F q in
            record {
              high = let z = next_below in omega arith;
              left = (set_next picks at b rest S.high few S.left some).1;
              adds = e ∙ capped-plus sum (u * v) ∙ (λ i. capped (S.adds i + sym (number-capped q u v next_leads M N) i)) ∙ sym (capped-plus (sum_to F at) (F q))
                  ∙ ap capped (omega arith);
            }

      -- With none left, or above the limit already, it is the strip's number.
      pub summing_done : rest ≡ 0 → StripCount B order a b (capped sum)
      summing_done z = summing_all (capped sum)
          (S.adds ∙ ap capped (sym (sum-skip F at b S.high (λ i x y. nothing i y (set_gone picks at b rest S.high few S.left z i x y)))))

      pub summing_most : limit + 1 ≤ sum → StripCount B order a b (capped sum)
      summing_most h = go (dec_lt at b)
        where
          go : Dec (at < b) → StripCount B order a b (capped sum)
          go (yes l) = summing_all (capped sum) (omega (arith, S.adds, sum_mono F at b l))
          go (no l) = let e : at ≡ b = omega (arith, S.high) in summing_all (capped sum) (S.adds ∙ ap (λ (k : ℕ). capped (sum_to F k)) e)

-- A strip of no ports has one layout.
pub empty_count : (B : Grid) (order : List ℕ) (a b : ℕ) → a ≡ b → StripCount B order a b 1
empty_count B order a b e = record { is = λ k u f. ap capped (sym (one k (nil_of (pads_from B order a b k) (let x = e in let y = f in omega arith)))) }
  where
    one : (k : ℕ) → pads_from B order a b k ≡ [] → many B (length order) (pads_from B order a b k) a b ≡ 1
    one k n = ap (λ (xs : List ℕ). many B (length order) xs a b) n ∙ ways_nil (length order) (may_take B a b) (λ i. zero) []
