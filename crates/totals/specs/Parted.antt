-- Laws of `parted_within`: the pads of a strip, and those of the two parts that a port makes of it.
use Rattle.std.specs.Prelude.{◌≡◌, Bool, ◌&&◌, leb}
use Rattle.std.proofs.Math.Path.{refl}
use Rattle.std.proofs.Math.Bool.{true, false}
use Rattle.std.proofs.Common.{true≢false, leb-true}
use Rattle.std.proofs.lemmas.Bool.{false≢true}
use mathlib.Core.List.{List, [], ◌∷◌}
use Prim.Native.Nat.{ℕ, ◌+◌, ◌≤◌, ◌<◌, zero-le}
use native.Mathlib.Omega.{arith}
use Rattle.strips.proofs.Lists.{both}
use Rattle.pads.specs.Pads.{Sides, spans, fits, bit, pads_in}
use Rattle.pads.specs.Counts.{spans_by}
use Rattle.totals.specs.Strip.{cut, parted_within}

-- ---- one pad

pub spans_lo : (a b l h : ℕ) → spans a b l h ≡ true → a ≤ l
unfolding spans
spans_lo a b l h e = leb-true a l (both (leb a l) (leb h b) e).0

pub spans_hi : (a b l h : ℕ) → spans a b l h ≡ true → h ≤ b
unfolding spans
spans_hi a b l h e = leb-true h b (both (leb a l) (leb h b) e).1

-- whole, below and above, of one pad
share_most : (x y z : Bool) → (y ≡ true → x ≡ true) → (z ≡ true → x ≡ true) → (y ≡ true → z ≡ true → ⊥) → bit y + bit z ≤ bit x
share_most true true true f g h = absurd (h refl refl)
share_most true true false f g h = omega arith
share_most true false true f g h = omega arith
share_most true false false f g h = omega arith
share_most false true z f g h = absurd (false≢true (f refl))
share_most false false true f g h = absurd (false≢true (g refl))
share_most false false false f g h = omega arith

share_least : (x y z : Bool) → cut x y z ≡ true → bit x ≤ bit y + bit z
share_least false y z e = zero-le
share_least true true z e = omega arith
share_least true false true e = omega arith
share_least true false false e = absurd (false≢true e)

share_less : (x y z : Bool) → cut x y z ≡ false → bit y + bit z < bit x
share_less false y z e = absurd (true≢false e)
share_less true true z e = absurd (true≢false e)
share_less true false true e = absurd (true≢false e)
share_less true false false e = omega arith

-- ---- lists

module _ (S : Sides) (a b q : ℕ) where
  -- a port that parts the list loses no pad
  pub parted_least : (js : List ℕ) → parted_within S a b q js ≡ true → pads_in S a b js ≤ pads_in S a q js + pads_in S (q + 1) b js
  unfolding parted_within pads_in
  parted_least [] e = zero-le
  parted_least (j ∷ js) e =
      let first = cut (fits S a b j) (fits S a q j) (fits S (q + 1) b j) in
      let one = share_least (fits S a b j) (fits S a q j) (fits S (q + 1) b j) (both first (parted_within S a b q js) e).0 in
      let more = parted_least js (both first (parted_within S a b q js) e).1 in
      omega arith

module _ (S : Sides) (level : (j : ℕ) → S.lo j ≤ S.hi j) (a b q : ℕ) (aq : a ≤ q) (qb : q < b) where
  one_most : (j : ℕ) → bit (fits S a q j) + bit (fits S (q + 1) b j) ≤ bit (fits S a b j)
  one_most j =
      share_most (fits S a b j) (fits S a q j) (fits S (q + 1) b j)
      (λ y. spans_by a b (S.lo j) (S.hi j) (spans_lo a q (S.lo j) (S.hi j) y) (let u = spans_hi a q (S.lo j) (S.hi j) y in omega arith))
      (λ z. spans_by a b (S.lo j) (S.hi j) (let u = spans_lo (q + 1) b (S.lo j) (S.hi j) z in omega arith) (spans_hi (q + 1) b (S.lo j) (S.hi j) z))
      (λ y z. let u = spans_hi a q (S.lo j) (S.hi j) y in let v = spans_lo (q + 1) b (S.lo j) (S.hi j) z in let w = level j in omega arith)

  -- the two parts hold no more than the whole
  pub parts_most : (js : List ℕ) → pads_in S a q js + pads_in S (q + 1) b js ≤ pads_in S a b js
  unfolding pads_in
  parts_most [] = omega arith
  parts_most (j ∷ js) = let one = one_most j in let more = parts_most js in omega arith

  -- and less where a pad is in the way
  pub parted_less : (js : List ℕ) → parted_within S a b q js ≡ false → pads_in S a q js + pads_in S (q + 1) b js < pads_in S a b js
  unfolding parted_within pads_in
  parted_less [] e = absurd (true≢false e)
  parted_less (j ∷ js) e = go (cut (fits S a b j) (fits S a q j) (fits S (q + 1) b j)) refl e (λ f. parted_less js f)
    where
      go : (x : Bool) → cut (fits S a b j) (fits S a q j) (fits S (q + 1) b j) ≡ x → (x && parted_within S a b q js) ≡ false
          → (parted_within S a b q js ≡ false → pads_in S a q js + pads_in S (q + 1) b js < pads_in S a b js)
          → pads_in S a q (j ∷ js) + pads_in S (q + 1) b (j ∷ js) < pads_in S a b (j ∷ js)
      go true e f more = let one = one_most j in let rest = more f in omega arith
      go false e f more = let one = share_less (fits S a b j) (fits S a q j) (fits S (q + 1) b j) e in let rest = parts_most js in omega arith
