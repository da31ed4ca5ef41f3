-- Laws of `pads_in`: how many pads of a list lie in a strip.
use Rattle.std.specs.Prelude.{◌≡◌, refl, ◌⊎◌, Bool, true, false, List, [], ◌∷◌, ◌++◌, ℕ, ◌+◌, ◌-◌, ◌≤◌, ◌<◌, length, get_or, take, drop, leb}
use Rattle.std.proofs.Common.{sym, ap, ◌∙◌, inl, inr, arith, add-one, take-append-drop, drop_of_length-le, drop-cons, drop-drop, leb-true, leb-false, le-leb}
use Rattle.std.proofs.lemmas.Bool.{lt-leb}
use Rattle.pads.specs.Pads.{Sides, spans, fits, bit, pads_in}

-- ---- tests

pub le_or_lt : (m n : ℕ) → (m ≤ n) ⊎ (n < m)
le_or_lt m n = go (leb m n) refl
  where
    go : (x : Bool) → leb m n ≡ x → (m ≤ n) ⊎ (n < m)
    go true e = inl (leb-true m n e)
    go false e = inr (leb-false m n e)

-- ---- one pad

pub spans_by : (a b l h : ℕ) → a ≤ l → h ≤ b → spans a b l h ≡ true
unfolding spans
spans_by a b l h p q = rw (le-leb a l p, le-leb h b q)

pub spans_not_lo : (a b l h : ℕ) → l < a → spans a b l h ≡ false
unfolding spans
spans_not_lo a b l h p = rw (lt-leb a l p)

pub spans_not_hi : (a b l h : ℕ) → a ≤ l → b < h → spans a b l h ≡ false
unfolding spans
spans_not_hi a b l h p q = rw (le-leb a l p, lt-leb h b q)

-- ---- bits

pub bit_le : (x : Bool) → bit x ≤ 1
bit_le true = omega arith
bit_le false = omega arith

pub bit_true : (x : Bool) → bit x ≡ 1 → x ≡ true
bit_true true e = refl
bit_true false e = absurd (omega arith)

-- ---- lists

-- a list from place k on, by what stands there
pub drop_at : (order : List ℕ) (k : ℕ) → k < length order → drop k order ≡ get_or order k 0 ∷ drop (k + 1) order
drop_at order k h = drop-cons order k 0 h ∙ ap (λ (i : ℕ). get_or order k 0 ∷ drop i order) (sym (add-one k))

-- one pad more
pub count_step : (S : Sides) (order : List ℕ) (a b k : ℕ) → k < length order
    → pads_in S a b (drop k order) ≡ bit (fits S a b (get_or order k 0)) + pads_in S a b (drop (k + 1) order)
unfolding pads_in
count_step S order a b k h = ap (pads_in S a b) (drop_at order k h)

count-append : (S : Sides) (a b : ℕ) (pre js : List ℕ) → pads_in S a b (pre ++ js) ≡ pads_in S a b pre + pads_in S a b js
unfolding pads_in
count-append S a b [] js = omega arith
count-append S a b (j ∷ pre) js = let more = count-append S a b pre js in omega arith

-- from place s of a list on: what comes before place s', and what comes from there on
pub drop_split : (l : List ℕ) (s s' : ℕ) → s ≤ s' → drop s l ≡ take (s' - s) (drop s l) ++ drop s' l
drop_split l s s' h =
    let e : s + (s' - s) ≡ s' = omega arith in
    sym (take-append-drop (s' - s) (drop s l)) ∙ ap (λ (r : List ℕ). take (s' - s) (drop s l) ++ r) (drop-drop (s' - s) s l ∙ ap (λ (k : ℕ). drop k l) e)

pub count-drop : (S : Sides) (a b : ℕ) (l : List ℕ) (s s' : ℕ) → s ≤ s' → pads_in S a b (drop s l) ≡ pads_in S a b (take (s' - s) (drop s l)) + pads_in S a b (drop s' l)
count-drop S a b l s s' h = ap (pads_in S a b) (drop_split l s s' h) ∙ count-append S a b (take (s' - s) (drop s l)) (drop s' l)

-- past the last place there is none
pub count_end : (S : Sides) (order : List ℕ) (a b k : ℕ) → length order ≤ k → pads_in S a b (drop k order) ≡ 0
unfolding pads_in
count_end S order a b k h = ap (pads_in S a b) (drop_of_length-le order h)
