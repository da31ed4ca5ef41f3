-- `best_within` and `local_within` of a list, by its first pad, and by the parts that a port makes of a strip.
use Rattle.std.specs.Prelude.{◌≡◌, Bool, cond, ◌&&◌, ◌||◌, ℕ, ◌+◌, ◌-◌, ◌≤◌, ◌<◌, leb, ltb}
use Rattle.std.proofs.Math.Path.{refl}
use Rattle.std.proofs.Common.{sym, ap, ap₂, ◌∙◌, arith, leb-true, le-leb, ltb-true, lt-ltb}
use Rattle.std.proofs.Math.Bool.{true, false}
use mathlib.Core.List.{List, [], ◌∷◌}
use Rattle.strips.specs.Least.{Least, none, some, least}
use Rattle.strips.specs.Least as totals
use Rattle.strips.specs.Lists.{keep, every}
use Rattle.strips.proofs.Lists.{keep_yes, keep_no, keep_and, keep_cong, both, same_test}
use Rattle.strips.specs.Grid as strip
use Rattle.strips.proofs.Strips as laws
use Rattle.pads.specs.Pads.{Sides, spans, fits}
use Rattle.totals.specs.Strip.{cut, parted_within, given, value, grid, best_within, local_within}
use Rattle.totals.specs.Parted.{spans_lo, spans_hi}
use Rattle.pads.specs.Counts.{spans_by}

-- c, x and y together, in two steps
abbrev pub add : Least → Least → Least
add none y = none
add (some x) none = none
add (some x) (some y) = some (x + y)

-- ---- a pad in the strip, and in a part of it

part_low : (a b q l h : ℕ) → q ≤ b → (leb h q && spans a b l h) ≡ spans a q l h
part_low a b q l h qb =
    same_test (leb h q && spans a b l h) (spans a q l h)
    (λ e. let t = both (leb h q) (spans a b l h) e in spans_by a q l h (spans_lo a b l h t.1) (leb-true h q t.0))
    (λ e. let u = spans_hi a q l h e in rw (le-leb h q u) (spans_by a b l h (spans_lo a q l h e) (omega arith)))

part_high : (a b q l h : ℕ) → a ≤ q → (ltb q l && spans a b l h) ≡ spans (q + 1) b l h
part_high a b q l h aq =
    same_test (ltb q l && spans a b l h) (spans (q + 1) b l h)
    (λ e. let t = both (ltb q l) (spans a b l h) e in let u = ltb-true q l t.0 in spans_by (q + 1) b l h (omega arith) (spans_hi a b l h t.1))
    (λ e. let u = spans_lo (q + 1) b l h e in rw (lt-ltb q l (omega arith)) (spans_by a b l h (omega arith) (spans_hi (q + 1) b l h e)))

module _ (S : Sides) (C : ℕ → ℕ → Least) where
  below-keep : (a b q : ℕ) → q ≤ b → (js : List ℕ) → strip.below (grid S C) q (keep (fits S a b) js) ≡ keep (fits S a q) js
  below-keep a b q h js = keep_and (λ j. leb (S.hi j) q) (fits S a b) js ∙ keep_cong (λ j. part_low a b q (S.lo j) (S.hi j) h) js

  above_keep : (a b q : ℕ) → a ≤ q → (js : List ℕ) → strip.above (grid S C) q (keep (fits S a b) js) ≡ keep (fits S (q + 1) b) js
  above_keep a b q h js = keep_and (λ j. ltb q (S.lo j)) (fits S a b) js ∙ keep_cong (λ j. part_high a b q (S.lo j) (S.hi j) h) js

  parted_keep : (a b q : ℕ) → a ≤ q → q ≤ b → (js : List ℕ) → strip.parted (grid S C) q (keep (fits S a b) js) ≡ parted_within S a b q js
  unfolding keep every parted_within
  parted_keep a b q aq qb [] = refl
  parted_keep a b q aq qb (j ∷ js) =
      go (fits S a b j) (part_low a b q (S.lo j) (S.hi j) qb) (part_high a b q (S.lo j) (S.hi j) aq) (parted_keep a b q aq qb js)
    where
      and_true : (x : Bool) → (x && true) ≡ x
      and_true true = refl
      and_true false = refl

      go : (x : Bool) → (leb (S.hi j) q && x) ≡ fits S a q j → (ltb q (S.lo j) && x) ≡ fits S (q + 1) b j
          → strip.parted (grid S C) q (keep (fits S a b) js) ≡ parted_within S a b q js
          → strip.parted (grid S C) q (cond x (j ∷ keep (fits S a b) js) (keep (fits S a b) js)) ≡ (cut x (fits S a q j) (fits S (q + 1) b j) && parted_within S a b q js)
      go true u v e = ap₂ (λ (s t : Bool). s && t) (ap₂ (λ (s t : Bool). s || t) (sym (and_true (leb (S.hi j) q)) ∙ u) (sym (and_true (ltb q (S.lo j))) ∙ v)) e
      go false u v e = e

  -- ---- best, by its first pad

  pub best_within_nil : (a b : ℕ) → best_within S C [] a b ≡ some 0
  unfolding best_within keep
  best_within_nil a b = laws.best_nil (grid S C) a b

  pub best_in : (r : ℕ) (rest : List ℕ) (a b : ℕ) → fits S a b r ≡ true → best_within S C (r ∷ rest) a b ≡ least (local_within S C r rest a b) a (b - a)
  unfolding best_within local_within
  best_in r rest a b e = rw (keep_yes (fits S a b) r rest e) (laws.best_cons (grid S C) r (keep (fits S a b) rest) a b)

  pub best_out : (r : ℕ) (rest : List ℕ) (a b : ℕ) → fits S a b r ≡ false → best_within S C (r ∷ rest) a b ≡ best_within S C rest a b
  unfolding best_within
  best_out r rest a b e = rw (keep_no (fits S a b) r rest e)

-- ---- a port of the strip

plus_two : (x : Least) (y z : Least) → cond (given x && true) (totals.plus (value x) y z) none ≡ add x (add y z)
unfolding totals.plus
plus_two none y z = refl
plus_two (some x) none z = refl
plus_two (some x) (some y) none = refl
plus_two (some x) (some y) (some z) = ap some (omega arith)

plus_no : (x : Least) (y z : Least) → cond (given x && false) (totals.plus (value x) y z) none ≡ none
plus_no none y z = refl
plus_no (some x) y z = refl

module _ (S : Sides) (C : ℕ → ℕ → Least) (r : ℕ) (rest : List ℕ) (a b q : ℕ) (aq : a ≤ q) (qb : q < b) where
  local_both : local_within S C r rest a b q
      ≡ cond (given (C r q) && parted_within S a b q rest) (totals.plus (value (C r q)) (best_within S C rest a q) (best_within S C rest (q + 1) b)) none
  unfolding local_within best_within strip.local strip.local_by
  local_both =
      rw (parted_keep S C a b q aq (omega arith) rest, below-keep S C a b q (omega arith) rest, above_keep S C a b q aq rest)

  pub local_parted : parted_within S a b q rest ≡ true → local_within S C r rest a b q ≡ add (C r q) (add (best_within S C rest a q) (best_within S C rest (q + 1) b))
  local_parted e = local_both ∙ rw e (plus_two (C r q) (best_within S C rest a q) (best_within S C rest (q + 1) b))

  pub local_blocked : parted_within S a b q rest ≡ false → local_within S C r rest a b q ≡ none
  local_blocked e = local_both ∙ rw e (plus_no (C r q) (best_within S C rest a q) (best_within S C rest (q + 1) b))
