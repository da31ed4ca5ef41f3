-- The verdict after one test and the next: each goes on from what those before it came to. And that the tests of a list come to the same.
use Rattle.std.specs.Prelude.{◌≡◌, refl, Bool, false, ◌||◌, eqb, ltb, List, [], ◌∷◌, ◌++◌, ℕ, ◌*◌, ◌≤◌, Option, Some, None, option_map, Ok, Err}
use Rattle.std.proofs.Common.{sym, ap, ◌∙◌, arith, ltb-false}
use Rattle.paper.specs.declared.Refusal.{Refusal}
use Rattle.paper.specs.laws.Tests.{Test, at_each, at_pairs, at_whole}
use Rattle.paper.specs.laws.Decided.{reason_of}
use Rattle.paper.specs.laws.Imported.{wide}
use Rattle.find.specs.declared.Fault.{Fault}
use Rattle.find.specs.Search.{first_where, first_pair_where, none_at, or_false_right}
use Rattle.checks.specs.Verdicts.{Verdict, at_record, at_both, outcome, verdict, and_nothing}
use Rattle.checks.specs.Verdicts.{and_then as and_verdict}
use Rattle.checks.specs.Judged.{wide_found}

-- a record found alone
abbrev pub alone : ℕ → Fault
alone i = record { at = i; earlier = 0 }

-- the first records at fault
abbrev pub found_by : Test → Option Fault
found_by (at_each r n p) = option_map alone (first_where p n)
found_by (at_pairs r n q) = first_pair_where q n

-- the first test that finds a record gives the refusal, which stands
abbrev pub and_then : Verdict → Test → Verdict
and_then (Ok u) t = at_both (reason_of t) (found_by t)
and_then (Err r) t = Err r

abbrev pub verdict_after : Verdict → List Test → Verdict
verdict_after v [] = v
verdict_after v (t ∷ ts) = verdict_after (and_then v t) ts

-- one list of tests after another
pub after_append : (v : Verdict) (ts us : List Test) → verdict_after v (ts ++ us) ≡ verdict_after (verdict_after v ts) us
after_append v [] us = refl
after_append v (t ∷ ts) us = after_append (and_then v t) ts us

-- a refusal stands
pub after_refused : (r : Refusal) (ts : List Test) → verdict_after (Err r) ts ≡ Err r
after_refused r [] = refl
after_refused r (t ∷ ts) = after_refused r ts

-- ---- what a sound verdict tells of the checks so far

outcome_sound : (r : ℕ) (f : Option Fault) → at_both r f ≡ Ok tt → f ≡ None
outcome_sound r (Some f) e = cc
outcome_sound r None e = refl

-- The verdict after a test is sound: it was before, and the test found nothing.
then_sound : (v : Verdict) (t : Test) → and_then v t ≡ Ok tt → (v ≡ Ok tt) × (found_by t ≡ None)
then_sound (Ok u) t e = (refl, outcome_sound (reason_of t) (found_by t) e)
then_sound (Err r) t e = cc

-- The same of a verdict w that the code has.
pub was_sound : (v w : Verdict) (t : Test) → w ≡ and_then v t → w ≡ Ok tt → (v ≡ Ok tt) × (found_by t ≡ None)
was_sound v w t e s = then_sound v t (sym e ∙ s)

alone_none : (f : Option ℕ) → option_map alone f ≡ None → f ≡ None
alone_none (Some i) e = cc
alone_none None e = refl

-- Nothing found in the input as a whole: the test fails.
pub whole_false : (r : ℕ) (t : Bool) → found_by (at_whole r t) ≡ None → t ≡ false
whole_false r t e = none_at (λ i. t) 1 (alone_none (first_where (λ i. t) 1) e) 0 (omega arith)

-- The verdict after tests is sound: it was before.
pub after_sound : (v : Verdict) (ts : List Test) → verdict_after v ts ≡ Ok tt → v ≡ Ok tt
after_sound v [] e = e
after_sound v (t ∷ ts) e = (then_sound v t (after_sound (and_then v t) ts e)).0

-- Tests one after another: the verdict after the first was sound.
pub append_sound : (v : Verdict) (ts us : List Test) → verdict_after v (ts ++ us) ≡ Ok tt → verdict_after v ts ≡ Ok tt
append_sound v ts us e = after_sound (verdict_after v ts) us (sym (after_append v ts us) ∙ e)

-- 1 and 22 of a list that was read not given: so few pads, and room for their records.
pub list_few : (n room : ℕ) → and_then (and_then (Ok tt) (at_whole 1 (eqb n 0 || ltb 64 n))) (at_whole 22 (ltb room (16 * n))) ≡ Ok tt → (n ≤ 64) × (16 * n ≤ room)
list_few n room e =
    let two = then_sound (and_then (Ok tt) (at_whole 1 (eqb n 0 || ltb 64 n))) (at_whole 22 (ltb room (16 * n))) e in
    let one = then_sound (Ok tt) (at_whole 1 (eqb n 0 || ltb 64 n)) two.0 in
    (ltb-false 64 n (or_false_right (eqb n 0) (ltb 64 n) (whole_false 1 (eqb n 0 || ltb 64 n) one.1)), ltb-false room (16 * n) (whole_false 22 (ltb room (16 * n)) two.1))

-- ---- a test of as many as there are is one of 64

-- A record found alone is given alone.
one_found : (r : ℕ) (f : Option ℕ) → at_both r (option_map alone f) ≡ at_record r f
one_found r (Some i) = refl
one_found r None = refl

then_each : (v : Verdict) (r n : ℕ) (p : ℕ → Bool) → n ≤ 64 → and_then v (at_each r n p) ≡ and_then v (at_each r 64 (wide n p))
then_each (Ok u) r n p l = ap (λ (f : Option ℕ). at_both r (option_map alone f)) (sym (wide_found p n 64 l))
then_each (Err q) r n p l = refl

-- ---- and all of them

test_found : (t : Test) → at_both (reason_of t) (found_by t) ≡ outcome t
test_found (at_each r n p) = one_found r (first_where p n)
test_found (at_pairs r n q) = refl

-- The verdict after v and tests is v and then theirs;
pub after_is : (v : Verdict) (ts : List Test) → verdict_after v ts ≡ and_verdict v (verdict ts)
after_is v [] = sym (and_nothing v)
after_is (Ok u) (t ∷ ts) = after_is (and_then (Ok u) t) ts ∙ ap (λ (w : Verdict). and_verdict w (verdict ts)) (test_found t)
after_is (Err r) (t ∷ ts) = after_refused r ts

-- from nothing on it is theirs alone.
pub verdict_is_after : (ts : List Test) → verdict ts ≡ verdict_after (Ok tt) ts
verdict_is_after ts = sym (after_is (Ok tt) ts)
