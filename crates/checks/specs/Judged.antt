-- THE VERDICT IS RIGHT: for every input, a call's tests come to the refusal that its trials say, or to none.
use Rattle.std.specs.Prelude.{◌≡◌, refl, ◌↔◌, Bool, true, false, ◌&&◌, ◌||◌, List, [], ◌∷◌, ◌++◌, ℕ, zero, suc, ◌≤◌, ◌<◌, T, eqb, ltb, length, Option, Some, None, Ok, Err}
use Rattle.std.proofs.Common.{sym, ap, subst, ◌∙◌, inl, add-one, arith, lt-ltb, le-ltb, ltb→lt, lt→ltb}
use Rattle.std.proofs.Math.Bool.{or-true}
use Rattle.std.proofs.Math.Decide.{dec_lt}
use Rattle.numbers.proofs.Tests.{both, true_iff}
use Rattle.paper.specs.declared.Form.TheVariants.{Slots}
use Rattle.paper.specs.declared.Refusal.{Refusal}
use Rattle.paper.specs.Answers.{Work}
use Rattle.paper.specs.Job.{Job, count}
use Rattle.paper.specs.Layouts.{Badness}
use Rattle.paper.specs.Refusals.{Trial, Smallest, Passed, RefusedBy, refusal, sound_trials, measure_trials, draw_trials, read_trials}
use Rattle.paper.specs.laws.Tests.{Test, at_each, at_pairs, at_whole, with_earlier, bad_field, same_name, same_x, draw_tests}
use Rattle.paper.specs.laws.Parsing.{Row, listed, good, rows_bytes}
use Rattle.paper.proofs.laws.Written.{rows_count}
use Rattle.paper.specs.laws.Imported.{record_tests, row_tests, wide, wide_tests}
use Rattle.paper.proofs.laws.Imported.{row_tests_lem}
use Rattle.paper.proofs.laws.Trials.{passed_append, refused_left, refused_right}
use Rattle.paper.specs.laws.Decided.{TestOf, TestsOf, sound_tests_of, measure_tests_of}
use Rattle.paper.proofs.laws.Decided.{sound_tests_lem, measure_tests_lem, draw_tests_lem}
use Rattle.find.specs.Search.{first_where, first_pair_where, and_at, pair_at, none_below, none_more, found_here, at_is, none_at}
use Rattle.checks.specs.Verdicts.{Verdict, at_record, at_both, outcome, and_then, verdict}

-- The verdict v is right for these trials.
abbrev pub Judged : Verdict → List Trial → Type 0
Judged (Ok u) ts = Passed ts
Judged (Err r) ts = RefusedBy ts r

-- What a verdict that the code worked out tells: the trials are passed, or one refuses.
pub judged_sound : (v : Verdict) (ts : List Trial) → Judged v ts → v ≡ Ok tt → Passed ts
judged_sound v ts j e = subst (λ (w : Verdict). Judged w ts) e j

pub judged_refused : (v : Verdict) (ts : List Trial) (r : Refusal) → Judged v ts → v ≡ Err r → RefusedBy ts r
judged_refused v ts r j e = subst (λ (w : Verdict). Judged w ts) e j

-- ---- one test

-- The first number below n at which a test holds, where the test says what P says, is the smallest of which P holds;
module _ (P : ℕ → Type 0) (p : ℕ → Bool) (n : ℕ) (says : (i : ℕ) → i < n → T (p i) ↔ P i) where
  first_smallest : (i : ℕ) → first_where p n ≡ Some i → (i < n) × Smallest P i
  first_smallest i e =
      let (l, here, before) = at_is p n i e in
      (l, record { here = (true_iff (p i) (says i l)).0 here; none_below = λ j k x. subst T (none_at p i before j k) ((says j (omega arith)).1 x) })

  -- and where none is found, P holds of none.
  first_none : first_where p n ≡ None → (i : ℕ) → i < n → ¬ P i
  first_none e i l x = subst T (none_at p n e i l) ((says i l).1 x)

-- What a test finds is what its trial says.
each_judged : (r n : ℕ) (p : ℕ → Bool) (t : Trial) → TestOf (at_each r n p) t → Judged (at_record r (first_where p n)) (t ∷ [])
each_judged r n p t a = go (first_where p n) refl
  where
    says : (i : ℕ) → i < n → T (p i) ↔ t.fault i
    says i l = a.fault_iff i (rw (← a.among_same) l)

    go : (f : Option ℕ) → first_where p n ≡ f → Judged (at_record r f) (t ∷ [])
    go (Some i) e =
        let (l, s) = first_smallest t.fault p n says i e in
        let k : i < t.among = rw (← a.among_same) l in
        inl (a.reason_same, record { inside = k; first = s; named = record { here = (a.beside_iff i 0 k).0 tt; none_below = λ j m. absurd (omega arith) } })
    go None e = ((λ i l. first_none t.fault p n says e i (rw a.among_same l)), tt)

pairs_judged : (r n : ℕ) (q : ℕ → ℕ → Bool) (t : Trial) → TestOf (at_pairs r n q) t → Judged (at_both r (first_pair_where q n)) (t ∷ [])
unfolding first_pair_where
pairs_judged r n q t a = go (first_where (with_earlier q) n) refl
  where
    says : (i : ℕ) → i < n → T (with_earlier q i) ↔ t.fault i
    says i l = a.fault_iff i (rw (← a.among_same) l)

    beside : (i : ℕ) → i < t.among → (j : ℕ) → j < i → T (q i j) ↔ t.beside i j
    beside i l j k = (
      (λ x. (a.beside_iff i j l).0 ((both (ltb j i) (q i j)).1 (lt→ltb j i k, x))),
      (λ x. ((both (ltb j i) (q i j)).0 ((a.beside_iff i j l).1 x)).1),
    )

    with : (i : ℕ) → i < t.among → Smallest t.fault i → (f : Option ℕ) → first_where (q i) i ≡ f → Judged (at_both r (and_at i f)) (t ∷ [])
    with i l s (Some j) e =
        let (k, m) = first_smallest (t.beside i) (q i) i (beside i l) j e in inl (a.reason_same, record { inside = l; first = s; named = m })
    with i l s None e =
        let (j, x) = a.some_beside i l s.here in
        let k = ((both (ltb j i) (q i j)).0 ((a.beside_iff i j l).1 x)).0 in
        absurd (first_none (t.beside i) (q i) i (beside i l) e j (ltb→lt j i k) x)

    go : (f : Option ℕ) → first_where (with_earlier q) n ≡ f → Judged (at_both r (pair_at q f)) (t ∷ [])
    go (Some i) e = let (l, s) = first_smallest t.fault (with_earlier q) n says i e in with i (rw (← a.among_same) l) s (first_where (q i) i) refl
    go None e = ((λ i l. first_none t.fault (with_earlier q) n says e i (rw a.among_same l)), tt)

test_judged : (s : Test) (t : Trial) → TestOf s t → Judged (outcome s) (t ∷ [])
test_judged (at_each r n p) t a = each_judged r n p t a
test_judged (at_pairs r n q) t a = pairs_judged r n q t a

-- ---- one after the other

judged_right : (v : Verdict) (ts us : List Trial) → Passed ts → Judged v us → Judged v (ts ++ us)
judged_right (Ok u) ts us p a = passed_append ts us p a
judged_right (Err r) ts us p a = refused_right ts us r p a

-- v is right for ts, and where ts are passed w is right for us: one after the other is right for both.
judged_on : (v w : Verdict) (ts us : List Trial) → Judged v ts → (Passed ts → Judged w us) → Judged (and_then v w) (ts ++ us)
judged_on (Ok u) w ts us a k = judged_right w ts us a (k a)
judged_on (Err r) w ts us a k = refused_left ts us r a

-- THEOREM. Tests that tell of trials come to the right verdict on them.
tests_judge : (ss : List Test) (ts : List Trial) → TestsOf ss ts → Judged (verdict ss) ts
tests_judge [] [] a = tt
tests_judge [] (t ∷ ts) a = absurd a
tests_judge (s ∷ ss) [] a = absurd a
tests_judge (s ∷ ss) (t ∷ ts) (a, k) = judged_on (outcome s) (verdict ss) (t ∷ []) ts (test_judged s t a) (λ p. tests_judge ss ts (k p.0))

-- THEOREM, for every input of First, of Measure and of Draw.
pub sound_judged : (job : Job) (bad : Badness) (work : Work) (room : ℕ) → Judged (verdict (sound_tests_of job bad work room)) (sound_trials job bad work room)
sound_judged job bad work room = tests_judge (sound_tests_of job bad work room) (sound_trials job bad work room) (sound_tests_lem job bad work room)

pub measure_judged : (job : Job) (bad : Badness) (work : Work) (list : List ℕ)
    → Judged (verdict (measure_tests_of job bad work list)) (measure_trials job bad work list)
measure_judged job bad work list = tests_judge (measure_tests_of job bad work list) (measure_trials job bad work list) (measure_tests_lem job bad work list)

pub draw_judged : (bytes : List ℕ) (i q room : ℕ) → Judged (verdict (draw_tests bytes i q room)) (draw_trials bytes i q room)
draw_judged bytes i q room = tests_judge (draw_tests bytes i q room) (draw_trials bytes i q room) (draw_tests_lem bytes i q room)

-- ---- ReadCsv

-- Where a test holds nowhere, nothing is found.
none_found : (p : ℕ → Bool) (k : ℕ) → ((i : ℕ) → i < k → p i ≡ false) → first_where p k ≡ None
none_found p zero f = none_below p
none_found p (suc k) f = rw (← add-one k) (none_more p k (none_found p k (λ i l. f i (omega arith))) (f k (omega arith)))

and_false : (a b : Bool) → b ≡ false → (a && b) ≡ false
and_false true b e = e
and_false false b e = refl

-- What is found among the first n of m is what is found among n.
pub wide_found : (p : ℕ → Bool) (n m : ℕ) → n ≤ m → first_where (wide n p) m ≡ first_where p n
wide_found p n m h = go (first_where p n) refl
  where
    here : (i : ℕ) → i < n → wide n p i ≡ p i
    here i l = rw (lt-ltb i n l)

    past : first_where p n ≡ None → (i : ℕ) → Dec (i < n) → wide n p i ≡ false
    past e i (yes l) = here i l ∙ none_at p n e i l
    past e i (no l) = rw (le-ltb i n (omega arith))

    go : (f : Option ℕ) → first_where p n ≡ f → first_where (wide n p) m ≡ first_where p n
    go (Some i) e =
        let (l, holds, before) = at_is p n i e in
        found_here (wide n p) i (none_found (wide n p) i (λ j k. and_false (ltb j n) (p j) (none_at p i before j k))) (here i l ∙ holds) m (omega arith)
        ∙ sym e
    go None e = none_found (wide n p) m (λ i l. past e i (dec_lt i n)) ∙ sym e

-- So it does not matter that the trials are at 64 pads and the tests at as many as there are: with more than 64, 1 comes first.
module _ (n room : ℕ) (bytes : List ℕ) (is : count bytes ≡ n) where
  abbrev wides : List Test
  wides =
      at_each 4 64 (wide n (bad_field Slots bytes)) ∷
      at_each 6 64 (wide n (with_earlier (same_name bytes))) ∷
      at_each 7 64 (wide n (with_earlier (same_x bytes))) ∷ []

  many : 64 < n → outcome (at_whole 1 (eqb n 0 || ltb 64 n)) ≡ Err (refusal 1 0 0)
  many l = ap (at_record 1) (found_here (λ i. eqb n 0 || ltb 64 n) 0 (none_below (λ i. eqb n 0 || ltb 64 n)) (rw (lt-ltb 64 n l) (or-true (eqb n 0))) 1 (omega arith))

  few : n ≤ 64 → verdict (record_tests bytes) ≡ verdict wides
  few l =
      rw (
        is,
        wide_found (bad_field Slots bytes) n 64 l,
        wide_found (with_earlier (same_name bytes)) n 64 l,
        wide_found (with_earlier (same_x bytes)) n 64 l,
      )

  rows_wide : (made : List ℕ) → (n ≤ 64 → made ≡ bytes) → verdict (row_tests n made room) ≡ verdict (wide_tests n bytes room)
  rows_wide made same = go (dec_lt 64 n)
    where
      go : Dec (64 < n) → verdict (row_tests n made room) ≡ verdict (wide_tests n bytes room)
      go (yes l) = rw (many l)
      go (no l) = rw (same (omega arith), few (omega arith))

-- THEOREM. What the code finds of a list that it has read is what the trials say.
pub list_judged : (text : List ℕ) (rows : List Row) (made : List ℕ) (room : ℕ) → listed text ≡ good rows → (length rows ≤ 64 → made ≡ rows_bytes rows)
    → Judged (verdict (row_tests (length rows) made room)) (read_trials text room)
list_judged text rows made room e same =
    rw (rows_wide (length rows) room (rows_bytes rows) (rows_count rows) made same)
    (tests_judge (wide_tests (length rows) (rows_bytes rows) room) (read_trials text room) (row_tests_lem text rows room e).2)
