-- THE WORKED SHEETS, P1 to P12 and those of 02, by one theorem over one list, and Page's, Count's, Place's, Svg's and ReadCsv's by others: a test that the checker computes for each
-- sheet, and a lemma that turns the test into the call's promise.
--     worked, worked_pages, worked_counts, worked_places, worked_svg, worked_csv
use Rattle.std.specs.Prelude.{◌≡◌, refl, Bool, true, false, ◌&&◌, ◌||◌, List, [], ◌∷◌, ◌++◌, ℕ, zero, suc, ◌+◌, ◌*◌, ◌-◌, ◌≤◌, ◌<◌, T, eqb, leb, ltb, length, get_or, take, drop, Some, None, Ok, Err}
use Rattle.std.proofs.Common.{sym, ap, subst, ◌∙◌, arith, eqb→eq, leb→le, get_or-take, get_or-drop}
use Rattle.numbers.proofs.Tests.{both, or_iff, ltb_iff}
use Rattle.paper.specs.Answers.{Work, Answer, Counted}
use Rattle.paper.specs.Job.{Job, records, twos, name_of, half_of, x_of, y_of, last_of, port_of}
use Rattle.paper.specs.Layouts.{Board, board_of, held, Badness, by_weights, weighted, cost_of, sum, Same, Differ}
use Rattle.paper.specs.Problem.{Problem, FirstBest, LastBest, PlaceBest, CountBest, labeling_of}
use Rattle.paper.specs.Refusals.{Trial, first_trials, measure_trials, next_trials, Calls, calls_of, number_trials, count_trials, place_trials, svg_trials, text_trials, read_trials, csv_trials, RefusedBy, refusal}
use Rattle.paper.specs.Promises.{Kept, in_turn, Following, FirstAnswers, NextAnswers, PageAnswers, MeasureAnswers, CountAnswers, PlaceAnswers, SvgAnswers, CsvAnswers, overwritten}
use Rattle.paper.specs.laws.Totals.{total_of}
use Rattle.paper.proofs.laws.Trials.{passed_append, refused_right}
use Rattle.paper.specs.Sheets.{copper, sheet, sheets, Each, Call, First, Next, Measure, Sheet, AllowedBy, Allowed, pages, PageSheet, PageAllowed}
use Rattle.text.specs.Text.{digits, decimal}
use Rattle.paper.specs.Svg.{quarters, numeral}
use Rattle.paper.specs.laws.Drawn.{by_bend}
use Rattle.paper.specs.laws.Texts.{point_text, line_text, sheet_text}
use Rattle.paper.proofs.laws.Exported.{svg_tests, svg_tests_lem, svg_measured, svg_made}
use Rattle.paper.specs.Sheets.{SvgSheet, SvgAllowed, svg_sheets, CsvSheet, CsvAllowed, csv_sheets}
use Rattle.paper.specs.laws.Parsing.{Listed, good, bad as badAt, listed, list_from, line_front, field_front, word_front, digits_front, natural_front, signed_front, cap, fitting, rows_bytes}
use Rattle.paper.specs.laws.Imported.{wide_tests}
use Rattle.paper.proofs.laws.Imported.{row_tests_lem, text_passed, csv_made, csv_bad}
use Rattle.paper.specs.Sheets.{J3plus, CountSheet, PlaceSheet, CountAllowed, PlaceAllowed, count_sheets, place_sheets}
use Rattle.paper.specs.laws.Tests.{Test, somewhere, outside, between, leaders_touch, reaches, not_right, under_top, over_bottom, meets, meets_large, job_tests, layout_tests, sound_tests, measure_tests}
use Rattle.paper.specs.Leaders.{length_of, bends_of}
use Rattle.paper.proofs.laws.Order.{below_suc}
use Rattle.paper.specs.laws.Decided.{TestsOf, measure_tests_of}
use Rattle.paper.proofs.laws.Decided.{passes, refuses, tests_append, tests_pass, tests_refuse, measure_tests_lem}
use Rattle.paper.proofs.laws.Accepted.{first_sound, sound_accepted, next_differ}
use Rattle.paper.proofs.laws.Regular.{first_tests, first_tests_lem, next_tests, next_tests_lem}
use Rattle.paper.proofs.laws.Pages.{Follow}
use Rattle.paper.proofs.laws.Places.{place_same, follow_place, number_tests, number_tests_lem, later_tests, later_trials, later_tests_lem}
use Rattle.paper.specs.laws.Trying.{best_test, first_test, next_test, last_test}
use Rattle.paper.proofs.laws.Trying.{first_iff, next_iff, last_iff, Searchable, labeling_steady, labeling_searchable}
use Rattle.paper.specs.laws.Trying.{heads, words, any, some_word, least_test, misled, untouching_test, differ_right, decided_at, before_test, cheaper, later_test}

-- ---- the tests

abbrev same_list : List ℕ → List ℕ → Bool
same_list [] [] = true
same_list [] (y ∷ ys) = false
same_list (x ∷ xs) [] = false
same_list (x ∷ xs) (y ∷ ys) = eqb x y && same_list xs ys

-- two lists of the same length that are alike from n on
abbrev same_rest : ℕ → List ℕ → List ℕ → Bool
same_rest n l m = eqb (length m) (length l) && same_list (drop n m) (drop n l)

abbrev first_holds : Job → Badness → Work → List ℕ → Answer → List ℕ → Bool
first_holds job bad work l (Ok (Some t)) m =
    passes (first_tests job bad work (length l))
    && (first_test (labeling_of job bad) (untouching_test (board_of job)) (held m) && (eqb t (total_of (board_of job) bad m) && same_rest (board_of job).pads l m))
first_holds job bad work l (Ok None) m = false
first_holds job bad work l (Err r) m = refuses (first_tests job bad work (length l)) r && same_list m l

abbrev next_holds : Job → Badness → Work → List ℕ → Answer → List ℕ → Bool
next_holds job bad work l (Ok (Some t)) m =
    passes (next_tests job bad work l)
    && (next_test (labeling_of job bad) (untouching_test (board_of job)) (held l) (held m) && (eqb t (total_of (board_of job) bad m) && same_rest (board_of job).pads l m))
next_holds job bad work l (Ok None) m =
    passes (next_tests job bad work l) && (last_test (labeling_of job bad) (untouching_test (board_of job)) (held l) && same_list m l)
next_holds job bad work l (Err r) m = refuses (next_tests job bad work l) r && same_list m l

abbrev measure_holds : Job → Badness → List ℕ → Answer → Bool
measure_holds job bad l (Ok (Some t)) = passes (measure_tests_of job bad None l) && eqb t (total_of (board_of job) bad l)
measure_holds job bad l (Ok None) = false
measure_holds job bad l (Err r) = refuses (measure_tests_of job bad None l) r

-- k layouts that follow f 0
abbrev follow_test : Problem → ((ℕ → ℕ) → Bool) → (ℕ → ℕ → ℕ) → ℕ → Bool
follow_test p counts f zero = true
follow_test p counts f (suc k) = follow_test p counts f k && next_test p counts (f k) (f (suc k))

-- there is room for them; and for no more, or none comes after them
abbrev page_test : Problem → ((ℕ → ℕ) → Bool) → List ℕ → List ℕ → ℕ → List ℕ → Bool
page_test p counts given l k m =
    (leb (k * p.board.pads) (length l) && follow_test p counts (in_turn p.board.pads given m) k)
    && ((ltb (length l) (suc k * p.board.pads) || last_test p counts (in_turn p.board.pads given m k)) && same_rest (k * p.board.pads) l m)

abbrev page_holds : Job → Badness → Work → List ℕ → List ℕ → Counted → List ℕ → Bool
page_holds job bad work given l (Ok k) m =
    passes (next_tests job bad work given) && page_test (labeling_of job bad) (untouching_test (board_of job)) given l k m
page_holds job bad work given l (Err r) m = refuses (next_tests job bad work given) r && same_list m l

-- these layouts are all the best ones, in order
abbrev entry : List (List ℕ) → ℕ → ℕ → ℕ
entry ls j = held (get_or ls j [])

abbrev run_test : Problem → ((ℕ → ℕ) → Bool) → List ℕ → List (List ℕ) → Bool
run_test p counts l ls =
    first_test p counts (held l) && (follow_test p counts (entry (l ∷ ls)) (length ls) && last_test p counts (entry (l ∷ ls) (length ls)))

-- of a job with k best layouts; for Place, these ones
abbrev count_tests : Job → Badness → ℕ → ℕ → List Test
count_tests job bad k numbers = first_tests job bad None (board_of job).pads ++ number_tests (board_of job).pads numbers k

abbrev count_holds : Job → Badness → ℕ → ℕ → Counted → Bool
count_holds job bad k numbers (Ok j) = passes (count_tests job bad k numbers) && eqb j k
count_holds job bad k numbers (Err r) = refuses (count_tests job bad k numbers) r

abbrev place_tests : Job → Badness → ℕ → ℕ → ℕ → ℕ → List Test
place_tests job bad k numbers place room = first_tests job bad None room ++ later_tests (board_of job).pads numbers k place

abbrev svg_holds : List ℕ → List ℕ → List ℕ → Counted → List ℕ → Bool
svg_holds job list l (Ok k) m =
    let s = sheet_text (board_of (records job)) (held list) in passes (svg_tests job list (length l)) && (eqb k (length s) && same_list m (overwritten s l))
svg_holds job list l (Err r) m = refuses (svg_tests job list (length l)) r && same_list m l

abbrev csv_holds : List ℕ → Listed → List ℕ → Counted → List ℕ → Bool
csv_holds text (good rows) l (Ok k) m =
    leb (length text) 16384 && (passes (wide_tests (length rows) (rows_bytes rows) (length l)) && (eqb k (length rows) && same_list m (overwritten (rows_bytes rows) l)))
csv_holds text (good rows) l (Err r) m = leb (length text) 16384 && (refuses (wide_tests (length rows) (rows_bytes rows) (length l)) r && same_list m l)
csv_holds text (badAt j) l (Ok k) m = false
csv_holds text (badAt j) l (Err r) m = leb (length text) 16384 && ((eqb r.reason 21 && (eqb r.at (suc j) && eqb r.earlier 0)) && same_list m l)

abbrev place_holds : Job → Badness → List (List ℕ) → ℕ → ℕ → List ℕ → Answer → List ℕ → Bool
place_holds job bad ls numbers place l (Ok (Some t)) m =
    passes (place_tests job bad (length ls) numbers place (length l))
    && ((ltb place (length ls) && same_list (take (board_of job).pads m) (get_or ls place [])) && (eqb t (total_of (board_of job) bad m) && same_rest (board_of job).pads l m))
place_holds job bad ls numbers place l (Ok None) m = false
place_holds job bad ls numbers place l (Err r) m = refuses (place_tests job bad (length ls) numbers place (length l)) r && same_list m l

abbrev holds_for : Call → Sheet → Bool
holds_for First s = first_holds s.job s.bad s.work s.before s.answer s.after
holds_for Next s = next_holds s.job s.bad s.work s.before s.answer s.after
holds_for Measure s = measure_holds s.job s.bad s.before s.answer && same_list s.after s.before

abbrev holds : Sheet → Bool
holds s = holds_for s.call s

abbrev page_sheet_holds : PageSheet → Bool
page_sheet_holds s = page_holds s.job s.bad None s.given s.before s.answer s.after

abbrev all_hold : {S : Type 0} → (S → Bool) → List S → Bool
all_hold test [] = true
all_hold test (s ∷ ss) = test s && all_hold test ss

-- ---- what they say

same_list_lem : (l m : List ℕ) → T (same_list l m) → l ≡ m
same_list_lem [] [] t = refl
same_list_lem [] (y ∷ ys) t = absurd t
same_list_lem (x ∷ xs) [] t = absurd t
same_list_lem (x ∷ xs) (y ∷ ys) t = let u = (both (eqb x y) (same_list xs ys)).0 t in λ i. eqb→eq x y u.0 i ∷ same_list_lem xs ys u.1 i

same_rest_lem : (n : ℕ) (l m : List ℕ) → T (same_rest n l m) → Kept n l m
same_rest_lem n l m t =
    let u = (both (eqb (length m) (length l)) (same_list (drop n m) (drop n l))).0 t in
    let e = same_list_lem (drop n m) (drop n l) u.1 in
    record { long = eqb→eq (length m) (length l) u.0; rest = λ k h. sym (at m k h) ∙ ap (λ (o : List ℕ). get_or o (k - n) 0) e ∙ at l k h }
  where
    at : (o : List ℕ) (k : ℕ) → n ≤ k → get_or (drop n o) (k - n) 0 ≡ get_or o k 0
    at o k h = let d : n + (k - n) ≡ k = omega arith in rw d at (get_or-drop n o (k - n) 0)

module _ (job : Job) (bad : Badness) (work : Work) (l : List ℕ) where
  abbrev b : Board
  b = board_of job

  abbrev p : Problem
  p = labeling_of job bad

  abbrev counts : (ℕ → ℕ) → Bool
  counts = untouching_test b

  abbrev searchable : Differ b → Searchable p
  searchable = labeling_searchable b (cost_of b bad)

  first_holds_lem : (a : Answer) (m : List ℕ) → T (first_holds job bad work l a m) → FirstAnswers job bad work l a m
  first_holds_lem (Ok (Some t)) m h =
      let c = eqb t (total_of (board_of job) bad m) in
      let d = same_rest (board_of job).pads l m in
      let e = first_test p counts (held m) in
      let u = (both (passes (first_tests job bad work (length l))) (e && (c && d))).0 h in
      let w = (both e (c && d)).0 u.1 in
      let x = (both c d).0 w.1 in
      let q = tests_pass (first_tests job bad work (length l)) (first_trials job bad work (length l)) (first_tests_lem job bad work (length l)) u.0 in
      let differ = (sound_accepted job bad work (length l) (first_sound job bad work (length l) q)).0.proper.differ in
      (q, (first_iff p (searchable differ) (held m)).0 w.0, eqb→eq t (total_of (board_of job) bad m) x.0, same_rest_lem (board_of job).pads l m x.1)
  first_holds_lem (Ok None) m h = absurd h
  first_holds_lem (Err r) m h =
      let u = (both (refuses (first_tests job bad work (length l)) r) (same_list m l)).0 h in
      let q = tests_refuse (first_tests job bad work (length l)) (first_trials job bad work (length l)) r (first_tests_lem job bad work (length l)) u.0 in
      (q, same_list_lem m l u.1)

  next_holds_lem : (a : Answer) (m : List ℕ) → T (next_holds job bad work l a m) → NextAnswers job bad work l a m
  next_holds_lem (Ok (Some t)) m h =
      let c = eqb t (total_of (board_of job) bad m) in
      let d = same_rest (board_of job).pads l m in
      let e = next_test p counts (held l) (held m) in
      let u = (both (passes (next_tests job bad work l)) (e && (c && d))).0 h in
      let w = (both e (c && d)).0 u.1 in
      let x = (both c d).0 w.1 in
      let q = tests_pass (next_tests job bad work l) (next_trials job bad work l) (next_tests_lem job bad work l) u.0 in
      (q, (next_iff p (searchable (next_differ job bad work l q)) (held l) (held m)).0 w.0, eqb→eq t (total_of (board_of job) bad m) x.0, same_rest_lem (board_of job).pads l m x.1)
  next_holds_lem (Ok None) m h =
      let e = last_test p counts (held l) in
      let u = (both (passes (next_tests job bad work l)) (e && same_list m l)).0 h in
      let w = (both e (same_list m l)).0 u.1 in
      let q = tests_pass (next_tests job bad work l) (next_trials job bad work l) (next_tests_lem job bad work l) u.0 in
      (q, (last_iff p (searchable (next_differ job bad work l q)) (held l)).0 w.0, same_list_lem m l w.1)
  next_holds_lem (Err r) m h =
      let u = (both (refuses (next_tests job bad work l) r) (same_list m l)).0 h in
      (tests_refuse (next_tests job bad work l) (next_trials job bad work l) r (next_tests_lem job bad work l) u.0, same_list_lem m l u.1)

  module _ (differ : Differ b) where
    follow_told : (f : ℕ → ℕ → ℕ) (k : ℕ) → T (follow_test p counts f k) → Follow p k f
    follow_told f zero h = λ j i. absurd (omega arith)
    follow_told f (suc k) h =
        let u = (both (follow_test p counts f k) (next_test p counts (f k) (f (suc k)))).0 h in
        below_suc k (follow_told f k u.0) ((next_iff p (searchable differ) (f k) (f (suc k))).0 u.1)

    page_told : (before : List ℕ) (k : ℕ) (m : List ℕ) → T (page_test p counts l before k m) → Following p l before k m
    page_told before k m h =
        let f = in_turn (board_of job).pads l m in
        let c = leb (k * (board_of job).pads) (length before) in
        let d = ltb (length before) (suc k * (board_of job).pads) in
        let e = same_rest (k * (board_of job).pads) before m in
        let u = (both (c && follow_test p counts f k) ((d || last_test p counts (f k)) && e)).0 h in
        let w = (both c (follow_test p counts f k)).0 u.0 in
        let x = (both (d || last_test p counts (f k)) e).0 u.1 in
        record {
          fit = leb→le (k * (board_of job).pads) (length before) w.0;
          follow = follow_told f k w.1;
          all = (or_iff d (last_test p counts (f k)) (ltb_iff (length before) (suc k * (board_of job).pads)) (last_iff p (searchable differ) (f k))).0 x.0;
          kept = same_rest_lem (k * (board_of job).pads) before m x.1;
        }

  page_holds_lem : (before : List ℕ) (a : Counted) (m : List ℕ) → T (page_holds job bad work l before a m) → PageAnswers job bad work l before a m
  page_holds_lem before (Ok k) m h =
      let u = (both (passes (next_tests job bad work l)) (page_test p counts l before k m)).0 h in
      let q = tests_pass (next_tests job bad work l) (next_trials job bad work l) (next_tests_lem job bad work l) u.0 in
      (q, page_told (next_differ job bad work l q) before k m u.1)
  page_holds_lem before (Err r) m h =
      let u = (both (refuses (next_tests job bad work l) r) (same_list m before)).0 h in
      (tests_refuse (next_tests job bad work l) (next_trials job bad work l) r (next_tests_lem job bad work l) u.0, same_list_lem m before u.1)

  measure_holds_lem : (a : Answer) → T (measure_holds job bad l a) → MeasureAnswers job bad l a
  measure_holds_lem (Ok (Some t)) h =
      let u = (both (passes (measure_tests_of job bad None l)) (eqb t (total_of (board_of job) bad l))).0 h in
      (tests_pass (measure_tests_of job bad None l) (measure_trials job bad None l) (measure_tests_lem job bad None l) u.0, eqb→eq t (total_of (board_of job) bad l) u.1)
  measure_holds_lem (Ok None) h = absurd h
  measure_holds_lem (Err r) h = tests_refuse (measure_tests_of job bad None l) (measure_trials job bad None l) r (measure_tests_lem job bad None l) h

  -- Layouts that pass their test are at their places, and as many as the count.
  module _ (differ : Differ b) (ls : List (List ℕ)) (h : T (run_test p counts l ls)) where
    run_parts : FirstBest p (held l) × Follow p (length ls) (entry (l ∷ ls)) × LastBest p (entry (l ∷ ls) (length ls))
    run_parts =
        let f = follow_test p counts (entry (l ∷ ls)) (length ls) in
        let e = last_test p counts (entry (l ∷ ls) (length ls)) in
        let u = (both (first_test p counts (held l)) (f && e)).0 h in
        let w = (both f e).0 u.1 in
        let last = (last_iff p (searchable differ) (entry (l ∷ ls) (length ls))).0 w.1 in
        ((first_iff p (searchable differ) (held l)).0 u.0, follow_told differ (entry (l ∷ ls)) (length ls) w.0, last)

    run_place : (k : ℕ) → k < length (l ∷ ls) → PlaceBest p k (entry (l ∷ ls) k)
    run_place k i = follow_place p (entry (l ∷ ls)) run_parts.0 k (λ j g. run_parts.1 j (omega arith))

    run_count : CountBest p (length (l ∷ ls))
    run_count = record {
      last = length ls;
      layout = entry (l ∷ ls) (length ls);
      at = run_place (length ls) (omega arith);
      end = run_parts.2;
      more = omega arith;
    }

-- A sheet that passes its test is one that its call's promise allows.
holds_allowed : (c : Call) (s : Sheet) → T (holds_for c s) → AllowedBy c s
holds_allowed First s h = (s.answer, first_holds_lem s.job s.bad s.work s.before s.answer s.after h, refl)
holds_allowed Next s h = (s.answer, next_holds_lem s.job s.bad s.work s.before s.answer s.after h, refl)
holds_allowed Measure s h =
    let u = (both (measure_holds s.job s.bad s.before s.answer) (same_list s.after s.before)).0 h in
    ((s.answer, measure_holds_lem s.job s.bad None s.before s.answer u.0, refl), same_list_lem s.after s.before u.1)

page_allowed : (s : PageSheet) → T (page_sheet_holds s) → PageAllowed s
page_allowed s h = (s.answer, page_holds_lem s.job s.bad None s.given s.before s.answer s.after h, refl)

-- Count's and Place's, of a job whose best layouts are these.
module _ (job : Job) (bad : Badness) (ls : List (List ℕ)) (is : CountBest (labeling_of job bad) (length ls))
    (at : (k : ℕ) → k < length ls → PlaceBest (labeling_of job bad) k (entry ls k)) (numbers : ℕ) where
  abbrev n : ℕ
  n = (board_of job).pads

  abbrev calls : Calls
  calls = calls_of job bad None

  count_tests_lem : TestsOf (count_tests job bad (length ls) numbers) (count_trials calls numbers)
  count_tests_lem =
      tests_append (first_tests job bad None n) (number_tests n numbers (length ls)) (first_trials job bad None n) (number_trials (labeling_of job bad) numbers)
      (first_tests_lem job bad None n) (λ _. number_tests_lem (labeling_of job bad) (length ls) is numbers)

  count-holds : (a : Counted) → T (count_holds job bad (length ls) numbers a) → CountAnswers job bad numbers a
  count-holds (Ok j) h =
      let u = (both (passes (count_tests job bad (length ls) numbers)) (eqb j (length ls))).0 h in
      (tests_pass (count_tests job bad (length ls) numbers) (count_trials calls numbers) count_tests_lem u.0, rw (eqb→eq j (length ls) u.1) is)
  count-holds (Err r) h = tests_refuse (count_tests job bad (length ls) numbers) (count_trials calls numbers) r count_tests_lem h

  module _ (place : ℕ) (l : List ℕ) where
    abbrev tests : List Test
    tests = place_tests job bad (length ls) numbers place (length l)

    abbrev trials : List Trial
    trials = place_trials calls numbers place (length l)

    place_tests_lem : TestsOf tests trials
    place_tests_lem =
        tests_append (first_tests job bad None (length l)) (later_tests n numbers (length ls) place)
        (first_trials job bad None (length l)) (later_trials (labeling_of job bad) numbers place)
        (first_tests_lem job bad None (length l)) (λ _. later_tests_lem (labeling_of job bad) (length ls) is numbers place)

    place-holds : (a : Answer) (m : List ℕ) → T (place_holds job bad ls numbers place l a m) → PlaceAnswers job bad numbers place l a m
    place-holds (Ok (Some t)) m h =
        let c = ltb place (length ls) in
        let d = same_list (take n m) (get_or ls place []) in
        let e = eqb t (total_of (board_of job) bad m) in
        let u = (both (passes tests) ((c && d) && (e && same_rest n l m))).0 h in
        let w = (both (c && d) (e && same_rest n l m)).0 u.1 in
        let x = (both c d).0 w.0 in
        let y = (both e (same_rest n l m)).0 w.1 in
        let f = same_list_lem (take n m) (get_or ls place []) x.1 in
        let same : Same (board_of job) (entry ls place) (held m) = λ i g. ap (λ (o : List ℕ). held o i) (sym f) ∙ get_or-take n m i 0 g in
        let steady = labeling_steady (board_of job) (cost_of (board_of job) bad) in (
          tests_pass tests trials place_tests_lem u.0,
          place_same (labeling_of job bad) steady place (entry ls place) (held m) same (at place ((ltb_iff place (length ls)).0 x.0)),
          eqb→eq t (total_of (board_of job) bad m) y.0,
          same_rest_lem n l m y.1,
        )
    place-holds (Ok None) m h = absurd h
    place-holds (Err r) m h =
        let u = (both (refuses tests r) (same_list m l)).0 h in
        (tests_refuse tests trials r place_tests_lem u.0, same_list_lem m l u.1)

svg_holds_lem : (job list l : List ℕ) (a : Counted) (m : List ℕ) → T (svg_holds job list l a m) → SvgAnswers job list l a m
svg_holds_lem job list l (Ok k) m h =
    let s = sheet_text (board_of (records job)) (held list) in
    let u = (both (passes (svg_tests job list (length l))) (eqb k (length s) && same_list m (overwritten s l))).0 h in
    let v = (both (eqb k (length s)) (same_list m (overwritten s l))).0 u.1 in
    let (measured, fits) = svg_measured job list (length l) (tests_pass (svg_tests job list (length l)) (svg_trials job list (length l)) (svg_tests_lem job list (length l)) u.0) in
    rw (eqb→eq k (length s) v.0, same_list_lem m (overwritten s l) v.1) (svg_made job list l measured fits)
svg_holds_lem job list l (Err r) m h =
    let u = (both (refuses (svg_tests job list (length l)) r) (same_list m l)).0 h in
    (tests_refuse (svg_tests job list (length l)) (svg_trials job list (length l)) r (svg_tests_lem job list (length l)) u.0, same_list_lem m l u.1)

csv_holds_lem : (text l : List ℕ) (a : Counted) (m : List ℕ) → T (csv_holds text (listed text) l a m) → CsvAnswers text l a m
csv_holds_lem text l a m = go (listed text) refl a
  where
    go : (o : Listed) → listed text ≡ o → (a : Counted) → T (csv_holds text o l a m) → CsvAnswers text l a m
    go (good rows) e (Ok k) h =
        let tests = wide_tests (length rows) (rows_bytes rows) (length l) in
        let u = (both (leb (length text) 16384) (passes tests && (eqb k (length rows) && same_list m (overwritten (rows_bytes rows) l)))).0 h in
        let v = (both (passes tests) (eqb k (length rows) && same_list m (overwritten (rows_bytes rows) l))).0 u.1 in
        let w = (both (eqb k (length rows)) (same_list m (overwritten (rows_bytes rows) l))).0 v.1 in
        let (pads, reads, says) = row_tests_lem text rows (length l) e in
        let passed = passed_append (text_trials text) (read_trials text (length l)) (text_passed text pads (leb→le (length text) 16384 u.0) reads)
        (tests_pass tests (read_trials text (length l)) says v.0) in
        rw (eqb→eq k (length rows) w.0, same_list_lem m (overwritten (rows_bytes rows) l) w.1) (passed, (rows_bytes rows, csv_made text rows (length l) e passed, refl))
    go (good rows) e (Err r) h =
        let tests = wide_tests (length rows) (rows_bytes rows) (length l) in
        let u = (both (leb (length text) 16384) (refuses tests r && same_list m l)).0 h in
        let v = (both (refuses tests r) (same_list m l)).0 u.1 in
        let (pads, reads, says) = row_tests_lem text rows (length l) e in (
          refused_right (text_trials text) (read_trials text (length l)) r (text_passed text pads (leb→le (length text) 16384 u.0) reads)
              (tests_refuse tests (read_trials text (length l)) r says v.0),
          same_list_lem m l v.1,
        )
    go (badAt j) e (Ok k) h = absurd h
    go (badAt j) e (Err r) h =
        let named = eqb r.at (suc j) && eqb r.earlier 0 in
        let u = (both (leb (length text) 16384) ((eqb r.reason 21 && named) && same_list m l)).0 h in
        let v = (both (eqb r.reason 21 && named) (same_list m l)).0 u.1 in
        let w = (both (eqb r.reason 21) named).0 v.0 in
        let x = (both (eqb r.at (suc j)) (eqb r.earlier 0)).0 w.1 in
        let is : refusal 21 (suc j) 0 ≡ r = λ i. record {
          reason = sym (eqb→eq r.reason 21 w.0) i;
          at = sym (eqb→eq r.at (suc j) x.0) i;
          earlier = sym (eqb→eq r.earlier 0 x.1) i;
        } in
        (subst (RefusedBy (csv_trials text (length l))) is (csv_bad text (length l) j (leb→le (length text) 16384 u.0) e), same_list_lem m l v.1)

all_allowed : {S : Type 0} (test : S → Bool) (P : S → Type 0) → ((s : S) → T (test s) → P s) → (ss : List S) → T (all_hold test ss) → Each P ss
all_allowed test P says [] h = tt
all_allowed test P says (s ∷ ss) h = let u = (both (test s) (all_hold test ss)).0 h in (says s u.0, all_allowed test P says ss u.1)

-- J3plus by weights 1 and 0: its best layouts, and its sheets of Count and Place.
abbrev three : Job
three = records J3plus

abbrev even : Badness
even = by_weights 1 0

abbrev earliest : List ℕ
earliest = 1 ∷ 2 ∷ 0 ∷ []

abbrev others : List (List ℕ)
others = (1 ∷ 0 ∷ 2 ∷ []) ∷ (0 ∷ 1 ∷ 2 ∷ []) ∷ []

abbrev count_sheet_holds : CountSheet → Bool
count_sheet_holds s = count_holds three even 3 s.numbers s.answer

abbrev svg_sheet_holds : SvgSheet → Bool
svg_sheet_holds s = svg_holds s.job s.list s.before s.answer s.after

abbrev csv_sheet_holds : CsvSheet → Bool
csv_sheet_holds s = csv_holds s.text (listed s.text) s.before s.answer s.after

abbrev place_sheet_holds : PlaceSheet → Bool
place_sheet_holds s = place_holds three even (earliest ∷ others) s.numbers s.place s.before s.answer s.after

-- Each passes its test; and so does the example of squares that cost length.
all_hold_lem : T (all_hold holds sheets) × T (all_hold page_sheet_holds pages) × T (holds (sheet First (copper 4) 1 0 (9 ∷ 9 ∷ []) (Ok (Some 84)) (1 ∷ 0 ∷ [])))
    × T (passes (first_tests three even None 3)) × T (run_test (labeling_of three even) (untouching_test (board_of three)) earliest others)
    × T (all_hold count_sheet_holds count_sheets) × T (all_hold place_sheet_holds place_sheets) × T (all_hold svg_sheet_holds svg_sheets)
    × T (all_hold csv_sheet_holds csv_sheets)
unfolding heads words any some_word least_test misled untouching_test differ_right decided_at before_test cheaper best_test first_test later_test next_test last_test
    somewhere outside between leaders_touch reaches not_right under_top over_bottom meets meets_large job_tests layout_tests sound_tests first_tests measure_tests next_tests
    twos name_of half_of x_of y_of last_of port_of length_of bends_of sum weighted digits decimal quarters numeral point_text line_text by_bend
    listed list_from line_front field_front word_front digits_front natural_front signed_front cap fitting
all_hold_lem = (tt, tt, tt, tt, tt, tt, tt, tt, tt)

pub copper-first : FirstAnswers (records (copper 4)) (by_weights 1 0) None (9 ∷ 9 ∷ []) (Ok (Some 84)) (1 ∷ 0 ∷ [])
copper-first = first_holds_lem (records (copper 4)) (by_weights 1 0) None (9 ∷ 9 ∷ []) (Ok (Some 84)) (1 ∷ 0 ∷ []) all_hold_lem.2

-- THEOREM. Every sheet of the list is a reply that its call's promise allows. (It allows no other: laws/Determined.)
pub worked : Each Allowed sheets
worked = all_allowed holds Allowed (λ s. holds_allowed s.call s) sheets all_hold_lem.0

-- THEOREM. So is every sheet of Page's list.
pub worked_pages : Each PageAllowed pages
worked_pages = all_allowed page_sheet_holds PageAllowed page_allowed pages all_hold_lem.1

-- THEOREM. So is every sheet of Count's list, and of Place's.
three_differ : Differ (board_of three)
three_differ =
    let first = tests_pass (first_tests three even None 3) (first_trials three even None 3) (first_tests_lem three even None 3) all_hold_lem.3 in
    (sound_accepted three even None 3 (first_sound three even None 3 first)).0.proper.differ

three-count : CountBest (labeling_of three even) 3
three-count = run_count three even None earliest three_differ others all_hold_lem.4

three-place : (k : ℕ) → k < 3 → PlaceBest (labeling_of three even) k (entry (earliest ∷ others) k)
three-place = run_place three even None earliest three_differ others all_hold_lem.4

pub worked_counts : Each CountAllowed count_sheets
worked_counts =
    all_allowed count_sheet_holds CountAllowed (λ s h. (s.answer, count-holds three even (earliest ∷ others) three-count three-place s.numbers s.answer h, refl))
    count_sheets all_hold_lem.5

pub worked_places : Each PlaceAllowed place_sheets
worked_places =
    all_allowed place_sheet_holds PlaceAllowed
    (λ s h. (s.answer, place-holds three even (earliest ∷ others) three-count three-place s.numbers s.place s.before s.answer s.after h, refl))
    place_sheets all_hold_lem.6

-- THEOREM. So is every sheet of Svg's.
pub worked_svg : Each SvgAllowed svg_sheets
worked_svg = all_allowed svg_sheet_holds SvgAllowed (λ s h. (s.answer, svg_holds_lem s.job s.list s.before s.answer s.after h, refl)) svg_sheets all_hold_lem.7

-- THEOREM. So is every sheet of ReadCsv's.
pub worked_csv : Each CsvAllowed csv_sheets
worked_csv = all_allowed csv_sheet_holds CsvAllowed (λ s h. (s.answer, csv_holds_lem s.text s.before s.answer s.after h, refl)) csv_sheets all_hold_lem.8
