-- The call Svg: where Measure's trials are passed there is one text, and it is written exactly if it fits.
--     all_on_sheet, long_iff;  svg_measured, svg_fits: what is passed;  svg_made, svg_refused, svg_long: what is answered
--     svg_tests_lem, svg_decided;  svg_fills_one, svg_text: what an answer tells
use Rattle.std.specs.Prelude.{◌≡◌, refl, ◌↔◌, List, [], ◌∷◌, ◌++◌, ℕ, ◌*◌, ◌≤◌, ◌<◌, ltb, length, None, Ok}
use Rattle.std.proofs.Common.{ap, sym, subst, ◌∙◌, arith}
use Rattle.std.proofs.Math.Logic.Iff
use Rattle.numbers.proofs.Tests.{ltb_iff}
use Rattle.paper.specs.declared.Refusal.{Refusal}
use Rattle.paper.specs.Job.{records, count}
use Rattle.paper.specs.Layouts.{Board, board_of, held, by_weights}
use Rattle.paper.specs.Refusals.{Passed, RefusedBy, refusal, of_whole, measure_trials, TooLong, svg_trials}
use Rattle.paper.specs.Svg.{SheetWritten}
use Rattle.paper.specs.Promises.{overwritten, SvgFills, SvgAnswers}
use Rattle.paper.proofs.laws.Trials.{passed_append, append_passed, refused_left, refused_right, whole_refused}
use Rattle.paper.specs.laws.Tests.{Test, at_whole}
use Rattle.paper.specs.laws.Decided.{TestsOf, measure_tests_of}
use Rattle.paper.proofs.laws.Decided.{Decided, tests_append, tests_decide, whole_test, measure_tests_lem}
use Rattle.paper.proofs.laws.Accepted.{measure_facts, measure_entries}
use Rattle.paper.specs.laws.Texts.{sheet_text, AllOnSheet}
use Rattle.paper.proofs.laws.Texts.{sheet_is, sheet_only, sheet_one, lines_short}

-- The text is too long exactly if the one that there is, is.
pub long_iff : (b : Board) (f : ℕ → ℕ) (room : ℕ) → AllOnSheet b f → (room < length (sheet_text b f)) ↔ TooLong b f room
long_iff b f room on = ((λ h. (sheet_text b f, sheet_is b f on, h)), (λ (s, w, h). subst (λ (t : List ℕ). room < length t) (sheet_only b f s w) h))

module _ (job list : List ℕ) where
  abbrev given : Type 0
  given = Passed (measure_trials (records job) (by_weights 0 0) None list)

  abbrev text : List ℕ
  text = sheet_text (board_of (records job)) (held list)

  -- Where Measure's trials are passed every leader is within the ranges of the job.
  pub all_on_sheet : given → AllOnSheet (board_of (records job)) (held list)
  all_on_sheet p i h =
      let a = (measure_facts (records job) (by_weights 0 0) None list p).0 in
      record { right = a.width i h; pad = a.pad i h; port = a.port (held list i) (measure_entries (records job) (by_weights 0 0) None list p i h) }

  -- So a text has at most 76 bytes for each record, and 4,864.
  pub text_short : given → length text ≤ 76 * count job
  text_short p = lines_short (board_of (records job)) (held list) (all_on_sheet p) (count job) (omega arith)

  pub text_bound : given → length text ≤ 4864
  text_bound p = omega (arith, text_short p, (measure_facts (records job) (by_weights 0 0) None list p).0.few)

  module _ (room : ℕ) where
    -- Svg's trials are passed exactly if Measure's are and the text fits.
    pub svg_measured : Passed (svg_trials job list room) → given × (length text ≤ room)
    svg_measured p =
        let (measured, late) = append_passed (measure_trials (records job) (by_weights 0 0) None list) (of_whole 19 (TooLong (board_of (records job)) (held list) room) ∷ []) p in
        let fits : ¬ (room < length text) = λ h. late.0 0 (omega arith) ((long_iff (board_of (records job)) (held list) room (all_on_sheet measured)).0 h) in
        (measured, omega arith)

    pub svg_fits : given → length text ≤ room → Passed (svg_trials job list room)
    svg_fits p h =
        passed_append (measure_trials (records job) (by_weights 0 0) None list) (of_whole 19 (TooLong (board_of (records job)) (held list) room) ∷ []) p
        ((λ i l x. let k = (long_iff (board_of (records job)) (held list) room (all_on_sheet p)).1 x in omega arith), tt)

    pub svg_passed : Passed (svg_trials job list room) ↔ (given × ((s : List ℕ) × SheetWritten (board_of (records job)) (held list) s × (length s ≤ room)))
    svg_passed = (
      (λ p. let (measured, fits) = svg_measured p in (measured, (text, sheet_is (board_of (records job)) (held list) (all_on_sheet measured), fits))),
      (λ (p, (s, w, h)). svg_fits p (subst (λ (t : List ℕ). length t ≤ room) (sheet_only (board_of (records job)) (held list) s w) h)),
    )

    -- With 76 bytes for each record no text is too long, nor with 4,864.
    pub svg_enough : 76 * count job ≤ room → ¬ (given × TooLong (board_of (records job)) (held list) room)
    svg_enough h (p, long) = let k = (long_iff (board_of (records job)) (held list) room (all_on_sheet p)).1 long in omega (arith, text_short p)

    pub svg_roomy : 4864 ≤ room → ¬ (given × TooLong (board_of (records job)) (held list) room)
    svg_roomy h (p, long) = let k = (long_iff (board_of (records job)) (held list) room (all_on_sheet p)).1 long in omega (arith, text_bound p)

    -- What Measure's refuse, Svg refuses alike; and a text that is too long by 19.
    pub svg_refused : (r : Refusal) → RefusedBy (measure_trials (records job) (by_weights 0 0) None list) r → RefusedBy (svg_trials job list room) r
    svg_refused r = refused_left (measure_trials (records job) (by_weights 0 0) None list) (of_whole 19 (TooLong (board_of (records job)) (held list) room) ∷ []) r

    pub svg_long : given → room < length text → RefusedBy (svg_trials job list room) (refusal 19 0 0)
    svg_long p h =
        refused_right (measure_trials (records job) (by_weights 0 0) None list) (of_whole 19 (TooLong (board_of (records job)) (held list) room) ∷ []) (refusal 19 0 0) p
        (whole_refused 19 (TooLong (board_of (records job)) (held list) room) [] ((long_iff (board_of (records job)) (held list) room (all_on_sheet p)).0 h))

    -- The tests that say what they say: Measure's, and one of the text's length.
    abbrev pub svg_tests : List Test
    svg_tests = measure_tests_of (records job) (by_weights 0 0) None list ++ (at_whole 19 (ltb room (length text)) ∷ [])

    pub svg_tests_lem : TestsOf svg_tests (svg_trials job list room)
    svg_tests_lem =
        tests_append (measure_tests_of (records job) (by_weights 0 0) None list) (at_whole 19 (ltb room (length text)) ∷ [])
        (measure_trials (records job) (by_weights 0 0) None list) (of_whole 19 (TooLong (board_of (records job)) (held list) room) ∷ [])
        (measure_tests_lem (records job) (by_weights 0 0) None list)
        (λ p.
        let says = Iff.trans (ltb_iff room (length text)) (long_iff (board_of (records job)) (held list) room (all_on_sheet p)) in
        (whole_test 19 (TooLong (board_of (records job)) (held list) room) (ltb room (length text)) says, λ _. tt))

    -- THEOREM. They are passed, or one of them refuses.
    pub svg_decided : Decided (svg_trials job list room)
    svg_decided = tests_decide svg_tests (svg_trials job list room) svg_tests_lem

  -- What Svg then answers.
  pub svg_made : (before : List ℕ) → given → length text ≤ length before → SvgAnswers job list before (Ok (length text)) (overwritten text before)
  svg_made before p h =
      (svg_fits (length before) p h, (text, (sheet_is (board_of (records job)) (held list) (all_on_sheet p), refl), refl))

  -- One text, and one number.
  pub svg_fills_one : (s t : List ℕ) (j k : ℕ) → SvgFills job list s j → SvgFills job list t k → (s ≡ t) × (j ≡ k)
  svg_fills_one s t j k (w, n) (v, m) =
      let e : s ≡ t = sheet_one (board_of (records job)) (held list) s t w v in
      (e, n ∙ ap length e ∙ sym m)

  -- What it answers is that.
  pub svg_text : (before : List ℕ) (k : ℕ) (after : List ℕ) → SvgAnswers job list before (Ok k) after → (k ≡ length text) × (after ≡ overwritten text before)
  svg_text before k after (p, (s, (w, n), e)) =
      let only = sheet_only (board_of (records job)) (held list) s w in
      (n ∙ ap (λ (t : List ℕ). length t) only, e ∙ ap (λ (t : List ℕ). overwritten t before) only)
