-- n pads whose records are made are copied, or refused as the checks say.
use Rattle.std.specs.Prelude.{◌≡◌, List, ℕ, ◌*◌, ◌≤◌, length, take, Result, Ok, Err, MatchResult}
use Rattle.std.proofs.Common.{◌∙◌, arith}
use Rattle.paper.specs.declared.Refusal.{Refusal}
use Rattle.paper.specs.Answers.{Counted}
use Rattle.paper.specs.Refusals.{Passed, RefusedBy, refusal, text_trials, read_trials, csv_trials}
use Rattle.paper.specs.Promises.{overwritten, CsvAnswers}
use Rattle.paper.proofs.laws.Trials.{passed_append, refused_right}
use Rattle.paper.specs.laws.Parsing.{Row, listed, good, rows_bytes}
use Rattle.paper.specs.laws.Imported.{row_tests}
use Rattle.paper.proofs.laws.Imported.{row_tests_lem, text_passed, csv_bad, csv_made}
use Rattle.padlist.specs.declared.BadLine.{BadLine}
use Rattle.padlist.specs.Lines.{ListedIs}
use Rattle.checks.specs.Verdicts.{Verdict, verdict}
use Rattle.checks.specs.Sound.{list_few}
use Rattle.checks.specs.Judged.{Judged, judged_sound, judged_refused, list_judged}

abbrev pub verdict_of : List ℕ → ℕ → ℕ → Verdict
verdict_of made n room = verdict (row_tests n (take (16 * n) made) room)

abbrev pub MadeIs : List ℕ → ℕ → List ℕ → Counted → List ℕ → Type 0
MadeIs made n before (Ok k) after = (verdict_of made n (length before) ≡ Ok tt) × (k ≡ n) × (after ≡ overwritten (take (16 * n) made) before)
MadeIs made n before (Err r) after = (verdict_of made n (length before) ≡ Err r) × (after ≡ before)

-- Copied records are few, and there is room for them.
pub made_few : (made : List ℕ) (n room : ℕ) → verdict_of made n room ≡ Ok tt → (n ≤ 64) × (16 * n ≤ room)
made_few made n room e = list_few n room (take (16 * n) made) e

module _ (text before made : List ℕ) (short : length text ≤ 16384) where
  -- A list whose lines are all good.
  module _ (n : ℕ) (rows : List Row) (e : listed text ≡ good rows) (n-is : n ≡ length rows) (is : n ≤ 64 → take (16 * n) made ≡ rows_bytes rows) where
    judged : Judged (verdict_of made n (length before)) (read_trials text (length before))
    judged = rw n-is (list_judged text rows (take (16 * length rows) made) (length before) e (rw n-is at is))

    passed : Passed (text_trials text)
    passed = let (pads, reads, _) = row_tests_lem text rows (length before) e in text_passed text pads short reads

    -- THEOREM. What is kept of it is ReadCsv's answer;
    pub list_answered : (a : Counted) (after : List ℕ) → MadeIs made n before a after → CsvAnswers text before a after
    list_answered (Ok k) after (sound, k-is, after_is) =
        let all = passed_append (text_trials text) (read_trials text (length before)) passed (judged_sound _ _ judged sound) in
        let (few, _) = made_few made n (length before) sound in
        (all, (rows_bytes rows, rw (k-is, n-is) (csv_made text rows (length before) e all), after_is ∙ rw (is few)))
    list_answered (Err r) after (refused, after_is) =
        (refused_right (text_trials text) (read_trials text (length before)) r passed (judged_refused _ _ r judged refused), after_is)

  -- of any other it refuses the first bad line.
  pub line_refused : (e : BadLine) → ListedIs text (Err e) made → RefusedBy (csv_trials text (length before)) (refusal 21 e.line 0)
  line_refused b (k, e, i-is) = rw i-is (csv_bad text (length before) k short e)

  -- So with a list's answer whose bad line is made a refusal.
  pub bad_answered : (l : Result ℕ BadLine) (r : Refusal) (P : BadLine → Type 0) → ((e : BadLine) → P e → r ≡ refusal 21 e.line 0) → ListedIs text l made
      → MatchResult l (λ n. ◌≡◌ {A = Result ℕ Refusal} (Err r) (Ok n)) P → RefusedBy (csv_trials text (length before)) r
  bad_answered (Ok n) r P says is e = absurd (let z : ◌≡◌ {A = ℕ} 0 1 = cc in omega arith)
  bad_answered (Err b) r P says is p = rw (says b p) (line_refused b is)

  pub good_listed : (l : Result ℕ BadLine) (n : ℕ) (P : BadLine → Type 0) → ((e : BadLine) → P e → ⊥) → ListedIs text l made
      → MatchResult l (λ m. ◌≡◌ {A = Result ℕ Refusal} (Ok n) (Ok m)) P → ListedIs text (Ok n) made
  good_listed (Ok m) n P none is e = let q : n ≡ m = cc in rw q is
  good_listed (Err b) n P none is p = absurd (none b p)
