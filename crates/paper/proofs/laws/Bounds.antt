-- A total is at most 64 times the largest figure of 32 bits. So every total that a call answers fits C's number; and so does how many layouts a page has, and a count.
--     first_bounded, next_bounded, measure_bounded, place_bounded, page_counted, count_bounded, svg_bounded, csv_bounded
use Rattle.std.specs.Prelude.{◌≡◌, List, ℕ, ◌*◌, ◌^◌, ◌≤◌, ◌<◌, length, Some, None, Ok, Err}
use Rattle.std.proofs.Common.{mul-le-mul_left, arith}
use Rattle.paper.specs.Answers.{Work, Answer, Counted}
use Rattle.paper.specs.Job.{Job, count}
use Rattle.paper.specs.Layouts.{board_of, held, Badness, Layout}
use Rattle.paper.specs.Problem.{labeling_of}
use Rattle.paper.specs.Refusals.{Passed, sound_trials, first_trials, calls_of}
use Rattle.paper.specs.Promises.{FirstAnswers, NextAnswers, PageAnswers, MeasureAnswers, CountAnswers, PlaceAnswers, SvgAnswers, CsvAnswers}
use Rattle.paper.proofs.laws.Readable.{csv_answered}
use Rattle.paper.proofs.laws.Trials.{append_passed}
use Rattle.paper.specs.laws.Totals.{total_of}
use Rattle.paper.proofs.laws.Accepted.{Narrow, sound_accepted, first_sound, measure_accepted, measure_facts, next_measured, total_most}
use Rattle.paper.proofs.laws.Places.{place_best, count_few}
use Rattle.paper.proofs.laws.Exported.{text_short, text_bound, svg_measured, svg_text}
use Rattle.paper.specs.laws.Bounds.{Bounded, BoundedCount}

total_bounded : (job : Job) (bad : Badness) (work : Work) (room t : ℕ) (list : List ℕ) → Narrow bad → Passed (sound_trials job bad work room) → Layout (board_of job) (held list)
    → t ≡ total_of (board_of job) bad list → t ≤ 274877906880
total_bounded job bad work room t list narrow p l e = let a = sound_accepted job bad work room p in rw e (total_most a.0 bad a.1 narrow (held list) l)

module _ (job : Job) (bad : Badness) (work : Work) (narrow : Narrow bad) (before : List ℕ) where
  pub first_bounded : (a : Answer) (after : List ℕ) → FirstAnswers job bad work before a after → Bounded a
  first_bounded (Ok (Some t)) after f = total_bounded job bad work (length before) t after narrow (first_sound job bad work (length before) f.0) f.1.best.counts.layout f.2
  first_bounded (Ok None) after f = tt
  first_bounded (Err r) after f = tt

  pub next_bounded : (a : Answer) (after : List ℕ) → NextAnswers job bad work before a after → Bounded a
  next_bounded (Ok (Some t)) after n =
      let p = (measure_accepted job bad work before (next_measured job bad work before n.0)).0 in
      total_bounded job bad work (length before) t after narrow p n.1.best.counts.layout n.2
  next_bounded (Ok None) after n = tt
  next_bounded (Err r) after n = tt

  pub measure_bounded : (a : Answer) → MeasureAnswers job bad before a → Bounded a
  measure_bounded (Ok (Some t)) m =
      let p = measure_accepted job bad None before m.0 in
      total_bounded job bad None (length before) t before narrow p.0 p.1.layout m.1
  measure_bounded (Ok None) m = tt
  measure_bounded (Err r) m = tt

pub place_bounded : (job : Job) (bad : Badness) → Narrow bad → (numbers place : ℕ) (before : List ℕ) (a : Answer) (after : List ℕ)
    → PlaceAnswers job bad numbers place before a after → Bounded a
place_bounded job bad narrow numbers place before (Ok (Some t)) after f =
    let p = first_sound job bad None (length before) (append_passed (first_trials job bad None (length before)) _ f.0).0 in
    total_bounded job bad None (length before) t after narrow p (place_best (labeling_of job bad) place (held after) f.1).counts.layout f.2
place_bounded job bad narrow numbers place before (Ok None) after f = tt
place_bounded job bad narrow numbers place before (Err r) after f = tt

-- A layout has an entry at least: a page that is in memory has no more layouts than entries.
pub page_counted : (job : Job) (bad : Badness) (work : Work) (given before : List ℕ) (a : Counted) (after : List ℕ) → length before < 2 ^ 63
    → PageAnswers job bad work given before a after → BoundedCount a
page_counted job bad work given before (Ok k) after h n =
    let some = (measure_facts job bad work given (next_measured job bad work given n.0)).0.some in
    omega (arith, n.1.fit, mul-le-mul_left {m = 1} {n = (board_of job).pads} k some)
page_counted job bad work given before (Err r) after h n = tt

-- A count that is not refused by 16 is at most 1,000,000,000,000,000,000.
pub count_bounded : (job : Job) (bad : Badness) (numbers : ℕ) (a : Counted) → CountAnswers job bad numbers a → BoundedCount a
count_bounded job bad numbers (Ok k) (p, is) = omega (arith, count_few (calls_of job bad None) numbers k p is)
count_bounded job bad numbers (Err r) c = tt

-- A text has at most 76 bytes for each record, and 4,864.
pub svg_bound : (job list before : List ℕ) (k : ℕ) (after : List ℕ) → SvgAnswers job list before (Ok k) after → (k ≤ 76 * count job) × (k ≤ 4864)
svg_bound job list before k after a =
    let is = (svg_text job list before k after a).0 in
    let p = (svg_measured job list (length before) a.0).0 in
    (omega (arith, is, text_short job list p), omega (arith, is, text_bound job list p))

pub svg_bounded : (job list before : List ℕ) (a : Counted) (after : List ℕ) → SvgAnswers job list before a after → BoundedCount a
svg_bounded job list before (Ok k) after a = omega (arith, (svg_bound job list before k after a).1)
svg_bounded job list before (Err r) after a = tt

-- A list has at most 64 pads.
pub csv_bound : (text before : List ℕ) (k : ℕ) (after : List ℕ) → CsvAnswers text before (Ok k) after → (1 ≤ k) × (k ≤ 64)
csv_bound text before k after a = let (pads, _, valid, is, _) = csv_answered text before k after a in (omega (arith, valid.some), omega (arith, valid.few))

pub csv_bounded : (text before : List ℕ) (a : Counted) (after : List ℕ) → CsvAnswers text before a after → BoundedCount a
csv_bounded text before (Ok k) after a = omega (arith, (csv_bound text before k after a).1)
csv_bounded text before (Err r) after a = tt
