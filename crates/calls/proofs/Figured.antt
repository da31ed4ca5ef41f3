-- What passes by weights or a table passes by the figures that the search reads, and what is answered by these is answered by what was given. Assumes nothing.
use mathlib.Core.Path.{◌≡◌, sym}
use mathlib.Core.List.{List, ◌++◌}
use Prim.Native.Nat.{ℕ, ◌*◌, ◌≤◌}
use native.Mathlib.Nat.{mul-le-mul}
use native.Mathlib.Omega.{arith}
use lib.ListN.{length, take, length-append}
use lib.Seq.{take_at}
use Rattle.std.specs.Prelude.{None}
use Rattle.paper.specs.Answers.{Answer, Counted}
use Rattle.paper.specs.Job.{records, count}
use Rattle.paper.specs.Layouts.{Badness, board_of, by_table}
use Rattle.paper.specs.Refusals.{Passed, sound_trials, measure_trials}
use Rattle.paper.specs.Promises.{FirstAnswers, NextAnswers, PageAnswers, CountAnswers, PlaceAnswers}
use Rattle.paper.specs.laws.Accepted.{AcceptedJob, Fair}
use Rattle.paper.proofs.laws.Alike.{sound_follows, measure_follows, first_on, next_on_lem, page_on_lem, count_on, place_on}
use Rattle.calls.specs.Figures.{FiguresOf}

-- An accepted job's figures are at most 4,096; where they are the front of an array, so many of it are they.
abbrev square : List ℕ → ℕ
square job = count job * count job

pub square_most : {job : List ℕ} → AcceptedJob (records job) → square job ≤ 4096
square_most a = mul-le-mul a.few a.few

module _ (job : List ℕ) (bad : Badness) {figures : List ℕ} (rest : List ℕ) (t : FiguresOf job bad figures) where
  pub front : take (square job) (figures ++ rest) ≡ figures
  front = take_at figures rest (square job) t.long

  pub front_long : square job ≤ length (figures ++ rest)
  front_long = omega (arith, length-append figures rest, t.long)

module _ (job : List ℕ) (bad : Badness) (fair : Fair (board_of (records job)) bad) {figures : List ℕ} (t : FiguresOf job bad figures) where
  pub sound_by : (room : ℕ) → Passed (sound_trials (records job) bad None room) → Passed (sound_trials (records job) (by_table figures) None room)
  sound_by room p = (sound_follows (records job) bad (by_table figures) fair t.long (λ i q h k. sym (t.at i q h k)) None room).0 p

  pub measure_by : (list : List ℕ) → Passed (measure_trials (records job) bad None list) → Passed (measure_trials (records job) (by_table figures) None list)
  measure_by list p = (measure_follows (records job) bad (by_table figures) fair t.long (λ i q h k. sym (t.at i q h k)) None list).0 p

  pub first_back : (before : List ℕ) (a : Answer) (after : List ℕ) → FirstAnswers (records job) (by_table figures) None before a after → FirstAnswers (records job) bad None before a after
  first_back = first_on (records job) (by_table figures) bad t.long fair t.at None

  pub next_back : (before : List ℕ) (a : Answer) (after : List ℕ) → NextAnswers (records job) (by_table figures) None before a after → NextAnswers (records job) bad None before a after
  next_back = next_on_lem (records job) (by_table figures) bad t.long fair t.at None

  pub page_back : (list before : List ℕ) (a : Counted) (after : List ℕ) → PageAnswers (records job) (by_table figures) None list before a after → PageAnswers (records job) bad None list before a after
  page_back = page_on_lem (records job) (by_table figures) bad t.long fair t.at None

  pub count_back : (numbers : ℕ) (a : Counted) → CountAnswers (records job) (by_table figures) numbers a → CountAnswers (records job) bad numbers a
  count_back = count_on (records job) (by_table figures) bad t.long fair t.at

  pub place_back : (numbers place : ℕ) (before : List ℕ) (a : Answer) (after : List ℕ)
      → PlaceAnswers (records job) (by_table figures) numbers place before a after → PlaceAnswers (records job) bad numbers place before a after
  place_back = place_on (records job) (by_table figures) bad t.long fair t.at
