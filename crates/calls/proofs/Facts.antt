-- From what the search replies on an accepted job to what the calls promise. Assumes nothing.
use mathlib.Core.Path.{refl}
use mathlib.Core.List.{List}
use Prim.Native.Nat.{ℕ}
use lib.ListN.{length}
use Rattle.std.specs.Prelude.{Option, Some, None, Ok, Err}
use Rattle.paper.specs.Answers.{Work}
use Rattle.paper.specs.Job.{Job}
use Rattle.paper.specs.Layouts.{board_of, held, Badness}
use Rattle.paper.specs.Problem.{labeling_of}
use Rattle.paper.specs.Refusals.{refusal, Passed, sound_trials, measure_trials}
use Rattle.paper.specs.Promises.{refusal_number, FirstAnswers, NextAnswers, PageAnswers, CountAnswers, PlaceAnswers, WorkAfter, BufferPromise}
use Rattle.paper.proofs.laws.Numbers.{buffer_many, buffer_past, buffer_kept}
use Rattle.paper.proofs.laws.Places.{count_none, count_short, count_many, count_passed, place_none, place_short, place_many, place_past, place_passed}
use Rattle.paper.proofs.laws.Accepted.{first_passed, none_refused, best_passed, not_best_refused}
use Rattle.layouts.specs.declared.Unmet.{Unmet}
use Rattle.layouts.specs.declared.Unmet.TheVariants.{NoLayout, NotBest}
use Rattle.walks.specs.declared.Walked.{Walked}
use Rattle.layouts.specs.Replies.{FirstOn, NextOn, PageOn, refused_for}
use Rattle.numbering.specs.declared.Why.{Why}
use Rattle.numbering.specs.declared.Why.TheVariants.{NoLayout as NothingCounts, Short, TooMany, Past}
use Rattle.numbering.specs.Outcomes.{CountOn, PlaceOn, refused_for as not_told}

module _ (job : Job) (bad : Badness) (work : Work) (before : List ℕ) where
  module _ (p : Passed (sound_trials job bad work (length before))) (after : List ℕ) where
    pub first_answers : (t : ℕ) → FirstOn (labeling_of job bad) before after (Ok t) → FirstAnswers job bad work before (Ok (Some t)) after
    first_answers t f = (first_passed job bad work (length before) p (λ none. none (held after) f.0.best.counts), f.0, f.1, f.2)

    pub first_refuses : (u : Unmet) → FirstOn (labeling_of job bad) before after (Err u) → FirstAnswers job bad work before (Err (refused_for u)) after
    first_refuses NoLayout f = (none_refused job bad work (length before) p f.0, f.1)
    first_refuses NotBest f = absurd f

  module _ (p : Passed (measure_trials job bad work before)) where
    pub next_answers : (after : List ℕ) (a : Option ℕ) → NextOn (labeling_of job bad) before after (Ok a) → NextAnswers job bad work before (Ok a) after
    next_answers after (Some t) n = (best_passed job bad work before p n.0, n.1, n.2, n.3)
    next_answers after None n = (best_passed job bad work before p n.0, n.1, n.2)

    pub next_refuses : (after : List ℕ) (u : Unmet) → NextOn (labeling_of job bad) before after (Err u) → NextAnswers job bad work before (Err (refused_for u)) after
    next_refuses after NotBest n = (not_best_refused job bad work before p n.0, n.1)
    next_refuses after NoLayout n = absurd n

    module _ (lent after : List ℕ) where
      pub page_answers : (r : Walked) → PageOn (labeling_of job bad) before lent after (Ok r) → PageAnswers job bad work before lent (Ok r.count) after
      page_answers r n = (best_passed job bad work before p n.0, n.1)

      pub page_refuses : (u : Unmet) → PageOn (labeling_of job bad) before lent after (Err u) → PageAnswers job bad work before lent (Err (refused_for u)) after
      page_refuses NotBest n = (not_best_refused job bad work before p n.0, n.1)
      page_refuses NoLayout n = absurd n

-- 10 and 15 leave the work list open, as a total and the end do.
pub work_open : (u : Unmet) (before after : List ℕ) → WorkAfter (Err (refused_for u)) before after
work_open NotBest before after = λ n o. absurd (n refl)
work_open NoLayout before after = λ n o. absurd (o refl)

pub work_told : (a : Option ℕ) (before after : List ℕ) → WorkAfter (Ok a) before after
work_told (Some t) before after = tt
work_told None before after = tt

-- ---- Count and Place

module _ (job : Job) (bad : Badness) (lent left : List ℕ) where
  module _ (p : Passed (sound_trials job bad None (board_of job).pads)) where
    pub count_answers : (c : ℕ) → CountOn (labeling_of job bad) lent left (Ok c) → CountAnswers job bad (length lent) (Ok c)
    count_answers c (N, is, few) = (count_passed job bad (length lent) p N.enough c is few, is)

    pub count_refuses : (w : Why) → CountOn (labeling_of job bad) lent left (Err w) → CountAnswers job bad (length lent) (Err (not_told w))
    count_refuses NothingCounts (none, same) = count_none job bad (length lent) p none
    count_refuses Short (((f, u), short), same) = count_short job bad (length lent) p f u short
    count_refuses TooMany (N, (c, is, more)) = count_many job bad (length lent) p N.enough c is more
    count_refuses Past m = absurd m

    pub count_leaves : (w : Why) → CountOn (labeling_of job bad) lent left (Err w) → BufferPromise (refusal_number (not_told w)) lent left
    count_leaves NothingCounts (none, same) = buffer_kept lent left (refusal_number (refusal 15 0 0)) same
    count_leaves Short (short, same) = buffer_kept lent left (refusal_number (refusal 18 0 0)) same
    count_leaves TooMany m = buffer_many lent left
    count_leaves Past m = absurd m

  module _ (place : ℕ) (before after : List ℕ) (p : Passed (sound_trials job bad None (length before))) where
    pub place_answers : (t : ℕ) → PlaceOn (labeling_of job bad) place before after lent left (Ok t) → PlaceAnswers job bad (length lent) place before (Ok (Some t)) after
    place_answers t (N, (c, is, few, inside), at, value, kept) =
        (place_passed job bad (length lent) place (length before) p N.enough c is few inside, at, value, kept)

    pub place_refuses : (w : Why) → PlaceOn (labeling_of job bad) place before after lent left (Err w) → PlaceAnswers job bad (length lent) place before (Err (not_told w)) after
    place_refuses NothingCounts (none, same, kept) = (place_none job bad (length lent) place (length before) p none, same)
    place_refuses Short (((f, u), short), same, kept) = (place_short job bad (length lent) place (length before) p f u short, same)
    place_refuses TooMany (N, (c, is, more), same) = (place_many job bad (length lent) place (length before) p N.enough c is more, same)
    place_refuses Past (N, (c, is, few, past), same) = (place_past job bad (length lent) place (length before) p N.enough c is few past, same)

    pub place_leaves : (w : Why) → PlaceOn (labeling_of job bad) place before after lent left (Err w) → BufferPromise (refusal_number (not_told w)) lent left
    place_leaves NothingCounts (none, same, kept) = buffer_kept lent left (refusal_number (refusal 15 0 0)) kept
    place_leaves Short (short, same, kept) = buffer_kept lent left (refusal_number (refusal 18 0 0)) kept
    place_leaves TooMany m = buffer_many lent left
    place_leaves Past m = buffer_past lent left
