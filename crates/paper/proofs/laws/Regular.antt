-- What the theorems ask of calls, and that those on a job are such.
--     Regular   their trials can be told, their refusals numbered; what First accepts has a best layout and room for it; and Next accepts the best layouts
--     regular   the calls on every job, by weights and by tables
use Rattle.std.specs.Prelude.{◌↔◌, not, List, [], ◌∷◌, ◌++◌, ℕ, ◌≤◌, ◌<◌, length, None}
use Rattle.std.proofs.Math.Dec.{T}
use Rattle.numbers.proofs.Tests.{not_iff}
use Rattle.paper.specs.Answers.{Work}
use Rattle.paper.specs.Job.{Job}
use Rattle.paper.specs.Layouts.{board_of, held, Badness, cost_of, Untouching}
use Rattle.paper.specs.Problem.{Best, labeling_of}
use Rattle.paper.specs.Refusals.{Passed, refusal, NoLayout, sound_trials, first_trials, measure_trials, next_trials, Calls, entries, calls_of}
use Rattle.paper.proofs.laws.Trials.{not_both}
use Rattle.paper.specs.laws.Tests.{Test, at_whole}
use Rattle.paper.specs.laws.Decided.{TestsOf, sound_tests_of, measure_tests_of}
use Rattle.paper.proofs.laws.Decided.{Decided, tests_append, whole_test, tests_decide, sound_tests_lem, measure_tests_lem, measure_decided}
use Rattle.paper.specs.laws.Trying.{some_word, best_test, untouching_test}
use Rattle.paper.proofs.laws.Trying.{Searchable, some_word_iff, some_word_dec, counts_tells, best_iff, best_dec, labeling_searchable}
use Rattle.paper.specs.laws.Accepted.{AcceptedJob}
use Rattle.paper.proofs.laws.Accepted.{first_sound, first_some, first_passed, sound_accepted, sound_other_room, measure_accepted, untouching_passed, next_measured, best_passed, not_best_refused}
use Rattle.paper.proofs.laws.Numbers.{Numbered, numbered}

pub record Regular (c : Calls) : Type 0 where
  pub numbered : Numbered c
  -- Every input passes or is refused.
  pub first_decided : (room : ℕ) → Decided (c.first room)
  pub measure_decided : (list : List ℕ) → Decided (c.measure list)
  pub next_decided : (list : List ℕ) → Decided (c.next list)
  -- First accepts problems in which a layout counts, and room for it; how much more makes no difference.
  pub searchable : (room : ℕ) → Passed (c.first room) → Searchable c.problem
  pub some : (room : ℕ) → Passed (c.first room) → 0 < entries c
  pub exists : (room : ℕ) → Passed (c.first room) → (f : ℕ → ℕ) × c.problem.Counts f
  pub room : (room : ℕ) → Passed (c.first room) → entries c ≤ room
  pub other_room : (room other : ℕ) → Passed (c.first room) → entries c ≤ other → Passed (c.first other)
  -- Next accepts what First does, with a best layout.
  pub next_is : (list : List ℕ) → Passed (c.next list) ↔ (Passed (c.first (length list)) × Best c.problem (held list))

-- ---- those on a job

unfoldable pub next_tests : Job → Badness → Work → List ℕ → List Test
next_tests job bad work list = measure_tests_of job bad work list ++ (at_whole 10 (not (best_test (labeling_of job bad) (untouching_test (board_of job)) (held list))) ∷ [])

unfoldable pub first_tests : Job → Badness → Work → ℕ → List Test
first_tests job bad work room = sound_tests_of job bad work room ++ (at_whole 15 (not (some_word (board_of job) (untouching_test (board_of job)))) ∷ [])

module _ (job : Job) (bad : Badness) (work : Work) where
  accepted : (room : ℕ) → Passed (sound_trials job bad work room) → AcceptedJob job
  accepted room p = (sound_accepted job bad work room p).0

  abbrev searchable : (room : ℕ) → Passed (sound_trials job bad work room) → Searchable (labeling_of job bad)
  searchable room p = labeling_searchable (board_of job) (cost_of (board_of job) bad) (accepted room p).proper.differ

  -- 10 is told by trying every assignment.
  pub next_tests_lem : (list : List ℕ) → TestsOf (next_tests job bad work list) (next_trials job bad work list)
  unfolding next_tests
  next_tests_lem list =
      tests_append (measure_tests_of job bad work list) _ (measure_trials job bad work list) _ (measure_tests_lem job bad work list)
      (λ p. (whole_test 10 _ (not (best_test (labeling_of job bad) (untouching_test (board_of job)) (held list))) (says p), λ _. tt))
    where
      says : Passed (measure_trials job bad work list) → T (not (best_test (labeling_of job bad) (untouching_test (board_of job)) (held list)))
          ↔ (Untouching (board_of job) (held list) × ¬ Best (labeling_of job bad) (held list))
      says p =
          let (q, u) = measure_accepted job bad work list p in
          let none = not_iff (best_test (labeling_of job bad) (untouching_test (board_of job)) (held list)) (best_iff (labeling_of job bad) (searchable (length list) q) (held list)) in
          ((λ t. (u, none.0 t)), (λ (v, n). none.1 n))

  -- So is 15, of a job that passes 1 to 7.
  pub first_tests_lem : (room : ℕ) → TestsOf (first_tests job bad work room) (first_trials job bad work room)
  unfolding first_tests
  first_tests_lem room =
      tests_append (sound_tests_of job bad work room) _ (sound_trials job bad work room) _ (sound_tests_lem job bad work room)
      (λ p. (whole_test 15 _ (not (some_word (board_of job) (untouching_test (board_of job)))) (says p), λ _. tt))
    where
      says : Passed (sound_trials job bad work room) → T (not (some_word (board_of job) (untouching_test (board_of job)))) ↔ NoLayout (labeling_of job bad)
      says p =
          let S = searchable room p in
          let none = not_iff (some_word (board_of job) (untouching_test (board_of job))) (some_word_iff (board_of job) (counts_tells (labeling_of job bad) S) S.inside) in
          ((λ t f u. none.0 t (f, u)), (λ n. none.1 (λ (f, u). n f u)))

  -- A job that is not refused by 15 has an untouching layout.
  pub some_exists : (room : ℕ) → Passed (sound_trials job bad work room) → ¬ NoLayout (labeling_of job bad) → (f : ℕ → ℕ) × Untouching (board_of job) f
  some_exists room p n = let S = searchable room p in go (some_word_dec (board_of job) (counts_tells (labeling_of job bad) S) S.inside)
    where
      go : Dec ((f : ℕ → ℕ) × Untouching (board_of job) f) → (f : ℕ → ℕ) × Untouching (board_of job) f
      go (yes u) = u
      go (no none) = absurd (n (λ f u. none (f, u)))

  pub regular : Regular (calls_of job bad work)
  regular = record {
    numbered = numbered job bad work;
    first_decided = λ room. tests_decide (first_tests job bad work room) (first_trials job bad work room) (first_tests_lem room);
    measure_decided = measure_decided job bad None;
    next_decided = λ list. tests_decide (next_tests job bad work list) (next_trials job bad work list) (next_tests_lem list);
    searchable = λ room p. searchable room (first_sound job bad work room p);
    some = λ room p. (accepted room (first_sound job bad work room p)).some;
    exists = λ room p. some_exists room (first_sound job bad work room p) (first_some job bad work room p);
    room = λ room p. (sound_accepted job bad work room (first_sound job bad work room p)).2;
    other_room = λ room other p l.
        first_passed job bad work other (sound_other_room job bad work room other (first_sound job bad work room p) l) (first_some job bad work room p);
    next_is = λ list. (
      (λ p. let (q, best) = next_best list p in (first_passed job bad work (length list) q (λ none. none (held list) best.counts), best)),
      (λ (p, best). best_passed job bad work list (untouching_passed job bad work list (first_sound job bad work (length list) p) best.counts) best),
    );
  }
    where
      next_best : (list : List ℕ) → Passed (next_trials job bad work list) → Passed (sound_trials job bad work (length list)) × Best (labeling_of job bad) (held list)
      next_best list p = go (best_dec (labeling_of job bad) (searchable (length list) m.0) (held list))
        where
          m : Passed (sound_trials job bad work (length list)) × Untouching (board_of job) (held list)
          m = measure_accepted job bad work list (next_measured job bad work list p)

          go : Dec (Best (labeling_of job bad) (held list)) → Passed (sound_trials job bad work (length list)) × Best (labeling_of job bad) (held list)
          go (yes best) = (m.0, best)
          go (no worse) = absurd (not_both (next_trials job bad work list) (refusal 10 0 0) p (not_best_refused job bad work list (next_measured job bad work list p) worse))
