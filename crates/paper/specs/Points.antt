-- DEFINITIONS. Pads as points: jobs whose half-sides are all 0, and the calls as 01 has them, where only leaders touch and no job is refused by 15. On such jobs the
-- promises say the same (`first_on_points` ..).
use Rattle.std.specs.Prelude.{◌≡◌, List, [], ◌∷◌, ◌++◌, ℕ, ◌<◌, length, None}
use Rattle.paper.specs.Answers.{Work}
use Rattle.paper.specs.Job.{Job}
use Rattle.paper.specs.Layouts.{Board, board_of, held, LeadersTouch, Layout, Badness, cost_of, total}
use Rattle.paper.specs.Problem.{Problem}
use Rattle.paper.specs.Refusals.{Trial, pair_trials, best_trial, sound_trials, Calls}

-- All half-sides are 0.
abbrev pub Points : Board → Type 0
Points b = (i : ℕ) → i < b.pads → b.half i ≡ 0

-- A layout in which no two leaders touch, and the problem of 01.
pub record LeadersApart (b : Board) (f : ℕ → ℕ) : Type 0 where
  pub layout : Layout b f
  pub apart : (i j : ℕ) → j < i → i < b.pads → ¬ LeadersTouch b f i j

abbrev pub point_labeling_of : Job → Badness → Problem
point_labeling_of job bad = record { board = board_of job; Counts = LeadersApart (board_of job); value = total (board_of job) (cost_of (board_of job) bad) }

-- Its calls: First has no 15, and in 9 only leaders touch.
abbrev pub point_measure : Job → Badness → Work → List ℕ → List Trial
point_measure job bad work list = sound_trials job bad work (length list) ++ pair_trials (board_of job) (LeadersTouch (board_of job) (held list)) list

abbrev pub point_calls_of : Job → Badness → Work → Calls
point_calls_of job bad work = record {
  problem = point_labeling_of job bad;
  first = sound_trials job bad work;
  measure = point_measure job bad None;
  next = λ list. point_measure job bad work list ++ (best_trial (point_labeling_of job bad) list ∷ []);
}
