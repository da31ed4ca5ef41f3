-- ON POINTS THE PROMISES ARE 01'S. Of a job whose half-sides are all 0 the calls reply as those of which only leaders touch, and no job is refused by 15.
--     first_on_points, next_on_points, page_on_points, count_on_points, place_on_points, measure_on_points
use Rattle.std.specs.Prelude.{refl, ◌↔◌, List, [], ◌∷◌, ◌++◌, ℕ, ◌<◌, length, ℤ, None}
use Rattle.std.proofs.Common.{inl, inr, ⊎_elim, arith}
use Rattle.paper.specs.Answers.{Work}
use Rattle.paper.specs.Job.{Job}
use Rattle.paper.specs.Layouts.{Board, board_of, held, LeadersTouch, Touching, Untouching, Badness, cost_of, total}
use Rattle.paper.specs.Problem.{labeling_of}
use Rattle.paper.specs.Refusals.{Trial, FirstFault, Passed, of_pairs, pair_trials, best_trial, sound_trials, first_trials, measure_trials, next_trials, calls_of}
use Rattle.paper.specs.Points.{Points, LeadersApart, point_labeling_of, point_measure, point_calls_of}
use Rattle.paper.specs.Promises.{FirstReplies, NextReplies, PageReplies, MeasureReplies, CountReplies, PlaceReplies}
use Rattle.paper.proofs.laws.Trials.{not_both}
use Rattle.paper.proofs.laws.Squares.{points_iff, points_apart}
use Rattle.paper.proofs.laws.Existence.{points_exist}
use Rattle.paper.proofs.laws.Accepted.{sound_accepted, first_sound, first_passed, sound_refused, measure_accepted}
use Rattle.paper.proofs.laws.Named.{not_by_none}
use Rattle.paper.proofs.laws.Alike.{SameWorth, turned, Follows, after_all, follows-append, whole_follows, not_best_alike, first_over, next_over, page_over, measure_over, count_over, place_over}

-- 9 of pairs of which R and S say the same.
first_fault_alike : (n : ℕ) (R S : ℕ → ℕ → Type 0) → ((i j : ℕ) → j < i → i < n → R i j ↔ S i j) → (i j : ℕ) → FirstFault (of_pairs 9 n R) i j → FirstFault (of_pairs 9 n S) i j
first_fault_alike n R S same i j a = record {
  inside = a.inside;
  first = record {
    here = let (k, l, r) = a.first.here in (k, l, (same i k l a.inside).0 r);
    none_below = λ k l (m, h, s). a.first.none_below k l (m, h, (same k m h (omega (arith, a.inside))).1 s);
  };
  named = record {
    here = let (l, r) = a.named.here in (l, (same i j l a.inside).0 r);
    none_below = λ k l (h, s). a.named.none_below k l (h, (same i k h a.inside).1 s);
  };
}

pairs_follow : (b : Board) (R S : ℕ → ℕ → Type 0) (list : List ℕ) → ((i j : ℕ) → j < i → i < b.pads → R i j ↔ S i j) → Follows (pair_trials b R list) (pair_trials b S list)
pairs_follow b R S list same = (
  (λ (c8, (c9, _)). (c8, ((λ i l (j, k, s). c9 i l (j, k, (same i j k l).1 s)), tt))),
  λ r. ⊎_elim inl (λ (c8, a). inr (c8, ⊎_elim (λ (e, f). inl (e, first_fault_alike b.pads R S same r.at r.earlier f)) (λ (c9, none). absurd none) a)),
)

module _ (job : Job) (bad : Badness) (points : Points (board_of job)) where
  abbrev b : Board
  b = board_of job

  worth : SameWorth (Untouching b) (LeadersApart b) (total b (cost_of b bad)) (total b (cost_of b bad))
  worth = record { counts = points_apart b points; value = λ f u. refl }

  touch_same : (list : List ℕ) (i j : ℕ) → j < i → i < b.pads → Touching b (held list) i j ↔ LeadersTouch b (held list) i j
  touch_same list i j l k = points_iff b (held list) i j (points i k) (points j (omega arith))

  same_touch : (list : List ℕ) (i j : ℕ) → j < i → i < b.pads → LeadersTouch b (held list) i j ↔ Touching b (held list) i j
  same_touch list i j l k = let (there, back) = touch_same list i j l k in (back, there)

  module _ (work : Work) where
    -- 15 refuses nothing.
    first_back : (room : ℕ) → Follows (sound_trials job bad work room) (first_trials job bad work room)
    first_back room = (
      (λ p. let u = points_exist b (sound_accepted job bad work room p).0.proper points in first_passed job bad work room p (λ none. none u.0 u.1)),
      sound_refused job bad work room,
    )

    first_there : (room : ℕ) → Follows (first_trials job bad work room) (sound_trials job bad work room)
    first_there room =
        (first_sound job bad work room, λ r a. not_by_none job bad work room r (λ p. not_both (first_trials job bad work room) r ((first_back room).0 p) a) a)

    -- 9 and 10 refuse the same.
    measure_there : (list : List ℕ) → Follows (measure_trials job bad work list) (point_measure job bad work list)
    measure_there list =
        after_all (sound_trials job bad work (length list)) _ _ (pairs_follow b (Touching b (held list)) (LeadersTouch b (held list)) list (touch_same list))

    measure_back : (list : List ℕ) → Follows (point_measure job bad work list) (measure_trials job bad work list)
    measure_back list =
        after_all (sound_trials job bad work (length list)) _ _ (pairs_follow b (LeadersTouch b (held list)) (Touching b (held list)) list (same_touch list))

    abbrev point_next : List ℕ → List Trial
    point_next list = point_measure job bad work list ++ (best_trial (point_labeling_of job bad) list ∷ [])

    next_there : (list : List ℕ) → Follows (next_trials job bad work list) (point_next list)
    next_there list =
        follows-append (measure_trials job bad work list) (point_measure job bad work list) (best_trial (labeling_of job bad) list ∷ []) (best_trial (point_labeling_of job bad) list ∷ [])
        (measure_there list) (whole_follows 10 _ _ (not_best_alike b worth list))

    next_back : (list : List ℕ) → Follows (point_next list) (next_trials job bad work list)
    next_back list =
        follows-append (point_measure job bad work list) (measure_trials job bad work list) (best_trial (point_labeling_of job bad) list ∷ []) (best_trial (labeling_of job bad) list ∷ [])
        (measure_back list) (whole_follows 10 _ _ (not_best_alike b (turned worth) list))

  -- THEOREMS. First, Next, Page, Count, Place and Measure reply as 01's calls do.
  module _ (work : Work) where
    abbrev first : ℕ → List Trial
    first = first_trials job bad work

    abbrev sound : ℕ → List Trial
    sound = sound_trials job bad work

    abbrev measure : List ℕ → List Trial
    measure = measure_trials job bad None

    abbrev point : List ℕ → List Trial
    point = point_measure job bad None

    abbrev next : List ℕ → List Trial
    next = next_trials job bad work

    pub first_on_points : (before : List ℕ) (m : ℤ) (after : List ℕ) → FirstReplies (calls_of job bad work) before m after ↔ FirstReplies (point_calls_of job bad work) before m after
    first_on_points before m after = (
      (λ (a, p, e). (a, first_over b worth first sound measure point next (point_next work) (first_there work) before a after p, e)),
      (λ (a, p, e). (a, first_over b (turned worth) sound first point measure (point_next work) next (first_back work) before a after p, e)),
    )

    pub next_on_points : (before : List ℕ) (m : ℤ) (after : List ℕ) → NextReplies (calls_of job bad work) before m after ↔ NextReplies (point_calls_of job bad work) before m after
    next_on_points before m after = (
      (λ (a, p, e). (a, next_over b worth first sound measure point next (point_next work) (next_there work) before a after p, e)),
      (λ (a, p, e). (a, next_over b (turned worth) sound first point measure (point_next work) next (next_back work) before a after p, e)),
    )

    pub page_on_points : (given before : List ℕ) (m : ℤ) (after : List ℕ)
        → PageReplies (calls_of job bad work) given before m after ↔ PageReplies (point_calls_of job bad work) given before m after
    page_on_points given before m after = (
      (λ (a, p, e). (a, page_over b worth first sound measure point next (point_next work) (next_there work) given before a after p, e)),
      (λ (a, p, e). (a, page_over b (turned worth) sound first point measure (point_next work) next (next_back work) given before a after p, e)),
    )

    pub count_on_points : (numbers : ℕ) (m : ℤ) → CountReplies (calls_of job bad work) numbers m ↔ CountReplies (point_calls_of job bad work) numbers m
    count_on_points numbers m = (
      (λ (a, p, e). (a, count_over b worth first sound measure point next (point_next work) (first_there work) numbers a p, e)),
      (λ (a, p, e). (a, count_over b (turned worth) sound first point measure (point_next work) next (first_back work) numbers a p, e)),
    )

    pub place_on_points : (numbers place : ℕ) (before : List ℕ) (m : ℤ) (after : List ℕ)
        → PlaceReplies (calls_of job bad work) numbers place before m after ↔ PlaceReplies (point_calls_of job bad work) numbers place before m after
    place_on_points numbers place before m after = (
      (λ (a, p, e). (a, place_over b worth first sound measure point next (point_next work) (first_there work) numbers place before a after p, e)),
      (λ (a, p, e). (a, place_over b (turned worth) sound first point measure (point_next work) next (first_back work) numbers place before a after p, e)),
    )

    pub measure_on_points : (list : List ℕ) (m : ℤ) → MeasureReplies (calls_of job bad work) list m ↔ MeasureReplies (point_calls_of job bad work) list m
    measure_on_points list m = (
      (λ (a, p, e). (a, measure_over b worth first sound measure point next (point_next work) (measure_there None) counts list a p, e)),
      (λ (a, p, e).
          (a, measure_over b (turned worth) sound first point measure (point_next work) next (measure_back None) (λ l q. (points_apart b points (held l)).0 (counts l ((measure_back None l).0 q))) list a p, e)),
    )
      where
        counts : (list : List ℕ) → Passed (measure_trials job bad None list) → Untouching b (held list)
        counts list p = (measure_accepted job bad None list p).1
