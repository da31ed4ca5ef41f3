-- CALLS THAT COST ALIKE ANSWER ALIKE. Weights and a table, or two tables, that give every pad with every port the same cost: the same replies, refusals and lists
-- too. So the weighted calls are those on the table of weighted lengths and bends.
--     first_by_table, next_by_table, page_by_table, measure_by_table, count_by_table, place_by_table;  table_of: there is such a table
--     sound_follows, measure_follows, first_on, next_on_lem, page_on_lem, count_on, place_on: from one to the other, for the code that searches by such a table
--     first_over, next_over, page_over, measure_over, count_over, place_over: of any calls whose trials follow, on problems whose layouts are worth the same
use Rattle.std.specs.Prelude.{◌≡◌, ◌↔◌, List, [], ◌∷◌, ◌++◌, ℕ, zero, suc, ◌+◌, ◌*◌, ◌/◌, ◌%◌, ◌≤◌, ◌<◌, length, ℤ, Some, None, Ok, Err}
use Rattle.std.proofs.Common.{sym, ◌∙◌, inl, inr, ⊎_elim, arith}
use Rattle.std.proofs.Math.Arith.{digits_div, digits_mod}
use Rattle.numbers.proofs.Filled.{place_in}
use Rattle.paper.specs.declared.Refusal.{Refusal}
use Rattle.paper.specs.Answers.{Work, Answer, Counted}
use Rattle.paper.specs.Job.{Job}
use Rattle.paper.specs.Layouts.{Board, board_of, held, Layout, Untouching, Badness, by_weights, by_table, weighted, cost_of, TableOf, total}
use Rattle.paper.specs.Problem.{Problem, Best, FirstBest, NextBest, LastBest, PlaceBest, CountBest, labeling_of}
use Rattle.paper.specs.Refusals.{Trial, Clean, Passed, RefusedBy, size_trials, room_trials, job_trials, layout_trials, of_whole, badness_trial, best_trial}
use Rattle.paper.specs.Refusals.{none_trial, sound_trials, first_trials, measure_trials, next_trials, Calls}
use Rattle.paper.specs.Refusals.{limit, buffer_needed, TooMany, PastCount, number_trials, count_trials, place_trials}
use Rattle.paper.specs.Promises.{CountOver, PlaceOver, CountAnswers, PlaceAnswers, CountPromise, PlacePromise}
use Rattle.paper.specs.Promises.{Following, FirstOver, NextOver, PageOver, MeasureOver, FirstAnswers, NextAnswers, PageAnswers, MeasureAnswers, FirstPromise, NextPromise, PagePromise, MeasurePromise}
use Rattle.paper.proofs.laws.Trials.{passed_append, append_passed, refused_left, refused_right, refused-append}
use Rattle.paper.proofs.laws.Totals.{sum_same}
use Rattle.paper.specs.laws.Trying.{row}
use Rattle.paper.proofs.laws.Trying.{row-length, row-at}
use Rattle.paper.specs.laws.Accepted.{Fair}
use Rattle.paper.proofs.laws.Accepted.{fair_iff, measure_accepted}
use Rattle.paper.proofs.laws.Places.{place_best, past_trials, later_trials}

-- ---- problems

-- On one board.
abbrev Given : Board → ((ℕ → ℕ) → Type 0) → ((ℕ → ℕ) → ℕ) → Problem
Given b Counts value = record { board = b; Counts = Counts; value = value }

-- The same layouts count, and these have the same values.
pub record SameWorth (C D : (ℕ → ℕ) → Type 0) (v w : (ℕ → ℕ) → ℕ) : Type 0 where
  pub counts : (f : ℕ → ℕ) → C f ↔ D f
  pub value : (f : ℕ → ℕ) → C f → v f ≡ w f

pub turned : {C D : (ℕ → ℕ) → Type 0} {v w : (ℕ → ℕ) → ℕ} → SameWorth C D v w → SameWorth D C w v
turned same = record { counts = λ f. ((same.counts f).1, (same.counts f).0); value = λ f d. sym (same.value f ((same.counts f).1 d)) }

best_alike : (b : Board) {C D : (ℕ → ℕ) → Type 0} {v w : (ℕ → ℕ) → ℕ} → SameWorth C D v w → (f : ℕ → ℕ) → Best (Given b C v) f → Best (Given b D w) f
best_alike b same f s = record {
  counts = (same.counts f).0 s.counts;
  least = λ g d. let c = (same.counts g).1 d in omega (arith, s.least g c, same.value f s.counts, same.value g c);
}

module _ (b : Board) {C D : (ℕ → ℕ) → Type 0} {v w : (ℕ → ℕ) → ℕ} (same : SameWorth C D v w) where
  back : (f : ℕ → ℕ) → Best (Given b D w) f → Best (Given b C v) f
  back = best_alike b (turned same)

  first_best_alike : (f : ℕ → ℕ) → FirstBest (Given b C v) f → FirstBest (Given b D w) f
  first_best_alike f s = record { best = best_alike b same f s.best; earliest = λ g t. s.earliest g (back g t) }

  next_best_alike : (l f : ℕ → ℕ) → NextBest (Given b C v) l f → NextBest (Given b D w) l f
  next_best_alike l f s = record { best = best_alike b same f s.best; later = s.later; earliest = λ g t. s.earliest g (back g t) }

  last_best_alike : (l : ℕ → ℕ) → LastBest (Given b C v) l → LastBest (Given b D w) l
  last_best_alike l s g t = s g (back g t)

  following_alike : (given before : List ℕ) (k : ℕ) (after : List ℕ) → Following (Given b C v) given before k after → Following (Given b D w) given before k after
  following_alike given before k after s = record {
    fit = s.fit;
    follow = λ j h. next_best_alike _ _ (s.follow j h);
    all = ⊎_elim inl (λ l. inr (last_best_alike _ l)) s.all;
    kept = s.kept;
  }

  place_alike : (k : ℕ) (f : ℕ → ℕ) → PlaceBest (Given b C v) k f → PlaceBest (Given b D w) k f
  place_alike zero f s = first_best_alike f s
  place_alike (suc k) f (g, s, u) = (g, place_alike k g s, next_best_alike g f u)

  count_alike : (k : ℕ) → CountBest (Given b C v) k → CountBest (Given b D w) k
  count_alike k N = record { last = N.last; layout = N.layout; at = place_alike N.last N.layout N.at; end = last_best_alike N.layout N.end; more = N.more }

  -- 10 names the same layouts.
  pub not_best_alike : (list : List ℕ) → (C (held list) × ¬ Best (Given b C v) (held list)) ↔ (D (held list) × ¬ Best (Given b D w) (held list))
  not_best_alike list = (
    (λ (c, n). ((same.counts (held list)).0 c, λ s. n (back (held list) s))),
    (λ (d, n). ((same.counts (held list)).1 d, λ s. n (best_alike b same (held list) s))),
  )

-- Two costs of every pad with every port of a board, and the totals of a layout.
abbrev pub SameCosts : Board → (ℕ → ℕ → ℕ) → (ℕ → ℕ → ℕ) → Type 0
SameCosts b c d = (i q : ℕ) → i < b.pads → q < b.ports → c i q ≡ d i q

total_alike : (b : Board) (c d : ℕ → ℕ → ℕ) → SameCosts b c d → (f : ℕ → ℕ) → Layout b f → total b c f ≡ total b d f
total_alike b c d same f l = sum_same b.pads (λ i. c i (f i)) (λ i. d i (f i)) (λ i h. same i (f i) h (l.inside i h))

-- ---- trials

-- What passes the first trials passes the second, and what those refuse is refused so by these.
abbrev pub Follows : List Trial → List Trial → Type 0
Follows ts us = (Passed ts → Passed us) × ((r : Refusal) → RefusedBy ts r → RefusedBy us r)

-- A trial before both; before both a trial that is clean; trials before both.
after_same : (t : Trial) (ts us : List Trial) → Follows ts us → Follows (t ∷ ts) (t ∷ us)
after_same t ts us f = ((λ p. (p.0, f.0 p.1)), λ r. ⊎_elim inl (λ a. inr (a.0, f.1 r a.1)))

after_clean : (t u : Trial) (ts us : List Trial) → Clean t → Clean u → Follows ts us → Follows (t ∷ ts) (u ∷ us)
after_clean t u ts us c d f =
    ((λ p. (d, f.0 p.1)), λ r. ⊎_elim (λ a. absurd (c r.at a.1.inside a.1.first.here)) (λ a. inr (d, f.1 r a.1)))

pub after_all : (vs ts us : List Trial) → Follows ts us → Follows (vs ++ ts) (vs ++ us)
after_all [] ts us f = f
after_all (v ∷ vs) ts us f = after_same v (vs ++ ts) (vs ++ us) (after_all vs ts us f)

pub follows-append : (ts us vs ws : List Trial) → Follows ts us → Follows vs ws → Follows (ts ++ vs) (us ++ ws)
follows-append ts us vs ws f g = (
  (λ p. let (h, k) = append_passed ts vs p in passed_append us ws (f.0 h) (g.0 k)),
  λ r a. ⊎_elim (λ h. refused_left us ws r (f.1 r h)) (λ (h, k). refused_right us ws r (f.0 h) (g.1 r k)) (refused-append ts vs r a),
)

-- One trial of the input as a whole, for the same fault.
pub whole_follows : (r : ℕ) (P Q : Type 0) → P ↔ Q → Follows (of_whole r P ∷ []) (of_whole r Q ∷ [])
whole_follows r P Q same = (
  (λ p. ((λ i l y. p.0 i l (same.1 y)), tt)),
  λ s. ⊎_elim
      (λ a. inl (a.0, record { inside = a.1.inside; first = record { here = same.0 a.1.first.here; none_below = λ k l y. a.1.first.none_below k l (same.1 y) }; named = a.1.named }))
      (λ a. absurd a.1),
)

-- What is said of the number of best layouts, on two such problems; so 16 and 17 refuse the same.
counts_alike : (b : Board) {C D : (ℕ → ℕ) → Type 0} {v w : (ℕ → ℕ) → ℕ} → SameWorth C D v w → (P : ℕ → Type 0)
    → ((c : ℕ) × CountBest (Given b C v) c × P c) ↔ ((c : ℕ) × CountBest (Given b D w) c × P c)
counts_alike b same P = ((λ (c, N, x). (c, count_alike b same c N, x)), (λ (c, N, x). (c, count_alike b (turned same) c N, x)))

number-follows : (b : Board) {C D : (ℕ → ℕ) → Type 0} {v w : (ℕ → ℕ) → ℕ} → SameWorth C D v w → (numbers : ℕ)
    → Follows (number_trials (Given b C v) numbers) (number_trials (Given b D w) numbers)
number-follows b {C} {D} {v} {w} same numbers =
    after_same (of_whole 18 (numbers < buffer_needed b.pads)) (of_whole 16 (TooMany (Given b C v)) ∷ []) (of_whole 16 (TooMany (Given b D w)) ∷ [])
    (whole_follows 16 (TooMany (Given b C v)) (TooMany (Given b D w)) (counts_alike b same (λ c. limit < c)))

-- ---- calls

-- Calls on such problems whose trials follow reply alike.
module _ (b : Board) {C D : (ℕ → ℕ) → Type 0} {v w : (ℕ → ℕ) → ℕ} (same : SameWorth C D v w)
    (first other-first : ℕ → List Trial) (measure other-measure next other-next : List ℕ → List Trial) where
  abbrev these : Calls
  these = record { problem = Given b C v; first = first; measure = measure; next = next }

  abbrev those : Calls
  those = record { problem = Given b D w; first = other-first; measure = other-measure; next = other-next }

  pub first_over : ((room : ℕ) → Follows (first room) (other-first room))
      → (before : List ℕ) (a : Answer) (after : List ℕ) → FirstOver these before a after → FirstOver those before a after
  first_over follows before (Ok (Some t)) after (p, f, e, k) =
      ((follows (length before)).0 p, first_best_alike b same (held after) f, e ∙ same.value (held after) f.best.counts, k)
  first_over follows before (Ok None) after p = absurd p
  first_over follows before (Err r) after (a, e) = ((follows (length before)).1 r a, e)

  pub next_over : ((list : List ℕ) → Follows (next list) (other-next list))
      → (before : List ℕ) (a : Answer) (after : List ℕ) → NextOver these before a after → NextOver those before a after
  next_over follows before (Ok (Some t)) after (p, f, e, k) =
      ((follows before).0 p, next_best_alike b same (held before) (held after) f, e ∙ same.value (held after) f.best.counts, k)
  next_over follows before (Ok None) after (p, l, e) = ((follows before).0 p, last_best_alike b same (held before) l, e)
  next_over follows before (Err r) after (a, e) = ((follows before).1 r a, e)

  pub page_over : ((list : List ℕ) → Follows (next list) (other-next list))
      → (list before : List ℕ) (a : Counted) (after : List ℕ) → PageOver these list before a after → PageOver those list before a after
  page_over follows list before (Ok k) after (p, f) = ((follows list).0 p, following_alike b same list before k after f)
  page_over follows list before (Err r) after (a, e) = ((follows list).1 r a, e)

  pub measure_over : ((list : List ℕ) → Follows (measure list) (other-measure list)) → ((list : List ℕ) → Passed (measure list) → C (held list))
      → (list : List ℕ) (a : Answer) → MeasureOver these list a → MeasureOver those list a
  measure_over follows counts list (Ok (Some t)) (p, e) = ((follows list).0 p, e ∙ same.value (held list) (counts list p))
  measure_over follows counts list (Ok None) p = absurd p
  measure_over follows counts list (Err r) a = (follows list).1 r a

  module _ (follows : (room : ℕ) → Follows (first room) (other-first room)) (numbers : ℕ) where
    count-follows : Follows (count_trials these numbers) (count_trials those numbers)
    count-follows =
        follows-append (first b.pads) (other-first b.pads) (number_trials these.problem numbers) (number_trials those.problem numbers)
        (follows b.pads) (number-follows b same numbers)

    pub count_over : (a : Counted) → CountOver these numbers a → CountOver those numbers a
    count_over (Ok k) (p, N) = (count-follows.0 p, count_alike b same k N)
    count_over (Err r) a = count-follows.1 r a

    place-follows : (place room : ℕ) → Follows (place_trials these numbers place room) (place_trials those numbers place room)
    place-follows place room =
        follows-append (first room) (other-first room) (later_trials these.problem numbers place) (later_trials those.problem numbers place) (follows room)
        (follows-append (number_trials these.problem numbers) (number_trials those.problem numbers) (past_trials these.problem place) (past_trials those.problem place)
        (number-follows b same numbers) (whole_follows 17 (PastCount these.problem place) (PastCount those.problem place) (counts_alike b same (λ c. c ≤ place))))

    pub place_over : (place : ℕ) (before : List ℕ) (a : Answer) (after : List ℕ) → PlaceOver these numbers place before a after → PlaceOver those numbers place before a after
    place_over place before (Ok (Some t)) after (p, s, e, k) =
        let best = place_best these.problem place (held after) s in
        ((place-follows place (length before)).0 p, place_alike b same place (held after) s, e ∙ same.value (held after) best.counts, k)
    place_over place before (Ok None) after p = absurd p
    place_over place before (Err r) after (a, e) = ((place-follows place (length before)).1 r a, e)

module _ (job : Job) where
  abbrev b : Board
  b = board_of job

  abbrev pub AlikeOn : Badness → Badness → Type 0
  AlikeOn bad other = SameCosts b (cost_of b bad) (cost_of b other)

  same_worth : (bad other : Badness) → AlikeOn bad other → SameWorth (Untouching b) (Untouching b) (total b (cost_of b bad)) (total b (cost_of b other))
  same_worth bad other same =
      record { counts = λ f. ((λ u. u), (λ u. u)); value = λ f u. total_alike b (cost_of b bad) (cost_of b other) same f u.layout }

  module _ (bad other : Badness) (fair : Fair b bad) (fair-other : Fair b other) (same : AlikeOn bad other) where
    -- The trials but for 2 and 13, which both pass, and 10, which names the same layouts.
    pub sound_follows : (work : Work) (room : ℕ) → Follows (sound_trials job bad work room) (sound_trials job other work room)
    sound_follows work room =
        let rest = room_trials job work room ++ job_trials job in
        after_all (size_trials job) (badness_trial b bad ∷ rest) (badness_trial b other ∷ rest)
        (after_clean (badness_trial b bad) (badness_trial b other) rest rest ((fair_iff b bad).1 fair) ((fair_iff b other).1 fair-other) ((λ p. p), λ r a. a))

    first-follows : (work : Work) (room : ℕ) → Follows (first_trials job bad work room) (first_trials job other work room)
    first-follows work room =
        follows-append (sound_trials job bad work room) (sound_trials job other work room) (none_trial (labeling_of job bad) ∷ []) (none_trial (labeling_of job other) ∷ [])
        (sound_follows work room) ((λ p. p), λ r a. a)

    pub measure_follows : (work : Work) (list : List ℕ) → Follows (measure_trials job bad work list) (measure_trials job other work list)
    measure_follows work list =
        follows-append (sound_trials job bad work (length list)) (sound_trials job other work (length list)) (layout_trials b list) (layout_trials b list)
        (sound_follows work (length list)) ((λ p. p), λ r a. a)

    next_follows : (work : Work) (list : List ℕ) → Follows (next_trials job bad work list) (next_trials job other work list)
    next_follows work list =
        follows-append (measure_trials job bad work list) (measure_trials job other work list)
        (best_trial (labeling_of job bad) list ∷ []) (best_trial (labeling_of job other) list ∷ []) (measure_follows work list)
        (whole_follows 10 _ _ (not_best_alike b (same_worth bad other same) list))

    pub first_on : (work : Work) (before : List ℕ) (a : Answer) (after : List ℕ) → FirstAnswers job bad work before a after → FirstAnswers job other work before a after
    first_on work =
        first_over b (same_worth bad other same) (first_trials job bad work) (first_trials job other work) (measure_trials job bad None) (measure_trials job other None)
        (next_trials job bad work) (next_trials job other work) (first-follows work)

    pub next_on_lem : (work : Work) (before : List ℕ) (a : Answer) (after : List ℕ) → NextAnswers job bad work before a after → NextAnswers job other work before a after
    next_on_lem work =
        next_over b (same_worth bad other same) (first_trials job bad work) (first_trials job other work) (measure_trials job bad None) (measure_trials job other None)
        (next_trials job bad work) (next_trials job other work) (next_follows work)

    pub page_on_lem : (work : Work) (list before : List ℕ) (a : Counted) (after : List ℕ) → PageAnswers job bad work list before a after → PageAnswers job other work list before a after
    page_on_lem work =
        page_over b (same_worth bad other same) (first_trials job bad work) (first_trials job other work) (measure_trials job bad None) (measure_trials job other None)
        (next_trials job bad work) (next_trials job other work) (next_follows work)

    measure_on : (list : List ℕ) (a : Answer) → MeasureAnswers job bad list a → MeasureAnswers job other list a
    measure_on =
        measure_over b (same_worth bad other same) (first_trials job bad None) (first_trials job other None) (measure_trials job bad None) (measure_trials job other None)
        (next_trials job bad None) (next_trials job other None) (measure_follows None) (λ list p. (measure_accepted job bad None list p).1)

    pub count_on : (numbers : ℕ) (a : Counted) → CountAnswers job bad numbers a → CountAnswers job other numbers a
    count_on =
        count_over b (same_worth bad other same) (first_trials job bad None) (first_trials job other None) (measure_trials job bad None) (measure_trials job other None)
        (next_trials job bad None) (next_trials job other None) (first-follows None)

    pub place_on : (numbers place : ℕ) (before : List ℕ) (a : Answer) (after : List ℕ)
        → PlaceAnswers job bad numbers place before a after → PlaceAnswers job other numbers place before a after
    place_on =
        place_over b (same_worth bad other same) (first_trials job bad None) (first_trials job other None) (measure_trials job bad None) (measure_trials job other None)
        (next_trials job bad None) (next_trials job other None) (first-follows None)

  -- THEOREMS. By weights as by their table.
  module _ (lw bw : ℕ) (figures : List ℕ) (lengths : lw ≤ 1000) (bends : bw ≤ 1000) (t : TableOf b (weighted b lw bw) figures) where
    pub first_by_table : (work : Work) (before : List ℕ) (m : ℤ) (after : List ℕ) → FirstPromise job (by_weights lw bw) work before m after ↔ FirstPromise job (by_table figures) work before m after
    first_by_table work before m after = (
      (λ (a, p, e). (a, first_on (by_weights lw bw) (by_table figures) (lengths, bends) t.long (λ i q h k. sym (t.at i q h k)) work before a after p, e)),
      (λ (a, p, e). (a, first_on (by_table figures) (by_weights lw bw) t.long (lengths, bends) t.at work before a after p, e)),
    )

    pub next_by_table : (work : Work) (before : List ℕ) (m : ℤ) (after : List ℕ) → NextPromise job (by_weights lw bw) work before m after ↔ NextPromise job (by_table figures) work before m after
    next_by_table work before m after = (
      (λ (a, p, e). (a, next_on_lem (by_weights lw bw) (by_table figures) (lengths, bends) t.long (λ i q h k. sym (t.at i q h k)) work before a after p, e)),
      (λ (a, p, e). (a, next_on_lem (by_table figures) (by_weights lw bw) t.long (lengths, bends) t.at work before a after p, e)),
    )

    pub page_by_table : (work : Work) (list before : List ℕ) (m : ℤ) (after : List ℕ)
        → PagePromise job (by_weights lw bw) work list before m after ↔ PagePromise job (by_table figures) work list before m after
    page_by_table work list before m after = (
      (λ (a, p, e). (a, page_on_lem (by_weights lw bw) (by_table figures) (lengths, bends) t.long (λ i q h k. sym (t.at i q h k)) work list before a after p, e)),
      (λ (a, p, e). (a, page_on_lem (by_table figures) (by_weights lw bw) t.long (lengths, bends) t.at work list before a after p, e)),
    )

    pub measure_by_table : (list : List ℕ) (m : ℤ) → MeasurePromise job (by_weights lw bw) list m ↔ MeasurePromise job (by_table figures) list m
    measure_by_table list m = (
      (λ (a, p, e). (a, measure_on (by_weights lw bw) (by_table figures) (lengths, bends) t.long (λ i q h k. sym (t.at i q h k)) list a p, e)),
      (λ (a, p, e). (a, measure_on (by_table figures) (by_weights lw bw) t.long (lengths, bends) t.at list a p, e)),
    )

    pub count_by_table : (numbers : ℕ) (m : ℤ) → CountPromise job (by_weights lw bw) numbers m ↔ CountPromise job (by_table figures) numbers m
    count_by_table numbers m = (
      (λ (a, p, e). (a, count_on (by_weights lw bw) (by_table figures) (lengths, bends) t.long (λ i q h k. sym (t.at i q h k)) numbers a p, e)),
      (λ (a, p, e). (a, count_on (by_table figures) (by_weights lw bw) t.long (lengths, bends) t.at numbers a p, e)),
    )

    pub place_by_table : (numbers place : ℕ) (before : List ℕ) (m : ℤ) (after : List ℕ)
        → PlacePromise job (by_weights lw bw) numbers place before m after ↔ PlacePromise job (by_table figures) numbers place before m after
    place_by_table numbers place before m after = (
      (λ (a, p, e). (a, place_on (by_weights lw bw) (by_table figures) (lengths, bends) t.long (λ i q h k. sym (t.at i q h k)) numbers place before a after p, e)),
      (λ (a, p, e). (a, place_on (by_table figures) (by_weights lw bw) t.long (lengths, bends) t.at numbers place before a after p, e)),
    )

-- THEOREM. Every cost has a table.
pub table_of : (b : Board) (cost : ℕ → ℕ → ℕ) → (figures : List ℕ) × TableOf b cost figures
table_of b cost = (
  row (b.pads * b.ports) at,
  record {
    long = row-length (b.pads * b.ports) at;
    at = λ i q h k. row-at (b.pads * b.ports) at (i * b.ports + q) (place_in b.pads b.ports i q h k) ∙ (λ j. cost (digits_div i k j) (digits_mod i k j));
  },
)
  where
    at : ℕ → ℕ
    at k = cost (k / b.ports) (k % b.ports)
