-- DETERMINACY. Any two replies of a call are equal: the number, and the final content of the lent list. Assumes nothing, of any calls.
--     first_determined, next_determined, page_determined, measure_determined, count_determined, place_determined, fill_determined, draw_determined: as C sees them; *-answer: in the language
use Rattle.std.specs.Prelude.{◌≡◌, refl, List, ℕ, length, ℤ, Float, Some, None, Ok, Err}
use Rattle.std.proofs.Common.{sym, ap, ◌∙◌}
use Rattle.paper.specs.declared.Polyline.TheVariants.{Straight, Bent}
use Rattle.paper.specs.Answers.{Answer, Counted, Drawn}
use Rattle.paper.specs.Job.{records}
use Rattle.paper.specs.Layouts.{board_of, held, leader, Same}
use Rattle.paper.specs.Problem.{FirstBest, PlaceBest}
use Rattle.paper.specs.Refusals.{Trial, Calls, entries, draw_trials, count_trials, place_trials}
use Rattle.paper.specs.Canvas.{coordinates}
use Rattle.paper.specs.Promises.{number, counted_number, drawn_number, overwritten, CountOver, PlaceOver, CountReplies, PlaceReplies}
use Rattle.paper.specs.Promises.{FirstOver, NextOver, PageOver, MeasureOver, FirstReplies, NextReplies, PageReplies, MeasureReplies, DrawAnswers, DrawPromise, FillOver, FillReplies}
use Rattle.paper.proofs.laws.Trials.{refused_one, not_both}
use Rattle.paper.proofs.laws.Numbers.{LayoutOver, first_is, place_is}
use Rattle.paper.proofs.laws.Order.{first_best_one, next_best_one, next_not_last}
use Rattle.paper.proofs.laws.Places.{place_one, count_one}
use Rattle.paper.proofs.laws.Kept.{kept_one}
use Rattle.paper.proofs.laws.Pages.{following_one}
use Rattle.paper.proofs.laws.Drawn.{straight_one, bent_one}

-- ---- any calls

-- The answers themselves, for a caller in the language. Where At says this of one layout only, a total is determined:
layout_answer : (c : Calls) (ts : List Trial) (At : (ℕ → ℕ) → Type 0) → ((f g : ℕ → ℕ) → At f → At g → Same c.problem.board f g)
    → (before : List ℕ) (a d : Answer) (l m : List ℕ) → LayoutOver c ts At before a l → LayoutOver c ts At before d m → (a ≡ d) × (l ≡ m)
layout_answer c ts At one before (Ok (Some t)) (Ok (Some s)) l m p q =
    let e = kept_one (entries c) before l m p.3 q.3 (one (held l) (held m) p.1 q.1) in
    (ap (λ (t : ℕ). Ok (Some t)) (p.2 ∙ ap (λ (l : List ℕ). c.problem.value (held l)) e ∙ sym q.2), e)
layout_answer c ts At one before (Ok (Some t)) (Ok None) l m p q = absurd q
layout_answer c ts At one before (Ok (Some t)) (Err r) l m p q = absurd (not_both ts r p.0 q.0)
layout_answer c ts At one before (Ok None) d l m p q = absurd p
layout_answer c ts At one before (Err r) (Ok (Some t)) l m p q = absurd (not_both ts r q.0 p.0)
layout_answer c ts At one before (Err r) (Ok None) l m p q = absurd q
layout_answer c ts At one before (Err r) (Err s) l m p q = (ap Err (refused_one ts r s p.0 q.0), p.1 ∙ sym q.1)

module _ (c : Calls) (before : List ℕ) where
  pub first_answer : (a d : Answer) (l m : List ℕ) → FirstOver c before a l → FirstOver c before d m → (a ≡ d) × (l ≡ m)
  first_answer a d l m p q =
      layout_answer c (c.first (length before)) (FirstBest c.problem) (first_best_one c.problem) before a d l m (first_is c before a l p) (first_is c before d m q)

  pub next_answer : (a d : Answer) (l m : List ℕ) → NextOver c before a l → NextOver c before d m → (a ≡ d) × (l ≡ m)
  next_answer (Ok (Some t)) (Ok (Some s)) l m p q =
      let e = kept_one (entries c) before l m p.3 q.3 (next_best_one c.problem (held before) (held l) (held m) p.1 q.1) in
      (ap (λ (t : ℕ). Ok (Some t)) (p.2 ∙ ap (λ (l : List ℕ). c.problem.value (held l)) e ∙ sym q.2), e)
  next_answer (Ok (Some t)) (Ok None) l m p q = absurd (next_not_last c.problem (held before) (held l) p.1 q.1)
  next_answer (Ok (Some t)) (Err r) l m p q = absurd (not_both (c.next before) r p.0 q.0)
  next_answer (Ok None) (Ok (Some t)) l m p q = absurd (next_not_last c.problem (held before) (held m) q.1 p.1)
  next_answer (Ok None) (Ok None) l m p q = (refl, p.2 ∙ sym q.2)
  next_answer (Ok None) (Err r) l m p q = absurd (not_both (c.next before) r p.0 q.0)
  next_answer (Err r) (Ok (Some t)) l m p q = absurd (not_both (c.next before) r q.0 p.0)
  next_answer (Err r) (Ok None) l m p q = absurd (not_both (c.next before) r q.0 p.0)
  next_answer (Err r) (Err s) l m p q = (ap Err (refused_one (c.next before) r s p.0 q.0), p.1 ∙ sym q.1)

  pub measure_answer : (a d : Answer) → MeasureOver c before a → MeasureOver c before d → a ≡ d
  measure_answer (Ok (Some t)) (Ok (Some s)) p q = ap (λ (t : ℕ). Ok (Some t)) (p.1 ∙ sym q.1)
  measure_answer (Ok (Some t)) (Ok None) p q = absurd q
  measure_answer (Ok (Some t)) (Err r) p q = absurd (not_both (c.measure before) r p.0 q)
  measure_answer (Ok None) d p q = absurd p
  measure_answer (Err r) (Ok (Some t)) p q = absurd (not_both (c.measure before) r q.0 p)
  measure_answer (Err r) (Ok None) p q = absurd q
  measure_answer (Err r) (Err s) p q = ap Err (refused_one (c.measure before) r s p q)

  pub first_determined : (n m : ℤ) (l k : List ℕ) → FirstReplies c before n l → FirstReplies c before m k → (n ≡ m) × (l ≡ k)
  first_determined n m l k p q = let e = first_answer p.0 q.0 l k p.1 q.1 in (p.2 ∙ ap number e.0 ∙ sym q.2, e.1)

  pub next_determined : (n m : ℤ) (l k : List ℕ) → NextReplies c before n l → NextReplies c before m k → (n ≡ m) × (l ≡ k)
  next_determined n m l k p q = let e = next_answer p.0 q.0 l k p.1 q.1 in (p.2 ∙ ap number e.0 ∙ sym q.2, e.1)

  pub measure_determined : (n m : ℤ) → MeasureReplies c before n → MeasureReplies c before m → n ≡ m
  measure_determined n m p q = p.2 ∙ ap number (measure_answer p.0 q.0 p.1 q.1) ∙ sym q.2

module _ (c : Calls) (given before : List ℕ) where
  pub page_answer : (a d : Counted) (l m : List ℕ) → PageOver c given before a l → PageOver c given before d m → (a ≡ d) × (l ≡ m)
  page_answer (Ok k) (Ok j) l m p q = let e = following_one c.problem given before k j l m p.1 q.1 in (ap Ok e.0, e.1)
  page_answer (Ok k) (Err r) l m p q = absurd (not_both (c.next given) r p.0 q.0)
  page_answer (Err r) (Ok k) l m p q = absurd (not_both (c.next given) r q.0 p.0)
  page_answer (Err r) (Err s) l m p q = (ap Err (refused_one (c.next given) r s p.0 q.0), p.1 ∙ sym q.1)

  pub page_determined : (n m : ℤ) (l k : List ℕ) → PageReplies c given before n l → PageReplies c given before m k → (n ≡ m) × (l ≡ k)
  page_determined n m l k p q = let e = page_answer p.0 q.0 l k p.1 q.1 in (p.2 ∙ ap counted_number e.0 ∙ sym q.2, e.1)

module _ (c : Calls) (numbers : ℕ) where
  pub count_answer : (a d : Counted) → CountOver c numbers a → CountOver c numbers d → a ≡ d
  count_answer (Ok k) (Ok j) p q = ap Ok (count_one c.problem k j p.1 q.1)
  count_answer (Ok k) (Err r) p q = absurd (not_both (count_trials c numbers) r p.0 q)
  count_answer (Err r) (Ok k) p q = absurd (not_both (count_trials c numbers) r q.0 p)
  count_answer (Err r) (Err s) p q = ap Err (refused_one (count_trials c numbers) r s p q)

  pub count_determined : (n m : ℤ) → CountReplies c numbers n → CountReplies c numbers m → n ≡ m
  count_determined n m p q = p.2 ∙ ap counted_number (count_answer p.0 q.0 p.1 q.1) ∙ sym q.2

  module _ (place : ℕ) (before : List ℕ) where
    pub place_answer : (a d : Answer) (l m : List ℕ) → PlaceOver c numbers place before a l → PlaceOver c numbers place before d m → (a ≡ d) × (l ≡ m)
    place_answer a d l m p q =
        layout_answer c (place_trials c numbers place (length before)) (PlaceBest c.problem place) (place_one c.problem place) before a d l m
        (place_is c numbers place before a l p) (place_is c numbers place before d m q)

    pub place_determined : (n m : ℤ) (l k : List ℕ) → PlaceReplies c numbers place before n l → PlaceReplies c numbers place before m k → (n ≡ m) × (l ≡ k)
    place_determined n m l k p q = let e = place_answer p.0 q.0 l k p.1 q.1 in (p.2 ∙ ap number e.0 ∙ sym q.2, e.1)

-- ---- Svg and ReadCsv: what fills the first bytes is one

module _ (ts : List Trial) (Is : List ℕ → ℕ → Type 0) (one : (s t : List ℕ) (j k : ℕ) → Is s j → Is t k → (s ≡ t) × (j ≡ k)) (before : List ℕ) where
  fill_answer : (a d : Counted) (l m : List ℕ) → FillOver ts Is before a l → FillOver ts Is before d m → (a ≡ d) × (l ≡ m)
  fill_answer (Ok j) (Ok k) l m (p, (s, f, e)) (q, (t, g, h)) =
      let (u, v) = one s t j k f g in
      (ap Ok v, e ∙ ap (λ (c : List ℕ). overwritten c before) u ∙ sym h)
  fill_answer (Ok j) (Err r) l m p q = absurd (not_both ts r p.0 q.0)
  fill_answer (Err r) (Ok k) l m p q = absurd (not_both ts r q.0 p.0)
  fill_answer (Err r) (Err s) l m p q = (ap Err (refused_one ts r s p.0 q.0), p.1 ∙ sym q.1)

  pub fill_determined : (n m : ℤ) (l k : List ℕ) → FillReplies ts Is before n l → FillReplies ts Is before m k → (n ≡ m) × (l ≡ k)
  fill_determined n m l k p q = let e = fill_answer p.0 q.0 l k p.1 q.1 in (p.2 ∙ ap counted_number e.0 ∙ sym q.2, e.1)

-- ---- Draw

module _ (job : List ℕ) (i q : ℕ) (before : List Float) where
  pub draw_answer : (d e : Drawn) (l m : List Float) → DrawAnswers job i q before d l → DrawAnswers job i q before e m → (d ≡ e) × (l ≡ m)
  draw_answer (Ok (Straight a c)) (Ok (Straight d f)) l m x y =
      let s = straight_one (leader (board_of (records job)) i q) x.1 y.1 in
      (s, x.2 ∙ ap (λ (c : Drawn). overwritten (coordinates c) before) s ∙ sym y.2)
  draw_answer (Ok (Straight a c)) (Ok (Bent d e f)) l m x y = absurd (y.1.bends x.1.level)
  draw_answer (Ok (Straight a c)) (Err r) l m x y = absurd (not_both (draw_trials job i q (length before)) r x.0 y.0)
  draw_answer (Ok (Bent a b c)) (Ok (Straight d f)) l m x y = absurd (x.1.bends y.1.level)
  draw_answer (Ok (Bent a b c)) (Ok (Bent d e f)) l m x y =
      let s = bent_one (leader (board_of (records job)) i q) x.1 y.1 in
      (s, x.2 ∙ ap (λ (c : Drawn). overwritten (coordinates c) before) s ∙ sym y.2)
  draw_answer (Ok (Bent a b c)) (Err r) l m x y = absurd (not_both (draw_trials job i q (length before)) r x.0 y.0)
  draw_answer (Err r) (Ok (Straight d f)) l m x y = absurd (not_both (draw_trials job i q (length before)) r y.0 x.0)
  draw_answer (Err r) (Ok (Bent d e f)) l m x y = absurd (not_both (draw_trials job i q (length before)) r y.0 x.0)
  draw_answer (Err r) (Err s) l m x y = (ap Err (refused_one (draw_trials job i q (length before)) r s x.0 y.0), x.1 ∙ sym y.1)

  pub draw_determined : (n m : ℤ) (l k : List Float) → DrawPromise job i q before n l → DrawPromise job i q before m k → (n ≡ m) × (l ≡ k)
  draw_determined n m l k x y = let e = draw_answer x.0 y.0 l k x.1 y.1 in (x.2 ∙ ap drawn_number e.0 ∙ sym y.2, e.1)
