-- EACH PROMISE CAN BE MET. For every input there is a reply that the promise allows: of all calls that are regular, of Svg, of ReadCsv and of Draw.
--     first_met, next_met, page_met, measure_met, count_met, place_met, svg_met, csv_met, draw_met: for every input
--     first_made, next_made, place_made: a total, or the end, where it is accepted
use Rattle.std.specs.Prelude.{refl, ◌⊎◌, List, ℕ, ◌≤◌, length, ℤ, Float, Some, None, Ok, Err}
use Rattle.std.proofs.Common.{sym, inl, inr, lt_of_not-le, arith}
use Rattle.paper.specs.Job.{records}
use Rattle.paper.specs.Layouts.{board_of, held, leader, Same}
use Rattle.paper.specs.Problem.{Best, FirstBest, NextBest, LastBest, PlaceBest}
use Rattle.paper.specs.Refusals.{Trial, Passed, draw_trials, Calls, entries, number_trials, count_trials, place_trials, svg_trials, csv_trials}
use Rattle.paper.specs.Canvas.{coordinates}
use Rattle.paper.specs.Promises.{number, counted_number, drawn_number, overwritten, FirstOver, NextOver, PlaceOver}
use Rattle.paper.specs.Promises.{FirstReplies, NextReplies, PageReplies, MeasureReplies, CountReplies, PlaceReplies, DrawPromise, FillReplies, SvgFills, SvgPromise, CsvFills, CsvPromise}
use Rattle.paper.proofs.laws.Trials.{append_passed}
use Rattle.paper.proofs.laws.Order.{first_best_same, next_best_same}
use Rattle.paper.proofs.laws.Earliest.{first_exists, next_or_last}
use Rattle.paper.proofs.laws.Kept.{listed}
use Rattle.paper.proofs.laws.Decided.{Decided, draw_decided}
use Rattle.paper.proofs.laws.Numbers.{LayoutOver}
use Rattle.paper.proofs.laws.Regular.{Regular}
use Rattle.paper.proofs.laws.Places.{place_same, place_taken, count_exists, past_trials, later_trials, count_decided, place_decided}
use Rattle.paper.proofs.laws.Pages.{page_filled}
use Rattle.paper.specs.laws.Texts.{sheet_text}
use Rattle.paper.proofs.laws.Texts.{sheet_is}
use Rattle.paper.proofs.laws.Exported.{all_on_sheet, svg_decided, svg_measured}
use Rattle.paper.proofs.laws.Imported.{csv_decided, csv_filled}
use Rattle.paper.specs.laws.Drawn.{leader_drawn}
use Rattle.paper.proofs.laws.Drawn.{drawn_is, passed_on_sheet, draw_answers}

-- Where trials are passed that leave room, and At says of some layout that it is the one, a total is answered with it.
layout_made : (c : Calls) (ts : List Trial) (At : (ℕ → ℕ) → Type 0) → ((f g : ℕ → ℕ) → Same c.problem.board f g → At f → At g) → (before : List ℕ)
    → Passed ts → entries c ≤ length before → (f : ℕ → ℕ) → At f → (t : ℕ) × (after : List ℕ) × LayoutOver c ts At before (Ok (Some t)) after
layout_made c ts At same before p room f at =
    let l = listed (entries c) f before room in
    (c.problem.value (held l.0), l.0, (p, same f (held l.0) (λ i h. sym (l.1 i h)) at, refl, l.2))

module _ (c : Calls) (R : Regular c) (before : List ℕ) where
  -- First answers a total for all that it accepts.
  pub first_made : Passed (c.first (length before)) → (t : ℕ) × (after : List ℕ) × FirstOver c before (Ok (Some t)) after
  first_made p =
      let S = R.searchable (length before) p in
      let u = R.exists (length before) p in
      let f = first_exists c.problem S u.0 u.1 in
      layout_made c (c.first (length before)) (FirstBest c.problem) (first_best_same c.problem S.steady) before p (R.room (length before) p) f.0 f.1

  pub first_met : (m : ℤ) × (after : List ℕ) × FirstReplies c before m after
  first_met = go (R.first_decided (length before))
    where
      go : Decided (c.first (length before)) → (m : ℤ) × (after : List ℕ) × FirstReplies c before m after
      go (inl p) = let m = first_made p in (number (Ok (Some m.0)), m.1, (Ok (Some m.0), m.2, refl))
      go (inr (r, a)) = (number (Err r), before, (Err r, (a, refl), refl))

  -- So does Next, or it answers the end.
  abbrev pub Steps : Type 0
  Steps = ((t : ℕ) × (after : List ℕ) × NextOver c before (Ok (Some t)) after) ⊎ NextOver c before (Ok None) before

  pub next_made : Passed (c.next before) → Steps
  next_made p = go (next_or_last c.problem (R.searchable (length before) is.0) (held before) is.1)
    where
      is : Passed (c.first (length before)) × Best c.problem (held before)
      is = (R.next_is before).0 p

      go : ((g : ℕ → ℕ) × NextBest c.problem (held before) g) ⊎ LastBest c.problem (held before) → Steps
      go (inl (g, n)) =
          let l = listed (entries c) g before (R.room (length before) is.0) in
          let steady = (R.searchable (length before) is.0).steady in
          let s = next_best_same c.problem steady (held before) g (held l.0) (λ i h. sym (l.1 i h)) n in
          inl (c.problem.value (held l.0), l.0, (p, s, refl, l.2))
      go (inr e) = inr (p, e, refl)

  pub next_met : (m : ℤ) × (after : List ℕ) × NextReplies c before m after
  next_met = go (R.next_decided before)
    where
      made : Steps → (m : ℤ) × (after : List ℕ) × NextReplies c before m after
      made (inl (t, l, n)) = (number (Ok (Some t)), l, (Ok (Some t), n, refl))
      made (inr n) = (number (Ok None), before, (Ok None, n, refl))

      go : Decided (c.next before) → (m : ℤ) × (after : List ℕ) × NextReplies c before m after
      go (inl p) = made (next_made p)
      go (inr (r, a)) = (number (Err r), before, (Err r, (a, refl), refl))

  pub measure_met : (m : ℤ) × MeasureReplies c before m
  measure_met = go (R.measure_decided before)
    where
      go : Decided (c.measure before) → (m : ℤ) × MeasureReplies c before m
      go (inl p) = let t = c.problem.value (held before) in (number (Ok (Some t)), (Ok (Some t), (p, refl), refl))
      go (inr (r, a)) = (number (Err r), (Err r, a, refl))

module _ (c : Calls) (R : Regular c) (given before : List ℕ) where
  pub page_met : (m : ℤ) × (after : List ℕ) × PageReplies c given before m after
  page_met = go (R.next_decided given)
    where
      go : Decided (c.next given) → (m : ℤ) × (after : List ℕ) × PageReplies c given before m after
      go (inl p) =
          let (q, best) = (R.next_is given).0 p in
          let f = page_filled c.problem given before (R.searchable (length given) q) (R.some (length given) q) best in
          (counted_number (Ok f.0), f.1, (Ok f.0, (p, f.2), refl))
      go (inr (r, a)) = (counted_number (Err r), before, (Err r, (a, refl), refl))

module _ (c : Calls) (R : Regular c) (numbers : ℕ) where
  pub count_met : (m : ℤ) × CountReplies c numbers m
  count_met = go (count_decided c R numbers)
    where
      go : Decided (count_trials c numbers) → (m : ℤ) × CountReplies c numbers m
      go (inl p) =
          let (k, is) = count_exists c R (entries c) (append_passed (c.first (entries c)) (number_trials c.problem numbers) p).0 in
          (counted_number (Ok k), (Ok k, (p, is), refl))
      go (inr (r, a)) = (counted_number (Err r), (Err r, a, refl))

  module _ (place : ℕ) (before : List ℕ) where
    -- Place answers a total for all that it accepts: the place is below the count, so it is taken.
    pub place_made : Passed (place_trials c numbers place (length before)) → (t : ℕ) × (after : List ℕ) × PlaceOver c numbers place before (Ok (Some t)) after
    place_made p =
        let (first, rest) = append_passed (c.first (length before)) (later_trials c.problem numbers place) p in
        let (k, is) = count_exists c R (length before) first in
        let below = lt_of_not-le (λ h. (append_passed (number_trials c.problem numbers) (past_trials c.problem place) rest).1.0 0 (omega arith) (k, is, h)) in
        let f = place_taken c.problem k place is below in
        layout_made c (place_trials c numbers place (length before)) (PlaceBest c.problem place)
        (place_same c.problem (R.searchable (length before) first).steady place) before p (R.room (length before) first) f.0 f.1

    pub place_met : (m : ℤ) × (after : List ℕ) × PlaceReplies c numbers place before m after
    place_met = go (place_decided c R numbers place (length before))
      where
        go : Decided (place_trials c numbers place (length before)) → (m : ℤ) × (after : List ℕ) × PlaceReplies c numbers place before m after
        go (inl p) = let m = place_made p in (number (Ok (Some m.0)), m.1, (Ok (Some m.0), m.2, refl))
        go (inr (r, a)) = (number (Err r), before, (Err r, (a, refl), refl))

-- Where trials are decided, and something fills the first bytes if they are passed.
pub fill_met : (ts : List Trial) (Is : List ℕ → ℕ → Type 0) (before : List ℕ) → Decided ts → (Passed ts → (s : List ℕ) × (k : ℕ) × Is s k)
    → (m : ℤ) × (after : List ℕ) × FillReplies ts Is before m after
fill_met ts Is before (inl p) made =
    let (s, k, is) = made p in
    (counted_number (Ok k), overwritten s before, (Ok k, (p, (s, is, refl)), refl))
fill_met ts Is before (inr (r, a)) made = (counted_number (Err r), before, (Err r, (a, refl), refl))

pub svg_met : (job list before : List ℕ) → (m : ℤ) × (after : List ℕ) × SvgPromise job list before m after
svg_met job list before =
    fill_met (svg_trials job list (length before)) (SvgFills job list) before (svg_decided job list (length before)) (λ p.
    let s = sheet_text (board_of (records job)) (held list) in
    (s, length s, (sheet_is (board_of (records job)) (held list) (all_on_sheet job list (svg_measured job list (length before) p).0), refl)))

pub csv_met : (text before : List ℕ) → (m : ℤ) × (after : List ℕ) × CsvPromise text before m after
csv_met text before = fill_met (csv_trials text (length before)) (CsvFills text) before (csv_decided text (length before)) (csv_filled text (length before))

module _ (job : List ℕ) (i q : ℕ) (before : List Float) where
  pub draw_met : (m : ℤ) × (after : List Float) × DrawPromise job i q before m after
  draw_met = go (draw_decided job i q (length before))
    where
      go : Decided (draw_trials job i q (length before)) → (m : ℤ) × (after : List Float) × DrawPromise job i q before m after
      go (inl p) =
          let d = leader_drawn (leader (board_of (records job)) i q) in
          let is = drawn_is (leader (board_of (records job)) i q) (passed_on_sheet job i q (length before) p) in
          (drawn_number d, overwritten (coordinates d) before, (d, draw_answers job i q before d p is, refl))
      go (inr (r, a)) = (drawn_number (Err r), before, (Err r, (a, refl), refl))
