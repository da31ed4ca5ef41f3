-- THE RECORDS THAT A REFUSAL NAMES. Refusal 9 names the first touching pair. Every other names one record (so that C's number of it is -(65,536 × r + i): laws/Sizes).
--
--     first_pair;  first_none;  measure_named, next_named, first_named, draw_named;  measure_none, next_none: 8 or 9 where no layout is untouching
--     count_named, place_named;  count_15, count_18, count_16, place_15, place_18, place_16, place_17: when these are given
--     count_none, count_too_short, count_too_many, place_none, place_too_short, place_too_many, place_past_count: so as C's numbers
--     svg_named, svg_free: never 2;  svg_19, svg_too_long: when 19 is given;  svg_none
--     count-free: neither 3 nor 17;  count_kept, place_kept: neither 16 nor 17
use Rattle.std.specs.Prelude.{◌≡◌, refl, ◌≢◌, ◌⊎◌, ◌↔◌, List, [], ◌∷◌, ◌++◌, ℕ, ◌≤◌, ◌<◌, length, ℤ, Some, None}
use Rattle.std.proofs.Common.{sym, subst, inl, inr, ⊎_elim, arith}
use Rattle.std.proofs.Math.Logic.Iff
use Rattle.paper.specs.declared.Refusal.{Refusal}
use Rattle.paper.specs.Answers.{Work}
use Rattle.paper.specs.Job.{Job, records, slots}
use Rattle.paper.specs.Layouts.{Board, board_of, held, Touching, Badness, by_weights, by_table}
use Rattle.paper.specs.Problem.{Problem, labeling_of}
use Rattle.paper.specs.Refusals.{Trial, FirstFault, Passed, RefusedBy, refusal, of_each, of_whole, of_pairs, size_trials, enough_trials, work_trials, room_trials, field_trials, board_trials, job_trials, layout_trials, best_trial, number_trial}
use Rattle.paper.specs.Refusals.{badness_trial, NoLayout, none_trial, sound_trials, first_trials, measure_trials, next_trials, draw_trials, Calls, calls_of, Alone, FirstPair, Named}
use Rattle.paper.specs.Refusals.{buffer_needed, TooMany, PastCount, number_trials, count_trials, place_trials, TooLong, svg_trials}
use Rattle.paper.specs.Promises.{refusal_number, FirstReplies, CountReplies, PlaceReplies, SvgFills, SvgPromise}
use Rattle.paper.proofs.laws.Trials.{not_both, refused-append, before_other, after_other, after_whole, not_whole, by_whole}
use Rattle.paper.proofs.laws.Accepted.{measure_accepted}
use Rattle.paper.proofs.laws.Numbers.{SmallRefusal, refuses_iff, first-refuses, count-refuses, place-refuses, svg_small, fill_refuses, numbered}

-- ---- a refusal by some trial

-- P holds of a refusal by each of these trials.
abbrev OfEach : (Refusal → Type 0) → List Trial → Type 0
OfEach P [] = Unit {0}
OfEach P (t ∷ ts) = ((i j : ℕ) → FirstFault t i j → P (refusal t.reason i j)) × OfEach P ts

each_append : (P : Refusal → Type 0) (ts us : List Trial) → OfEach P ts → OfEach P us → OfEach P (ts ++ us)
each_append P [] us a b = b
each_append P (t ∷ ts) us a b = (a.0, each_append P ts us a.1 b)

-- So it holds of the refusal.
refused_is : (P : Refusal → Type 0) (ts : List Trial) (r : Refusal) → OfEach P ts → RefusedBy ts r → P r
refused_is P [] r e a = absurd a
refused_is P (t ∷ ts) r e (inl a) =
    let number = sym a.0 in
    subst P (λ k. record { reason = number k; at = r.at; earlier = r.earlier }) (e.0 r.at r.earlier a.1)
refused_is P (t ∷ ts) r e (inr a) = refused_is P ts r e.1 a.1

-- ---- one record, or the first touching pair

-- One that only Count and Place give: by 16, 17 or 18.
abbrev pub ByCount : Refusal → Type 0
ByCount r = (16 ≤ r.reason) × (r.reason ≤ 18)

-- Not one that the search finds, by 10 or by 15, nor such a one.
abbrev pub Checked : Refusal → Type 0
Checked r = (r.reason ≢ 10) × (r.reason ≢ 15) × (¬ ByCount r)

-- A refusal by a trial of each record, or of the whole input, names one record; and but for First's last and Next's last, the checks find it.
alone_by : (r n : ℕ) (fault : ℕ → Type 0) → r ≢ 9 → (i j : ℕ) → FirstFault (of_each r n fault) i j → Alone (refusal r i j)
alone_by r n fault other i j a = (other, a.named.here)

-- 3 is looked at by itself.
module _ (P : Refusal → Type 0) (says : (r : Refusal) → Alone r → Checked r → r.reason ≢ 3 → P r) where
  one : (r n : ℕ) (fault : ℕ → Type 0) → (r ≢ 9) × (r ≢ 10) × (r ≢ 15) × (¬ ((16 ≤ r) × (r ≤ 18))) × (r ≢ 3) → (i j : ℕ) → FirstFault (of_each r n fault) i j → P (refusal r i j)
  one r n fault other i j a = says (refusal r i j) (alone_by r n fault other.0 i j a) (other.1, other.2, other.3) other.4

  abbrev OfRoom : Job → ℕ → Type 0
  OfRoom job room = (i j : ℕ) → FirstFault (of_whole 3 (room < (board_of job).pads)) i j → P (refusal 3 i j)

  of_size : (job : Job) → OfEach P (size_trials job)
  of_size (records bytes) = (one 1 _ _ (omega arith), tt)
  of_size (slots pads ports) = (one 1 _ _ (omega arith), (one 1 _ _ (omega arith), tt))

  of_enough : (job : Job) → OfEach P (enough_trials job)
  of_enough (records bytes) = tt
  of_enough (slots pads ports) = (one 14 _ _ (omega arith), tt)

  of_work : (b : Board) (work : Work) → OfEach P (work_trials b work)
  of_work b None = tt
  of_work b (Some numbers) = (one 24 _ _ (omega arith), tt)

  of_field : (job : Job) → OfEach P (field_trials job)
  of_field (records bytes) = (one 4 _ _ (omega arith), tt)
  of_field (slots pads ports) = (one 4 _ _ (omega arith), (one 4 _ _ (omega arith), tt))

  of_job_lem : (job : Job) → OfEach P (job_trials job)
  of_job_lem job =
      each_append P (field_trials job) (board_trials job) (of_field job) (
        one 5 _ _ (omega arith),
        (
          one 12 _ _ (omega arith),
          (one 6 _ _ (omega arith), (one 7 _ _ (omega arith), tt)),
        ),
      )

  of_badness : (b : Board) (bad : Badness) (i j : ℕ) → FirstFault (badness_trial b bad) i j → P (refusal (badness_trial b bad).reason i j)
  of_badness b (by_weights lw bw) = one 2 _ _ (omega arith)
  of_badness b (by_table figures) = one 13 _ _ (omega arith)

  of_room : (job : Job) (work : Work) (room : ℕ) → OfRoom job room → OfEach P (room_trials job work room)
  of_room job work room three = (three, each_append P (enough_trials job) (work_trials (board_of job) work) (of_enough job) (of_work (board_of job) work))

  of_sound : (job : Job) (bad : Badness) (work : Work) (room : ℕ) → OfRoom job room → OfEach P (sound_trials job bad work room)
  of_sound job bad work room three =
      each_append P (size_trials job) (badness_trial (board_of job) bad ∷ room_trials job work room ++ job_trials job) (of_size job)
      (of_badness (board_of job) bad, each_append P (room_trials job work room) (job_trials job) (of_room job work room three) (of_job_lem job))

  of_first_lem : (job : Job) (bad : Badness) (work : Work) (room : ℕ) → OfRoom job room → ((i j : ℕ) → FirstFault (none_trial (labeling_of job bad)) i j → P (refusal 15 i j))
      → OfEach P (first_trials job bad work room)
  of_first_lem job bad work room three none = each_append P (sound_trials job bad work room) (none_trial (labeling_of job bad) ∷ []) (of_sound job bad work room three) (none, tt)

-- THEOREM. First and Draw name one record.
pub first_named : (job : Job) (bad : Badness) (work : Work) (room : ℕ) (r : Refusal) → RefusedBy (first_trials job bad work room) r → Alone r
first_named job bad work room r =
    refused_is Alone (first_trials job bad work room) r (of_first_lem Alone (λ r a n o. a) job bad work room (alone_by 3 _ _ (omega arith)) (alone_by 15 _ _ (omega arith)))

pub draw_named : (bytes : List ℕ) (i q room : ℕ) (r : Refusal) → RefusedBy (draw_trials bytes i q room) r → Alone r
draw_named bytes i q room r =
    refused_is Alone (draw_trials bytes i q room) r (
      alone_by 1 _ _ (omega arith),
      (
        alone_by 3 _ _ (omega arith),
        each_append Alone (job_trials (records bytes)) (number_trial bytes i q ∷ []) (of_job_lem Alone (λ r a n o. a) (records bytes)) (alone_by 11 _ _ (omega arith), tt),
      ),
    )

-- THEOREM. On any board, what 9 finds is the first touching pair, and nothing else is.
pub first_pair : (b : Board) (f : ℕ → ℕ) (i j : ℕ) → FirstFault (of_pairs 9 b.pads (Touching b f)) i j ↔ FirstPair b f i j
first_pair b f i j = (
  (λ a. record {
    inside = a.inside;
    before = a.named.here.0;
    touch = a.named.here.1;
    smallest = λ k m h g x. a.first.none_below k h (m, g, x);
    smallest_earlier = λ m h x. a.named.none_below m h (omega (arith, a.named.here.0), x);
  }),
  (λ p. record {
    inside = p.inside;
    first = record { here = (j, p.before, p.touch); none_below = λ k h (m, g, x). p.smallest k m h g x };
    named = record { here = (p.before, p.touch); none_below = λ m h x. p.smallest_earlier m h x.1 };
  }),
)

module _ (job : Job) (bad : Badness) (work : Work) (list : List ℕ) where
  abbrev Told : Refusal → Type 0
  Told = Named (board_of job) (held list)

  of_measure_lem : OfEach Told (measure_trials job bad work list)
  of_measure_lem =
      each_append Told (sound_trials job bad work (length list)) (layout_trials (board_of job) list)
      (of_sound Told (λ r a n o. inl a) job bad work (length list) (λ i j a. inl (alone_by 3 _ _ (omega arith) i j a)))
      (one Told (λ r a n o. inl a) 8 _ _ (omega arith), ((λ i j a. inr (refl, (first_pair (board_of job) (held list) i j).0 a)), tt))

  -- THEOREM. Measure names one record, or by 9 the first touching pair; so does Next, and so Page, whose trials are Next's.
  pub measure_named : (r : Refusal) → RefusedBy (measure_trials job bad work list) r → Told r
  measure_named r = refused_is Told (measure_trials job bad work list) r of_measure_lem

  pub next_named : (r : Refusal) → RefusedBy (next_trials job bad work list) r → Told r
  next_named r =
      refused_is Told (next_trials job bad work list) r
      (each_append Told (measure_trials job bad work list) (best_trial (labeling_of job bad) list ∷ []) of_measure_lem
      ((λ i j a. inl ((λ e. omega arith), a.named.here)), tt))

  -- What Measure's trials refuse the checks find; so is what 1 to 7 refuse.
  pub measure_checked : (r : Refusal) → RefusedBy (measure_trials job bad work list) r → Checked r
  measure_checked r =
      refused_is Checked (measure_trials job bad work list) r
      (each_append Checked (sound_trials job bad work (length list)) (layout_trials (board_of job) list)
      (of_sound Checked (λ s a n o. n) job bad work (length list) (λ i j a. omega arith))
      (one Checked (λ s a n o. n) 8 _ _ (omega arith), ((λ i j a. omega arith), tt)))

  -- Where Measure's are not passed, what Next refuses they refuse.
  pub not_by_ten : (r : Refusal) → ¬ Passed (measure_trials job bad work list) → RefusedBy (next_trials job bad work list) r → RefusedBy (measure_trials job bad work list) r
  not_by_ten r n a = ⊎_elim (λ b. b) (λ (p, b). absurd (n p)) (refused-append (measure_trials job bad work list) (best_trial (labeling_of job bad) list ∷ []) r a)

pub sound_checked : (job : Job) (bad : Badness) (work : Work) (room : ℕ) (r : Refusal) → RefusedBy (sound_trials job bad work room) r → Checked r
sound_checked job bad work room r = refused_is Checked (sound_trials job bad work room) r (of_sound Checked (λ s a n o. n) job bad work room (λ i j a. omega arith))

-- Where these are not passed, what First refuses they refuse.
pub not_by_none : (job : Job) (bad : Badness) (work : Work) (room : ℕ) (r : Refusal) → ¬ Passed (sound_trials job bad work room)
    → RefusedBy (first_trials job bad work room) r → RefusedBy (sound_trials job bad work room) r
not_by_none job bad work room r n a = ⊎_elim (λ b. b) (λ (p, b). absurd (n p)) (refused-append (sound_trials job bad work room) (none_trial (labeling_of job bad) ∷ []) r a)

-- THEOREM. Where they are passed and no layout is untouching, Measure refuses by 8 or 9; so does Next, and so Page, whose trials are Next's.
module _ (job : Job) (bad : Badness) (work : Work) (list : List ℕ) (passed : Passed (sound_trials job bad work (length list))) (none : NoLayout (labeling_of job bad)) where
  by_layout : (r : Refusal) → RefusedBy (layout_trials (board_of job) list) r → (r.reason ≡ 8) ⊎ (r.reason ≡ 9)
  by_layout r (inl a) = inl a.0
  by_layout r (inr (c, inl a)) = inr a.0
  by_layout r (inr (c, inr a)) = absurd a.1

  pub measure_none : (r : Refusal) → RefusedBy (measure_trials job bad work list) r → (r.reason ≡ 8) ⊎ (r.reason ≡ 9)
  measure_none r a =
      ⊎_elim (λ b. absurd (not_both (sound_trials job bad work (length list)) r passed b)) (λ (p, b). by_layout r b)
      (refused-append (sound_trials job bad work (length list)) (layout_trials (board_of job) list) r a)

  pub not_measured : ¬ Passed (measure_trials job bad work list)
  not_measured p = none (held list) (measure_accepted job bad work list p).1

  pub next_none : (r : Refusal) → RefusedBy (next_trials job bad work list) r → (r.reason ≡ 8) ⊎ (r.reason ≡ 9)
  next_none r a = measure_none r (not_by_ten job bad work list r not_measured a)

-- 15 exactly if 1 to 7 are passed and no layout is untouching.
by_none : (job : Job) (bad : Badness) (work : Work) (room : ℕ) → RefusedBy (first_trials job bad work room) (refusal 15 0 0)
    ↔ (Passed (sound_trials job bad work room) × NoLayout (labeling_of job bad))
by_none job bad work room =
    let other : ¬ RefusedBy (sound_trials job bad work room) (refusal 15 0 0) = λ a. (sound_checked job bad work room (refusal 15 0 0) a).1 refl in
    let A = after_other (sound_trials job bad work room) (none_trial (labeling_of job bad) ∷ []) (refusal 15 0 0) other in
    let B = by_whole 15 (NoLayout (labeling_of job bad)) [] (λ a. a) in
    ((λ a. let (p, x) = A.0 a in (p, B.0 x)), (λ (p, none). A.1 (p, B.1 none)))

-- THEOREM. So it is with First's number.
module _ (job : Job) (bad : Badness) (work : Work) (before after : List ℕ) where
  pub first_none : (m : ℤ) → FirstReplies (calls_of job bad work) before m after
      → (m ≡ refusal_number (refusal 15 0 0)) ↔ (Passed (sound_trials job bad work (length before)) × NoLayout (labeling_of job bad))
  first_none m p =
      Iff.trans (refuses_iff (first_trials job bad work (length before)) (after ≡ before) m (refusal 15 0 0) (omega arith)
      (first-refuses (calls_of job bad work) (numbered job bad work) before after m p)) (by_none job bad work (length before))

-- ---- Count and Place

module _ (job : Job) (bad : Badness) (room numbers : ℕ) where
  abbrev first : List Trial
  first = first_trials job bad None room

  abbrev needed : ℕ
  needed = buffer_needed (board_of job).pads

  abbrev p : Problem
  p = labeling_of job bad

  -- After First's trials 18 and 16, and others after them.
  abbrev counting : List Trial → List Trial
  counting us = of_whole 18 (numbers < needed) ∷ of_whole 16 (TooMany p) ∷ us

  -- A refusal names one record, and by 16 to 18 record 0.
  abbrev AtZero : Refusal → Type 0
  AtZero r = Alone r × (ByCount r → r.at ≡ 0)

  whole_zero : (r : ℕ) (P : Type 0) → r ≢ 9 → (i j : ℕ) → FirstFault (of_whole r P) i j → AtZero (refusal r i j)
  whole_zero r P n i j a = (alone_by r 1 (λ i. P) n i j a, λ b. omega (arith, a.inside))

  at_zero : (us : List Trial) → OfEach AtZero us → (r : Refusal) → RefusedBy (first ++ counting us) r → AtZero r
  at_zero us later r =
      refused_is AtZero (first ++ counting us) r
      (each_append AtZero first (counting us)
      (of_first_lem AtZero (λ r a n o. (a, λ b. absurd (n.2 b))) job bad None room (whole_zero 3 _ (omega arith)) (whole_zero 15 _ (omega arith)))
      (whole_zero 18 _ (omega arith), (whole_zero 16 _ (omega arith), later)))

  -- What First refuses is not refused by 16, 17 or 18.
  first_other : (r : Refusal) → RefusedBy first r → ¬ ByCount r
  first_other r = refused_is (λ s. ¬ ByCount s) first r (of_first_lem (λ s. ¬ ByCount s) (λ s a n o. n.2) job bad None room (λ i j a b. omega arith) (λ i j a b. omega arith))

  -- Where First's trials and 18 are not passed, 16 and 17 are not given.
  not_counted : (us : List Trial) (r : Refusal) → ¬ (Passed first × (needed ≤ numbers)) → RefusedBy (first ++ counting us) r → (r.reason ≢ 16) × (r.reason ≢ 17)
  not_counted us r n a = ⊎_elim early (λ (q, b). late q b) (refused-append first (counting us) r a)
    where
      early : RefusedBy first r → (r.reason ≢ 16) × (r.reason ≢ 17)
      early b = ((λ e. first_other r b (omega arith)), (λ e. first_other r b (omega arith)))

      late : Passed first → RefusedBy (counting us) r → (r.reason ≢ 16) × (r.reason ≢ 17)
      late q (inl b) = omega (arith, b.0)
      late q (inr b) = let long : ¬ (numbers < needed) = b.0 0 (omega arith) in absurd (n (q, omega arith))

  -- 15 is given exactly as by First;
  by_none_still : (us : List Trial) → ¬ RefusedBy us (refusal 15 0 0) → RefusedBy (first ++ counting us) (refusal 15 0 0)
      ↔ (Passed (sound_trials job bad None room) × NoLayout p)
  by_none_still us none =
      let other = not_whole 16 (TooMany p) us (refusal 15 0 0) (omega arith) none in
      Iff.trans (before_other first (counting us) (refusal 15 0 0) (not_whole 18 (numbers < needed) (of_whole 16 (TooMany p) ∷ us) (refusal 15 0 0) (omega arith) other))
      (by_none job bad None room)

  -- 18 exactly if First's are passed and the buffer is too short;
  by_short : (us : List Trial) → ¬ RefusedBy us (refusal 18 0 0) → RefusedBy (first ++ counting us) (refusal 18 0 0) ↔ (Passed first × (numbers < needed))
  by_short us none =
      let A = after_other first (counting us) (refusal 18 0 0) (λ a. first_other (refusal 18 0 0) a (omega arith)) in
      let B = by_whole 18 (numbers < needed) (of_whole 16 (TooMany p) ∷ us) (not_whole 16 (TooMany p) us (refusal 18 0 0) (omega arith) none) in
      ((λ a. let (q, x) = A.0 a in (q, B.0 x)), (λ (q, h). A.1 (q, B.1 h)))

  -- and where it is not, what is refused by 16 or 17 is refused further on:
  after_short : (us : List Trial) (r : Refusal) → ByCount r → r.reason ≢ 18
      → RefusedBy (first ++ counting us) r ↔ (Passed first × (needed ≤ numbers) × RefusedBy (of_whole 16 (TooMany p) ∷ us) r)
  after_short us r by other =
      let A = after_other first (counting us) r (λ a. first_other r a by) in
      let B = after_whole 18 (numbers < needed) (of_whole 16 (TooMany p) ∷ us) r other in
      ((λ a. let (q, x) = A.0 a in let (long, y) = B.0 x in (q, omega arith, y)), (λ (q, long, y). A.1 (q, B.1 ((λ h. omega arith), y))))

  -- 16 exactly if there are too many,
  by_many : (us : List Trial) → ¬ RefusedBy us (refusal 16 0 0)
      → RefusedBy (first ++ counting us) (refusal 16 0 0) ↔ (Passed first × (needed ≤ numbers) × TooMany p)
  by_many us none =
      let A = after_short us (refusal 16 0 0) (omega arith) (omega arith) in
      let B = by_whole 16 (TooMany p) us none in
      ((λ a. let (q, long, x) = A.0 a in (q, long, B.0 x)), (λ (q, long, h). A.1 (q, long, B.1 h)))

  -- 17 exactly if there are not, and the place is at or past their number.
  by_past : (place : ℕ) → RefusedBy (first ++ counting (of_whole 17 (PastCount p place) ∷ [])) (refusal 17 0 0)
      ↔ (Passed first × (needed ≤ numbers) × (¬ TooMany p) × PastCount p place)
  by_past place =
      let A = after_short (of_whole 17 (PastCount p place) ∷ []) (refusal 17 0 0) (omega arith) (omega arith) in
      let B = after_whole 16 (TooMany p) (of_whole 17 (PastCount p place) ∷ []) (refusal 17 0 0) (omega arith) in
      let C = by_whole 17 (PastCount p place) [] (λ a. a) in
      ((λ a. let (q, long, x) = A.0 a in let (few, y) = B.0 x in (q, long, few, C.0 y)), (λ (q, long, few, h). A.1 (q, long, B.1 (few, C.1 h))))

module _ (job : Job) (bad : Badness) (numbers : ℕ) where
  abbrev on : Calls
  on = calls_of job bad None

  abbrev n : ℕ
  n = (board_of job).pads

  abbrev problem : Problem
  problem = labeling_of job bad

  -- THEOREM. Count's.
  pub count_named : (r : Refusal) → RefusedBy (count_trials on numbers) r → Alone r × (ByCount r → r.at ≡ 0)
  count_named = at_zero job bad n numbers [] tt

  -- It takes no list and no place: no 3, and no 17.
  pub count-free : (r : Refusal) → RefusedBy (count_trials on numbers) r → (r.reason ≢ 3) × (r.reason ≢ 17)
  count-free r =
      refused_is Free (count_trials on numbers) r
      (each_append Free (first_trials job bad None n) (number_trials problem numbers)
      (of_first_lem Free (λ r a k o. (o, λ e. k.2 (omega arith))) job bad None n (λ i j a. absurd (omega (arith, a.first.here))) (λ i j a. omega arith))
      ((λ i j a. omega arith), ((λ i j a. omega arith), tt)))
    where
      Free : Refusal → Type 0
      Free r = (r.reason ≢ 3) × (r.reason ≢ 17)

  pub count_kept : (r : Refusal) → ¬ (Passed (first_trials job bad None n) × (buffer_needed n ≤ numbers)) → RefusedBy (count_trials on numbers) r
      → (r.reason ≢ 16) × (r.reason ≢ 17)
  count_kept = not_counted job bad n numbers []

  -- Its numbers 15, 18 and 16.
  pub count_15 : RefusedBy (count_trials on numbers) (refusal 15 0 0) ↔ (Passed (sound_trials job bad None n) × NoLayout problem)
  count_15 = by_none_still job bad n numbers [] (λ a. a)

  pub count_18 : RefusedBy (count_trials on numbers) (refusal 18 0 0) ↔ (Passed (first_trials job bad None n) × (numbers < buffer_needed n))
  count_18 = by_short job bad n numbers [] (λ a. a)

  pub count_16 : RefusedBy (count_trials on numbers) (refusal 16 0 0) ↔ (Passed (first_trials job bad None n) × (buffer_needed n ≤ numbers) × TooMany problem)
  count_16 = by_many job bad n numbers [] (λ a. a)

  module _ (m : ℤ) (c : CountReplies on numbers m) where
    count_is : (r : Refusal) → SmallRefusal r → (m ≡ refusal_number r) ↔ RefusedBy (count_trials on numbers) r
    count_is r small = refuses_iff (count_trials on numbers) (Unit {0}) m r small (count-refuses on (numbered job bad None) numbers m c)

    pub count_none : (m ≡ refusal_number (refusal 15 0 0)) ↔ (Passed (sound_trials job bad None n) × NoLayout problem)
    count_none = Iff.trans (count_is (refusal 15 0 0) (omega arith)) count_15

    pub count_too_short : (m ≡ refusal_number (refusal 18 0 0)) ↔ (Passed (first_trials job bad None n) × (numbers < buffer_needed n))
    count_too_short = Iff.trans (count_is (refusal 18 0 0) (omega arith)) count_18

    pub count_too_many : (m ≡ refusal_number (refusal 16 0 0)) ↔ (Passed (first_trials job bad None n) × (buffer_needed n ≤ numbers) × TooMany problem)
    count_too_many = Iff.trans (count_is (refusal 16 0 0) (omega arith)) count_16

  -- THEOREM. Place's, and its numbers 15, 18, 16 and 17.
  module _ (place room : ℕ) where
    abbrev past : List Trial
    past = of_whole 17 (PastCount problem place) ∷ []

    not_past : (r : Refusal) → r.reason ≢ 17 → ¬ RefusedBy past r
    not_past r other = not_whole 17 (PastCount problem place) [] r other (λ a. a)

    pub place_named : (r : Refusal) → RefusedBy (place_trials on numbers place room) r → Alone r × (ByCount r → r.at ≡ 0)
    place_named = at_zero job bad room numbers past (whole_zero job bad room numbers 17 _ (omega arith), tt)

    pub place_kept : (r : Refusal) → ¬ (Passed (first_trials job bad None room) × (buffer_needed n ≤ numbers)) → RefusedBy (place_trials on numbers place room) r
        → (r.reason ≢ 16) × (r.reason ≢ 17)
    place_kept = not_counted job bad room numbers past

    pub place_15 : RefusedBy (place_trials on numbers place room) (refusal 15 0 0) ↔ (Passed (sound_trials job bad None room) × NoLayout problem)
    place_15 = by_none_still job bad room numbers past (not_past (refusal 15 0 0) (omega arith))

    pub place_18 : RefusedBy (place_trials on numbers place room) (refusal 18 0 0) ↔ (Passed (first_trials job bad None room) × (numbers < buffer_needed n))
    place_18 = by_short job bad room numbers past (not_past (refusal 18 0 0) (omega arith))

    pub place_16 : RefusedBy (place_trials on numbers place room) (refusal 16 0 0) ↔ (Passed (first_trials job bad None room) × (buffer_needed n ≤ numbers) × TooMany problem)
    place_16 = by_many job bad room numbers past (not_past (refusal 16 0 0) (omega arith))

    pub place_17 : RefusedBy (place_trials on numbers place room) (refusal 17 0 0)
        ↔ (Passed (first_trials job bad None room) × (buffer_needed n ≤ numbers) × (¬ TooMany problem) × PastCount problem place)
    place_17 = by_past job bad room numbers place

  module _ (place : ℕ) (before after : List ℕ) (m : ℤ) (c : PlaceReplies on numbers place before m after) where
    place_is : (r : Refusal) → SmallRefusal r → (m ≡ refusal_number r) ↔ RefusedBy (place_trials on numbers place (length before)) r
    place_is r small =
        refuses_iff (place_trials on numbers place (length before)) (after ≡ before) m r small (place-refuses on (numbered job bad None) numbers place before after m c)

    pub place_none : (m ≡ refusal_number (refusal 15 0 0)) ↔ (Passed (sound_trials job bad None (length before)) × NoLayout problem)
    place_none = Iff.trans (place_is (refusal 15 0 0) (omega arith)) (place_15 place (length before))

    pub place_too_short : (m ≡ refusal_number (refusal 18 0 0)) ↔ (Passed (first_trials job bad None (length before)) × (numbers < buffer_needed n))
    place_too_short = Iff.trans (place_is (refusal 18 0 0) (omega arith)) (place_18 place (length before))

    pub place_too_many : (m ≡ refusal_number (refusal 16 0 0)) ↔ (Passed (first_trials job bad None (length before)) × (buffer_needed n ≤ numbers) × TooMany problem)
    place_too_many = Iff.trans (place_is (refusal 16 0 0) (omega arith)) (place_16 place (length before))

    pub place_past_count : (m ≡ refusal_number (refusal 17 0 0))
        ↔ (Passed (first_trials job bad None (length before)) × (buffer_needed n ≤ numbers) × (¬ TooMany problem) × PastCount problem place)
    place_past_count = Iff.trans (place_is (refusal 17 0 0) (omega arith)) (place_17 place (length before))

-- ---- Svg

module _ (job list : List ℕ) (room : ℕ) where
  abbrev measured : List Trial
  measured = measure_trials (records job) (by_weights 0 0) None list

  abbrev long : Type 0
  long = TooLong (board_of (records job)) (held list) room

  -- What Measure's trials refuse by weights 0 and 0 is refused neither by 2 nor by 19.
  neither : (r : Refusal) → RefusedBy measured r → (r.reason ≢ 2) × (r.reason ≢ 19)
  neither r =
      refused_is Other measured r (
        other 1 _ _ (omega arith),
        (
          (λ i j a. ⊎_elim (λ h. absurd (omega arith)) (λ h. absurd (omega arith)) a.first.here),
          (
            other 3 _ _ (omega arith),
            (
              other 4 _ _ (omega arith),
              (
                other 5 _ _ (omega arith),
                (
                  other 12 _ _ (omega arith),
                  (other 6 _ _ (omega arith), (other 7 _ _ (omega arith), (other 8 _ _ (omega arith), ((λ i j a. omega arith), tt)))),
                ),
              ),
            ),
          ),
        ),
      )
    where
      Other : Refusal → Type 0
      Other s = (s.reason ≢ 2) × (s.reason ≢ 19)

      other : (k n : ℕ) (fault : ℕ → Type 0) → (k ≢ 2) × (k ≢ 19) → (i j : ℕ) → FirstFault (of_each k n fault) i j → Other (refusal k i j)
      other k n fault h i j a = h

  -- THEOREM. It names one record, or by 9 the first touching pair, and by 19 record 0.
  abbrev SvgTold : Refusal → Type 0
  SvgTold r = Named (board_of (records job)) (held list) r × (r.reason ≡ 19 → r.at ≡ 0)

  pub svg_named : (r : Refusal) → RefusedBy (svg_trials job list room) r → SvgTold r
  svg_named r a = ⊎_elim early (λ (p, b). late b) (refused-append measured (of_whole 19 long ∷ []) r a)
    where
      early : RefusedBy measured r → SvgTold r
      early b = (measure_named (records job) (by_weights 0 0) None list r b, λ e. absurd ((neither r b).1 e))

      late : RefusedBy (of_whole 19 long ∷ []) r → SvgTold r
      late (inl (e, f)) = (inl (omega (arith, e), f.named.here), λ _. omega (arith, f.inside))
      late (inr (c, b)) = absurd b

  -- It is given no weights: no 2.
  pub svg_free : (r : Refusal) → RefusedBy (svg_trials job list room) r → r.reason ≢ 2
  svg_free r a = ⊎_elim (λ b. (neither r b).0) late (refused-append measured (of_whole 19 long ∷ []) r a)
    where
      late : Passed measured × RefusedBy (of_whole 19 long ∷ []) r → r.reason ≢ 2
      late (p, inl (e, f)) = omega (arith, e)
      late (p, inr (c, b)) = absurd b

  -- 19 exactly if Measure's are passed and the text is too long.
  pub svg_19 : RefusedBy (svg_trials job list room) (refusal 19 0 0) ↔ (Passed measured × long)
  svg_19 =
      let A = after_other measured (of_whole 19 long ∷ []) (refusal 19 0 0) (λ a. (neither (refusal 19 0 0) a).1 refl) in
      let B = by_whole 19 long [] (λ a. a) in
      ((λ a. let (q, x) = A.0 a in (q, B.0 x)), (λ (q, h). A.1 (q, B.1 h)))

  -- Where no layout is untouching: 8 or 9.
  pub svg_none : Passed (sound_trials (records job) (by_weights 0 0) None (length list)) → NoLayout (labeling_of (records job) (by_weights 0 0)) → (r : Refusal)
      → RefusedBy (svg_trials job list room) r → (r.reason ≡ 8) ⊎ (r.reason ≡ 9)
  svg_none sound none r a =
      ⊎_elim (measure_none (records job) (by_weights 0 0) None list sound none r)
      (λ (p, b). absurd (not_measured (records job) (by_weights 0 0) None list sound none p)) (refused-append measured (of_whole 19 long ∷ []) r a)

-- THEOREM. So it is with Svg's number.
pub svg_too_long : (job list before after : List ℕ) (m : ℤ) → SvgPromise job list before m after
    → (m ≡ refusal_number (refusal 19 0 0)) ↔ (Passed (measure_trials (records job) (by_weights 0 0) None list) × TooLong (board_of (records job)) (held list) (length before))
svg_too_long job list before after m p =
    Iff.trans (refuses_iff (svg_trials job list (length before)) (after ≡ before) m (refusal 19 0 0) (omega arith)
    (fill_refuses (svg_trials job list (length before)) (svg_small job list (length before)) (SvgFills job list) before after m p))
    (svg_19 job list (length before))
