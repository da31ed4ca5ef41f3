-- C's number tells the answer: the numbers of refusals are apart from totals, from the end and from one another.
--     first-refuses, next_refuses, page_refuses, measure_refuses, count-refuses, place-refuses, fill_refuses, draw_refuses: a refusal exactly if a trial fails; refuses_iff: by which
--     total-told, next_total-told, end_told, wrote_told, measure_told, count-told, place-told, fill_told, straight_told, bent_told: what every other number tells
--     first_work, next_work, buffer_open, buffer_many, buffer_past, buffer_kept: what it tells of what is lent for work
use Rattle.std.specs.Prelude.{◌≡◌, refl, ◌≢◌, ◌⊎◌, ◌↔◌, List, [], ◌∷◌, ◌++◌, ℕ, zero, suc, ◌+◌, ◌*◌, ◌/◌, ◌%◌, ◌≤◌, ◌<◌, length, ℤ, pos, negsuc, neg_ℤ, nat_abs, ◌≤ℤ◌, Float, Some, None, Ok, Err}
use Rattle.std.proofs.Common.{sym, ap, subst, ◌∙◌, inl, inr, ⊎_elim, arith}
use Rattle.numbers.proofs.Whole.{whole, eq_num, neg_nums}
use Rattle.paper.specs.declared.Point.{Point}
use Rattle.paper.specs.declared.Polyline.TheVariants.{Straight, Bent}
use Rattle.paper.specs.declared.Refusal.{Refusal}
use Rattle.paper.specs.Answers.{Work, Answer, Counted, Drawn}
use Rattle.paper.specs.Job.{Job, records, slots}
use Rattle.paper.specs.Layouts.{Board, board_of, held, Badness, by_weights, by_table}
use Rattle.paper.specs.Problem.{FirstBest, PlaceBest, labeling_of}
use Rattle.paper.specs.Refusals.{size_trials, enough_trials, work_trials, room_trials, field_trials, board_trials, job_trials, layout_trials, number_trial}
use Rattle.paper.specs.Refusals.{Trial, Clean, Passed, RefusedBy, sound_trials, first_trials, measure_trials, next_trials, draw_trials, badness_trial, best_trial, none_trial, Calls, entries, calls_of}
use Rattle.paper.specs.Refusals.{refusal, of_whole, PastCount, number_trials, count_trials, place_trials, TooLong, svg_trials, csv_trials}
use Rattle.paper.specs.Promises.{refusal_number, refusal_in, number, counted_number, drawn_number, FirstOver, NextOver, PageOver, MeasureOver, DrawAnswers}
use Rattle.paper.specs.Promises.{Kept, CountOver, PlaceOver, CountReplies, PlaceReplies, OpenAfter, WorkAfter, WorkPromise, BufferPromise, FirstReplies, NextReplies, PageReplies, MeasureReplies, DrawPromise, FillOver, FillReplies, RefusesBy}
use Rattle.paper.proofs.laws.Trials.{not_both, refused_one, refused_left, refused-append}
use Rattle.paper.proofs.laws.Sizes.{size_of}
use Rattle.paper.proofs.laws.Decided.{sound_parts}
use Rattle.paper.proofs.laws.Accepted.{sized, pads_sized, ports_sized}

-- ---- a refusal's number

abs_neg : (n : ℕ) → nat_abs (neg_ℤ (pos n)) ≡ n
abs_neg zero = refl
abs_neg (suc n) = refl

-- A refusal with a number of 1 or more, and this and its record number of 16 bits. C's number of it is -65,536 or less,
abbrev pub SmallRefusal : Refusal → Type 0
SmallRefusal r = (1 ≤ r.reason) × (r.reason < 65536) × (r.at < 65536)

pub refusal_low : (r : Refusal) → SmallRefusal r → refusal_number r ≤ℤ neg_ℤ (pos 65536)
refusal_low r s = omega (whole, neg_nums (pos (size_of r)), neg_nums (pos 65536))

pub refusal-apart : (r : Refusal) (t : ℕ) → SmallRefusal r → pos t ≡ refusal_number r → ⊥
refusal-apart r t s e = omega (arith, eq_num (pos t) (refusal_number r) e, neg_nums (pos (size_of r)))

refusal_not_end : (r : Refusal) → SmallRefusal r → negsuc 0 ≡ refusal_number r → ⊥
refusal_not_end r s e = omega (arith, eq_num (negsuc 0) (refusal_number r) e, neg_nums (pos (size_of r)))

-- and from it the caller gets the refusal back: its number and both its records.
refusal_back : (r : Refusal) → SmallRefusal r → refusal_in (refusal_number r) ≡ r
refusal_back r s = λ i. record { reason = reason i; at = at i; earlier = earlier i }
  where
    size : nat_abs (refusal_number r) ≡ size_of r
    size = abs_neg (size_of r)

    reason : nat_abs (refusal_number r) / 65536 % 65536 ≡ r.reason
    reason = rw size (omega arith)

    at : nat_abs (refusal_number r) % 65536 ≡ r.at
    at = rw size (omega arith)

    earlier : nat_abs (refusal_number r) / 4294967296 ≡ r.earlier
    earlier = rw size (omega arith)

-- What is lent for work is open after a number of -1 or more, and after a refusal if the refusal says so.
module _ (r s : ℕ) (before after : List ℕ) where
  open_above : (m : ℤ) → negsuc 0 ≤ℤ m → OpenAfter r s m before after
  open_above m h l n o = absurd (omega (whole, neg_nums (pos 65536)))

  open_refused : (f : Refusal) → SmallRefusal f → ((f.reason ≢ r) → (f.reason ≢ s) → after ≡ before) → OpenAfter r s (refusal_number f) before after
  open_refused f small w l n o = w (λ e. n (same ∙ e)) (λ e. o (same ∙ e))
    where
      same : (refusal_in (refusal_number f)).reason ≡ f.reason
      same = ap (λ (g : Refusal). g.reason) (refusal_back f small)

-- So what is said of the work list by an answer is said by C's number of it.
work_told : (a : Answer) → ((r : Refusal) → a ≡ Err r → SmallRefusal r) → (before after : List ℕ) → WorkAfter a before after → WorkPromise (number a) before after
work_told (Ok (Some t)) small before after w = open_above 10 15 before after (pos t) (omega whole)
work_told (Ok None) small before after w = open_above 10 15 before after (negsuc 0) (omega whole)
work_told (Err r) small before after w = open_refused 10 15 before after r (small r refl) w

-- The buffer of Count and Place is open after a count or a total, after 16 and after 17; and what is as it was keeps to every number.
module _ (before after : List ℕ) where
  pub buffer_open : (t : ℕ) → BufferPromise (pos t) before after
  buffer_open t = open_above 16 17 before after (pos t) (omega whole)

  pub buffer_many : BufferPromise (refusal_number (refusal 16 0 0)) before after
  buffer_many = open_refused 16 17 before after (refusal 16 0 0) (omega arith) (λ n o. absurd (n refl))

  pub buffer_past : BufferPromise (refusal_number (refusal 17 0 0)) before after
  buffer_past = open_refused 16 17 before after (refusal 17 0 0) (omega arith) (λ n o. absurd (o refl))

  pub buffer_kept : (m : ℤ) → after ≡ before → BufferPromise m before after
  buffer_kept m e l n o = e

-- ---- refusals by trials are such

-- Each trial has a number of 1 or more, of 16 bits, and is tried at 65,536 records at most if the trials before it are clean.
abbrev pub Numbering : List Trial → Type 0
Numbering [] = Unit {0}
Numbering (t ∷ ts) = (1 ≤ t.reason) × (t.reason < 65536) × (t.among ≤ 65536) × (Clean t → Numbering ts)

refused_small : (ts : List Trial) (r : Refusal) → Numbering ts → RefusedBy ts r → SmallRefusal r
refused_small [] r n a = absurd a
refused_small (t ∷ ts) r n (inl a) = omega (arith, a.0, a.1.inside)
refused_small (t ∷ ts) r n (inr a) = refused_small ts r (n.3 a.0) a.1

-- So they are by trials after others of which this is known.
after_small : (ts us : List Trial) → ((r : Refusal) → RefusedBy ts r → SmallRefusal r) → Numbering us → (r : Refusal) → RefusedBy (ts ++ us) r → SmallRefusal r
after_small ts us small n r a = ⊎_elim (small r) (λ (p, b). refused_small us r n b) (refused-append ts us r a)

-- Calls with such refusals.
pub record Numbered (c : Calls) : Type 0 where
  pub first : (room : ℕ) (r : Refusal) → RefusedBy (c.first room) r → SmallRefusal r
  pub measure : (list : List ℕ) (r : Refusal) → RefusedBy (c.measure list) r → SmallRefusal r
  pub next : (list : List ℕ) (r : Refusal) → RefusedBy (c.next list) r → SmallRefusal r

-- A number that is such a refusal's gives it back.
pub small_back : (r : Refusal) (c : ℤ) → SmallRefusal r → c ≡ refusal_number r → r ≡ refusal_in c
small_back r c w e = sym (refusal_back r w) ∙ ap refusal_in (sym e)

-- ---- what C's number tells

-- What an answer says of its call's trials: one of them refuses, and it has the refusal's number; or all are passed, and its number is the end's, -1, or more.
abbrev Answered : List Trial → Type 0 → ℤ → Type 0
Answered ts Unchanged n = ((r : Refusal) × RefusedBy ts r × Unchanged × (n ≡ refusal_number r)) ⊎ (Passed ts × (negsuc 0 ≤ℤ n))

-- So the number refuses exactly what a trial refuses, and the caller gets the refusal back from it.
answered_refuses : (ts : List Trial) (Unchanged : Type 0) (m : ℤ) → ((r : Refusal) → RefusedBy ts r → SmallRefusal r) → Answered ts Unchanged m → RefusesBy ts m Unchanged
answered_refuses ts U m narrow (inl (r, x, u, n)) = record {
  exactly = ((λ l p. not_both ts r p x), (λ _. rw n (refusal_low r (narrow r x))));
  named = λ l. (subst (RefusedBy ts) (small_back r m (narrow r x) n) x, u);
}
answered_refuses ts U m narrow (inr (p, h)) = record { exactly = ((λ l. absurd (high l)), (λ n. absurd (n p))); named = λ l. absurd (high l) }
  where
    high : m ≤ℤ neg_ℤ (pos 65536) → ⊥
    high l = omega (whole, neg_nums (pos 65536))

-- And it is a refusal's number exactly if the trials so refuse.
low_back : (m : ℤ) → m ≤ℤ neg_ℤ (pos 65536) → m ≡ refusal_number (refusal_in m)
low_back (pos n) l = absurd (omega (whole, neg_nums (pos 65536)))
low_back (negsuc n) l =
    let e : suc n ≡ 4294967296 * (suc n / 4294967296) + 65536 * (suc n / 65536 % 65536) + suc n % 65536 = omega arith in
    ap (λ (k : ℕ). neg_ℤ (pos k)) e

pub refuses_iff : (ts : List Trial) (Unchanged : Type 0) (m : ℤ) (r : Refusal) → SmallRefusal r → RefusesBy ts m Unchanged → (m ≡ refusal_number r) ↔ RefusedBy ts r
refuses_iff ts U m r small R = (
  (λ e. subst (RefusedBy ts) (sym (small_back r m small e)) (R.named (rw e (refusal_low r small))).0),
  (λ a.
      let low = R.exactly.1 (λ p. not_both ts r p a) in
      low_back m low ∙ ap refusal_number (refused_one ts (refusal_in m) r (R.named low).0 a)),
)

-- What First and Place answer: a total, where At says of which layout; or a refusal.
abbrev pub LayoutOver : Calls → List Trial → ((ℕ → ℕ) → Type 0) → List ℕ → Answer → List ℕ → Type 0
LayoutOver c ts At before (Ok (Some t)) after = Passed ts × At (held after) × (t ≡ c.problem.value (held after)) × Kept (entries c) before after
LayoutOver c ts At before (Ok None) after = ⊥
LayoutOver c ts At before (Err r) after = RefusedBy ts r × (after ≡ before)

pub first_is : (c : Calls) (before : List ℕ) (a : Answer) (after : List ℕ) → FirstOver c before a after
    → LayoutOver c (c.first (length before)) (FirstBest c.problem) before a after
first_is c before (Ok (Some t)) after p = p
first_is c before (Ok None) after p = p
first_is c before (Err r) after p = p

pub place_is : (c : Calls) (numbers place : ℕ) (before : List ℕ) (a : Answer) (after : List ℕ) → PlaceOver c numbers place before a after
    → LayoutOver c (place_trials c numbers place (length before)) (PlaceBest c.problem place) before a after
place_is c numbers place before (Ok (Some t)) after p = p
place_is c numbers place before (Ok None) after p = p
place_is c numbers place before (Err r) after p = p

module _ (c : Calls) (ts : List Trial) (At : (ℕ → ℕ) → Type 0) (small : (r : Refusal) → RefusedBy ts r → SmallRefusal r) (before after : List ℕ) where
  -- A number of 0 or more is the total,
  layout_told : (t : ℕ) (a : Answer) → LayoutOver c ts At before a after → pos t ≡ number a → LayoutOver c ts At before (Ok (Some t)) after
  layout_told t (Ok (Some u)) p e = let n : u ≡ t = cc in rw n at p
  layout_told t (Ok None) p e = absurd p
  layout_told t (Err r) p e = absurd (refusal-apart r t (small r p.0) e)

  -- and every other one a refusal.
  layout_refuses : (m : ℤ) (a : Answer) → LayoutOver c ts At before a after → m ≡ number a → RefusesBy ts m (after ≡ before)
  layout_refuses m a p e = answered_refuses ts (after ≡ before) m small (rw e (says a p))
    where
      says : (a : Answer) → LayoutOver c ts At before a after → Answered ts (after ≡ before) (number a)
      says (Ok (Some t)) p = inr (p.0, omega whole)
      says (Ok None) p = absurd p
      says (Err r) p = inl (r, p.0, p.1, refl)

module _ (c : Calls) (N : Numbered c) where
  -- First.
  module _ (before after : List ℕ) where
    pub total-told : (t : ℕ) → FirstReplies c before (pos t) after → FirstOver c before (Ok (Some t)) after
    total-told t (a, p, e) = layout_told c (c.first (length before)) (FirstBest c.problem) (N.first (length before)) before after t a (first_is c before a after p) e

    pub first-refuses : (m : ℤ) → FirstReplies c before m after → RefusesBy (c.first (length before)) m (after ≡ before)
    first-refuses m (a, p, e) =
        layout_refuses c (c.first (length before)) (FirstBest c.problem) (N.first (length before)) before after m a (first_is c before a after p) e

    pub first_work : (a : Answer) → FirstOver c before a after → (held left : List ℕ) → WorkAfter a held left → WorkPromise (number a) held left
    first_work a p = work_told a (λ r e. N.first (length before) r (rw e at p).0)

  -- Next: the same, and -1 is the end.
  module _ (before after : List ℕ) where
    pub next_work : (a : Answer) → NextOver c before a after → (held left : List ℕ) → WorkAfter a held left → WorkPromise (number a) held left
    next_work a p = work_told a (λ r e. N.next before r (rw e at p).0)

    pub next_total-told : (t : ℕ) → NextReplies c before (pos t) after → NextOver c before (Ok (Some t)) after
    next_total-told t (Ok (Some u), p, e) = let n : u ≡ t = cc in rw n at p
    next_total-told t (Ok None, p, e) = absurd (omega (whole, eq_num (pos t) (negsuc 0) e))
    next_total-told t (Err r, p, e) = absurd (refusal-apart r t (N.next before r p.0) e)

    pub end_told : NextReplies c before (negsuc 0) after → NextOver c before (Ok None) after
    end_told (Ok (Some u), p, e) = absurd (omega (whole, eq_num (negsuc 0) (pos u) e))
    end_told (Ok None, p, e) = p
    end_told (Err r, p, e) = absurd (refusal_not_end r (N.next before r p.0) e)

    pub next_refuses : (m : ℤ) → NextReplies c before m after → RefusesBy (c.next before) m (after ≡ before)
    next_refuses m (a, p, e) = answered_refuses (c.next before) (after ≡ before) m (N.next before) (rw e (says a p))
      where
        says : (a : Answer) → NextOver c before a after → Answered (c.next before) (after ≡ before) (number a)
        says (Ok (Some t)) p = inr (p.0, omega whole)
        says (Ok None) p = inr (p.0, omega whole)
        says (Err r) p = inl (r, p.0, p.1, refl)

  -- Measure.
  module _ (list : List ℕ) where
    pub measure_told : (t : ℕ) → MeasureReplies c list (pos t) → MeasureOver c list (Ok (Some t))
    measure_told t (Ok (Some u), p, e) = let n : u ≡ t = cc in rw n at p
    measure_told t (Ok None, p, e) = absurd p
    measure_told t (Err r, p, e) = absurd (refusal-apart r t (N.measure list r p) e)

    pub measure_refuses : (m : ℤ) → MeasureReplies c list m → RefusesBy (c.measure list) m (Unit {0})
    measure_refuses m (a, p, e) = answered_refuses (c.measure list) (Unit {0}) m (N.measure list) (rw e (says a p))
      where
        says : (a : Answer) → MeasureOver c list a → Answered (c.measure list) (Unit {0}) (number a)
        says (Ok (Some t)) p = inr (p.0, omega whole)
        says (Ok None) p = absurd p
        says (Err r) p = inl (r, p, tt, refl)

  -- Page: a number of 0 or more is that of the layouts written.
  module _ (given before after : List ℕ) where
    pub wrote_told : (k : ℕ) → PageReplies c given before (pos k) after → PageOver c given before (Ok k) after
    wrote_told k (Ok m, p, e) = let n : m ≡ k = cc in rw n at p
    wrote_told k (Err r, p, e) = absurd (refusal-apart r k (N.next given r p.0) e)

    pub page_refuses : (m : ℤ) → PageReplies c given before m after → RefusesBy (c.next given) m (after ≡ before)
    page_refuses m (a, p, e) = answered_refuses (c.next given) (after ≡ before) m (N.next given) (rw e (says a p))
      where
        says : (a : Counted) → PageOver c given before a after → Answered (c.next given) (after ≡ before) (counted_number a)
        says (Ok k) p = inr (p.0, omega whole)
        says (Err r) p = inl (r, p.0, p.1, refl)

  -- Count and Place: theirs are First's trials, and then 18, 16 and 17.
  module _ (numbers : ℕ) where
    count_small : (r : Refusal) → RefusedBy (count_trials c numbers) r → SmallRefusal r
    count_small = after_small (c.first (entries c)) (number_trials c.problem numbers) (N.first (entries c)) (omega arith)

    pub count-told : (k : ℕ) → CountReplies c numbers (pos k) → CountOver c numbers (Ok k)
    count-told k (Ok m, p, e) = let n : m ≡ k = cc in rw n at p
    count-told k (Err r, p, e) = absurd (refusal-apart r k (count_small r p) e)

    pub count-refuses : (m : ℤ) → CountReplies c numbers m → RefusesBy (count_trials c numbers) m (Unit {0})
    count-refuses m (a, p, e) = answered_refuses (count_trials c numbers) (Unit {0}) m count_small (rw e (says a p))
      where
        says : (a : Counted) → CountOver c numbers a → Answered (count_trials c numbers) (Unit {0}) (counted_number a)
        says (Ok k) p = inr (p.0, omega whole)
        says (Err r) p = inl (r, p, tt, refl)

    module _ (place : ℕ) (before after : List ℕ) where
      place_small : (r : Refusal) → RefusedBy (place_trials c numbers place (length before)) r → SmallRefusal r
      place_small =
          after_small (c.first (length before)) (number_trials c.problem numbers ++ (of_whole 17 (PastCount c.problem place) ∷ []))
          (N.first (length before)) (omega arith)

      pub place-told : (t : ℕ) → PlaceReplies c numbers place before (pos t) after → PlaceOver c numbers place before (Ok (Some t)) after
      place-told t (a, p, e) =
          layout_told c (place_trials c numbers place (length before)) (PlaceBest c.problem place) place_small before after t a
          (place_is c numbers place before a after p) e

      pub place-refuses : (m : ℤ) → PlaceReplies c numbers place before m after → RefusesBy (place_trials c numbers place (length before)) m (after ≡ before)
      place-refuses m (a, p, e) =
          layout_refuses c (place_trials c numbers place (length before)) (PlaceBest c.problem place) place_small before after m a
          (place_is c numbers place before a after p) e

-- ---- those on a job

-- One list of trials after another.
numbering_append : (ts us : List Trial) → Numbering ts → (Passed ts → Numbering us) → Numbering (ts ++ us)
numbering_append [] us n k = k tt
numbering_append (t ∷ ts) us n k = (n.0, n.1, n.2, λ c. numbering_append ts us (n.3 c) (λ p. k (c, p)))

size_small : (job : Job) → Numbering (size_trials job)
size_small (records bytes) = omega arith
size_small (slots pads ports) = omega arith

badness_small : (b : Board) (bad : Badness) → (1 ≤ (badness_trial b bad).reason) × ((badness_trial b bad).reason < 65536) × ((badness_trial b bad).among ≤ 65536)
badness_small b (by_weights lw bw) = omega arith
badness_small b (by_table figures) = omega arith

room_small : (job : Job) (work : Work) (room : ℕ) → Numbering (room_trials job work room)
room_small job work room = (omega arith, omega arith, omega arith, λ _. numbering_append (enough_trials job) (work_trials (board_of job) work) (enough job) (λ _. lent work))
  where
    enough : (job : Job) → Numbering (enough_trials job)
    enough (records bytes) = tt
    enough (slots pads ports) = omega arith

    lent : (work : Work) → Numbering (work_trials (board_of job) work)
    lent None = tt
    lent (Some numbers) = omega arith

job_small : (job : Job) → (board_of job).pads ≤ 64 → (board_of job).ports ≤ 128 → Numbering (job_trials job)
job_small job few slots_few = numbering_append (field_trials job) (board_trials job) (fields job few slots_few) (λ _. omega arith)
  where
    fields : (job : Job) → (board_of job).pads ≤ 64 → (board_of job).ports ≤ 128 → Numbering (field_trials job)
    fields (records bytes) h k = omega arith
    fields (slots pads ports) h k = omega arith

sound_small : (job : Job) (bad : Badness) (work : Work) (room : ℕ) → Numbering (sound_trials job bad work room)
sound_small job bad work room =
    numbering_append (size_trials job) (badness_trial (board_of job) bad ∷ room_trials job work room ++ job_trials job) (size_small job) (λ sizes.
    let small = badness_small (board_of job) bad in (
      small.0,
      small.1,
      small.2,
      λ _. numbering_append (room_trials job work room) (job_trials job) (room_small job work room)
          (λ _. job_small job (pads_sized job sizes).few (ports_sized job sizes).1),
    ))

next_small : (job : Job) (bad : Badness) (work : Work) (list : List ℕ) → Numbering (next_trials job bad work list)
next_small job bad work list =
    numbering_append (measure_trials job bad work list) (best_trial (labeling_of job bad) list ∷ [])
    (numbering_append (sound_trials job bad work (length list)) (layout_trials (board_of job) list) (sound_small job bad work (length list)) (λ p.
    let few = (pads_sized job ((sound_parts job bad work (length list)).0 p).0).few in omega arith))
    (λ _. omega arith)

pub numbered : (job : Job) (bad : Badness) (work : Work) → Numbered (calls_of job bad work)
numbered job bad work = record {
  first = λ room r. refused_small (first_trials job bad work room) r
      (numbering_append (sound_trials job bad work room) (none_trial (labeling_of job bad) ∷ []) (sound_small job bad work room) (λ _. omega arith));
  measure = λ list r a. next None list r (refused_left (measure_trials job bad None list) (best_trial (labeling_of job bad) list ∷ []) r a);
  next = next work;
}
  where
    next : (work : Work) (list : List ℕ) (r : Refusal) → RefusedBy (next_trials job bad work list) r → SmallRefusal r
    next work list r = refused_small (next_trials job bad work list) r (next_small job bad work list)

-- ---- Svg and ReadCsv

-- By trials that refuse so a number of 0 or more is the answer's, and every other one is a refusal.
module _ (ts : List Trial) (small : (r : Refusal) → RefusedBy ts r → SmallRefusal r) (Is : List ℕ → ℕ → Type 0) (before after : List ℕ) where
  pub fill_told : (k : ℕ) → FillReplies ts Is before (pos k) after → FillOver ts Is before (Ok k) after
  fill_told k (Ok m, p, e) = let n : m ≡ k = cc in rw n at p
  fill_told k (Err r, p, e) = absurd (refusal-apart r k (small r p.0) e)

  pub fill_refuses : (m : ℤ) → FillReplies ts Is before m after → RefusesBy ts m (after ≡ before)
  fill_refuses m (a, p, e) = answered_refuses ts (after ≡ before) m small (rw e (says a p))
    where
      says : (a : Counted) → FillOver ts Is before a after → Answered ts (after ≡ before) (counted_number a)
      says (Ok k) p = inr (p.0, omega whole)
      says (Err r) p = inl (r, p.0, p.1, refl)

pub svg_small : (job list : List ℕ) (room : ℕ) (r : Refusal) → RefusedBy (svg_trials job list room) r → SmallRefusal r
svg_small job list room =
    after_small (measure_trials (records job) (by_weights 0 0) None list) (of_whole 19 (TooLong (board_of (records job)) (held list) room) ∷ [])
    ((numbered (records job) (by_weights 0 0) None).measure list) (omega arith)

pub csv_small : (text : List ℕ) (room : ℕ) (r : Refusal) → RefusedBy (csv_trials text room) r → SmallRefusal r
csv_small text room r =
    refused_small (csv_trials text room) r
    (omega arith, omega arith, omega arith, λ c. let short : ¬ (16384 < length text) = c 0 (omega arith) in (omega arith, omega arith, omega arith, λ _. omega arith))

-- ---- Draw

module _ (job : List ℕ) (i q : ℕ) (before after : List Float) where
  narrow : (r : Refusal) → RefusedBy (draw_trials job i q (length before)) r → SmallRefusal r
  narrow r =
      refused_small (draw_trials job i q (length before)) r (
        omega arith,
        omega arith,
        omega arith,
        λ c.
            let few = (sized job (c 0 (omega arith))).few in (
              omega arith,
              omega arith,
              omega arith,
              λ _. numbering_append (job_trials (records job)) (number_trial job i q ∷ []) (job_small (records job) few (omega arith)) (λ _. omega arith),
            ),
      )

  -- 2 points are a leader without a bend,
  pub straight_told : DrawPromise job i q before (pos 2) after → (a : Point) × (c : Point) × DrawAnswers job i q before (Ok (Straight a c)) after
  straight_told (Ok (Straight a c), p, e) = (a, c, p)
  straight_told (Ok (Bent a b c), p, e) = absurd (let n : ◌≡◌ {A = ℕ} 2 3 = cc in omega arith)
  straight_told (Err r, p, e) = absurd (refusal-apart r 2 (narrow r p.0) e)

  -- 3 points one with a bend,
  pub bent_told : DrawPromise job i q before (pos 3) after → (a : Point) × (b : Point) × (c : Point) × DrawAnswers job i q before (Ok (Bent a b c)) after
  bent_told (Ok (Straight a c), p, e) = absurd (let n : ◌≡◌ {A = ℕ} 2 3 = cc in omega arith)
  bent_told (Ok (Bent a b c), p, e) = (a, b, c, p)
  bent_told (Err r, p, e) = absurd (refusal-apart r 3 (narrow r p.0) e)

  -- and every other number is a refusal.
  pub draw_refuses : (m : ℤ) → DrawPromise job i q before m after → RefusesBy (draw_trials job i q (length before)) m (after ≡ before)
  draw_refuses m (d, p, e) = answered_refuses (draw_trials job i q (length before)) (after ≡ before) m narrow (rw e (says d p))
    where
      says : (d : Drawn) → DrawAnswers job i q before d after → Answered (draw_trials job i q (length before)) (after ≡ before) (drawn_number d)
      says (Ok (Straight a c)) p = inr (p.0, omega whole)
      says (Ok (Bent a b c)) p = inr (p.0, omega whole)
      says (Err r) p = inl (r, p.0, p.1, refl)
