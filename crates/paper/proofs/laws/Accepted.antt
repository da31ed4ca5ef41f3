-- What a call may go by once its trials are passed.
--     sound_accepted, draw_accepted: the job's fields, weights or table, and room;  first_sound, first_some, first_passed: First's are these, and some layout counts;  measure_accepted, untouching_passed: Measure's
use Rattle.std.specs.Prelude.{◌≡◌, ◌≢◌, ◌↔◌, List, [], ◌∷◌, ℕ, zero, suc, ◌*◌, ◌%◌, ◌-◌, ◌≤◌, ◌<◌, length, get_or, pos, nat_abs, ◌+ℤ◌, ◌-ℤ◌, ◌≤ℤ◌, Some, None}
use Rattle.std.proofs.Common.{ap, inl, inr, ⊎_elim, lt_of_not-le, le_of_suc-le-suc, not-suc-le-zero, eq-or-lt_of_le, arith}
use Rattle.std.proofs.Math.Logic.Dec
use Rattle.std.proofs.Math.Decide.{ℕ_discrete}
use Rattle.numbers.proofs.Whole.{whole, nlt_num, plus_num, less_num}
use Rattle.paper.specs.declared.Refusal.{Refusal}
use Rattle.paper.specs.declared.Form.{Form}
use Rattle.paper.specs.declared.Form.TheVariants.{Records}
use Rattle.paper.specs.Answers.{Work}
use Rattle.paper.specs.Job.{Job, records, slots, form_of, pads_of, ports_of, last_of, count, port_count, port_of}
use Rattle.paper.specs.Layouts.{Board, board_from, board_of, held, Badness, by_weights, by_table, weighted, cost_of, total, Layout, Untouching}
use Rattle.paper.specs.Problem.{Best, labeling_of}
use Rattle.paper.specs.Refusals.{BadSize, BadField, work_needed, Clean, Passed, RefusedBy, refusal}
use Rattle.paper.specs.Refusals.{size_trials, enough_trials, work_trials, field_trials, board_trials, job_trials, badness_trial, sound_trials, first_trials, measure_trials, next_trials, draw_trials, layout_trials, best_trial, NoLayout, none_trial, number_trial}
use Rattle.paper.specs.Layouts.{Differ, Rising}
use Rattle.paper.proofs.laws.Trials.{whole_refused, passed_append, append_passed, refused_left, refused_right}
use Rattle.paper.proofs.laws.Decided.{passed_differ, sound_parts}
use Rattle.paper.proofs.laws.Holding.{layout_passed}
use Rattle.paper.proofs.laws.Totals.{sum-at_most, weighted_bound, total_bound}
use Rattle.paper.specs.laws.Accepted.{Accepted, AcceptedJob, Fair}

not_lt : {a b : ℕ} → ¬ (a < b) → b ≤ a
not_lt n = omega arith

-- 1 is passed: 1 to 64 pads; and in bytes.
pub record Sized (pads : List ℕ) : Type 0 where
  pub long : length pads ≤ 1024
  pub some : 0 < count pads
  pub few : count pads ≤ 64
  pub whole : 16 * count pads ≡ length pads

pub sized : (pads : List ℕ) → ¬ BadSize 16 1024 pads → Sized pads
sized pads size =
    let none : length pads ≢ 0 = λ e. size (inl e) in
    let rest = (Dec.not-not (ℕ_discrete (length pads % 16) 0)).0 (λ n. size (inr (inl n))) in
    let long = not_lt (λ l. size (inr (inr l))) in
    record { long = long; some = omega arith; few = omega arith; whole = omega arith }

pub pads_sized : (job : Job) → Passed (size_trials job) → Sized (pads_of job)
pads_sized (records bytes) p = sized bytes (p.0 0 (omega arith))
pads_sized (slots pads ports) p = sized pads (p.0 0 (omega arith))

-- .. and 128 ports at most.
pub ports_sized : (job : Job) → Passed (size_trials job) → (length (ports_of job) ≤ 1024) × (port_count (form_of job) (ports_of job) ≤ 128)
ports_sized (records bytes) p = let s = sized bytes (p.0 0 (omega arith)) in (s.long, omega (arith, s.few))
ports_sized (slots pads ports) p = let long = not_lt (λ l. p.1.0 0 (omega arith) (inr (inr l))) in (omega arith, omega arith)

-- 14 is passed: as many ports as pads at least.
pub enough_ports : (job : Job) → Passed (enough_trials job) → (board_of job).pads ≤ (board_of job).ports
enough_ports (records bytes) p = omega arith
enough_ports (slots pads ports) p = not_lt (p.0 0 (omega arith))

-- 4 is passed: the fields of the records, and the heights of the ports, are in range.
field_in : (job : Job) → Passed (field_trials job) → (i : ℕ) → i < (board_of job).pads → ¬ BadField (form_of job) (pads_of job) i
field_in (records bytes) p = p.0
field_in (slots pads ports) p = p.0

height_in : (job : Job) → Passed (field_trials job) → (q : ℕ) → q < (board_of job).ports → nat_abs ((board_of job).port q) ≤ 1000000
unfolding port_of last_of
height_in (records bytes) p q l = not_lt (λ h. p.0 q l (inr h))
height_in (slots pads ports) p q l = not_lt (p.1.0 q l)

-- 12 is passed: a port is at least 8 above every one before.
passed_spaced : (job : Job) → Passed (board_trials job) → (a c : ℕ) → a < c → c < (board_of job).ports → ((board_of job).port a +ℤ pos 8) ≤ℤ (board_of job).port c
passed_spaced job passed a zero l k = absurd (not-suc-le-zero l)
passed_spaced job passed a (suc c) l k =
    let port = (board_of job).port in
    let e : suc c - 1 ≡ c = omega arith in
    let wide = nlt_num (port (suc c) -ℤ port c) (pos 8) (λ h. passed.1.0 (suc c) k (omega arith, rw e h)) in
    let rise = less_num (port (suc c)) (port c) in
    let plus = plus_num (port a) 8 in
    ⊎_elim
    (λ d. omega (whole, wide, rise, plus, ap port d))
    (λ h. omega (whole, wide, rise, plus, passed_spaced job passed a c h (omega arith)))
    (eq-or-lt_of_le (le_of_suc-le-suc l))

-- So port heights rise.
passed_rising : (job : Job) → Passed (board_trials job) → Rising (board_of job)
passed_rising job passed a c l k = omega (whole, plus_num ((board_of job).port a) 8, passed_spaced job passed a c l k)

pub job_accepted : (job : Job) → Passed (size_trials job) → Passed (enough_trials job) → Passed (job_trials job) → AcceptedJob job
job_accepted job sizes enough passed =
    let pads = pads_of job in
    let size = pads_sized job sizes in
    let (fields, places) = append_passed (field_trials job) (board_trials job) passed in
    let in_range = field_in job fields in
    record {
      size = size.long;
      port_size = (ports_sized job sizes).0;
      some = size.some;
      few = size.few;
      slots_few = (ports_sized job sizes).1;
      whole = size.whole;
      named = λ i l e. in_range i l (inl (inl e));
      names_differ = λ i j k l e. places.1.1.0 i l (j, k, e);
      half = λ i l. not_lt (λ h. in_range i l (inl (inr (inl h))));
      right = λ i l. not_lt (λ h. in_range i l (inl (inr (inr (inl h)))));
      width = λ i l. not_lt (λ h. in_range i l (inl (inr (inr (inr (inl h))))));
      pad = λ i l. not_lt (λ h. in_range i l (inl (inr (inr (inr (inr h))))));
      port = height_in job fields;
      spaced = passed_spaced job places;
      proper = record { enough = enough_ports job enough; differ = passed_differ job passed; rising = passed_rising job places };
    }

pub fair_iff : (b : Board) (bad : Badness) → Clean (badness_trial b bad) ↔ Fair b bad
fair_iff b (by_weights lw bw) =
    ((λ c. (not_lt (λ h. c 0 (omega arith) (inl h)), not_lt (λ h. c 0 (omega arith) (inr h)))), (λ f i l. ⊎_elim (λ h. omega (arith, f.0)) (λ h. omega (arith, f.1))))
fair_iff b (by_table figures) = ((λ c. (Dec.not-not (ℕ_discrete (length figures) (b.pads * b.ports))).0 (c 0 (omega arith))), (λ f i l n. n f))

-- 1 to 7 are passed: an accepted job, weights in range or a table of that length, and room for the layout.
pub sound_accepted : (job : Job) (bad : Badness) (work : Work) (room : ℕ) → Passed (sound_trials job bad work room)
    → AcceptedJob job × Fair (board_of job) bad × ((board_of job).pads ≤ room)
sound_accepted job bad work room p =
    let (sizes, given, roomy, passed) = (sound_parts job bad work room).0 p in
    (job_accepted job sizes (append_passed (enough_trials job) (work_trials (board_of job) work) roomy.1).0 passed, (fair_iff (board_of job) bad).0 given, not_lt (roomy.0 0 (omega arith)))

-- .. and the work list, where one is lent, is long enough.
pub sound_working : (job : Job) (bad : Badness) (numbers room : ℕ) → Passed (sound_trials job bad (Some numbers) room)
    → work_needed (board_of job).pads (board_of job).ports ≤ numbers
sound_working job bad numbers room p =
    not_lt ((append_passed (enough_trials job) (work_trials (board_of job) (Some numbers)) ((sound_parts job bad (Some numbers) room).0 p).2.1).1.0 0 (omega arith))

-- Without a work list 24 is not tried: what passes with one passes without.
pub sound_unlent : (job : Job) (bad : Badness) (work : Work) (room : ℕ) → Passed (sound_trials job bad work room) → Passed (sound_trials job bad None room)
sound_unlent job bad work room p =
    let (sizes, given, roomy, passed) = (sound_parts job bad work room).0 p in
    let enough = (append_passed (enough_trials job) (work_trials (board_of job) work) roomy.1).0 in
    (sound_parts job bad None room).1 (sizes, given, (roomy.0, passed_append (enough_trials job) [] enough tt), passed)

-- How many entries are lent makes no difference, if there is room.
pub sound_other_room : (job : Job) (bad : Badness) (work : Work) (room other : ℕ) → Passed (sound_trials job bad work room) → (board_of job).pads ≤ other
    → Passed (sound_trials job bad work other)
sound_other_room job bad work room other p l =
    let (sizes, given, roomy, passed) = (sound_parts job bad work room).0 p in
    (sound_parts job bad work other).1 (sizes, given, ((λ i h s. omega arith), roomy.1), passed)

-- Draw's are passed: an accepted job, room for three points, and numbers of a record and of a port.
pub draw_accepted : (bytes : List ℕ) (i q room : ℕ) → Passed (draw_trials bytes i q room)
    → Accepted Records bytes bytes × (6 ≤ room) × (i < count bytes) × (q < count bytes)
draw_accepted bytes i q room (c1, (c3, rest)) =
    let (passed, (c11, _)) = append_passed (job_trials (records bytes)) (number_trial bytes i q ∷ []) rest in (
      job_accepted (records bytes) (c1, tt) tt passed,
      not_lt (c3 0 (omega arith)),
      lt_of_not-le (λ h. c11 0 (omega arith) (inl h)),
      lt_of_not-le (λ h. c11 0 (omega arith) (inr h)),
    )

-- By weights or by a table of figures of 32 bits, a leader costs at most 4,294,967,295, and a layout at most 64 times that.
abbrev pub Narrow : Badness → Type 0
Narrow (by_weights lw bw) = Unit {0}
Narrow (by_table figures) = (k : ℕ) → get_or figures k 0 < 4294967296

module _ {form : Form} {pads ports : List ℕ} (a : Accepted form pads ports) where
  abbrev on : Board
  on = board_from form pads ports

  -- 01: a total is at most 192,000,064,000.
  pub accepted_bound : (lw bw : ℕ) → lw ≤ 1000 → bw ≤ 1000 → (f : ℕ → ℕ) → Layout on f → total on (weighted on lw bw) f ≤ 192000064000
  accepted_bound lw bw h k f l = total_bound on lw bw h k a.width a.pad a.port f a.few l.inside

  pub weighted_narrow : (lw bw : ℕ) → lw ≤ 1000 → bw ≤ 1000 → (i q : ℕ) → i < on.pads → q < on.ports → weighted on lw bw i q < 4294967296
  weighted_narrow lw bw h k i q l m = omega (arith, weighted_bound on lw bw h k a.width a.pad a.port i q l m)

  cost_most : (bad : Badness) → Fair on bad → Narrow bad → (i q : ℕ) → i < on.pads → q < on.ports → cost_of on bad i q ≤ 4294967295
  cost_most (by_weights lw bw) fair narrow i q h k = le_of_suc-le-suc (weighted_narrow lw bw fair.0 fair.1 i q h k)
  cost_most (by_table figures) fair narrow i q h k = le_of_suc-le-suc (narrow _)

  pub total_most : (bad : Badness) → Fair on bad → Narrow bad → (f : ℕ → ℕ) → Layout on f → total on (cost_of on bad) f ≤ 274877906880
  total_most bad fair narrow f l =
      let each = sum-at_most on.pads 4294967295 (λ i. cost_of on bad i (f i)) (λ i h. cost_most bad fair narrow i (f i) h (l.inside i h)) in
      omega (arith, a.few)

-- First's trials are 1 to 7, and then 15: it is not so that no layout is untouching.
module _ (job : Job) (bad : Badness) (work : Work) (room : ℕ) where
  pub first_sound : Passed (first_trials job bad work room) → Passed (sound_trials job bad work room)
  first_sound p = (append_passed (sound_trials job bad work room) (none_trial (labeling_of job bad) ∷ []) p).0

  pub first_some : Passed (first_trials job bad work room) → ¬ NoLayout (labeling_of job bad)
  first_some p = (append_passed (sound_trials job bad work room) (none_trial (labeling_of job bad) ∷ []) p).1.0 0 (omega arith)

  pub first_passed : Passed (sound_trials job bad work room) → ¬ NoLayout (labeling_of job bad) → Passed (first_trials job bad work room)
  first_passed p n = passed_append (sound_trials job bad work room) (none_trial (labeling_of job bad) ∷ []) p ((λ i l none. n none), tt)

  pub none_refused : Passed (sound_trials job bad work room) → NoLayout (labeling_of job bad) → RefusedBy (first_trials job bad work room) (refusal 15 0 0)
  none_refused p none =
      refused_right (sound_trials job bad work room) (none_trial (labeling_of job bad) ∷ []) (refusal 15 0 0) p (whole_refused 15 (NoLayout (labeling_of job bad)) [] none)

  -- What 1 to 7 refuse, First refuses alike.
  pub sound_refused : (r : Refusal) → RefusedBy (sound_trials job bad work room) r → RefusedBy (first_trials job bad work room) r
  sound_refused r = refused_left (sound_trials job bad work room) (none_trial (labeling_of job bad) ∷ []) r

module _ (job : Job) (bad : Badness) (work : Work) (list : List ℕ) where
  -- Measure's are passed: 1 to 7 are, and the list holds an untouching layout.
  pub measure_accepted : Passed (measure_trials job bad work list) → Passed (sound_trials job bad work (length list)) × Untouching (board_of job) (held list)
  measure_accepted p =
      let (passed, rest) = append_passed (sound_trials job bad work (length list)) (layout_trials (board_of job) list) p in
      (passed, (layout_passed (board_of job) list).0 rest)

  -- So then the job is accepted, with weights in range or a table of that length, and room for the layout, and the entries are port numbers.
  pub measure_facts : Passed (measure_trials job bad work list) → AcceptedJob job × Fair (board_of job) bad × ((board_of job).pads ≤ length list)
  measure_facts p = sound_accepted job bad work (length list) (measure_accepted p).0

  pub measure_entries : Passed (measure_trials job bad work list) → (i : ℕ) → i < (board_of job).pads → held list i < (board_of job).ports
  measure_entries p = (measure_accepted p).1.layout.inside

  -- And the other way round.
  pub untouching_passed : Passed (sound_trials job bad work (length list)) → Untouching (board_of job) (held list) → Passed (measure_trials job bad work list)
  untouching_passed p u = passed_append (sound_trials job bad work (length list)) (layout_trials (board_of job) list) p ((layout_passed (board_of job) list).1 u)

  -- Next refuses by 10 what passes Measure's trials, if the layout is not a best one;
  pub not_best_refused : Passed (measure_trials job bad work list) → ¬ Best (labeling_of job bad) (held list)
      → RefusedBy (next_trials job bad work list) (refusal 10 0 0)
  not_best_refused p n =
      refused_right (measure_trials job bad work list) (best_trial (labeling_of job bad) list ∷ []) (refusal 10 0 0) p (whole_refused 10 _ [] ((measure_accepted p).1, n))

  -- its trials are passed if Measure's are and the list holds a best layout.
  pub best_passed : Passed (measure_trials job bad work list) → Best (labeling_of job bad) (held list) → Passed (next_trials job bad work list)
  best_passed p b = passed_append (measure_trials job bad work list) (best_trial (labeling_of job bad) list ∷ []) p ((λ i l (u, n). n b), tt)

  -- What Measure refuses, Next refuses alike.
  pub measure_refused : (r : Refusal) → RefusedBy (measure_trials job bad work list) r → RefusedBy (next_trials job bad work list) r
  measure_refused r = refused_left (measure_trials job bad work list) (best_trial (labeling_of job bad) list ∷ []) r

  -- Where Next's trials are passed, so are Measure's, and the x of all pads differ.
  pub next_measured : Passed (next_trials job bad work list) → Passed (measure_trials job bad work list)
  next_measured p = (append_passed (measure_trials job bad work list) (best_trial (labeling_of job bad) list ∷ []) p).0

  pub next_differ : Passed (next_trials job bad work list) → Differ (board_of job)
  next_differ p = (measure_facts (next_measured p)).0.proper.differ
