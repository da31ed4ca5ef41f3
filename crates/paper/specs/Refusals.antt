-- DEFINITIONS. 01, "Refusal numbers", and of 02, 12 to 22, 24 and both records of 9: what is at fault for each number, and each call's trials, in their order.
use Rattle.std.specs.Prelude.{◌≡◌, ◌≢◌, ◌⊎◌, List, [], ◌∷◌, ◌++◌, ℕ, ◌+◌, ◌*◌, ◌-◌, ◌%◌, ◌≤◌, ◌<◌, length, ℤ, pos, nat_abs, ◌-ℤ◌, ◌≤ℤ◌, ◌<ℤ◌, Some, None}
use Rattle.paper.specs.declared.Refusal.{Refusal}
use Rattle.paper.specs.declared.Form.{Form}
use Rattle.paper.specs.declared.Form.TheVariants.{Records, Slots}
use Rattle.paper.specs.Answers.{Work}
use Rattle.paper.specs.Job.{Job, records, slots, pads_of, twos, count, name_of, half_of, x_of, y_of, last_of, port_count, port_of}
use Rattle.paper.specs.Layouts.{Board, board_of, held, Touching, Badness, by_weights, by_table}
use Rattle.paper.specs.Problem.{Problem, Best, CountBest, labeling_of}
use Rattle.paper.specs.Svg.{SheetWritten}
use Rattle.paper.specs.Csv.{Pad, ReadWith, BadLine, pad_at}

-- ---- trials

-- A trial: its refusal number, how many records it is tried at, what puts record i at fault, and which j may be named with it as the earlier record.
pub record Trial : Type 1 where
  pub reason : ℕ
  pub among : ℕ
  pub fault : ℕ → Type 0
  pub beside : ℕ → ℕ → Type 0

-- i is the smallest number of which P holds.
pub record Smallest (P : ℕ → Type 0) (i : ℕ) : Type 0 where
  pub here : P i
  pub none_below : (k : ℕ) → k < i → ¬ P k

-- No record is at fault; i is the smallest record at fault, and with it j the smallest that may be named.
abbrev pub Clean : Trial → Type 0
Clean t = (i : ℕ) → i < t.among → ¬ t.fault i

pub record FirstFault (t : Trial) (i j : ℕ) : Type 0 where
  pub inside : i < t.among
  pub first : Smallest t.fault i
  pub named : Smallest (t.beside i) j

-- Refusal r with record i, and with the earlier record j.
abbrev pub refusal : ℕ → ℕ → ℕ → Refusal
refusal r i j = record { reason = r; at = i; earlier = j }

-- Each trial is over the whole job before the next. All are passed; or the first that is not passed gives its number, its first record, and what is named with it.
abbrev pub Passed : List Trial → Type 0
Passed [] = Unit {0}
Passed (t ∷ ts) = Clean t × Passed ts

abbrev pub RefusedBy : List Trial → Refusal → Type 0
RefusedBy [] r = ⊥
RefusedBy (t ∷ ts) r = ((r.reason ≡ t.reason) × FirstFault t r.at r.earlier) ⊎ (Clean t × RefusedBy ts r)

-- ---- faults

-- R holds of record i and an earlier one.
abbrev pub Earlier : (ℕ → ℕ → Type 0) → ℕ → Type 0
Earlier R i = (j : ℕ) × (j < i) × R i j

-- 1: the byte count is 0, not a multiple of what one record has, or above the most
abbrev pub BadSize : ℕ → ℕ → List ℕ → Type 0
BadSize one most bytes = (length bytes ≡ 0) ⊎ (length bytes % one ≢ 0) ⊎ (most < length bytes)

-- 2: a weight is above 1,000
abbrev pub BadWeight : ℕ → ℕ → Type 0
BadWeight lw bw = (1000 < lw) ⊎ (1000 < bw)

-- 4: a field is outside its range: a name is if it is 0 (02: "0 isn't a name"), a half-side if it is above 2,000 (02), an x if it is 0 or above 1,000,000, a height if it is
-- below -1,000,000 or above 1,000,000
abbrev pub Outside : ℤ → Type 0
Outside h = 1000000 < nat_abs h

abbrev pub BadPad : ℕ → ℕ → ℕ → ℤ → Type 0
BadPad name half x y = (name ≡ 0) ⊎ (2000 < half) ⊎ (x < 1) ⊎ (1000000 < x) ⊎ Outside y

-- The last field is the height of record i's port, or where ports stand apart, 0.
abbrev pub BadLast : Form → ℕ → Type 0
BadLast Records n = Outside (twos n)
BadLast Slots n = n ≢ 0

abbrev pub BadField : Form → List ℕ → ℕ → Type 0
BadField form pads i = BadPad (name_of pads i) (half_of pads i) (x_of pads i) (y_of pads i) ⊎ BadLast form (last_of pads i)

-- 5: a port height is not above the one before
abbrev pub NotAbove : (ℕ → ℤ) → ℕ → Type 0
NotAbove port i = (0 < i) × (port i ≤ℤ port (i - 1))

-- 12: the rise from the port before is less than 8 (where there is none, 5 comes first)
abbrev pub TooClose : (ℕ → ℤ) → ℕ → Type 0
TooClose port i = (0 < i) × ((port i -ℤ port (i - 1)) <ℤ pos 8)

-- 6: a name stood in an earlier record
abbrev pub SameName : List ℕ → ℕ → ℕ → Type 0
SameName pads i j = name_of pads i ≡ name_of pads j

-- 7: an x stood in an earlier record
abbrev pub SameX : List ℕ → ℕ → ℕ → Type 0
SameX pads i j = x_of pads i ≡ x_of pads j

-- 8: a given entry is the port count p or more (in records, n or more), or stood earlier
abbrev pub BadEntry : ℕ → List ℕ → ℕ → Type 0
BadEntry p list i = (p ≤ held list i) ⊎ Earlier (λ i j. held list i ≡ held list j) i

-- ---- each call's trials

-- A trial of each of n records, and one of the input as a whole, whose record number is 0. Neither names an earlier record: j is 0.
abbrev pub of_each : ℕ → ℕ → (ℕ → Type 0) → Trial
of_each r n fault = record { reason = r; among = n; fault = fault; beside = λ i j. j ≡ 0 }

abbrev pub of_whole : ℕ → Type 0 → Trial
of_whole r P = of_each r 1 (λ i. P)

-- A trial of each of n records with those before it. It names an earlier one as well.
abbrev pub of_pairs : ℕ → ℕ → (ℕ → ℕ → Type 0) → Trial
of_pairs r n R = record { reason = r; among = n; fault = Earlier R; beside = λ i j. (j < i) × R i j }

-- 1: the records, of 16 bytes; or the pad list and then the port list, of 4 (02: "1 to 128 of them")
abbrev pub size_trials : Job → List Trial
size_trials (records bytes) = of_whole 1 (BadSize 16 1024 bytes) ∷ []
size_trials (slots pads ports) = of_whole 1 (BadSize 16 1024 pads) ∷ of_whole 1 (BadSize 4 512 ports) ∷ []

-- 14: there are fewer ports than pads
abbrev pub enough_trials : Job → List Trial
enough_trials (records bytes) = []
enough_trials (slots pads ports) = of_whole 14 (port_count Slots ports < count pads) ∷ []

-- 24: the work list has fewer than 2(n + 1)(p + 2)² numbers
abbrev pub work_needed : ℕ → ℕ → ℕ
work_needed n p = 2 * ((n + 1) * ((p + 2) * (p + 2)))

abbrev pub work_trials : Board → Work → List Trial
work_trials b None = []
work_trials b (Some numbers) = of_whole 24 (numbers < work_needed b.pads b.ports) ∷ []

-- 4: the records; or the pads and then the ports, and then the record number is the port's
abbrev pub field_trials : Job → List Trial
field_trials (records bytes) = of_each 4 (count bytes) (BadField Records bytes) ∷ []
field_trials (slots pads ports) =
    of_each 4 (count pads) (BadField Slots pads) ∷ of_each 4 (port_count Slots ports) (λ q. Outside (port_of Slots ports q)) ∷ []

-- 5 and 12 of the ports, and 6 and 7 of the pads
abbrev pub board_trials : Job → List Trial
board_trials job =
    of_each 5 (board_of job).ports (NotAbove (board_of job).port) ∷
    of_each 12 (board_of job).ports (TooClose (board_of job).port) ∷
    of_each 6 (board_of job).pads (Earlier (SameName (pads_of job))) ∷
    of_each 7 (board_of job).pads (Earlier (SameX (pads_of job))) ∷
    []

-- 4 to 7, and 12 directly after 5
abbrev pub job_trials : Job → List Trial
job_trials job = field_trials job ++ board_trials job

-- 8 and 9: the layout that the list holds. 9: a record touches an earlier one; both are named (02)
abbrev pub pair_trials : Board → (ℕ → ℕ → Type 0) → List ℕ → List Trial
pair_trials b R list =
    of_each 8 b.pads (BadEntry b.ports list) ∷
    of_pairs 9 b.pads R ∷
    []

abbrev pub layout_trials : Board → List ℕ → List Trial
layout_trials b list = pair_trials b (Touching b (held list)) list

-- 10: the given layout counts, on a job: it has no touching pair, but isn't best
abbrev pub best_trial : Problem → List ℕ → Trial
best_trial p list = of_whole 10 (p.Counts (held list) × ¬ Best p (held list))

-- 15: no layout counts: on a job, none is untouching (02)
abbrev pub NoLayout : Problem → Type 0
NoLayout p = (f : ℕ → ℕ) → ¬ p.Counts f

abbrev pub none_trial : Problem → Trial
none_trial p = of_whole 15 (NoLayout p)

-- 11: Draw's record or port number is n or more
abbrev pub number_trial : List ℕ → ℕ → ℕ → Trial
number_trial bytes i q = of_whole 11 ((count bytes ≤ i) ⊎ (count bytes ≤ q))

-- 2 of weights; of a table 13: it has another length than a figure for each pad and port (in records n × n)
abbrev pub badness_trial : Board → Badness → Trial
badness_trial b (by_weights lw bw) = of_whole 2 (BadWeight lw bw)
badness_trial b (by_table figures) = of_whole 13 (length figures ≢ b.pads * b.ports)

-- 3, the layout list has fewer than n entries, then 14 and 24
abbrev pub room_trials : Job → Work → ℕ → List Trial
room_trials job work room = of_whole 3 (room < (board_of job).pads) ∷ enough_trials job ++ work_trials (board_of job) work

-- First, Measure and Next alike, with such a work list and room for so many entries: 1, 2 or 13, the room's (3, 14, 24) and the job's (4, 5, 12, 6, 7), in short
-- "1 to 7"
abbrev pub sound_trials : Job → Badness → Work → ℕ → List Trial
sound_trials job bad work room = size_trials job ++ (badness_trial (board_of job) bad ∷ room_trials job work room ++ job_trials job)

-- First: these and 15
abbrev pub first_trials : Job → Badness → Work → ℕ → List Trial
first_trials job bad work room = sound_trials job bad work room ++ (none_trial (labeling_of job bad) ∷ [])

-- Measure: these, 8 and 9
abbrev pub measure_trials : Job → Badness → Work → List ℕ → List Trial
measure_trials job bad work list = sound_trials job bad work (length list) ++ layout_trials (board_of job) list

-- Next: Measure's and 10
abbrev pub next_trials : Job → Badness → Work → List ℕ → List Trial
next_trials job bad work list = measure_trials job bad work list ++ (best_trial (labeling_of job bad) list ∷ [])

-- Draw, of record i to port q with room for so many floats: 1, 3, the job's and 11. 3: the float list has fewer than six
abbrev pub draw_trials : List ℕ → ℕ → ℕ → ℕ → List Trial
draw_trials bytes i q room = size_trials (records bytes) ++ (of_whole 3 (room < 6) ∷ job_trials (records bytes) ++ (number_trial bytes i q ∷ []))

-- ---- calls

-- The calls on a problem, by their trials: those of First, with room for so many entries, and those of Measure and of Next, with the list.
pub record Calls : Type 1 where
  pub problem : Problem
  pub first : ℕ → List Trial
  pub measure : List ℕ → List Trial
  pub next : List ℕ → List Trial

-- How many entries a layout has: one a pad.
abbrev pub entries : Calls → ℕ
entries c = c.problem.board.pads

-- On a job, by weights or a table. First and Next are lent such a work list, or none; Measure never is.
abbrev pub calls_of : Job → Badness → Work → Calls
calls_of job bad work = record {
  problem = labeling_of job bad;
  first = first_trials job bad work;
  measure = measure_trials job bad None;
  next = next_trials job bad work;
}

-- ---- counting and placing (02)

-- 16: there are more best layouts than 1,000,000,000,000,000,000; 17: the place is at or past their number; 18: the buffer has fewer than 2(n + 2)² numbers
abbrev pub limit : ℕ
limit = 1000000000000000000

abbrev pub buffer_needed : ℕ → ℕ
buffer_needed n = 2 * ((n + 2) * (n + 2))

abbrev pub TooMany : Problem → Type 0
TooMany p = (c : ℕ) × CountBest p c × (limit < c)

abbrev pub PastCount : Problem → ℕ → Type 0
PastCount p place = (c : ℕ) × CountBest p c × (c ≤ place)

abbrev pub number_trials : Problem → ℕ → List Trial
number_trials p numbers = of_whole 18 (numbers < buffer_needed p.board.pads) ∷ of_whole 16 (TooMany p) ∷ []

-- Place, with a buffer of so many numbers and room for so many entries: First's, 18, 16 and 17. Count takes no list and no place: First's where there is room for a
-- layout, 18 and 16.
abbrev pub place_trials : Calls → ℕ → ℕ → ℕ → List Trial
place_trials c numbers place room = c.first room ++ (number_trials c.problem numbers ++ (of_whole 17 (PastCount c.problem place) ∷ []))

abbrev pub count_trials : Calls → ℕ → List Trial
count_trials c numbers = c.first (entries c) ++ number_trials c.problem numbers

-- ---- export (02)

-- 19: the layout's text has more bytes than there is room for
abbrev pub TooLong : Board → (ℕ → ℕ) → ℕ → Type 0
TooLong b f room = (s : List ℕ) × SheetWritten b f s × (room < length s)

-- Svg, of the layout that the list holds with room for so many bytes: Measure's without 2, since no weights are given (0 and 0 are never at fault), and 19
abbrev pub svg_trials : List ℕ → List ℕ → ℕ → List Trial
svg_trials bytes list room =
    measure_trials (records bytes) (by_weights 0 0) None list ++ (of_whole 19 (TooLong (board_of (records bytes)) (held list) room) ∷ [])

-- ---- import (02)

-- 4 of pads that are read: in a record a name has 2 bytes, here it may be above 65,535; the half-side is 0
abbrev pub BadRead : Pad → Type 0
BadRead p = (65535 < p.name) ⊎ BadPad p.name 0 p.x p.y

-- 20: the text has more than 16,384 bytes; 21: a line is bad (lines are numbered from 1, and there is at most one more of them than bytes)
abbrev pub text_trials : List ℕ → List Trial
text_trials text = of_whole 20 (16384 < length text) ∷ of_each 21 (length text + 2) (BadLine text) ∷ []

-- A trial of each of the pads that the text reads as: there are at most 64 where it is tried.
abbrev pub of_pads : ℕ → List ℕ → (List Pad → ℕ → Type 0) → Trial
of_pads r text fault = of_each r 64 (λ i. ReadWith text (λ pads. (i < length pads) × fault pads i))

-- Of what the text reads as, with room for so many bytes. 1: no pads or more than 64; 22: room under 16 bytes a pad; then 4, 6 and 7 as for a job
abbrev pub read_trials : List ℕ → ℕ → List Trial
read_trials text room =
    of_whole 1 (ReadWith text (λ pads. (length pads ≡ 0) ⊎ (64 < length pads))) ∷
    of_whole 22 (ReadWith text (λ pads. room < 16 * length pads)) ∷
    of_pads 4 text (λ pads i. BadRead (pad_at pads i)) ∷
    of_pads 6 text (λ pads. Earlier (λ i j. (pad_at pads i).name ≡ (pad_at pads j).name)) ∷
    of_pads 7 text (λ pads. Earlier (λ i j. (pad_at pads i).x ≡ (pad_at pads j).x)) ∷
    []

abbrev pub csv_trials : List ℕ → ℕ → List Trial
csv_trials text room = text_trials text ++ read_trials text room

-- The same of given pads.
abbrev pub list_trials : List Pad → ℕ → List Trial
list_trials pads room =
    of_whole 1 ((length pads ≡ 0) ⊎ (64 < length pads)) ∷
    of_whole 22 (room < 16 * length pads) ∷
    of_each 4 (length pads) (λ i. BadRead (pad_at pads i)) ∷
    of_each 6 (length pads) (Earlier (λ i j. (pad_at pads i).name ≡ (pad_at pads j).name)) ∷
    of_each 7 (length pads) (Earlier (λ i j. (pad_at pads i).x ≡ (pad_at pads j).x)) ∷
    []

-- Pads that are accepted with room for so many bytes: from 1 to 64, in range, names and x different.
pub record ValidPads (pads : List Pad) (room : ℕ) : Type 0 where
  pub some : 1 ≤ length pads
  pub few : length pads ≤ 64
  pub roomy : 16 * length pads ≤ room
  pub ranges : (i : ℕ) → i < length pads → ¬ BadRead (pad_at pads i)
  pub names : (i j : ℕ) → j < i → i < length pads → (pad_at pads i).name ≢ (pad_at pads j).name
  pub places : (i j : ℕ) → j < i → i < length pads → (pad_at pads i).x ≢ (pad_at pads j).x

-- Of the trials 1 to 7 of a slots call, those of its pads alone; and the others.
abbrev pub pad_trials : List ℕ → List Trial
pad_trials pads =
    of_whole 1 (BadSize 16 1024 pads) ∷
    of_each 4 (count pads) (BadField Slots pads) ∷
    of_each 6 (count pads) (Earlier (SameName pads)) ∷
    of_each 7 (count pads) (Earlier (SameX pads)) ∷
    []

abbrev pub strip_trials : List ℕ → List ℕ → Badness → Work → ℕ → List Trial
strip_trials pads ports bad work room =
    of_whole 1 (BadSize 4 512 ports) ∷ badness_trial (board_of (slots pads ports)) bad ∷ room_trials (slots pads ports) work room ++ (
    of_each 4 (port_count Slots ports) (λ q. Outside (port_of Slots ports q)) ∷
    of_each 5 (port_count Slots ports) (NotAbove (port_of Slots ports)) ∷
    of_each 12 (port_count Slots ports) (TooClose (port_of Slots ports)) ∷
    []
    )

-- ---- which records a refusal names

-- A refusal that names one record.
abbrev pub Alone : Refusal → Type 0
Alone r = (r.reason ≢ 9) × (r.earlier ≡ 0)

-- 02: "the smallest record that touches an earlier one, and with it the smallest such earlier record".
pub record FirstPair (b : Board) (f : ℕ → ℕ) (i j : ℕ) : Type 0 where
  pub inside : i < b.pads
  pub before : j < i
  pub touch : Touching b f i j
  pub smallest : (k m : ℕ) → k < i → m < k → ¬ Touching b f k m
  pub smallest_earlier : (m : ℕ) → m < j → ¬ Touching b f i m

-- One record, or by 9 the first touching pair.
abbrev pub Named : Board → (ℕ → ℕ) → Refusal → Type 0
Named b f r = Alone r ⊎ ((r.reason ≡ 9) × FirstPair b f r.at r.earlier)
