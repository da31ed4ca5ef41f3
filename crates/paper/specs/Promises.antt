-- DEFINITIONS. 01, "The calls": what each call promises for every input, by cases of its answer, and the number that C gets.
-- A call is given a job, numbers or a table, and a lent list that holds `before` at entry and `after` at exit. Page is given a layout besides, which is only read.
-- Of the work list that First and Next may be lent, and of the buffer of Count and Place, a promise knows the length alone: what it holds on entry changes no answer.
use Rattle.std.specs.Prelude.{◌≡◌, ◌≢◌, ◌⊎◌, ◌↔◌, List, ◌++◌, ℕ, zero, suc, ◌+◌, ◌*◌, ◌/◌, ◌%◌, ◌≤◌, ◌<◌, length, get_or, drop, ℤ, pos, negsuc, neg_ℤ, nat_abs, ◌≤ℤ◌, Float, Some, None, Ok, Err}
use Rattle.paper.specs.declared.Refusal.{Refusal}
use Rattle.paper.specs.declared.Polyline.TheVariants.{Straight, Bent}
use Rattle.paper.specs.Answers.{Work, Answer, Counted, Drawn}
use Rattle.paper.specs.Job.{Job, records}
use Rattle.paper.specs.Layouts.{board_of, held, leader, Badness}
use Rattle.paper.specs.Problem.{Problem, FirstBest, NextBest, LastBest, PlaceBest, CountBest}
use Rattle.paper.specs.Refusals.{Trial, Passed, RefusedBy, refusal, draw_trials, Calls, entries, calls_of, count_trials, place_trials, svg_trials, csv_trials}
use Rattle.paper.specs.Canvas.{DrawnStraight, DrawnBent, coordinates}
use Rattle.paper.specs.Svg.{SheetWritten}
use Rattle.paper.specs.Csv.{ReadWith, records_of}

-- ---- C's number for each answer

-- refusal r with record i and the earlier record j as -(4,294,967,296 × j + 65,536 × r + i)
abbrev pub refusal_number : Refusal → ℤ
refusal_number r = neg_ℤ (pos (4294967296 * r.earlier + 65536 * r.reason + r.at))

-- what a caller takes out of such a number again: the header's functions
abbrev pub refusal_in : ℤ → Refusal
refusal_in c = refusal (nat_abs c / 65536 % 65536) (nat_abs c % 65536) (nat_abs c / 4294967296)

-- the total as itself, end as -1
abbrev pub number : Answer → ℤ
number (Ok (Some t)) = pos t
number (Ok None) = negsuc 0
number (Err r) = refusal_number r

-- Page's, Count's, Svg's and ReadCsv's: how many layouts, bytes or pads, as itself, or the refusal's
abbrev pub counted_number : Counted → ℤ
counted_number (Ok k) = pos k
counted_number (Err r) = refusal_number r

-- Draw's: its number of points as itself, or the refusal's
abbrev pub drawn_number : Drawn → ℤ
drawn_number (Ok (Straight p q)) = pos 2
drawn_number (Ok (Bent p m q)) = pos 3
drawn_number (Err r) = refusal_number r

-- ---- lent lists

-- Entries from n on are never changed.
pub record Kept (n : ℕ) (before after : List ℕ) : Type 0 where
  pub long : length after ≡ length before
  pub rest : (k : ℕ) → n ≤ k → get_or after k 0 ≡ get_or before k 0

-- A page holds layouts one after the other, n entries each. In turn: the given layout, and then those of the page.
abbrev pub in_turn : ℕ → List ℕ → List ℕ → ℕ → ℕ → ℕ
in_turn n given page zero i = held given i
in_turn n given page (suc k) i = held page (k * n + i)

-- Draw's coordinates, the bytes of a text and those of records fill the first places, and the places after those keep their content.
abbrev pub overwritten : {A : Type 0} → List A → List A → List A
overwritten cs before = cs ++ drop (length cs) before

-- ---- the promises

-- Each is said for any calls, by their problem and their trials, and then for those on a job.

-- FIRST: the earliest best layout fills the first n entries, and the answer is its value: on a job, its total.
abbrev pub FirstOver : Calls → List ℕ → Answer → List ℕ → Type 0
FirstOver c before (Ok (Some t)) after =
    Passed (c.first (length before)) × FirstBest c.problem (held after) × (t ≡ c.problem.value (held after)) × Kept (entries c) before after
FirstOver c before (Ok None) after = ⊥
FirstOver c before (Err r) after = RefusedBy (c.first (length before)) r × (after ≡ before)

-- NEXT: the earliest best layout after the given one replaces it, and the answer is its value; or no best layout comes after the given one, and
-- the answer is end.
abbrev pub NextOver : Calls → List ℕ → Answer → List ℕ → Type 0
NextOver c before (Ok (Some t)) after =
    Passed (c.next before) × NextBest c.problem (held before) (held after) × (t ≡ c.problem.value (held after)) × Kept (entries c) before after
NextOver c before (Ok None) after = Passed (c.next before) × LastBest c.problem (held before) × (after ≡ before)
NextOver c before (Err r) after = RefusedBy (c.next before) r × (after ≡ before)

-- PAGE: k layouts stand on the page, each the earliest best layout after the one before it, the first of them after the given one. They are as many
-- as fit, or fewer where the end comes: no best layout comes after the last of them. Whatever part of the page is not filled is unchanged.
pub record Following (p : Problem) (given before : List ℕ) (k : ℕ) (after : List ℕ) : Type 0 where
  pub fit : k * p.board.pads ≤ length before
  pub follow : (j : ℕ) → j < k → NextBest p (in_turn p.board.pads given after j) (in_turn p.board.pads given after (suc j))
  pub all : (length before < suc k * p.board.pads) ⊎ LastBest p (in_turn p.board.pads given after k)
  pub kept : Kept (k * p.board.pads) before after

-- Its trials are Next's, of the given layout: none speaks of the page.
abbrev pub PageOver : Calls → List ℕ → List ℕ → Counted → List ℕ → Type 0
PageOver c given before (Ok k) after = Passed (c.next given) × Following c.problem given before k after
PageOver c given before (Err r) after = RefusedBy (c.next given) r × (after ≡ before)

-- MEASURE: the value of a layout that counts, best or not. Its list is only read.
abbrev pub MeasureOver : Calls → List ℕ → Answer → Type 0
MeasureOver c list (Ok (Some t)) = Passed (c.measure list) × (t ≡ c.problem.value (held list))
MeasureOver c list (Ok None) = ⊥
MeasureOver c list (Err r) = RefusedBy (c.measure list) r

-- COUNT, with a buffer of so many numbers: how many best layouts there are.
abbrev pub CountOver : Calls → ℕ → Counted → Type 0
CountOver c numbers (Ok k) = Passed (count_trials c numbers) × CountBest c.problem k
CountOver c numbers (Err r) = RefusedBy (count_trials c numbers) r

-- PLACE: the layout at that place fills the first n entries, and the answer is its value.
abbrev pub PlaceOver : Calls → ℕ → ℕ → List ℕ → Answer → List ℕ → Type 0
PlaceOver c numbers place before (Ok (Some t)) after =
    Passed (place_trials c numbers place (length before)) × PlaceBest c.problem place (held after) × (t ≡ c.problem.value (held after)) × Kept (entries c) before after
PlaceOver c numbers place before (Ok None) after = ⊥
PlaceOver c numbers place before (Err r) after = RefusedBy (place_trials c numbers place (length before)) r × (after ≡ before)

-- ---- what C sees: the number m of such an answer, and the list

abbrev pub FirstReplies : Calls → List ℕ → ℤ → List ℕ → Type 0
FirstReplies c before m after = (a : Answer) × FirstOver c before a after × (m ≡ number a)

abbrev pub NextReplies : Calls → List ℕ → ℤ → List ℕ → Type 0
NextReplies c before m after = (a : Answer) × NextOver c before a after × (m ≡ number a)

abbrev pub PageReplies : Calls → List ℕ → List ℕ → ℤ → List ℕ → Type 0
PageReplies c given before m after = (a : Counted) × PageOver c given before a after × (m ≡ counted_number a)

abbrev pub MeasureReplies : Calls → List ℕ → ℤ → Type 0
MeasureReplies c list m = (a : Answer) × MeasureOver c list a × (m ≡ number a)

abbrev pub CountReplies : Calls → ℕ → ℤ → Type 0
CountReplies c numbers m = (a : Counted) × CountOver c numbers a × (m ≡ counted_number a)

abbrev pub PlaceReplies : Calls → ℕ → ℕ → List ℕ → ℤ → List ℕ → Type 0
PlaceReplies c numbers place before m after = (a : Answer) × PlaceOver c numbers place before a after × (m ≡ number a)

-- What is lent for work holds what it held after every refusal but two. After these, an end, a total or a count its content is left open (docs/OPEN-REPLIES.md).
abbrev pub OpenAfter : ℕ → ℕ → ℤ → List ℕ → List ℕ → Type 0
OpenAfter r s m before after = m ≤ℤ neg_ℤ (pos 65536) → ((refusal_in m).reason ≢ r) → ((refusal_in m).reason ≢ s) → after ≡ before

-- A work list: 10 and 15; and the buffer of Count and Place: 16 and 17.
abbrev pub WorkAfter : Answer → List ℕ → List ℕ → Type 0
WorkAfter (Ok (Some t)) before after = Unit {0}
WorkAfter (Ok None) before after = Unit {0}
WorkAfter (Err r) before after = (r.reason ≢ 10) → (r.reason ≢ 15) → after ≡ before

abbrev pub WorkPromise : ℤ → List ℕ → List ℕ → Type 0
WorkPromise = OpenAfter 10 15

abbrev pub BufferPromise : ℤ → List ℕ → List ℕ → Type 0
BufferPromise = OpenAfter 16 17

-- ---- the calls on a job, by weights and by tables: their answers in the language, and their promises to C

abbrev pub FirstAnswers : Job → Badness → Work → List ℕ → Answer → List ℕ → Type 0
FirstAnswers job bad work = FirstOver (calls_of job bad work)

abbrev pub NextAnswers : Job → Badness → Work → List ℕ → Answer → List ℕ → Type 0
NextAnswers job bad work = NextOver (calls_of job bad work)

abbrev pub PageAnswers : Job → Badness → Work → List ℕ → List ℕ → Counted → List ℕ → Type 0
PageAnswers job bad work = PageOver (calls_of job bad work)

abbrev pub MeasureAnswers : Job → Badness → List ℕ → Answer → Type 0
MeasureAnswers job bad = MeasureOver (calls_of job bad None)

abbrev pub CountAnswers : Job → Badness → ℕ → Counted → Type 0
CountAnswers job bad = CountOver (calls_of job bad None)

abbrev pub PlaceAnswers : Job → Badness → ℕ → ℕ → List ℕ → Answer → List ℕ → Type 0
PlaceAnswers job bad = PlaceOver (calls_of job bad None)

abbrev pub FirstPromise : Job → Badness → Work → List ℕ → ℤ → List ℕ → Type 0
FirstPromise job bad work = FirstReplies (calls_of job bad work)

abbrev pub NextPromise : Job → Badness → Work → List ℕ → ℤ → List ℕ → Type 0
NextPromise job bad work = NextReplies (calls_of job bad work)

abbrev pub PagePromise : Job → Badness → Work → List ℕ → List ℕ → ℤ → List ℕ → Type 0
PagePromise job bad work = PageReplies (calls_of job bad work)

abbrev pub MeasurePromise : Job → Badness → List ℕ → ℤ → Type 0
MeasurePromise job bad = MeasureReplies (calls_of job bad None)

abbrev pub CountPromise : Job → Badness → ℕ → ℤ → Type 0
CountPromise job bad = CountReplies (calls_of job bad None)

abbrev pub PlacePromise : Job → Badness → ℕ → ℕ → List ℕ → ℤ → List ℕ → Type 0
PlacePromise job bad = PlaceReplies (calls_of job bad None)

-- DRAW: the leader of the pad of record i to port q.
abbrev pub DrawAnswers : List ℕ → ℕ → ℕ → List Float → Drawn → List Float → Type 0
DrawAnswers job i q before (Ok (Straight a c)) after =
    Passed (draw_trials job i q (length before)) × DrawnStraight (leader (board_of (records job)) i q) a c
    × (after ≡ overwritten (coordinates (Ok (Straight a c))) before)
DrawAnswers job i q before (Ok (Bent a b c)) after =
    Passed (draw_trials job i q (length before)) × DrawnBent (leader (board_of (records job)) i q) a b c
    × (after ≡ overwritten (coordinates (Ok (Bent a b c))) before)
DrawAnswers job i q before (Err r) after = RefusedBy (draw_trials job i q (length before)) r × (after ≡ before)

abbrev pub DrawPromise : List ℕ → ℕ → ℕ → List Float → ℤ → List Float → Type 0
DrawPromise job i q before c after = (d : Drawn) × DrawAnswers job i q before d after × (c ≡ drawn_number d)

-- Svg and ReadCsv fill the first bytes of what they are lent, by such trials: `Is s k` says that s is what fills them, and k the answer.
abbrev pub FillOver : List Trial → (List ℕ → ℕ → Type 0) → List ℕ → Counted → List ℕ → Type 0
FillOver ts Is before (Ok k) after = Passed ts × ((s : List ℕ) × Is s k × (after ≡ overwritten s before))
FillOver ts Is before (Err r) after = RefusedBy ts r × (after ≡ before)

abbrev pub FillReplies : List Trial → (List ℕ → ℕ → Type 0) → List ℕ → ℤ → List ℕ → Type 0
FillReplies ts Is before m after = (a : Counted) × FillOver ts Is before a after × (m ≡ counted_number a)

-- SVG: the text of an untouching layout, best or not, and the answer is how many bytes it has.
abbrev pub SvgFills : List ℕ → List ℕ → List ℕ → ℕ → Type 0
SvgFills job list s k = SheetWritten (board_of (records job)) (held list) s × (k ≡ length s)

abbrev pub SvgAnswers : List ℕ → List ℕ → List ℕ → Counted → List ℕ → Type 0
SvgAnswers job list before = FillOver (svg_trials job list (length before)) (SvgFills job list) before

abbrev pub SvgPromise : List ℕ → List ℕ → List ℕ → ℤ → List ℕ → Type 0
SvgPromise job list before = FillReplies (svg_trials job list (length before)) (SvgFills job list) before

-- READCSV: the records of the pads that the text reads as, and the answer is how many pads.
abbrev pub CsvFills : List ℕ → List ℕ → ℕ → Type 0
CsvFills text s k = ReadWith text (λ pads. (s ≡ records_of pads) × (k ≡ length pads))

abbrev pub CsvAnswers : List ℕ → List ℕ → Counted → List ℕ → Type 0
CsvAnswers text before = FillOver (csv_trials text (length before)) (CsvFills text) before

abbrev pub CsvPromise : List ℕ → List ℕ → ℤ → List ℕ → Type 0
CsvPromise text before = FillReplies (csv_trials text (length before)) (CsvFills text) before

-- ---- what is asked of a promise

-- It allows one reply, and one only: a number, and what the lent list then holds.
abbrev pub OneReply : {L : Type 0} → (ℤ → L → Type 0) → Type 0
OneReply {L} P = ((m : ℤ) × (l : L) × P m l) × ((m n : ℤ) (l k : L) → P m l → P n k → (m ≡ n) × (l ≡ k))

-- The number m is a refusal, -65,536 or less, exactly if the trials are not all passed; and then it is that of the first trial that is not, with its records,
-- and nothing is written.
pub record RefusesBy (ts : List Trial) (m : ℤ) (Unchanged : Type 0) : Type 0 where
  pub exactly : (m ≤ℤ neg_ℤ (pos 65536)) ↔ (¬ Passed ts)
  pub named : m ≤ℤ neg_ℤ (pos 65536) → RefusedBy ts (refusal_in m) × Unchanged
