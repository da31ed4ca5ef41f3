-- THE THEOREMS, in the order of the demands. Each is a closed statement about every input; nothing is assumed above it. The definitions are the files of
-- specs/; the proofs are in laws/, for the prover. A call that keeps its promise, and the code is proved to, has all that is said here.
--     m is the number that C gets, before and after are what the lent list holds at entry and at exit, bad the weights or the table, work the length of the
--     work list, if one is lent, numbers the length of the buffer that Count and Place are lent; a job is of either form
use Rattle.std.specs.Prelude.{◌≡◌, refl, ◌≢◌, ◌⊎◌, ◌↔◌, false, List, [], ◌∷◌, ◌++◌, ℕ, suc, ◌+◌, ◌*◌, ◌/◌, ◌%◌, ◌≤◌, ◌<◌, T, eqb, length, get_or, take, ℤ, pos, negsuc, neg_ℤ, nat_abs, ◌+ℤ◌, ◌≤ℤ◌, Float, Some, None, Ok}
use Rattle.std.proofs.Math.Logic.Iff
use Rattle.std.proofs.Common.{arith}
use Rattle.std.specs.Float.{binary32, fin}
use Rattle.std.specs.Float.Ieee.{mul, of_int}
use Rattle.paper.specs.declared.Point.{Point}
use Rattle.paper.specs.declared.Polyline.TheVariants.{Straight, Bent}
use Rattle.paper.specs.declared.Refusal.{Refusal}
use Rattle.paper.specs.Answers.{Work, Drawn}
use Rattle.paper.specs.declared.Form.TheVariants.{Records, Slots}
use Rattle.paper.specs.Job.{Job, records, slots, pads_of, count, twos, name_of, half_of, x_of, y_of, port_of, last_of, port_count}
use Rattle.paper.specs.Leaders.{Leader, Square, Between, Touch, Meets, distance, length_of, bends_of}
use Rattle.paper.specs.Plane.{Line, TouchIn, MeetsIn}
use Rattle.paper.specs.Layouts.{Board, board_of, held, leader, LeadersTouch, Touching, Layout, EachOnce, Untouching, sum, weighted, figure, Badness, by_weights, by_table, cost_of, TableOf, total}
use Rattle.paper.specs.Layouts.{Same, Differ, Proper}
use Rattle.paper.specs.Problem.{Best, Before, FirstBest, NextBest, LastBest, PlaceBest, CountBest, labeling, labeling_of}
use Rattle.paper.specs.Refusals.{Smallest, FirstFault, Passed, refusal, of_pairs, sound_trials, first_trials, measure_trials, next_trials, draw_trials, calls_of, Alone, FirstPair, Named}
use Rattle.paper.specs.Refusals.{buffer_needed, TooMany, PastCount, count_trials, place_trials, TooLong, svg_trials, csv_trials, list_trials, ValidPads, pad_trials, strip_trials}
use Rattle.paper.specs.Canvas.{FourTimesIs, DrawnStraight, DrawnBent, coordinates}
use Rattle.text.specs.Text.{bytes, Begins}
use Rattle.paper.specs.Svg.{numeral, Written, LineWritten, SheetWritten, cut, read_number, read_line, line_at}
use Rattle.paper.specs.Csv.{Pad, crlf, Lines, Fields, ReadsAs, ReadWith, BadLine, records_of, pads_in, plain_text}
use Rattle.paper.specs.Promises.{refusal_number, refusal_in, Kept, overwritten, FirstPromise, NextPromise, PagePromise, MeasurePromise, DrawPromise, SvgPromise, WorkPromise}
use Rattle.paper.specs.Promises.{SvgFills, CsvFills, CsvPromise, CountPromise, PlacePromise, BufferPromise, FirstReplies, NextReplies, PageReplies, MeasureReplies, CountReplies, PlaceReplies, OneReply, RefusesBy}
use Rattle.paper.specs.Runs.{NextRun, Run, AskedTo, Demand3, PageByNext, PagedOn}
use Rattle.paper.specs.Sheets.{sample, Each, Allowed, sheets, PageAllowed, pages, CountAllowed, count_sheets, PlaceAllowed, place_sheets, SvgAllowed, svg_sheets, CsvAllowed, csv_sheets}
use Rattle.paper.specs.Straightening.{LeastOfAll, CostsNothing, BendsCanCost, TablesCanCost, SquaresCanCost}
use Rattle.paper.specs.Points.{Points, point_calls_of}
use Rattle.paper.specs.laws.Tests.{meets}
use Rattle.paper.proofs.laws.Regular.{regular}
use Rattle.paper.proofs.laws.Numbers.{numbered}
use Rattle.paper.proofs.laws as by

-- ---- DEMAND 1: every input gets an answer, and bad ones, but no others, are refused by number with the record at fault; then nothing is written

-- Every input to First has exactly one reply; so has every input to Next, to Page, to Measure, to Count, to Place, to Draw, to Svg and to ReadCsv.
pub first_one_reply : (job : Job) (bad : Badness) (work : Work) (before : List ℕ) → OneReply (FirstPromise job bad work before)
first_one_reply job bad work before = (by.Met.first_met (calls_of job bad work) (regular job bad work) before, by.Determined.first_determined (calls_of job bad work) before)

pub next_one_reply : (job : Job) (bad : Badness) (work : Work) (before : List ℕ) → OneReply (NextPromise job bad work before)
next_one_reply job bad work before = (by.Met.next_met (calls_of job bad work) (regular job bad work) before, by.Determined.next_determined (calls_of job bad work) before)

pub page_one_reply : (job : Job) (bad : Badness) (work : Work) (given before : List ℕ) → OneReply (PagePromise job bad work given before)
page_one_reply job bad work given before =
    (by.Met.page_met (calls_of job bad work) (regular job bad work) given before, by.Determined.page_determined (calls_of job bad work) given before)

pub measure_one_reply : (job : Job) (bad : Badness) (list : List ℕ)
    → ((m : ℤ) × MeasurePromise job bad list m) × ((m n : ℤ) → MeasurePromise job bad list m → MeasurePromise job bad list n → m ≡ n)
measure_one_reply job bad list = (by.Met.measure_met (calls_of job bad None) (regular job bad None) list, by.Determined.measure_determined (calls_of job bad None) list)

pub count_one_reply : (job : Job) (bad : Badness) (numbers : ℕ)
    → ((m : ℤ) × CountPromise job bad numbers m) × ((m n : ℤ) → CountPromise job bad numbers m → CountPromise job bad numbers n → m ≡ n)
count_one_reply job bad numbers = (by.Met.count_met (calls_of job bad None) (regular job bad None) numbers, by.Determined.count_determined (calls_of job bad None) numbers)

pub place_one_reply : (job : Job) (bad : Badness) (numbers place : ℕ) (before : List ℕ) → OneReply (PlacePromise job bad numbers place before)
place_one_reply job bad numbers place before =
    (by.Met.place_met (calls_of job bad None) (regular job bad None) numbers place before, by.Determined.place_determined (calls_of job bad None) numbers place before)

pub draw_one_reply : (job : List ℕ) (i q : ℕ) (before : List Float) → OneReply (DrawPromise job i q before)
draw_one_reply job i q before = (by.Met.draw_met job i q before, by.Determined.draw_determined job i q before)

pub svg_one_reply : (job list before : List ℕ) → OneReply (SvgPromise job list before)
svg_one_reply job list before = (by.Met.svg_met job list before, by.Determined.fill_determined (svg_trials job list (length before)) (SvgFills job list) (by.Exported.svg_fills_one job list) before)

pub csv_one_reply : (text before : List ℕ) → OneReply (CsvPromise text before)
csv_one_reply text before = (by.Met.csv_met text before, by.Determined.fill_determined (csv_trials text (length before)) (CsvFills text) (by.Imported.csv_fills_one text) before)

-- First's number is a refusal exactly if one of its trials fails, and then it is that of the first that does, with its records, and the list holds what it held;
-- so are Next's, Page's, Measure's, Count's, Place's, Draw's, Svg's and ReadCsv's.
pub first-refuses : (job : Job) (bad : Badness) (work : Work) (before : List ℕ) (m : ℤ) (after : List ℕ) → FirstPromise job bad work before m after
    → RefusesBy (first_trials job bad work (length before)) m (after ≡ before)
first-refuses job bad work before m after = by.Numbers.first-refuses (calls_of job bad work) (numbered job bad work) before after m

pub next_refuses : (job : Job) (bad : Badness) (work : Work) (before : List ℕ) (m : ℤ) (after : List ℕ) → NextPromise job bad work before m after
    → RefusesBy (next_trials job bad work before) m (after ≡ before)
next_refuses job bad work before m after = by.Numbers.next_refuses (calls_of job bad work) (numbered job bad work) before after m

pub page_refuses : (job : Job) (bad : Badness) (work : Work) (given before : List ℕ) (m : ℤ) (after : List ℕ) → PagePromise job bad work given before m after
    → RefusesBy (next_trials job bad work given) m (after ≡ before)
page_refuses job bad work given before m after = by.Numbers.page_refuses (calls_of job bad work) (numbered job bad work) given before after m

pub measure_refuses : (job : Job) (bad : Badness) (list : List ℕ) (m : ℤ) → MeasurePromise job bad list m
    → RefusesBy (measure_trials job bad None list) m (Unit {0})
measure_refuses job bad = by.Numbers.measure_refuses (calls_of job bad None) (numbered job bad None)

pub count-refuses : (job : Job) (bad : Badness) (numbers : ℕ) (m : ℤ) → CountPromise job bad numbers m
    → RefusesBy (count_trials (calls_of job bad None) numbers) m (Unit {0})
count-refuses job bad = by.Numbers.count-refuses (calls_of job bad None) (numbered job bad None)

pub place-refuses : (job : Job) (bad : Badness) (numbers place : ℕ) (before : List ℕ) (m : ℤ) (after : List ℕ) → PlacePromise job bad numbers place before m after
    → RefusesBy (place_trials (calls_of job bad None) numbers place (length before)) m (after ≡ before)
place-refuses job bad numbers place before m after = by.Numbers.place-refuses (calls_of job bad None) (numbered job bad None) numbers place before after m

pub draw_refuses : (job : List ℕ) (i q : ℕ) (before : List Float) (m : ℤ) (after : List Float) → DrawPromise job i q before m after
    → RefusesBy (draw_trials job i q (length before)) m (after ≡ before)
draw_refuses job i q before m after = by.Numbers.draw_refuses job i q before after m

pub svg_refuses : (job list before : List ℕ) (m : ℤ) (after : List ℕ) → SvgPromise job list before m after
    → RefusesBy (svg_trials job list (length before)) m (after ≡ before)
svg_refuses job list before m after =
    by.Numbers.fill_refuses (svg_trials job list (length before)) (by.Numbers.svg_small job list (length before)) (SvgFills job list) before after m

pub csv_refuses : (text before : List ℕ) (m : ℤ) (after : List ℕ) → CsvPromise text before m after → RefusesBy (csv_trials text (length before)) m (after ≡ before)
csv_refuses text before m after = by.Numbers.fill_refuses (csv_trials text (length before)) (by.Numbers.csv_small text (length before)) (CsvFills text) before after m

-- The work list that First is lent holds what it held after every refusal but 15 (02), which comes where 1 to 7 are passed; Next's after every refusal but 10, which
-- comes where Measure's trials are passed.
pub first_keeps_work : (job : Job) (bad : Badness) (work : Work) (before : List ℕ) (m : ℤ) (after lent left : List ℕ) → FirstPromise job bad work before m after
    → WorkPromise m lent left → ¬ Passed (sound_trials job bad work (length before)) → left ≡ lent
first_keeps_work job bad work before m after lent left p w n =
    let refused = first-refuses job bad work before m after p in
    let low = refused.exactly.1 (λ q. n (by.Accepted.first_sound job bad work (length before) q)) in
    let (ten, none, _) = by.Named.sound_checked job bad work (length before) (refusal_in m) (by.Named.not_by_none job bad work (length before) (refusal_in m) n (refused.named low).0) in
    w low ten none

pub next_keeps_work : (job : Job) (bad : Badness) (work : Work) (before : List ℕ) (m : ℤ) (after lent left : List ℕ) → NextPromise job bad work before m after
    → WorkPromise m lent left → ¬ Passed (measure_trials job bad work before) → left ≡ lent
next_keeps_work job bad work before m after lent left p w n =
    let refused = next_refuses job bad work before m after p in
    let low = refused.exactly.1 (λ q. n (by.Accepted.next_measured job bad work before q)) in
    let (ten, none, _) = by.Named.measure_checked job bad work before (refusal_in m) (by.Named.not_by_ten job bad work before (refusal_in m) n (refused.named low).0) in
    w low ten none

-- The buffer that Count is lent holds what it held after every refusal but 16, and Place's after every one but 16 and 17 (02): these come where First's trials are
-- passed and the buffer is long enough.
pub count_keeps_buffer : (job : Job) (bad : Badness) (numbers : ℕ) (m : ℤ) (lent left : List ℕ) → CountPromise job bad numbers m → BufferPromise m lent left
    → ¬ (Passed (first_trials job bad None (board_of job).pads) × (buffer_needed (board_of job).pads ≤ numbers)) → left ≡ lent
count_keeps_buffer job bad numbers m lent left p w n =
    let refused = count-refuses job bad numbers m p in
    let low = refused.exactly.1 (λ q. n (by.Places.count_opened (calls_of job bad None) numbers q)) in
    let (many, past) = by.Named.count_kept job bad numbers (refusal_in m) n (refused.named low).0 in
    w low many past

pub place_keeps_buffer : (job : Job) (bad : Badness) (numbers place : ℕ) (before : List ℕ) (m : ℤ) (after lent left : List ℕ)
    → PlacePromise job bad numbers place before m after → BufferPromise m lent left
    → ¬ (Passed (first_trials job bad None (length before)) × (buffer_needed (board_of job).pads ≤ numbers)) → left ≡ lent
place_keeps_buffer job bad numbers place before m after lent left p w n =
    let refused = place-refuses job bad numbers place before m after p in
    let low = refused.exactly.1 (λ q. n (by.Places.place_opened (calls_of job bad None) numbers place (length before) q)) in
    let (many, past) = by.Named.place_kept job bad numbers place (length before) (refusal_in m) n (refused.named low).0 in
    w low many past

-- ---- 15, where no layout is untouching (02)

-- First refuses by 15, record 0, exactly if its other trials are passed and no layout is untouching; so do Count and Place, whose trials begin with First's.
pub first_none : (job : Job) (bad : Badness) (work : Work) (before : List ℕ) (m : ℤ) (after : List ℕ) → FirstPromise job bad work before m after
    → (m ≡ refusal_number (refusal 15 0 0)) ↔ (Passed (sound_trials job bad work (length before)) × ((f : ℕ → ℕ) → ¬ Untouching (board_of job) f))
first_none job bad work before m after = by.Named.first_none job bad work before after m

pub count_none : (job : Job) (bad : Badness) (numbers : ℕ) (m : ℤ) → CountPromise job bad numbers m
    → (m ≡ refusal_number (refusal 15 0 0)) ↔ (Passed (sound_trials job bad None (board_of job).pads) × ((f : ℕ → ℕ) → ¬ Untouching (board_of job) f))
count_none = by.Named.count_none

pub place_none : (job : Job) (bad : Badness) (numbers place : ℕ) (before : List ℕ) (m : ℤ) (after : List ℕ) → PlacePromise job bad numbers place before m after
    → (m ≡ refusal_number (refusal 15 0 0)) ↔ (Passed (sound_trials job bad None (length before)) × ((f : ℕ → ℕ) → ¬ Untouching (board_of job) f))
place_none job bad numbers place before m after = by.Named.place_none job bad numbers place before after m

-- Next needs no 15: where 1 to 7 are passed and no layout is untouching it refuses by 8 or 9. So do Page, Measure and Svg.
pub next_none : (job : Job) (bad : Badness) (work : Work) (before : List ℕ) (m : ℤ) (after : List ℕ) → NextPromise job bad work before m after
    → Passed (sound_trials job bad work (length before)) → ((f : ℕ → ℕ) → ¬ Untouching (board_of job) f) → ((refusal_in m).reason ≡ 8) ⊎ ((refusal_in m).reason ≡ 9)
next_none job bad work before m after p sound none =
    let refused = next_refuses job bad work before m after p in
    let low = refused.exactly.1 (λ q. by.Named.not_measured job bad work before sound none (by.Accepted.next_measured job bad work before q)) in
    by.Named.next_none job bad work before sound none (refusal_in m) (refused.named low).0

pub page_none : (job : Job) (bad : Badness) (work : Work) (given before : List ℕ) (m : ℤ) (after : List ℕ) → PagePromise job bad work given before m after
    → Passed (sound_trials job bad work (length given)) → ((f : ℕ → ℕ) → ¬ Untouching (board_of job) f) → ((refusal_in m).reason ≡ 8) ⊎ ((refusal_in m).reason ≡ 9)
page_none job bad work given before m after p sound none =
    let refused = page_refuses job bad work given before m after p in
    let low = refused.exactly.1 (λ q. by.Named.not_measured job bad work given sound none (by.Accepted.next_measured job bad work given q)) in
    by.Named.next_none job bad work given sound none (refusal_in m) (refused.named low).0

pub measure_none : (job : Job) (bad : Badness) (list : List ℕ) (m : ℤ) → MeasurePromise job bad list m
    → Passed (sound_trials job bad None (length list)) → ((f : ℕ → ℕ) → ¬ Untouching (board_of job) f) → ((refusal_in m).reason ≡ 8) ⊎ ((refusal_in m).reason ≡ 9)
measure_none job bad list m p sound none =
    let refused = measure_refuses job bad list m p in
    let low = refused.exactly.1 (by.Named.not_measured job bad None list sound none) in
    by.Named.measure_none job bad None list sound none (refusal_in m) (refused.named low).0

pub svg_none : (job list before : List ℕ) (m : ℤ) (after : List ℕ) → SvgPromise job list before m after
    → Passed (sound_trials (records job) (by_weights 0 0) None (length list)) → ((f : ℕ → ℕ) → ¬ Untouching (board_of (records job)) f)
    → ((refusal_in m).reason ≡ 8) ⊎ ((refusal_in m).reason ≡ 9)
svg_none job list before m after p sound none =
    let refused = svg_refuses job list before m after p in
    let low = refused.exactly.1 (λ q. by.Named.not_measured (records job) (by_weights 0 0) None list sound none (by.Exported.svg_measured job list (length before) q).0) in
    by.Named.svg_none job list (length before) sound none (refusal_in m) (refused.named low).0

-- ---- both records of 9 (02)

-- What 9 finds, on any board, is the first touching pair, and nothing else is.
pub first_pair : (b : Board) (f : ℕ → ℕ) (i j : ℕ) → FirstFault (of_pairs 9 b.pads (Touching b f)) i j ↔ FirstPair b f i j
first_pair = by.Named.first_pair

-- Measure's refusal names one record, or by 9 the first touching pair; so does Next's, and so Page's, whose trials are Next's; and
-- Svg's, by 19 record 0, and it is never 2: Svg is given no weights.
pub measure_names : (job : Job) (bad : Badness) (list : List ℕ) (m : ℤ) → MeasurePromise job bad list m → m ≤ℤ neg_ℤ (pos 65536)
    → Named (board_of job) (held list) (refusal_in m)
measure_names job bad list m p l = by.Named.measure_named job bad None list (refusal_in m) ((measure_refuses job bad list m p).named l).0

pub next_names : (job : Job) (bad : Badness) (work : Work) (before : List ℕ) (m : ℤ) (after : List ℕ) → NextPromise job bad work before m after → m ≤ℤ neg_ℤ (pos 65536)
    → Named (board_of job) (held before) (refusal_in m)
next_names job bad work before m after p l = by.Named.next_named job bad work before (refusal_in m) ((next_refuses job bad work before m after p).named l).0

pub page_names : (job : Job) (bad : Badness) (work : Work) (given before : List ℕ) (m : ℤ) (after : List ℕ) → PagePromise job bad work given before m after → m ≤ℤ neg_ℤ (pos 65536)
    → Named (board_of job) (held given) (refusal_in m)
page_names job bad work given before m after p l = by.Named.next_named job bad work given (refusal_in m) ((page_refuses job bad work given before m after p).named l).0

pub svg_names : (job list before : List ℕ) (m : ℤ) (after : List ℕ) → SvgPromise job list before m after → m ≤ℤ neg_ℤ (pos 65536)
    → Named (board_of (records job)) (held list) (refusal_in m) × ((refusal_in m).reason ≡ 19 → (refusal_in m).at ≡ 0) × ((refusal_in m).reason ≢ 2)
svg_names job list before m after p l =
    let refused = ((svg_refuses job list before m after p).named l).0 in
    let (named, zero) = by.Named.svg_named job list (length before) (refusal_in m) refused in
    (named, zero, by.Named.svg_free job list (length before) (refusal_in m) refused)

-- First, Count, Place and Draw name one record, and Count and Place by 16, 17 and 18 record 0; and of a refusal that names one, C's number is -(65,536 × r + i).
pub first_names : (job : Job) (bad : Badness) (work : Work) (before : List ℕ) (m : ℤ) (after : List ℕ) → FirstPromise job bad work before m after → m ≤ℤ neg_ℤ (pos 65536)
    → Alone (refusal_in m)
first_names job bad work before m after p l = by.Named.first_named job bad work (length before) (refusal_in m) ((first-refuses job bad work before m after p).named l).0

pub count_names : (job : Job) (bad : Badness) (numbers : ℕ) (m : ℤ) → CountPromise job bad numbers m → m ≤ℤ neg_ℤ (pos 65536)
    → Alone (refusal_in m) × ((16 ≤ (refusal_in m).reason) × ((refusal_in m).reason ≤ 18) → (refusal_in m).at ≡ 0)
count_names job bad numbers m p l = by.Named.count_named job bad numbers (refusal_in m) ((count-refuses job bad numbers m p).named l).0

pub place_names : (job : Job) (bad : Badness) (numbers place : ℕ) (before : List ℕ) (m : ℤ) (after : List ℕ) → PlacePromise job bad numbers place before m after
    → m ≤ℤ neg_ℤ (pos 65536) → Alone (refusal_in m) × ((16 ≤ (refusal_in m).reason) × ((refusal_in m).reason ≤ 18) → (refusal_in m).at ≡ 0)
place_names job bad numbers place before m after p l =
    by.Named.place_named job bad numbers place (length before) (refusal_in m) ((place-refuses job bad numbers place before m after p).named l).0

pub draw_names : (job : List ℕ) (i q : ℕ) (before : List Float) (m : ℤ) (after : List Float) → DrawPromise job i q before m after → m ≤ℤ neg_ℤ (pos 65536)
    → Alone (refusal_in m)
draw_names job i q before m after p l = by.Named.draw_named job i q (length before) (refusal_in m) ((draw_refuses job i q before m after p).named l).0

pub alone_number : (r : Refusal) → Alone r → refusal_number r ≡ neg_ℤ (pos (65536 * r.reason + r.at))
alone_number = by.Sizes.alone_number

-- ---- DEMAND 2: each pad has its own port, no leader shares a point with another one or with another pad's square, and no such sheet has a smaller total; total and
-- drawn points are exact

-- First answers t exactly if the input passes and the list then holds the earliest best layout, t its total, the other entries kept.
pub first_answers : (job : Job) (bad : Badness) (work : Work) (before : List ℕ) (t : ℕ) (after : List ℕ)
    → FirstPromise job bad work before (pos t) after
    ↔ (Passed (first_trials job bad work (length before)) × FirstBest (labeling_of job bad) (held after)
    × (t ≡ total (board_of job) (cost_of (board_of job) bad) (held after)) × Kept (board_of job).pads before after)
first_answers job bad work before t after = (by.Numbers.total-told (calls_of job bad work) (numbered job bad work) before after t, λ a. (Ok (Some t), a, refl))

-- Next answers t exactly if it then holds the earliest best layout after the given one, and end (-1) exactly if no best layout comes after it.
pub next_answers : (job : Job) (bad : Badness) (work : Work) (before : List ℕ) (t : ℕ) (after : List ℕ)
    → NextPromise job bad work before (pos t) after
    ↔ (Passed (next_trials job bad work before) × NextBest (labeling_of job bad) (held before) (held after)
    × (t ≡ total (board_of job) (cost_of (board_of job) bad) (held after)) × Kept (board_of job).pads before after)
next_answers job bad work before t after = (by.Numbers.next_total-told (calls_of job bad work) (numbered job bad work) before after t, λ a. (Ok (Some t), a, refl))

pub next_ends : (job : Job) (bad : Badness) (work : Work) (before after : List ℕ)
    → NextPromise job bad work before (negsuc 0) after
    ↔ (Passed (next_trials job bad work before) × LastBest (labeling_of job bad) (held before) × (after ≡ before))
next_ends job bad work before after = (by.Numbers.end_told (calls_of job bad work) (numbered job bad work) before after, λ a. (Ok None, a, refl))

-- Measure answers t exactly if the list holds an untouching layout, best or not, and t is its total.
pub measure_answers : (job : Job) (bad : Badness) (list : List ℕ) (t : ℕ)
    → MeasurePromise job bad list (pos t)
    ↔ (Passed (measure_trials job bad None list) × (t ≡ total (board_of job) (cost_of (board_of job) bad) (held list)))
measure_answers job bad list t = (by.Numbers.measure_told (calls_of job bad None) (numbered job bad None) list t, λ a. (Ok (Some t), a, refl))

-- What is passed: First's exactly if 1 to 7 are and some layout is untouching; 8 and 9 exactly if the list holds one; Next's trials exactly if First's are, and the
-- list holds a best one.
pub first_passed : (job : Job) (bad : Badness) (work : Work) (room : ℕ) → Passed (first_trials job bad work room)
    ↔ (Passed (sound_trials job bad work room) × ((f : ℕ → ℕ) × Untouching (board_of job) f))
first_passed job bad work room = (
  (λ p. (by.Accepted.first_sound job bad work room p, (regular job bad work).exists room p)),
  (λ (p, (f, u)). by.Accepted.first_passed job bad work room p (λ none. none f u)),
)

pub measure_passed : (job : Job) (bad : Badness) (list : List ℕ) → Passed (measure_trials job bad None list)
    ↔ (Passed (sound_trials job bad None (length list)) × Untouching (board_of job) (held list))
measure_passed job bad list = (by.Accepted.measure_accepted job bad None list, λ (p, u). by.Accepted.untouching_passed job bad None list p u)

pub next_passed : (job : Job) (bad : Badness) (work : Work) (list : List ℕ) → Passed (next_trials job bad work list)
    ↔ (Passed (first_trials job bad work (length list)) × Best (labeling_of job bad) (held list))
next_passed job bad work = (regular job bad work).next_is

-- A job that passes 1 to 7, and so every accepted one, has 1 to 64 pads, and as many ports at least, at most 128, their fields in range, pads whose x differ, and ports
-- that rise.
pub accepted_job : (job : Job) (bad : Badness) (work : Work) (room : ℕ) → Passed (sound_trials job bad work room)
    → (0 < (board_of job).pads) × ((board_of job).pads ≤ 64) × ((board_of job).ports ≤ 128) × Proper (board_of job)
    × ((i : ℕ) → i < (board_of job).pads
    → (name_of (pads_of job) i ≢ 0) × ((board_of job).half i ≤ 2000) × (1 ≤ (board_of job).x i) × ((board_of job).x i ≤ 1000000) × (nat_abs ((board_of job).y i) ≤ 1000000))
    × ((q : ℕ) → q < (board_of job).ports → nat_abs ((board_of job).port q) ≤ 1000000)
accepted_job job bad work room p =
    let a = (by.Accepted.sound_accepted job bad work room p).0 in
    (a.some, a.few, a.slots_few, a.proper, (λ i l. (a.named i l, a.half i l, a.right i l, a.width i l, a.pad i l)), a.port)

-- In every such job a name stands for one pad: no two are equal, and none is 0 (02).
pub names_differ : (job : Job) (bad : Badness) (work : Work) (room : ℕ) → Passed (sound_trials job bad work room)
    → (i j : ℕ) → j < i → i < (board_of job).pads → name_of (pads_of job) i ≢ name_of (pads_of job) j
names_differ job bad work room p = (by.Accepted.sound_accepted job bad work room p).0.names_differ

-- In every such job each port is at least 8 above those before it (02), so that ports rise.
pub ports_apart : (job : Job) (bad : Badness) (work : Work) (room : ℕ) → Passed (sound_trials job bad work room)
    → (a c : ℕ) → a < c → c < (board_of job).ports → ((board_of job).port a +ℤ pos 8) ≤ℤ (board_of job).port c
ports_apart job bad work room p = (by.Accepted.sound_accepted job bad work room p).0.spaced

-- In a layout each port number stands exactly once, and where each does, that is a layout (with as many ports as pads, as in records).
pub each_port_once : (b : Board) (f : ℕ → ℕ) → b.ports ≡ b.pads → Layout b f ↔ EachOnce b f
each_port_once = by.Boards.layout_iff

-- Leaders that share any point of the plane share a whole one; and they do exactly as 01's criterion says.
pub touch_plane : (line : Line) (l m : Leader) → l.x ≢ m.x → TouchIn line l m ↔ Touch l m
touch_plane = by.Plane.touch_plane

pub touch_criterion : (l m : Leader) → m.x < l.x → Touch l m ↔ Between l.port m.y m.port
touch_criterion = by.Touching.touch_iff

-- A leader and a square that share any point of the plane share a whole one. They do exactly if the arm comes as far right as the square, at a height of it, or the hand is
-- at an x of it and has a height of it; and the code's test, `meets` of laws/Tests, says the same.
pub meets_plane : (line : Line) (l : Leader) (s : Square) → MeetsIn line l s ↔ Meets l s
meets_plane = by.Plane.meets_plane

pub meets_criterion : (l : Leader) (s : Square) → Meets l s
    ↔ (((s.x ≤ l.x + s.half) × (distance l.port s.y ≤ s.half))
    ⊎ ((distance (pos l.x) (pos s.x) ≤ s.half) × ((z : ℤ) × Between z l.y l.port × (distance z s.y ≤ s.half))))
meets_criterion = by.Squares.meets_criterion

pub meets_iff : (l : Leader) (s : Square) → T (meets l s) ↔ Meets l s
meets_iff = by.Squares.meets_iff

-- Records whose half-sides are 0 touch exactly if their leaders do: 01's rule.
pub points_touch : (b : Board) (f : ℕ → ℕ) (i j : ℕ) → b.half i ≡ 0 → b.half j ≡ 0 → Touching b f i j ↔ LeadersTouch b f i j
points_touch = by.Squares.points_iff

-- By weights the total is (length weight × sum of lengths) + (bend weight × sum of bends); a leader has no bend exactly if its pad is at its port's height; and a
-- total is at most 192,000,064,000. By a table of figures of 32 bits it is at most 64 times the largest, 274,877,906,880. C's number has 63 bits for it.
pub total_is : (b : Board) (lw bw : ℕ) (f : ℕ → ℕ)
    → total b (weighted b lw bw) f ≡ lw * sum b.pads (λ i. length_of (leader b i (f i))) + bw * sum b.pads (λ i. bends_of (leader b i (f i)))
total_is = by.Totals.total_is

pub no_bend : (l : Leader) → (bends_of l ≡ 0) ↔ (l.y ≡ l.port)
no_bend = by.Totals.bends_iff

pub total_bound : (job : Job) (lw bw : ℕ) (list : List ℕ) → Passed (measure_trials job (by_weights lw bw) None list)
    → total (board_of job) (weighted (board_of job) lw bw) (held list) ≤ 192000064000
total_bound job lw bw list p =
    let (accepted, fair, room) = by.Accepted.measure_facts job (by_weights lw bw) None list p in
    by.Accepted.accepted_bound accepted lw bw fair.0 fair.1 (held list) (by.Accepted.measure_accepted job (by_weights lw bw) None list p).1.layout

pub table_bound : (job : Job) (figures list : List ℕ) → ((k : ℕ) → get_or figures k 0 < 4294967296) → Passed (measure_trials job (by_table figures) None list)
    → total (board_of job) (figure (board_of job) figures) (held list) ≤ 274877906880
table_bound job figures list narrow p = by.Bounds.measure_bounded job (by_table figures) None narrow list (Ok (Some _)) (p, refl)

-- So is each number that First, Next, Place and Measure by such a table give to C.
pub first_bound : (job : Job) (figures : List ℕ) (work : Work) (before : List ℕ) (t : ℕ) (after : List ℕ) → ((k : ℕ) → get_or figures k 0 < 4294967296)
    → FirstPromise job (by_table figures) work before (pos t) after → t ≤ 274877906880
first_bound job figures work before t after narrow p =
    by.Bounds.first_bounded job (by_table figures) work narrow before (Ok (Some t)) after ((first_answers job (by_table figures) work before t after).0 p)

pub next_bound : (job : Job) (figures : List ℕ) (work : Work) (before : List ℕ) (t : ℕ) (after : List ℕ) → ((k : ℕ) → get_or figures k 0 < 4294967296)
    → NextPromise job (by_table figures) work before (pos t) after → t ≤ 274877906880
next_bound job figures work before t after narrow p =
    by.Bounds.next_bounded job (by_table figures) work narrow before (Ok (Some t)) after ((next_answers job (by_table figures) work before t after).0 p)

pub place_bound : (job : Job) (figures : List ℕ) (numbers place : ℕ) (before : List ℕ) (t : ℕ) (after : List ℕ) → ((k : ℕ) → get_or figures k 0 < 4294967296)
    → PlacePromise job (by_table figures) numbers place before (pos t) after → t ≤ 274877906880
place_bound job figures numbers place before t after narrow p =
    by.Bounds.place_bounded job (by_table figures) narrow numbers place before (Ok (Some t)) after
    (by.Numbers.place-told (calls_of job (by_table figures) None) (numbered job (by_table figures) None) numbers place before after t p)

pub measure_bound : (job : Job) (figures list : List ℕ) (t : ℕ) → ((k : ℕ) → get_or figures k 0 < 4294967296)
    → MeasurePromise job (by_table figures) list (pos t) → t ≤ 274877906880
measure_bound job figures list t narrow p =
    by.Bounds.measure_bounded job (by_table figures) None narrow list (Ok (Some t)) ((measure_answers job (by_table figures) list t).0 p)

-- Draw answers 2 exactly if the first four places then hold the two points of a leader without a bend, and 3 exactly if the six hold the three of one with a bend.
pub draw_straight : (job : List ℕ) (i q : ℕ) (before after : List Float)
    → DrawPromise job i q before (pos 2) after
    ↔ ((a : Point) × (c : Point) × (Passed (draw_trials job i q (length before)) × DrawnStraight (leader (board_of (records job)) i q) a c
    × (after ≡ overwritten (coordinates (Ok (Straight a c))) before)))
draw_straight job i q before after = (by.Numbers.straight_told job i q before after, λ (a, c, d). (Ok (Straight a c), d, refl))

pub draw_bent : (job : List ℕ) (i q : ℕ) (before after : List Float)
    → DrawPromise job i q before (pos 3) after
    ↔ ((a : Point) × (b : Point) × (c : Point) × (Passed (draw_trials job i q (length before)) × DrawnBent (leader (board_of (records job)) i q) a b c
    × (after ≡ overwritten (coordinates (Ok (Bent a b c))) before)))
draw_bent job i q before after = (by.Numbers.bent_told job i q before after, λ (a, b, c, d). (Ok (Bent a b c), d, refl))

-- They fill the first places of the list, and the places after those keep their content. So do the bytes of a text, and of records.
pub drawn_places : {A : Type 0} (cs before : List A) (k : ℕ) (d : A)
    → (k < length cs → get_or (overwritten cs before) k d ≡ get_or cs k d) × (length cs ≤ k → get_or (overwritten cs before) k d ≡ get_or before k d)
drawn_places = by.Drawn.overwritten_is

-- Four times a drawn number, in 32-bit floats, is the whole number that it stands for; and no other float stands for it.
pub four_times : (a : Float) (v : ℤ) → FourTimesIs a v → mul binary32 a (fin false 1 (pos 2)) ≡ of_int binary32 v
four_times a v = by.Quarter.four_times_mul {a = a} v

pub drawn_once : (a b : Float) (v : ℤ) → FourTimesIs a v → FourTimesIs b v → a ≡ b
drawn_once a b v = by.Quarter.four_times_one {a = a} {b = b} v

-- A drawn zero is positive zero.
pub drawn_zero : (a : Float) → FourTimesIs a (pos 0) → a ≡ fin false 0 (pos 0)
drawn_zero a = by.Quarter.zero_positive {a = a}

-- With both weights 0, or all figures equal, every untouching layout is best; and every job that passes 1 to 7, and whose half-sides are all 0, has one.
pub zero_weights : (b : Board) (f : ℕ → ℕ) → Untouching b f → Best (labeling b (weighted b 0 0)) f
zero_weights = by.Boards.zero_weights

pub equal_figures : (b : Board) (figures : List ℕ) (c : ℕ) → ((i q : ℕ) → i < b.pads → q < b.ports → figure b figures i q ≡ c)
    → (f : ℕ → ℕ) → Untouching b f → Best (labeling b (figure b figures)) f
equal_figures b figures = by.Boards.equal_costs b (figure b figures)

pub untouching_exists : (job : Job) (bad : Badness) (work : Work) (room : ℕ) → Points (board_of job) → Passed (sound_trials job bad work room)
    → (f : ℕ → ℕ) × Untouching (board_of job) f
untouching_exists job bad work room points p = by.Existence.points_exist (board_of job) (by.Accepted.sound_accepted job bad work room p).0.proper points

-- ---- DEMAND 3: the first sheet and then the next until the end gives every best sheet, each exactly once, in order, and no other; the end comes

-- The order is one: no layout comes before itself, what is before is before all that follows, and of two layouts one is before the other or they are the same.
pub before_irrefl : (b : Board) (f : ℕ → ℕ) → ¬ Before b f f
before_irrefl = by.Order.before_irrefl

pub before_trans : (b : Board) → Differ b → (f g h : ℕ → ℕ) → Before b f g → Before b g h → Before b f h
before_trans = by.Order.before_trans

pub before-total : (b : Board) (f g : ℕ → ℕ) → Before b f g ⊎ Same b f g ⊎ Before b g f
before-total = by.Order.before-total

-- For every job that First accepts and pair of weights, or table, in the words of Runs.
pub demand_3 : (job : Job) (bad : Badness) (work : Work) (list : List ℕ) → Passed (first_trials job bad work (length list)) → Demand3 (calls_of job bad work) list
demand_3 job bad work list = by.Demand.demand_3 (calls_of job bad work) (regular job bad work) list

-- Whoever asks on from any list that Next accepts comes to the end.
pub asking_ends : (job : Job) (bad : Badness) (work : Work) (list : List ℕ) → Passed (next_trials job bad work list) → (ls : List (List ℕ)) × NextRun (calls_of job bad work) list ls
asking_ends job bad work = by.Demand.next_ends (calls_of job bad work) (regular job bad work)

-- ---- a page by Next (02)

-- What Page replies, refusals too, is what that many calls of Next give, and nothing else is.
pub page_by_next : (job : Job) (bad : Badness) (work : Work) (given before : List ℕ) (m : ℤ) (after : List ℕ)
    → PagePromise job bad work given before m after ↔ PageByNext (calls_of job bad work) given before m after
page_by_next job bad work = by.ByNext.page_by_next (calls_of job bad work) (regular job bad work)

-- Who goes on from the last layout of a page loses no layout and meets none twice.
pub paged_on : (job : Job) (bad : Badness) (work : Work) (given before : List ℕ) (ms : List (List ℕ)) (k : ℕ) (after : List ℕ)
    → NextRun (calls_of job bad work) given ms → PagePromise job bad work given before (pos k) after → PagedOn (calls_of job bad work) given before ms k after
paged_on job bad work = by.ByNext.paged_on (calls_of job bad work) (regular job bad work)

-- ---- how many, and a place (02)

-- Count answers k exactly if its trials are passed and there are k best layouts: one more than the last place. It is 1 to 1,000,000,000,000,000,000.
pub count_answers : (job : Job) (bad : Badness) (numbers k : ℕ) → CountPromise job bad numbers (pos k)
    ↔ (Passed (count_trials (calls_of job bad None) numbers) × CountBest (labeling_of job bad) k)
count_answers job bad numbers k = (by.Numbers.count-told (calls_of job bad None) (numbered job bad None) numbers k, λ a. (Ok k, a, refl))

pub count_bound : (job : Job) (bad : Badness) (numbers k : ℕ) → CountPromise job bad numbers (pos k) → (0 < k) × (k ≤ 1000000000000000000)
count_bound job bad numbers k p =
    let (passed, is) = (count_answers job bad numbers k).0 p in
    (by.Places.count_some (labeling_of job bad) k is, by.Places.count_few (calls_of job bad None) numbers k passed is)

-- It takes no list and no place: it never refuses by 3 or by 17.
pub count-free : (job : Job) (bad : Badness) (numbers : ℕ) (m : ℤ) → CountPromise job bad numbers m → m ≤ℤ neg_ℤ (pos 65536)
    → ((refusal_in m).reason ≢ 3) × ((refusal_in m).reason ≢ 17)
count-free job bad numbers m p l = by.Named.count-free job bad numbers (refusal_in m) ((count-refuses job bad numbers m p).named l).0

-- Place answers t exactly if its trials are passed and the list then holds the layout at that place, t its total, the other entries kept.
pub place_answers : (job : Job) (bad : Badness) (numbers place : ℕ) (before : List ℕ) (t : ℕ) (after : List ℕ)
    → PlacePromise job bad numbers place before (pos t) after
    ↔ (Passed (place_trials (calls_of job bad None) numbers place (length before)) × PlaceBest (labeling_of job bad) place (held after)
    × (t ≡ total (board_of job) (cost_of (board_of job) bad) (held after)) × Kept (board_of job).pads before after)
place_answers job bad numbers place before t after =
    (by.Numbers.place-told (calls_of job bad None) (numbered job bad None) numbers place before after t, λ a. (Ok (Some t), a, refl))

-- Place k answers what First followed by k calls of Next answers, from the same list, and leaves what they leave; and so place 0 is First's.
pub place_by_next : (job : Job) (bad : Badness) (numbers place : ℕ) (before : List ℕ) (t : ℕ) (after : List ℕ)
    → PlacePromise job bad numbers place before (pos t) after
    ↔ (Passed (place_trials (calls_of job bad None) numbers place (length before)) × AskedTo (calls_of job bad None) before place (pos t) after)
place_by_next job bad numbers place before t after = by.ByNext.place_by_next (calls_of job bad None) (regular job bad None) before numbers place t after

pub place-first : (job : Job) (bad : Badness) (numbers : ℕ) (before : List ℕ) (t : ℕ) (after : List ℕ)
    → PlacePromise job bad numbers 0 before (pos t) after
    ↔ (Passed (place_trials (calls_of job bad None) numbers 0 (length before)) × FirstPromise job bad None before (pos t) after)
place-first job bad numbers = place_by_next job bad numbers 0

-- The count is how many lists First and then Next until the end leave, and Place k answers with the layout of the one at k.
pub count_of_run : (job : Job) (bad : Badness) (numbers k : ℕ) (list : List ℕ) (ls : List (List ℕ))
    → CountPromise job bad numbers (pos k) → Run (calls_of job bad None) list ls → k ≡ length ls
count_of_run job bad numbers k list ls p r =
    by.Places.count_one (labeling_of job bad) k (length ls) ((count_answers job bad numbers k).0 p).1
    (by.ByNext.run_count (calls_of job bad None) (regular job bad None) list ls r)

pub place_of_run : (job : Job) (bad : Badness) (numbers place : ℕ) (before : List ℕ) (t : ℕ) (after list : List ℕ) (ls : List (List ℕ))
    → PlacePromise job bad numbers place before (pos t) after → Run (calls_of job bad None) list ls
    → (place < length ls) × Same (board_of job) (held after) (held (get_or ls place []))
place_of_run job bad numbers place before t after list ls p r =
    let at = ((place_answers job bad numbers place before t after).0 p).1 in
    let count = by.ByNext.run_count (calls_of job bad None) (regular job bad None) list ls r in
    let below = by.Places.place-below (labeling_of job bad) (length ls) place (held after) count at in
    let run = by.ByNext.run_place (calls_of job bad None) (regular job bad None) list ls r place below in
    (below, by.Places.place_one (labeling_of job bad) place (held after) (held (get_or ls place [])) at run)

-- Where Count answers k, every best layout has a place below k, its rank among them, and no other; places rise in 01's order; and with that buffer and room for a
-- layout Place accepts exactly the places below k.
pub every_best_has_a_place : (job : Job) (bad : Badness) (numbers k : ℕ) (f : ℕ → ℕ) → CountPromise job bad numbers (pos k) → Best (labeling_of job bad) f
    → (place : ℕ) × (place < k) × PlaceBest (labeling_of job bad) place f × ((other : ℕ) → PlaceBest (labeling_of job bad) other f → other ≡ place)
every_best_has_a_place job bad numbers k f p best =
    let (passed, is) = (count_answers job bad numbers k).0 p in
    let S = (regular job bad None).searchable (board_of job).pads (by.Places.count_opened (calls_of job bad None) numbers passed).0 in
    by.Places.only_place (labeling_of job bad) S.differ S.steady k is f best

pub places_rise : (job : Job) (bad : Badness) (numbers k : ℕ) → CountPromise job bad numbers (pos k)
    → (i j : ℕ) (f g : ℕ → ℕ) → i < j → PlaceBest (labeling_of job bad) i f → PlaceBest (labeling_of job bad) j g → Before (board_of job) f g
places_rise job bad numbers k p =
    let first = (by.Places.count_opened (calls_of job bad None) numbers ((count_answers job bad numbers k).0 p).0).0 in
    by.Places.place-before (labeling_of job bad) ((regular job bad None).searchable (board_of job).pads first).differ

pub place_accepts : (job : Job) (bad : Badness) (numbers k : ℕ) → CountPromise job bad numbers (pos k) → (place room : ℕ) → (board_of job).pads ≤ room
    → Passed (place_trials (calls_of job bad None) numbers place room) ↔ (place < k)
place_accepts job bad numbers k p =
    let (passed, is) = (count_answers job bad numbers k).0 p in
    by.Places.place_accepts (calls_of job bad None) numbers k passed is (regular job bad None)

-- Count refuses by 18, record 0, exactly if First's trials are passed and the buffer is too short, and by 16 exactly if it is not and there are more best layouts than
-- 1,000,000,000,000,000,000; so does Place, and by 17 exactly if there are no more, and the place is at or past their number.
pub count_too_short : (job : Job) (bad : Badness) (numbers : ℕ) (m : ℤ) → CountPromise job bad numbers m
    → (m ≡ refusal_number (refusal 18 0 0)) ↔ (Passed (first_trials job bad None (board_of job).pads) × (numbers < buffer_needed (board_of job).pads))
count_too_short = by.Named.count_too_short

pub count_too_many : (job : Job) (bad : Badness) (numbers : ℕ) (m : ℤ) → CountPromise job bad numbers m
    → (m ≡ refusal_number (refusal 16 0 0))
    ↔ (Passed (first_trials job bad None (board_of job).pads) × (buffer_needed (board_of job).pads ≤ numbers) × TooMany (labeling_of job bad))
count_too_many = by.Named.count_too_many

pub place_too_short : (job : Job) (bad : Badness) (numbers place : ℕ) (before : List ℕ) (m : ℤ) (after : List ℕ) → PlacePromise job bad numbers place before m after
    → (m ≡ refusal_number (refusal 18 0 0)) ↔ (Passed (first_trials job bad None (length before)) × (numbers < buffer_needed (board_of job).pads))
place_too_short job bad numbers place before m after = by.Named.place_too_short job bad numbers place before after m

pub place_too_many : (job : Job) (bad : Badness) (numbers place : ℕ) (before : List ℕ) (m : ℤ) (after : List ℕ) → PlacePromise job bad numbers place before m after
    → (m ≡ refusal_number (refusal 16 0 0))
    ↔ (Passed (first_trials job bad None (length before)) × (buffer_needed (board_of job).pads ≤ numbers) × TooMany (labeling_of job bad))
place_too_many job bad numbers place before m after = by.Named.place_too_many job bad numbers place before after m

pub place_past_count : (job : Job) (bad : Badness) (numbers place : ℕ) (before : List ℕ) (m : ℤ) (after : List ℕ) → PlacePromise job bad numbers place before m after
    → (m ≡ refusal_number (refusal 17 0 0))
    ↔ (Passed (first_trials job bad None (length before)) × (buffer_needed (board_of job).pads ≤ numbers)
    × (¬ TooMany (labeling_of job bad)) × PastCount (labeling_of job bad) place)
place_past_count job bad numbers place before m after = by.Named.place_past_count job bad numbers place before after m

-- ---- straightening costs no length (02, No. 5)

-- For half-sides 0 and bend weight 0 no layout at all, touching or not, has a smaller total than First answers; nor than a best one, on any board with enough ports.
pub straightening_costs_no_length : (job : Job) → Points (board_of job) → (lw : ℕ) (work : Work) → CostsNothing job (by_weights lw 0) work
straightening_costs_no_length = by.Shortest.straightening_costs_no_length

pub best_of_all : (b : Board) → Proper b → Points b → (lw : ℕ) (f : ℕ → ℕ) → Best (labeling b (weighted b lw 0)) f
    → LeastOfAll b (weighted b lw 0) (total b (weighted b lw 0) f)
best_of_all = by.Shortest.best_of_all

-- With a bend weight it can cost: an example, for every length weight. And with a table, and with a square.
pub bends_can_cost : BendsCanCost
bends_can_cost = by.Shortest.bends_can_cost

pub tables_can_cost : TablesCanCost
tables_can_cost = by.Shortest.tables_can_cost

pub squares_can_cost : SquaresCanCost
squares_can_cost = by.Shortest.squares_can_cost

-- ---- on points the promises are 01's (02)

-- Of a job whose half-sides are all 0 First replies as where only leaders touch, and no job is refused by 15; so do Next, Page, Count, Place and Measure.
pub first_on_points : (job : Job) (bad : Badness) (work : Work) → Points (board_of job) → (before : List ℕ) (m : ℤ) (after : List ℕ)
    → FirstPromise job bad work before m after ↔ FirstReplies (point_calls_of job bad work) before m after
first_on_points job bad work points = by.OnPoints.first_on_points job bad points work

pub next_on_points : (job : Job) (bad : Badness) (work : Work) → Points (board_of job) → (before : List ℕ) (m : ℤ) (after : List ℕ)
    → NextPromise job bad work before m after ↔ NextReplies (point_calls_of job bad work) before m after
next_on_points job bad work points = by.OnPoints.next_on_points job bad points work

pub page_on_points : (job : Job) (bad : Badness) (work : Work) → Points (board_of job) → (given before : List ℕ) (m : ℤ) (after : List ℕ)
    → PagePromise job bad work given before m after ↔ PageReplies (point_calls_of job bad work) given before m after
page_on_points job bad work points = by.OnPoints.page_on_points job bad points work

pub count_on_points : (job : Job) (bad : Badness) → Points (board_of job) → (numbers : ℕ) (m : ℤ)
    → CountPromise job bad numbers m ↔ CountReplies (point_calls_of job bad None) numbers m
count_on_points job bad points = by.OnPoints.count_on_points job bad points None

pub place_on_points : (job : Job) (bad : Badness) → Points (board_of job) → (numbers place : ℕ) (before : List ℕ) (m : ℤ) (after : List ℕ)
    → PlacePromise job bad numbers place before m after ↔ PlaceReplies (point_calls_of job bad None) numbers place before m after
place_on_points job bad points = by.OnPoints.place_on_points job bad points None

pub measure_on_points : (job : Job) (bad : Badness) → Points (board_of job) → (list : List ℕ) (m : ℤ)
    → MeasurePromise job bad list m ↔ MeasureReplies (point_calls_of job bad None) list m
measure_on_points job bad points = by.OnPoints.measure_on_points job bad points None

-- ---- the weighted calls are the table of weighted lengths and bends (02)

-- By weights that are not refused First replies as by their table, and the other way round; so do Next, Page, Count, Place and Measure.
pub first_by_table : (job : Job) (lw bw : ℕ) (figures : List ℕ) → lw ≤ 1000 → bw ≤ 1000 → TableOf (board_of job) (weighted (board_of job) lw bw) figures
    → (work : Work) (before : List ℕ) (m : ℤ) (after : List ℕ) → FirstPromise job (by_weights lw bw) work before m after ↔ FirstPromise job (by_table figures) work before m after
first_by_table = by.Alike.first_by_table

pub next_by_table : (job : Job) (lw bw : ℕ) (figures : List ℕ) → lw ≤ 1000 → bw ≤ 1000 → TableOf (board_of job) (weighted (board_of job) lw bw) figures
    → (work : Work) (before : List ℕ) (m : ℤ) (after : List ℕ) → NextPromise job (by_weights lw bw) work before m after ↔ NextPromise job (by_table figures) work before m after
next_by_table = by.Alike.next_by_table

pub page_by_table : (job : Job) (lw bw : ℕ) (figures : List ℕ) → lw ≤ 1000 → bw ≤ 1000 → TableOf (board_of job) (weighted (board_of job) lw bw) figures
    → (work : Work) (given before : List ℕ) (m : ℤ) (after : List ℕ) → PagePromise job (by_weights lw bw) work given before m after ↔ PagePromise job (by_table figures) work given before m after
page_by_table = by.Alike.page_by_table

pub count_by_table : (job : Job) (lw bw : ℕ) (figures : List ℕ) → lw ≤ 1000 → bw ≤ 1000 → TableOf (board_of job) (weighted (board_of job) lw bw) figures
    → (numbers : ℕ) (m : ℤ) → CountPromise job (by_weights lw bw) numbers m ↔ CountPromise job (by_table figures) numbers m
count_by_table = by.Alike.count_by_table

pub place_by_table : (job : Job) (lw bw : ℕ) (figures : List ℕ) → lw ≤ 1000 → bw ≤ 1000 → TableOf (board_of job) (weighted (board_of job) lw bw) figures
    → (numbers place : ℕ) (before : List ℕ) (m : ℤ) (after : List ℕ)
    → PlacePromise job (by_weights lw bw) numbers place before m after ↔ PlacePromise job (by_table figures) numbers place before m after
place_by_table = by.Alike.place_by_table

pub measure_by_table : (job : Job) (lw bw : ℕ) (figures : List ℕ) → lw ≤ 1000 → bw ≤ 1000 → TableOf (board_of job) (weighted (board_of job) lw bw) figures
    → (list : List ℕ) (m : ℤ) → MeasurePromise job (by_weights lw bw) list m ↔ MeasurePromise job (by_table figures) list m
measure_by_table = by.Alike.measure_by_table

-- There is such a table, and its figures have 32 bits in every job that passes 1 to 7.
pub weighted_table : (b : Board) (lw bw : ℕ) → (figures : List ℕ) × TableOf b (weighted b lw bw) figures
weighted_table b lw bw = by.Alike.table_of b (weighted b lw bw)

pub weighted-fits : (job : Job) (lw bw : ℕ) (work : Work) (room : ℕ) → Passed (sound_trials job (by_weights lw bw) work room)
    → (i q : ℕ) → i < (board_of job).pads → q < (board_of job).ports → weighted (board_of job) lw bw i q < 4294967296
weighted-fits job lw bw work room p =
    let (accepted, fair, _) = by.Accepted.sound_accepted job (by_weights lw bw) work room p in
    by.Accepted.weighted_narrow accepted lw bw fair.0 fair.1

-- ---- export to SVG (02)

-- Svg answers k exactly if its trials are passed, and the first k bytes then hold the layout's text, the bytes after it kept. They are passed exactly if Measure's are and
-- the text fits; a layout has one text.
pub svg_answers : (job list before : List ℕ) (k : ℕ) (after : List ℕ) → SvgPromise job list before (pos k) after
    ↔ (Passed (svg_trials job list (length before))
    × ((s : List ℕ) × (SheetWritten (board_of (records job)) (held list) s × (k ≡ length s)) × (after ≡ overwritten s before)))
svg_answers job list before k after =
    (by.Numbers.fill_told (svg_trials job list (length before)) (by.Numbers.svg_small job list (length before)) (SvgFills job list) before after k, λ a. (Ok k, a, refl))

pub svg_passed : (job list : List ℕ) (room : ℕ) → Passed (svg_trials job list room)
    ↔ (Passed (measure_trials (records job) (by_weights 0 0) None list) × ((s : List ℕ) × SheetWritten (board_of (records job)) (held list) s × (length s ≤ room)))
svg_passed = by.Exported.svg_passed

pub one_text : (b : Board) (f : ℕ → ℕ) (s t : List ℕ) → SheetWritten b f s → SheetWritten b f t → s ≡ t
one_text = by.Texts.sheet_one

-- By 19 it refuses exactly if Measure's are passed and the text is too long. It answers at most 76 bytes for each record, and so 4,864; with room for 76 a record, or
-- for 4,864, it never refuses by 19.
pub svg_too_long : (job list before : List ℕ) (m : ℤ) (after : List ℕ) → SvgPromise job list before m after
    → (m ≡ refusal_number (refusal 19 0 0)) ↔ (Passed (measure_trials (records job) (by_weights 0 0) None list) × TooLong (board_of (records job)) (held list) (length before))
svg_too_long job list before m after = by.Named.svg_too_long job list before after m

pub svg_bound : (job list before : List ℕ) (k : ℕ) (after : List ℕ) → SvgPromise job list before (pos k) after → (k ≤ 76 * count job) × (k ≤ 4864)
svg_bound job list before k after p = by.Bounds.svg_bound job list before k after ((svg_answers job list before k after).0 p)

pub svg_enough : (job list before : List ℕ) (m : ℤ) (after : List ℕ) → SvgPromise job list before m after → 76 * count job ≤ length before
    → m ≢ refusal_number (refusal 19 0 0)
svg_enough job list before m after p h e = by.Exported.svg_enough job list (length before) h ((svg_too_long job list before m after p).0 e)

pub svg_roomy : (job list before : List ℕ) (m : ℤ) (after : List ℕ) → SvgPromise job list before m after → 4864 ≤ length before → m ≢ refusal_number (refusal 19 0 0)
svg_roomy job list before m after p h e = by.Exported.svg_roomy job list (length before) h ((svg_too_long job list before m after p).0 e)

-- The text determines the points. Line i, read back, is what Draw answers for record i and its port: how many points, and their coordinates. Any two drawn answers
-- that have one line are equal; cut at its newlines a text has a piece for each record, and one more.
pub svg_reads : (job list before : List ℕ) (k : ℕ) (after : List ℕ) → SvgPromise job list before (pos k) after → (i : ℕ) → i < count job
    → (room : List Float) (m : ℤ) (points : List Float) → 6 ≤ length room → DrawPromise job i (held list i) room m points
    → let read = read_line (line_at (take k after) i) in (m ≡ pos (length read / 2)) × (points ≡ overwritten read room)
svg_reads job list before k after p = by.Reading.svg_reads job list before k after ((svg_answers job list before k after).0 p)

pub line_reads : (d : Drawn) (s : List ℕ) → LineWritten d s → read_line s ≡ coordinates d
line_reads = by.Reading.line_read

pub line_one : (d e : Drawn) (s : List ℕ) → LineWritten d s → LineWritten e s → d ≡ e
line_one = by.Reading.line_one

pub number_reads : (a : Float) (s : List ℕ) → Written a s → read_number s ≡ a
number_reads = by.Reading.number_read

pub lines_many : (b : Board) (f : ℕ → ℕ) (s : List ℕ) → SheetWritten b f s → length (cut (eqb 10) s) ≡ suc b.pads
lines_many = by.Reading.lines_many

-- 02's rules of a number: a digit stands before any point, no zero ends the part after it, a whole number has no point, and -0 is never written.
pub digit_first : ((n : ℕ) → Begins (numeral (pos n))) × ((n : ℕ) → (s : List ℕ) × (numeral (negsuc n) ≡ bytes "-" ++ s) × Begins s)
digit_first = by.Reading.digit_first

pub ends_well : (v : ℤ) (s t r : List ℕ) → numeral v ≡ s ++ bytes "." ++ t → numeral v ≢ r ++ bytes "0"
ends_well = by.Reading.ends_well

pub no_point : (v : ℤ) (s t : List ℕ) → nat_abs v % 4 ≡ 0 → numeral v ≢ s ++ bytes "." ++ t
no_point = by.Reading.no_point

pub no_minus_zero : (v : ℤ) → numeral v ≢ bytes "-0"
no_minus_zero = by.Reading.no_minus_zero

pub numerals : (numeral (pos 0) ≡ bytes "0") × (numeral (pos 1) ≡ bytes "0.25") × (numeral (pos 2) ≡ bytes "0.5") × (numeral (pos 3) ≡ bytes "0.75")
    × (numeral (pos 30) ≡ bytes "7.5") × (numeral (negsuc 29) ≡ bytes "-7.5") × (numeral (pos 40) ≡ bytes "10")
    × (numeral (negsuc 999998) ≡ bytes "-249999.75") × (numeral (pos 1000000) ≡ bytes "250000")
numerals = by.Reading.numerals

-- ---- import of lists (02)

-- The reading is unique. A text has one division into lines, and a line of three fields says one thing, also where its fields are quoted and hold commas and quotes;
pub one_division : (text : List ℕ) → ((l : List ℕ) × (ls : List (List ℕ)) × Lines text (l ∷ ls)) × ((ls ms : List (List ℕ)) → Lines text ls → Lines text ms → ls ≡ ms)
one_division text = (by.Lines.lines_exist text, by.Lines.lines_one text)

pub one_saying : (line a b c a' b' c' : List ℕ) → Fields line a b c → Fields line a' b' c' → (a ≡ a') × (b ≡ b') × (c ≡ c')
one_saying = by.Lines.fields_one

-- so two lists of pads read from one text are equal. A text reads as pads or has a first bad line, and not both.
pub one_reading : (text : List ℕ) (ps qs : List Pad) → ReadsAs text ps → ReadsAs text qs → ps ≡ qs
one_reading = by.Lines.reads_one

pub readable_or_bad : (text : List ℕ) → ((pads : List Pad) × ReadsAs text pads) ⊎ ((i : ℕ) × Smallest (BadLine text) i)
readable_or_bad = by.Readable.readable_or_bad

pub not_readable_and_bad : (text : List ℕ) (pads : List Pad) (i : ℕ) → ReadsAs text pads → ¬ BadLine text i
not_readable_and_bad text pads i reads = by.Lines.reads_good text pads reads i

pub one_first_bad : (text : List ℕ) (i j : ℕ) → Smallest (BadLine text) i → Smallest (BadLine text) j → i ≡ j
one_first_bad text = by.Trials.smallest_one (BadLine text)

-- ReadCsv answers k exactly if its trials are passed, and the first bytes then hold the records of the k pads, the bytes after them kept. They are passed exactly if
-- the text is short enough and reads as valid pads; k is from 1 to 64.
pub csv_answers : (text before : List ℕ) (k : ℕ) (after : List ℕ) → CsvPromise text before (pos k) after
    ↔ (Passed (csv_trials text (length before)) × ((s : List ℕ) × CsvFills text s k × (after ≡ overwritten s before)))
csv_answers text before k after =
    (by.Numbers.fill_told (csv_trials text (length before)) (by.Numbers.csv_small text (length before)) (CsvFills text) before after k, λ a. (Ok k, a, refl))

pub csv_passed : (text : List ℕ) (room : ℕ) → Passed (csv_trials text room) ↔ ((length text ≤ 16384) × ReadWith text (λ pads. ValidPads pads room))
csv_passed = by.Readable.csv_passed

pub csv_bound : (text before : List ℕ) (k : ℕ) (after : List ℕ) → CsvPromise text before (pos k) after → (1 ≤ k) × (k ≤ 64)
csv_bound text before k after p = by.Bounds.csv_bound text before k after ((csv_answers text before k after).0 p)

-- It refuses by 20 exactly if the text is too long, and by 21 with line i exactly if it is not and i is its first bad line. A text that reads as pads and is not too long it
-- refuses as the pads are: by 1, 22, 4, 6 or 7. So a number out of range is 4, however long it is.
pub csv_too_long : (text before : List ℕ) (m : ℤ) (after : List ℕ) → CsvPromise text before m after → (m ≡ refusal_number (refusal 20 0 0)) ↔ (16384 < length text)
csv_too_long text before m after p =
    Iff.trans (by.Numbers.refuses_iff (csv_trials text (length before)) (after ≡ before) m (refusal 20 0 0) (omega arith) (csv_refuses text before m after p))
    (by.Readable.csv_20 text (length before))

pub csv_bad_line : (text before : List ℕ) (m : ℤ) (after : List ℕ) → CsvPromise text before m after → (i : ℕ) → i < 65536
    → (m ≡ refusal_number (refusal 21 i 0)) ↔ ((length text ≤ 16384) × Smallest (BadLine text) i)
csv_bad_line text before m after p i h =
    Iff.trans (by.Numbers.refuses_iff (csv_trials text (length before)) (after ≡ before) m (refusal 21 i 0) (omega arith) (csv_refuses text before m after p))
    (by.Readable.csv_21 text (length before) i)

pub csv_as_pads : (text before : List ℕ) (m : ℤ) (after : List ℕ) → CsvPromise text before m after → (pads : List Pad) → ReadsAs text pads → length text ≤ 16384
    → RefusesBy (list_trials pads (length before)) m (after ≡ before)
csv_as_pads text before m after p pads reads short =
    by.Readable.csv_as_pads text pads (length before) short reads m (after ≡ before) (csv_refuses text before m after p)

-- A list written by the plain rule reads as its pads, whatever their numbers, with the last line's end or without. Written from valid pads it is answered with their
-- records; and so it is written from records: 1 to 64 of them, that pass 1, 4, 6 and 7 of the slots calls, with half-sides 0.
pub plain_reads : (pads : List Pad) → ReadsAs (plain_text pads) pads × ((text : List ℕ) → text ++ crlf ≡ plain_text pads → ReadsAs text pads)
plain_reads pads = (by.Written.plain_reads pads, by.Written.plain_reads_on pads)

pub round_trip : (pads : List Pad) (before : List ℕ) → ValidPads pads (length before)
    → CsvPromise (plain_text pads) before (pos (length pads)) (overwritten (records_of pads) before)
round_trip pads before v = (Ok (length pads), by.Readable.round_trip pads before v, refl)

pub records_round_trip : (l before : List ℕ) → ((k : ℕ) → k < length l → get_or l k 0 < 256) → Passed (pad_trials l) → ((i : ℕ) → i < count l → half_of l i ≡ 0)
    → length l ≤ length before → CsvPromise (plain_text (pads_in l)) before (pos (count l)) (overwritten l before)
records_round_trip l before bytes passed points fits = (Ok (count l), by.Readable.records_trip l before bytes passed points fits, refl)

-- What was read is a pad list for the slots calls: it passes 1, 4, 6 and 7, half-sides are 0, and SlotsFirst accepts it exactly if its other trials, those of the ports, the
-- weights and the room, are passed: 15 never comes.
pub read_pads_pass : (text before : List ℕ) (k : ℕ) (after : List ℕ) → CsvPromise text before (pos k) after
    → let pads = take (16 * k) after in (count pads ≡ k) × Passed (pad_trials pads) × ((i : ℕ) → i < k → half_of pads i ≡ 0)
read_pads_pass text before k after p = by.Readable.read_pads_pass text before k after ((csv_answers text before k after).0 p)

pub slots_take_them : (text before : List ℕ) (k : ℕ) (after : List ℕ) → CsvPromise text before (pos k) after
    → (ports : List ℕ) (bad : Badness) (work : Work) (room : ℕ)
    → let pads = take (16 * k) after in Passed (first_trials (slots pads ports) bad work room) ↔ Passed (strip_trials pads ports bad work room)
slots_take_them text before k after p = by.Readable.slots_take_them text before k after ((csv_answers text before k after).0 p)

-- ---- the worked sheets

-- The fields of a record, byte by byte: offsets, little-endian, two's complement.
pub fields_read : (count sample ≡ 2) × (name_of sample 1 ≡ 513) × (half_of sample 1 ≡ 1027) × (x_of sample 1 ≡ 134678021)
    × (y_of sample 1 ≡ neg_ℤ (pos 1)) × (last_of sample 1 ≡ 2147483648) × (port_of Records sample 1 ≡ neg_ℤ (pos 2147483648))
    × (port_count Slots sample ≡ 8) × (port_of Slots sample 7 ≡ neg_ℤ (pos 2147483648)) × (twos 2147483647 ≡ pos 2147483647)
fields_read = by.Vectors.fields_read

-- P1 to P12, and those of 02 for 12, for both records of 9, by tables, on slots and with squares, are replies that the promises allow; so are Page's nine, Count's two,
-- Place's six, Svg's seven and ReadCsv's twenty-seven.
pub worked : Each Allowed sheets
worked = by.Worked.worked

pub worked_pages : Each PageAllowed pages
worked_pages = by.Worked.worked_pages

pub worked_counts : Each CountAllowed count_sheets
worked_counts = by.Worked.worked_counts

pub worked_places : Each PlaceAllowed place_sheets
worked_places = by.Worked.worked_places

pub worked_svg : Each SvgAllowed svg_sheets
worked_svg = by.Worked.worked_svg

pub worked_csv : Each CsvAllowed csv_sheets
worked_csv = by.Worked.worked_csv
