-- DEFINITIONS. 01, "Sheets worked by hand": the jobs as bytes, and the sheets P1 to P12, each with its call, its input and its whole reply.
-- After P10 stands Measure's sheet for "its total is 85"; after P12, four for refusal 12, two for names of 0, four for both records of 9, those of tables, those of slots, and
-- those of squares. Page has its own list, and so have Count, Place, Svg and ReadCsv.
use Rattle.std.specs.Prelude.{◌≡◌, List, [], ◌∷◌, ◌++◌, ℕ, replicate, Some, None, Ok, Err}
use Rattle.paper.specs.Answers.{Work, Answer, Counted}
use Rattle.paper.specs.Job.{Job, records, slots, bytes4, square_and_port}
use Rattle.paper.specs.Layouts.{Badness, by_weights, by_table}
use Rattle.paper.specs.Refusals.{refusal}
use Rattle.paper.specs.Promises.{number, counted_number, FirstPromise, NextPromise, PagePromise, MeasurePromise, CountPromise, PlacePromise, SvgPromise, CsvPromise}
use Rattle.text.specs.Text.{bytes}
use Rattle.paper.specs.Csv.{crlf, ended}

-- A record whose pad is a point.
abbrev pub pad_and_port : ℕ → ℕ → ℕ → ℕ → List ℕ
pad_and_port name x y port = square_and_port name 0 x y port

-- Two records. All bytes of the second one differ, but for its heights: -1, and the lowest that 32 bits hold.
abbrev pub sample : List ℕ
sample =
    pad_and_port 9 9 9 9 ++
    (1 ∷ 2 ∷ 3 ∷ 4 ∷ 5 ∷ 6 ∷ 7 ∷ 8 ∷ 255 ∷ 255 ∷ 255 ∷ 255 ∷ 0 ∷ 0 ∷ 0 ∷ 128 ∷ [])

abbrev pub J1 : List ℕ
J1 = pad_and_port 101 5 3 3

abbrev pub J2 : List ℕ
J2 = pad_and_port 101 10 0 10 ++ pad_and_port 102 20 30 20

abbrev pub J3 : List ℕ
J3 = pad_and_port 101 10 15 10 ++ pad_and_port 102 20 15 20

abbrev pub J4 : List ℕ
J4 = pad_and_port 101 10 15 10 ++ pad_and_port 102 20 60 20

abbrev pub J5 : List ℕ
J5 = pad_and_port 101 10 10 0 ++ pad_and_port 102 20 20 10 ++ pad_and_port 103 30 30 20

-- Led to ports 1, 3, 2 and 0, record 3 touches 0, and 2 touches 1: the smaller of 3 and 2 counts.
abbrev pub two_pairs : List ℕ
two_pairs = pad_and_port 101 10 0 0 ++ pad_and_port 102 20 15 10 ++ pad_and_port 103 30 20 20 ++ pad_and_port 104 40 5 30

-- The pad of record 1 is as high as port 1. Led there it has no bend, and its arm crosses the hand of record 0, which goes down to port 0. Led the other way
-- the leaders do not touch. And a table by which the leaders that touch cost nothing, and the others 1 each.
abbrev pub level_pad : List ℕ
level_pad = pad_and_port 101 10 20 0 ++ pad_and_port 102 20 10 10

abbrev pub crossing_pays : List ℕ
crossing_pays = 0 ∷ 1 ∷ 1 ∷ 0 ∷ []

-- Ports 4 above and 6 below the pad of record 0: with a half-side of 4 the arm of record 1 meets its square at the upper port, with 3 at none. And the same records
-- the other way round, so that the square is the later record's.
abbrev pub copper : ℕ → List ℕ
copper half = square_and_port 101 half 10 16 10 ++ pad_and_port 102 20 60 20

abbrev pub copper_later : ℕ → List ℕ
copper_later half = pad_and_port 101 20 60 10 ++ square_and_port 102 half 10 16 20

-- Of the second form: a pad's record, and port heights.
abbrev pub pad : ℕ → ℕ → ℕ → List ℕ
pad name x y = pad_and_port name x y 0

abbrev pub heights : List ℕ → List ℕ
heights [] = []
heights (h ∷ hs) = bytes4 h ++ heights hs

-- A pad between two of three ports; two pads, of which the third port is best for the second.
abbrev pub one_pad : List ℕ
one_pad = pad 101 10 15

abbrev pub three_ports : List ℕ
three_ports = heights (0 ∷ 10 ∷ 20 ∷ [])

abbrev pub two_pads : List ℕ
two_pads = pad 101 10 0 ++ pad 102 20 30

-- A sheet: call, job, weights or table, the work list's length, the list at entry, the answer, the list at exit.
pub data Call : Type 0 where
  First Next Measure : Call

pub record Sheet : Type 0 where
  pub call : Call
  pub job : Job
  pub bad : Badness
  pub work : Work
  pub before : List ℕ
  pub answer : Answer
  pub after : List ℕ

abbrev pub AllowedBy : Call → Sheet → Type 0
AllowedBy First s = FirstPromise s.job s.bad s.work s.before (number s.answer) s.after
AllowedBy Next s = NextPromise s.job s.bad s.work s.before (number s.answer) s.after
AllowedBy Measure s = MeasurePromise s.job s.bad s.before (number s.answer) × (s.after ≡ s.before)

-- The call's promise allows this reply.
abbrev pub Allowed : Sheet → Type 0
Allowed s = AllowedBy s.call s

-- P holds of each of these sheets.
abbrev pub Each : {S : Type 0} → (S → Type 0) → List S → Type 0
Each P [] = Unit {0}
Each P (s ∷ ss) = P s × Each P ss

abbrev pub sheet : Call → List ℕ → ℕ → ℕ → List ℕ → Answer → List ℕ → Sheet
sheet call bytes lw bw before answer after =
    record { call = call; job = records bytes; bad = by_weights lw bw; work = None; before = before; answer = answer; after = after }

abbrev pub table_sheet : Call → List ℕ → List ℕ → List ℕ → Answer → List ℕ → Sheet
table_sheet call bytes figures before answer after =
    record { call = call; job = records bytes; bad = by_table figures; work = None; before = before; answer = answer; after = after }

-- of the second form, with a work list of so many numbers
abbrev pub slot_sheet : Call → List ℕ → List ℕ → ℕ → ℕ → ℕ → List ℕ → Answer → List ℕ → Sheet
slot_sheet call pads ports lw bw numbers before answer after =
    record { call = call; job = slots pads ports; bad = by_weights lw bw; work = Some numbers; before = before; answer = answer; after = after }

abbrev pub refused : ℕ → ℕ → Answer
refused r i = Err (refusal r i 0)

-- refusal 9 with the two records
abbrev pub refused_pair : ℕ → ℕ → Answer
refused_pair i j = Err (refusal 9 i j)

-- J3 with a third pad and a third port: (1 2 0), (1 0 2) and (0 1 2) are best.
abbrev pub J3plus : List ℕ
J3plus = J3 ++ pad_and_port 103 30 15 30

abbrev pub sheets : List Sheet
sheets =
    sheet First J1 1 0 (9 ∷ []) (Ok (Some 5)) (0 ∷ []) ∷  -- P1
    sheet First J1 0 1 (9 ∷ []) (Ok (Some 0)) (0 ∷ []) ∷  -- P2
    sheet First J2 1 0 (9 ∷ 9 ∷ []) (Ok (Some 50)) (0 ∷ 1 ∷ []) ∷  -- P3
    sheet Next J2 1 0 (1 ∷ 0 ∷ []) (refused_pair 1 0) (1 ∷ 0 ∷ []) ∷  -- P4
    sheet First J3 1 0 (9 ∷ 9 ∷ []) (Ok (Some 40)) (1 ∷ 0 ∷ []) ∷  -- P5
    sheet Next J3 1 0 (1 ∷ 0 ∷ []) (Ok (Some 40)) (0 ∷ 1 ∷ []) ∷  -- P6
    sheet Next J3 1 0 (0 ∷ 1 ∷ []) (Ok None) (0 ∷ 1 ∷ []) ∷  -- P7
    sheet Next J3 1 0 (0 ∷ 0 ∷ []) (refused 8 1) (0 ∷ 0 ∷ []) ∷  -- P8
    sheet First J4 1 0 (9 ∷ 9 ∷ []) (Ok (Some 75)) (0 ∷ 1 ∷ []) ∷  -- P9
    sheet Next J4 1 0 (1 ∷ 0 ∷ []) (refused 10 0) (1 ∷ 0 ∷ []) ∷  -- P10
    sheet Measure J4 1 0 (1 ∷ 0 ∷ []) (Ok (Some 85)) (1 ∷ 0 ∷ []) ∷  -- P10: its total is 85
    sheet First J5 2 3 (9 ∷ 9 ∷ 9 ∷ []) (Ok (Some 183)) (1 ∷ 2 ∷ 0 ∷ []) ∷  -- P11
    sheet Measure J5 1 0 (0 ∷ 1 ∷ 2 ∷ []) (refused_pair 1 0) (0 ∷ 1 ∷ 2 ∷ []) ∷  -- P12
    sheet First (pad_and_port 101 10 0 10 ++ pad_and_port 102 20 30 18) 1 0 (9 ∷ 9 ∷ []) (Ok (Some 52)) (0 ∷ 1 ∷ []) ∷  -- 12
    sheet First (pad_and_port 101 10 0 10 ++ pad_and_port 102 20 30 17) 1 0 (9 ∷ 9 ∷ []) (refused 12 1) (9 ∷ 9 ∷ []) ∷  -- 12
    sheet First (pad_and_port 101 10 0 10 ++ pad_and_port 102 20 30 17 ++ pad_and_port 103 30 40 17) 1 0 (9 ∷ 9 ∷ 9 ∷ []) (refused 5 2) (9 ∷ 9 ∷ 9 ∷ []) ∷  -- 5 before 12
    sheet First (pad_and_port 101 10 0 10 ++ pad_and_port 102 20 30 17 ++ pad_and_port 101 30 40 30) 1 0 (9 ∷ 9 ∷ 9 ∷ []) (refused 12 1) (9 ∷ 9 ∷ 9 ∷ []) ∷  -- 12 before 6
    sheet First (pad_and_port 101 10 0 10 ++ pad_and_port 0 20 30 20) 1 0 (9 ∷ 9 ∷ []) (refused 4 1) (9 ∷ 9 ∷ []) ∷  -- 0 is no name
    sheet Measure (pad_and_port 0 10 0 10 ++ pad_and_port 0 20 30 10) 1 0 (0 ∷ 1 ∷ []) (refused 4 0) (0 ∷ 1 ∷ []) ∷  -- 4 before 5, and not 6
    sheet Measure J5 1 0 (1 ∷ 0 ∷ 2 ∷ []) (refused_pair 2 1) (1 ∷ 0 ∷ 2 ∷ []) ∷  -- 9
    sheet Measure J5 1 0 (2 ∷ 0 ∷ 1 ∷ []) (refused_pair 2 0) (2 ∷ 0 ∷ 1 ∷ []) ∷  -- 9
    sheet Next two_pairs 1 0 (1 ∷ 3 ∷ 2 ∷ 0 ∷ []) (refused_pair 2 1) (1 ∷ 3 ∷ 2 ∷ 0 ∷ []) ∷  -- 9
    sheet Measure (pad_and_port 101 30 30 0 ++ pad_and_port 102 20 20 10 ++ pad_and_port 103 10 10 20) 1 0 (0 ∷ 1 ∷ 2 ∷ []) (refused_pair 2 1) (0 ∷ 1 ∷ 2 ∷ []) ∷  -- 9
    table_sheet First J1 (4294967295 ∷ []) (9 ∷ []) (Ok (Some 4294967295)) (0 ∷ []) ∷  -- the largest figure
    table_sheet First J3plus (5 ∷ 1 ∷ 5 ∷ 5 ∷ 5 ∷ 1 ∷ 1 ∷ 5 ∷ 5 ∷ []) (9 ∷ 9 ∷ 9 ∷ []) (Ok (Some 3)) (1 ∷ 2 ∷ 0 ∷ []) ∷  -- pad by pad, ports rising
    table_sheet Measure J3plus (1 ∷ 2 ∷ 4 ∷ 8 ∷ 16 ∷ 32 ∷ 64 ∷ 128 ∷ 256 ∷ []) (1 ∷ 2 ∷ 0 ∷ []) (Ok (Some 98)) (1 ∷ 2 ∷ 0 ∷ []) ∷  -- 2 + 32 + 64
    table_sheet Next J3 (7 ∷ 7 ∷ 7 ∷ 7 ∷ []) (1 ∷ 0 ∷ []) (Ok (Some 14)) (0 ∷ 1 ∷ []) ∷
    table_sheet Next J3 (7 ∷ 7 ∷ 7 ∷ 7 ∷ []) (0 ∷ 1 ∷ []) (Ok None) (0 ∷ 1 ∷ []) ∷
    table_sheet Next J3 (1 ∷ 2 ∷ 3 ∷ 1 ∷ []) (1 ∷ 0 ∷ []) (refused 10 0) (1 ∷ 0 ∷ []) ∷  -- 5 and not 2
    table_sheet First level_pad crossing_pays (9 ∷ 9 ∷ []) (Ok (Some 2)) (1 ∷ 0 ∷ []) ∷  -- though the figures of (0 1) are 0:
    table_sheet Measure level_pad crossing_pays (0 ∷ 1 ∷ []) (refused_pair 1 0) (0 ∷ 1 ∷ []) ∷  -- its leaders touch
    table_sheet First [] [] [] (refused 1 0) [] ∷  -- 1 before 13
    table_sheet First J3 (1 ∷ 1 ∷ 1 ∷ []) (9 ∷ []) (refused 13 0) (9 ∷ []) ∷  -- 13 before 3
    table_sheet First J3 (1 ∷ 1 ∷ 1 ∷ 1 ∷ 1 ∷ []) (9 ∷ 9 ∷ []) (refused 13 0) (9 ∷ 9 ∷ []) ∷  -- longer
    table_sheet First J3 (1 ∷ 1 ∷ 1 ∷ 1 ∷ []) (9 ∷ []) (refused 3 0) (9 ∷ []) ∷
    slot_sheet First one_pad three_ports 1 0 100 (9 ∷ 9 ∷ []) (Ok (Some 15)) (1 ∷ 9 ∷ []) ∷  -- two ports stay free
    slot_sheet Next one_pad three_ports 1 0 100 (1 ∷ []) (Ok (Some 15)) (2 ∷ []) ∷
    slot_sheet Next one_pad three_ports 1 0 100 (2 ∷ []) (Ok None) (2 ∷ []) ∷
    slot_sheet Next one_pad three_ports 1 0 100 (0 ∷ []) (refused 10 0) (0 ∷ []) ∷
    slot_sheet Measure one_pad three_ports 1 0 0 (0 ∷ []) (Ok (Some 25)) (0 ∷ []) ∷  -- Measure is lent no work list
    slot_sheet Measure one_pad three_ports 1 0 0 (3 ∷ []) (refused 8 0) (3 ∷ []) ∷  -- the port count or more
    slot_sheet First two_pads (heights (10 ∷ 20 ∷ 30 ∷ [])) 1 0 150 (9 ∷ 9 ∷ []) (Ok (Some 40)) (0 ∷ 2 ∷ []) ∷
    slot_sheet Next two_pads (heights (10 ∷ 20 ∷ 30 ∷ [])) 1 0 150 (1 ∷ 0 ∷ []) (refused_pair 1 0) (1 ∷ 0 ∷ []) ∷
    slot_sheet First two_pads (0 ∷ 0 ∷ 0 ∷ 0 ∷ 0 ∷ []) 1001 0 0 (9 ∷ []) (refused 1 0) (9 ∷ []) ∷  -- the port list's 1 before 2
    slot_sheet First two_pads (heights (10 ∷ [])) 1 0 0 (9 ∷ []) (refused 3 0) (9 ∷ []) ∷  -- 3 before 14
    slot_sheet First two_pads (heights (10 ∷ [])) 1 0 0 (9 ∷ 9 ∷ []) (refused 14 0) (9 ∷ 9 ∷ []) ∷  -- 14 before 24
    slot_sheet First (pad 101 0 15) three_ports 1 0 99 (9 ∷ []) (refused 24 0) (9 ∷ []) ∷  -- 24 before 4
    slot_sheet First (pad 101 0 15) three_ports 1 0 100 (9 ∷ []) (refused 4 0) (9 ∷ []) ∷
    slot_sheet First (pad 0 10 15) three_ports 1 0 100 (9 ∷ []) (refused 4 0) (9 ∷ []) ∷  -- 0 is no name
    slot_sheet First (pad_and_port 101 10 15 1) three_ports 1 0 100 (9 ∷ []) (refused 4 0) (9 ∷ []) ∷  -- the last field is 0
    slot_sheet First (pad 101 10 0 ++ pad 102 0 30) (heights (1000001 ∷ 20 ∷ [])) 1 0 96 (9 ∷ 9 ∷ []) (refused 4 1) (9 ∷ 9 ∷ []) ∷  -- pads before ports
    slot_sheet First one_pad (heights (0 ∷ 10 ∷ 1000001 ∷ [])) 1 0 100 (9 ∷ []) (refused 4 2) (9 ∷ []) ∷  -- the port's number
    slot_sheet First one_pad (heights (0 ∷ 10 ∷ 10 ∷ [])) 1 0 100 (9 ∷ []) (refused 5 2) (9 ∷ []) ∷
    slot_sheet First one_pad (heights (0 ∷ 10 ∷ 17 ∷ [])) 1 0 100 (9 ∷ []) (refused 12 2) (9 ∷ []) ∷
    sheet First (copper 3) 1 0 (9 ∷ 9 ∷ []) (Ok (Some 76)) (0 ∷ 1 ∷ []) ∷  -- just not met
    sheet First (copper 4) 1 0 (9 ∷ 9 ∷ []) (Ok (Some 84)) (1 ∷ 0 ∷ []) ∷  -- an edge is met
    sheet Next (copper 4) 1 0 (1 ∷ 0 ∷ []) (Ok None) (1 ∷ 0 ∷ []) ∷
    sheet Measure (copper 4) 1 0 (0 ∷ 1 ∷ []) (refused_pair 1 0) (0 ∷ 1 ∷ []) ∷  -- the earlier record's square,
    sheet Measure (copper_later 4) 1 0 (1 ∷ 0 ∷ []) (refused_pair 1 0) (1 ∷ 0 ∷ []) ∷  -- and the later one's
    sheet First (copper_later 4) 1 0 (9 ∷ 9 ∷ []) (Ok (Some 84)) (0 ∷ 1 ∷ []) ∷
    sheet First (copper 6) 1 0 (9 ∷ 9 ∷ []) (refused 15 0) (9 ∷ 9 ∷ []) ∷  -- both arms meet it
    sheet Next (copper 6) 1 0 (1 ∷ 0 ∷ []) (refused_pair 1 0) (1 ∷ 0 ∷ []) ∷  -- 9, and no 15
    sheet Measure (copper 6) 1 0 (1 ∷ 1 ∷ []) (refused 8 1) (1 ∷ 1 ∷ []) ∷
    sheet First (square_and_port 101 4 10 16 10 ++ pad_and_port 102 14 60 20) 1 0 (9 ∷ 9 ∷ []) (refused 15 0) (9 ∷ 9 ∷ []) ∷  -- the hand runs along a side, or meets a corner
    sheet First (square_and_port 101 4 10 16 10 ++ pad_and_port 102 15 60 20) 1 0 (9 ∷ 9 ∷ []) (Ok (Some 79)) (1 ∷ 0 ∷ []) ∷  -- and beside it
    sheet First (square_and_port 101 10 12 16 10 ++ pad_and_port 102 1 60 20) 1 0 (9 ∷ 9 ∷ []) (Ok (Some 59)) (0 ∷ 1 ∷ []) ∷  -- a pad left of the square
    sheet First (square_and_port 101 11 12 16 10 ++ pad_and_port 102 1 20 20) 1 0 (9 ∷ 9 ∷ []) (refused 15 0) (9 ∷ 9 ∷ []) ∷  -- a pad in the square
    sheet First (square_and_port 101 2000 5 3 3) 1 0 (9 ∷ []) (Ok (Some 5)) (0 ∷ []) ∷  -- its own square, over its port
    sheet First (square_and_port 101 2001 5 3 3) 1 0 (9 ∷ []) (refused 4 0) (9 ∷ []) ∷
    table_sheet First (copper 4) (0 ∷ 9 ∷ 9 ∷ 0 ∷ []) (9 ∷ 9 ∷ []) (Ok (Some 18)) (1 ∷ 0 ∷ []) ∷
    table_sheet First (copper 6) (0 ∷ 0 ∷ 0 ∷ 0 ∷ []) (9 ∷ 9 ∷ []) (refused 15 0) (9 ∷ 9 ∷ []) ∷
    slot_sheet First (square_and_port 101 4 10 16 0 ++ pad 102 20 60) (heights (10 ∷ 20 ∷ 30 ∷ [])) 1 0 150 (9 ∷ 9 ∷ []) (Ok (Some 64)) (1 ∷ 2 ∷ []) ∷
    slot_sheet First (square_and_port 101 14 10 16 0 ++ pad 102 20 60) (heights (10 ∷ 20 ∷ 30 ∷ [])) 1 0 150 (9 ∷ 9 ∷ []) (refused 15 0) (9 ∷ 9 ∷ []) ∷
    slot_sheet Next (square_and_port 101 4 10 16 0 ++ pad 102 20 60) (heights (10 ∷ 20 ∷ 30 ∷ [])) 1 0 150 (0 ∷ 1 ∷ []) (refused_pair 1 0) (0 ∷ 1 ∷ []) ∷
    []

-- ---- Page

-- Its sheet: job, weights, the given layout, the page at entry, the answer, the page at exit.
pub record PageSheet : Type 0 where
  pub job : Job
  pub bad : Badness
  pub given : List ℕ
  pub before : List ℕ
  pub answer : Counted
  pub after : List ℕ

abbrev pub PageAllowed : PageSheet → Type 0
PageAllowed s = PagePromise s.job s.bad None s.given s.before (counted_number s.answer) s.after

abbrev pub page_sheet : List ℕ → ℕ → ℕ → List ℕ → List ℕ → Counted → List ℕ → PageSheet
page_sheet bytes lw bw given before answer after = record { job = records bytes; bad = by_weights lw bw; given = given; before = before; answer = answer; after = after }

abbrev pub page_refused : ℕ → ℕ → Counted
page_refused r i = Err (refusal r i 0)

-- In this order: fewer than fit, where the end comes; none after the last; no room for one; as many as fit; two; a refusal; a refusal without room;
-- both records of 9; a square that is met.
abbrev pub pages : List PageSheet
pages =
    page_sheet J3 1 0 (1 ∷ 0 ∷ []) (9 ∷ 9 ∷ 9 ∷ 9 ∷ 9 ∷ []) (Ok 1) (0 ∷ 1 ∷ 9 ∷ 9 ∷ 9 ∷ []) ∷
    page_sheet J3 1 0 (0 ∷ 1 ∷ []) (9 ∷ 9 ∷ 9 ∷ 9 ∷ 9 ∷ []) (Ok 0) (9 ∷ 9 ∷ 9 ∷ 9 ∷ 9 ∷ []) ∷
    page_sheet J3 1 0 (1 ∷ 0 ∷ []) (9 ∷ []) (Ok 0) (9 ∷ []) ∷
    page_sheet J3plus 1 0 (1 ∷ 2 ∷ 0 ∷ []) (9 ∷ 9 ∷ 9 ∷ 9 ∷ 9 ∷ []) (Ok 1) (1 ∷ 0 ∷ 2 ∷ 9 ∷ 9 ∷ []) ∷
    page_sheet J3plus 1 0 (1 ∷ 2 ∷ 0 ∷ []) (9 ∷ 9 ∷ 9 ∷ 9 ∷ 9 ∷ 9 ∷ 9 ∷ []) (Ok 2) (1 ∷ 0 ∷ 2 ∷ 0 ∷ 1 ∷ 2 ∷ 9 ∷ []) ∷
    page_sheet J3 1 0 (0 ∷ 0 ∷ []) (9 ∷ 9 ∷ 9 ∷ 9 ∷ 9 ∷ []) (page_refused 8 1) (9 ∷ 9 ∷ 9 ∷ 9 ∷ 9 ∷ []) ∷
    page_sheet J4 1 0 (1 ∷ 0 ∷ []) [] (page_refused 10 0) [] ∷
    page_sheet J5 1 0 (1 ∷ 0 ∷ 2 ∷ []) (9 ∷ 9 ∷ 9 ∷ []) (Err (refusal 9 2 1)) (9 ∷ 9 ∷ 9 ∷ []) ∷
    page_sheet (copper 4) 1 0 (0 ∷ 1 ∷ []) (9 ∷ 9 ∷ []) (Err (refusal 9 1 0)) (9 ∷ 9 ∷ []) ∷
    []

-- ---- Count and Place

-- Sheets of J3plus by weights 1 and 0. Count's: the buffer's length and the answer; Place's: the buffer's length, the place, the list at entry, the answer, the list at exit.
pub record CountSheet : Type 0 where
  pub numbers : ℕ
  pub answer : Counted

pub record PlaceSheet : Type 0 where
  pub numbers : ℕ
  pub place : ℕ
  pub before : List ℕ
  pub answer : Answer
  pub after : List ℕ

abbrev pub CountAllowed : CountSheet → Type 0
CountAllowed s = CountPromise (records J3plus) (by_weights 1 0) s.numbers (counted_number s.answer)

abbrev pub PlaceAllowed : PlaceSheet → Type 0
PlaceAllowed s = PlacePromise (records J3plus) (by_weights 1 0) s.numbers s.place s.before (number s.answer) s.after

abbrev pub count_sheet : ℕ → Counted → CountSheet
count_sheet numbers answer = record { numbers = numbers; answer = answer }

abbrev pub place_sheet : ℕ → ℕ → List ℕ → Answer → List ℕ → PlaceSheet
place_sheet numbers place before answer after = record { numbers = numbers; place = place; before = before; answer = answer; after = after }

abbrev pub count_sheets : List CountSheet
count_sheets =
    count_sheet 50 (Ok 3) ∷
    count_sheet 49 (Err (refusal 18 0 0)) ∷
    []

-- The first place, the one after it and the last; at the count; 18 before 17; 3 before 18.
abbrev pub place_sheets : List PlaceSheet
place_sheets =
    place_sheet 50 0 (9 ∷ 9 ∷ 9 ∷ []) (Ok (Some 85)) (1 ∷ 2 ∷ 0 ∷ []) ∷
    place_sheet 50 1 (9 ∷ 9 ∷ 9 ∷ []) (Ok (Some 85)) (1 ∷ 0 ∷ 2 ∷ []) ∷
    place_sheet 51 2 (9 ∷ 9 ∷ 9 ∷ 9 ∷ []) (Ok (Some 85)) (0 ∷ 1 ∷ 2 ∷ 9 ∷ []) ∷
    place_sheet 50 3 (9 ∷ 9 ∷ 9 ∷ []) (refused 17 0) (9 ∷ 9 ∷ 9 ∷ []) ∷
    place_sheet 49 3 (9 ∷ 9 ∷ 9 ∷ []) (refused 18 0) (9 ∷ 9 ∷ 9 ∷ []) ∷
    place_sheet 49 0 (9 ∷ 9 ∷ []) (refused 3 0) (9 ∷ 9 ∷ []) ∷
    []

-- ---- Svg

-- Its sheet: job, layout, the bytes at entry, the answer, the bytes at exit.
pub record SvgSheet : Type 0 where
  pub job : List ℕ
  pub list : List ℕ
  pub before : List ℕ
  pub answer : Counted
  pub after : List ℕ

abbrev pub SvgAllowed : SvgSheet → Type 0
SvgAllowed s = SvgPromise s.job s.list s.before (counted_number s.answer) s.after

abbrev pub svg_sheet : List ℕ → List ℕ → List ℕ → Counted → List ℕ → SvgSheet
svg_sheet job list before answer after = record { job = job; list = list; before = before; answer = answer; after = after }

-- J5's three lines: two straight leaders, and 02's example.
abbrev pub J5lines : List ℕ
J5lines = bytes "<polyline points=\"2.5,-2.5 0,-2.5\"/>\n<polyline points=\"5,-5 0,-5\"/>\n<polyline points=\"7.5,-7.5 7.5,0 0,0\"/>\n"

-- In this order: room for just that; a byte more, which is kept; a byte less; quarters, and heights below 0; no room; 9 before 19; a layout that is too short.
abbrev pub svg_sheets : List SvgSheet
svg_sheets =
    svg_sheet J5 (1 ∷ 2 ∷ 0 ∷ []) (replicate 108 9) (Ok 108) J5lines ∷
    svg_sheet J5 (1 ∷ 2 ∷ 0 ∷ []) (replicate 109 9) (Ok 108) (J5lines ++ (9 ∷ [])) ∷
    svg_sheet J5 (1 ∷ 2 ∷ 0 ∷ []) (replicate 107 9) (Err (refusal 19 0 0)) (replicate 107 9) ∷
    svg_sheet (pad_and_port 101 5 4294967293 3) (0 ∷ []) (replicate 52 9) (Ok 50) (bytes "<polyline points=\"1.25,0.75 1.25,-0.75 0,-0.75\"/>\n" ++ (9 ∷ 9 ∷ [])) ∷
    svg_sheet J1 (0 ∷ []) [] (Err (refusal 19 0 0)) [] ∷
    svg_sheet J5 (1 ∷ 0 ∷ 2 ∷ []) [] (Err (refusal 9 2 1)) [] ∷
    svg_sheet J5 (1 ∷ 2 ∷ []) (replicate 108 9) (Err (refusal 3 0 0)) (replicate 108 9) ∷
    []

-- ---- ReadCsv

-- Its sheet: the text, the bytes at entry, the answer, the bytes at exit.
pub record CsvSheet : Type 0 where
  pub text : List ℕ
  pub before : List ℕ
  pub answer : Counted
  pub after : List ℕ

abbrev pub CsvAllowed : CsvSheet → Type 0
CsvAllowed s = CsvPromise s.text s.before (counted_number s.answer) s.after

abbrev pub csv_sheet : List ℕ → List ℕ → Counted → List ℕ → CsvSheet
csv_sheet text before answer after = record { text = text; before = before; answer = answer; after = after }

-- A list that is refused, with room for two pads.
abbrev pub refused_list : List ℕ → ℕ → ℕ → CsvSheet
refused_list text r i = csv_sheet text (replicate 32 9) (Err (refusal r i 0)) (replicate 32 9)

abbrev pub header : List ℕ
header = bytes "name,x,y"

-- In this order. Accepted: two pads, and the bytes after them kept; quotes and a height below 0, the last line without its end; the largest numbers.
-- 21: an empty text; LF alone; CR alone at the end; CR twice before LF; a line within quotes that goes on; an empty line; an empty field; a leading zero; -0; a minus in x; a
-- plus; a blank; a quote in a number; a field more; the first of two bad lines. 1: a first line alone, with its end and without. 22 before 4. 4: a name of 0; x of 1,000,001; a
-- number of 20 digits; a name above 65,535. 6; 7.
abbrev pub csv_sheets : List CsvSheet
csv_sheets =
    csv_sheet (ended (header ∷ bytes "101,10,0" ∷ bytes "102,20,30" ∷ [])) (replicate 40 9) (Ok 2) (pad 101 10 0 ++ pad 102 20 30 ++ replicate 8 9) ∷
    csv_sheet (ended (bytes "\"name\",x,\"y\"" ∷ []) ++ bytes "\"101\",10,\"-3\"") (replicate 16 9) (Ok 1) (pad 101 10 4294967293) ∷
    csv_sheet (ended (header ∷ bytes "65535,1000000,-1000000" ∷ [])) (replicate 16 9) (Ok 1) (pad 65535 1000000 4293967296) ∷
    refused_list [] 21 1 ∷
    refused_list (header ++ (10 ∷ []) ++ bytes "101,10,0") 21 1 ∷
    refused_list (ended (header ∷ []) ++ bytes "101,10,0" ++ (13 ∷ [])) 21 2 ∷
    refused_list (header ++ (13 ∷ []) ++ crlf ++ bytes "101,10,0") 21 1 ∷
    refused_list (ended (header ∷ bytes "\"101" ∷ bytes "\",10,0" ∷ [])) 21 2 ∷
    refused_list (ended (header ∷ bytes "101,10,0" ∷ [] ∷ [])) 21 3 ∷
    refused_list (ended (header ∷ bytes "101,10,\"\"" ∷ [])) 21 2 ∷
    refused_list (ended (header ∷ bytes "101,010,0" ∷ [])) 21 2 ∷
    refused_list (ended (header ∷ bytes "101,10,-0" ∷ [])) 21 2 ∷
    refused_list (ended (header ∷ bytes "101,-10,0" ∷ [])) 21 2 ∷
    refused_list (ended (header ∷ bytes "101,10,+5" ∷ [])) 21 2 ∷
    refused_list (ended (header ∷ bytes "101, 10,0" ∷ [])) 21 2 ∷
    refused_list (ended (header ∷ bytes "\"1\"\"1\",10,0" ∷ [])) 21 2 ∷
    refused_list (ended (header ∷ bytes "101,10,0,5" ∷ [])) 21 2 ∷
    refused_list (ended (header ∷ bytes "101,10,0" ∷ bytes "102,20" ∷ bytes "103" ∷ [])) 21 3 ∷
    refused_list (ended (header ∷ [])) 1 0 ∷
    refused_list header 1 0 ∷
    csv_sheet (ended (header ∷ bytes "0,10,0" ∷ [])) (replicate 15 9) (Err (refusal 22 0 0)) (replicate 15 9) ∷
    refused_list (ended (header ∷ bytes "101,10,0" ∷ bytes "0,20,0" ∷ [])) 4 1 ∷
    refused_list (ended (header ∷ bytes "101,1000001,0" ∷ [])) 4 0 ∷
    refused_list (ended (header ∷ bytes "101,10,-99999999999999999999" ∷ [])) 4 0 ∷
    refused_list (ended (header ∷ bytes "65536,10,0" ∷ [])) 4 0 ∷
    refused_list (ended (header ∷ bytes "101,10,0" ∷ bytes "101,10,5" ∷ [])) 6 1 ∷
    refused_list (ended (header ∷ bytes "101,10,0" ∷ bytes "102,10,5" ∷ [])) 7 1 ∷
    []
