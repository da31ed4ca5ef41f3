-- The tests that the code computes for each fault of Refusals.antt, and each call's tests in order. That each says what its fault says is proofs/laws/Tests.
use Rattle.std.specs.Prelude.{Bool, false, not, ◌&&◌, ◌||◌, List, [], ◌∷◌, ◌++◌, ℕ, zero, suc, ◌+◌, ◌*◌, ◌-◌, ◌%◌, eqb, leb, ltb, length, ℤ, pos, neg_ℤ, ◌+ℤ◌, ◌-ℤ◌, Some, None}
use Rattle.std.specs.Int.Signed.{le_z, lt_z}
use Rattle.paper.specs.declared.Form.{Form}
use Rattle.paper.specs.declared.Form.TheVariants.{Records, Slots}
use Rattle.paper.specs.Answers.{Work}
use Rattle.paper.specs.Job.{twos, count, name_of, half_of, x_of, y_of, last_of, port_count, port_of}
use Rattle.paper.specs.Leaders.{Leader, Square}
use Rattle.paper.specs.Layouts.{Board, board_from, held, leader, square, Badness, by_weights, by_table}
use Rattle.paper.specs.Refusals.{work_needed}

-- p holds at some number below n; q holds of i and a number below i
unfoldable pub somewhere : (ℕ → Bool) → ℕ → Bool
somewhere p zero = false
somewhere p (suc n) = somewhere p n || p n

abbrev pub with_earlier : (ℕ → ℕ → Bool) → ℕ → Bool
with_earlier q i = somewhere (q i) i

-- 1, 2, 13
abbrev pub bad_size : ℕ → ℕ → List ℕ → Bool
bad_size one most bytes = eqb (length bytes) 0 || not (eqb (length bytes % one) 0) || ltb most (length bytes)

abbrev pub bad_weight : ℕ → ℕ → Bool
bad_weight lw bw = ltb 1000 lw || ltb 1000 bw

abbrev pub bad_table : ℕ → ℕ → ℕ → Bool
bad_table n p figures = not (eqb figures (n * p))

-- 4
unfoldable pub outside : ℤ → Bool
outside h = lt_z h (neg_ℤ (pos 1000000)) || lt_z (pos 1000000) h

abbrev pub bad_last : Form → ℕ → Bool
bad_last Records n = outside (twos n)
bad_last Slots n = not (eqb n 0)

abbrev pub bad_pad : ℕ → ℕ → ℕ → ℤ → Bool
bad_pad name half x y = eqb name 0 || ltb 2000 half || ltb x 1 || ltb 1000000 x || outside y

abbrev pub bad_field : Form → List ℕ → ℕ → Bool
bad_field form pads i = bad_pad (name_of pads i) (half_of pads i) (x_of pads i) (y_of pads i) || bad_last form (last_of pads i)

abbrev pub bad_height : Form → List ℕ → ℕ → Bool
bad_height form ports q = outside (port_of form ports q)

-- 5
abbrev pub not_above : Form → List ℕ → ℕ → Bool
not_above form ports q = ltb 0 q && le_z (port_of form ports q) (port_of form ports (q - 1))

-- 12
abbrev pub too_close : Form → List ℕ → ℕ → Bool
too_close form ports q = ltb 0 q && lt_z (port_of form ports q -ℤ port_of form ports (q - 1)) (pos 8)

-- 6, 7, 8
abbrev pub same_name : List ℕ → ℕ → ℕ → Bool
same_name pads i j = eqb (name_of pads i) (name_of pads j)

abbrev pub same_x : List ℕ → ℕ → ℕ → Bool
same_x pads i j = eqb (x_of pads i) (x_of pads j)

abbrev pub same_entry : List ℕ → ℕ → ℕ → Bool
same_entry list i j = eqb (held list i) (held list j)

abbrev pub bad_entry : ℕ → List ℕ → ℕ → Bool
bad_entry n list i = leb n (held list i) || with_earlier (same_entry list) i

-- 9, for pads of different x: 01's criterion
unfoldable pub between : ℤ → ℤ → ℤ → Bool
between m a b = le_z a m && le_z m b || le_z b m && le_z m a

unfoldable pub leaders_touch : Leader → Leader → Bool
leaders_touch l m = ltb m.x l.x && between l.port m.y m.port || ltb l.x m.x && between m.port l.y l.port

-- .. and of a leader and a square: the leader comes as far right as the square; its hand is not right of it; of the leader's heights at the square's x one is
-- no higher than its top, and one no lower than its bottom
unfoldable pub reaches : Leader → Square → Bool
reaches l s = leb s.x (l.x + s.half)

unfoldable pub not_right : Leader → Square → Bool
not_right l s = leb l.x (s.x + s.half)

abbrev pub top_of : Square → ℤ
top_of s = s.y +ℤ pos s.half

abbrev pub bottom_of : Square → ℤ
bottom_of s = s.y -ℤ pos s.half

unfoldable pub under_top : Leader → Square → Bool
under_top l s = le_z l.port (top_of s) || not_right l s && le_z l.y (top_of s)

unfoldable pub over_bottom : Leader → Square → Bool
over_bottom l s = le_z (bottom_of s) l.port || not_right l s && le_z (bottom_of s) l.y

unfoldable pub meets : Leader → Square → Bool
meets l s = reaches l s && (under_top l s && over_bottom l s)

-- a square of half-side 0 is on its pad's own leader: only larger ones are looked at
unfoldable pub meets_large : Leader → Square → Bool
meets_large l s = ltb 0 s.half && meets l s

abbrev pub records_touch : Board → (ℕ → ℕ) → ℕ → ℕ → Bool
records_touch b f i j =
    leaders_touch (leader b i (f i)) (leader b j (f j)) || (meets_large (leader b i (f i)) (square b j) || meets_large (leader b j (f j)) (square b i))

-- 11
abbrev pub bad_number : ℕ → ℕ → ℕ → Bool
bad_number n i q = leb n i || leb n q

-- ---- the trials, computed

-- A trial that is computed: of each of n records by a test of one, or of each with those before it by a test of two.
pub data Test : Type 0 where
  at_each : ℕ → ℕ → (ℕ → Bool) → Test
  at_pairs : ℕ → ℕ → (ℕ → ℕ → Bool) → Test

-- The input as a whole.
abbrev pub at_whole : ℕ → Bool → Test
at_whole r t = at_each r 1 (λ i. t)

-- The tests of each call, as Refusals.antt has its trials; that of the weights or of the table is given. First's 15 is told by the search.
abbrev pub size_tests : Form → List ℕ → List ℕ → List Test
size_tests Records pads ports = at_whole 1 (bad_size 16 1024 pads) ∷ []
size_tests Slots pads ports = at_whole 1 (bad_size 16 1024 pads) ∷ at_whole 1 (bad_size 4 512 ports) ∷ []

abbrev pub enough_tests : Form → List ℕ → List ℕ → List Test
enough_tests Records pads ports = []
enough_tests Slots pads ports = at_whole 14 (ltb (port_count Slots ports) (count pads)) ∷ []

abbrev pub work_tests : ℕ → ℕ → Work → List Test
work_tests n p None = []
work_tests n p (Some numbers) = at_whole 24 (ltb numbers (work_needed n p)) ∷ []

abbrev pub field_tests : Form → List ℕ → List ℕ → List Test
field_tests Records pads ports = at_each 4 (count pads) (bad_field Records pads) ∷ []
field_tests Slots pads ports = at_each 4 (count pads) (bad_field Slots pads) ∷ at_each 4 (port_count Slots ports) (bad_height Slots ports) ∷ []

abbrev pub board_tests : Form → List ℕ → List ℕ → List Test
board_tests form pads ports =
    at_each 5 (port_count form ports) (not_above form ports) ∷
    at_each 12 (port_count form ports) (too_close form ports) ∷
    at_each 6 (count pads) (with_earlier (same_name pads)) ∷
    at_each 7 (count pads) (with_earlier (same_x pads)) ∷ []

unfoldable pub job_tests : Form → List ℕ → List ℕ → List Test
job_tests form pads ports = field_tests form pads ports ++ board_tests form pads ports

unfoldable pub layout_tests : Board → List ℕ → List Test
layout_tests b list = at_each 8 b.pads (bad_entry b.ports list) ∷ at_pairs 9 b.pads (records_touch b (held list)) ∷ []

abbrev pub badness_test : Board → Badness → Test
badness_test b (by_weights lw bw) = at_whole 2 (bad_weight lw bw)
badness_test b (by_table figures) = at_whole 13 (bad_table b.pads b.ports (length figures))

abbrev pub room_tests : Form → List ℕ → List ℕ → Work → ℕ → List Test
room_tests form pads ports work room =
    at_whole 3 (ltb room (count pads)) ∷ enough_tests form pads ports ++ work_tests (count pads) (port_count form ports) work

unfoldable pub sound_tests : Form → List ℕ → List ℕ → Test → Work → ℕ → List Test
sound_tests form pads ports given work room =
    size_tests form pads ports ++ (given ∷ room_tests form pads ports work room ++ job_tests form pads ports)

unfoldable pub measure_tests : Form → List ℕ → List ℕ → Test → Work → List ℕ → List Test
measure_tests form pads ports given work list = sound_tests form pads ports given work (length list) ++ layout_tests (board_from form pads ports) list

unfoldable pub draw_tests : List ℕ → ℕ → ℕ → ℕ → List Test
draw_tests bytes i q room =
    size_tests Records bytes bytes ++ (at_whole 3 (ltb room 6) ∷ job_tests Records bytes bytes ++ (at_whole 11 (bad_number (count bytes) i q) ∷ []))
