-- DEFINITIONS. 01, "Leaders, touching and totals", and of 02, the table and the squares: layouts and their totals, over a board of pads and ports.
-- A layout f gives the pad of record i the port number f i.
use Rattle.std.specs.Prelude.{◌≡◌, ◌≢◌, ◌⊎◌, List, ℕ, zero, suc, ◌+◌, ◌*◌, ◌≤◌, ◌<◌, length, get_or, ℤ, ◌<ℤ◌}
use Rattle.paper.specs.declared.Form.{Form}
use Rattle.paper.specs.Job.{Job, form_of, pads_of, ports_of, count, half_of, x_of, y_of, port_count, port_of}
use Rattle.paper.specs.Leaders.{Leader, Touch, Square, Meets, length_of, bends_of}

-- A board: so many pads, pad i around (x i, y i) with the half-side half i, and so many ports, port q at the height port q.
pub record Board : Type 0 where
  pub pads : ℕ
  pub ports : ℕ
  pub x : ℕ → ℕ
  pub y : ℕ → ℤ
  pub half : ℕ → ℕ
  pub port : ℕ → ℤ

-- The board that pads and ports of such bytes make; and that of a job. (The port of record i is port number i: records have as many ports as pads.)
abbrev pub board_from : Form → List ℕ → List ℕ → Board
board_from form pads ports = record { pads = count pads; ports = port_count form ports; x = x_of pads; y = y_of pads; half = half_of pads; port = port_of form ports }

abbrev pub board_of : Job → Board
board_of job = board_from (form_of job) (pads_of job) (ports_of job)

-- The layout that a list holds: entry i is the port number of the pad of record i.
abbrev pub held : List ℕ → ℕ → ℕ
held list i = get_or list i 0

-- The leader of pad i to port q.
abbrev pub leader : Board → ℕ → ℕ → Leader
leader b i q = record { x = b.x i; y = b.y i; port = b.port q }

-- The square of pad i.
abbrev pub square : Board → ℕ → Square
square b i = record { x = b.x i; y = b.y i; half = b.half i }

-- The leaders of records i and j touch.
abbrev pub LeadersTouch : Board → (ℕ → ℕ) → ℕ → ℕ → Type 0
LeadersTouch b f i j = Touch (leader b i (f i)) (leader b j (f j))

-- Two records touch when their leaders do, or the leader of one meets the square of the other (02). A pad's own square is never in the way of its leader.
abbrev pub Touching : Board → (ℕ → ℕ) → ℕ → ℕ → Type 0
Touching b f i j = LeadersTouch b f i j ⊎ Meets (leader b i (f i)) (square b j) ⊎ Meets (leader b j (f j)) (square b i)

-- A layout: each pad has a port of its own.
pub record Layout (b : Board) (f : ℕ → ℕ) : Type 0 where
  pub inside : (i : ℕ) → i < b.pads → f i < b.ports
  pub own : (i j : ℕ) → j < i → i < b.pads → f i ≢ f j

-- Port number q stands exactly once; each port number does. (Where there are as many ports as pads, that is a layout: `layout_iff`.)
abbrev pub StandsOnce : Board → (ℕ → ℕ) → ℕ → Type 0
StandsOnce b f q = (i : ℕ) × (i < b.pads) × (f i ≡ q) × ((j : ℕ) → j < b.pads → f j ≡ q → j ≡ i)

abbrev pub EachOnce : Board → (ℕ → ℕ) → Type 0
EachOnce b f = (q : ℕ) → q < b.ports → StandsOnce b f q

-- A layout with no touching pair.
pub record Untouching (b : Board) (f : ℕ → ℕ) : Type 0 where
  pub layout : Layout b f
  pub apart : (i j : ℕ) → j < i → i < b.pads → ¬ Touching b f i j

-- f and g give every pad the same port.
abbrev pub Same : Board → (ℕ → ℕ) → (ℕ → ℕ) → Type 0
Same b f g = (i : ℕ) → i < b.pads → f i ≡ g i

-- The x of all pads differ; port heights rise strictly.
abbrev pub Differ : Board → Type 0
Differ b = (i j : ℕ) → j < i → i < b.pads → b.x i ≢ b.x j

abbrev pub Rising : Board → Type 0
Rising b = (a c : ℕ) → a < c → c < b.ports → b.port a <ℤ b.port c

-- Such a board, with at least as many ports as pads: that of every accepted job.
pub record Proper (b : Board) : Type 0 where
  pub enough : b.pads ≤ b.ports
  pub differ : Differ b
  pub rising : Rising b

-- c 0 + c 1 + .. + c (n - 1)
unfoldable pub sum : ℕ → (ℕ → ℕ) → ℕ
sum zero c = 0
sum (suc n) c = sum n c + c n

-- What it costs to lead pad i to port q. By weights: length and bends, each times its weight.
unfoldable pub weighted : Board → ℕ → ℕ → ℕ → ℕ → ℕ
weighted b lw bw i q = lw * length_of (leader b i q) + bw * bends_of (leader b i q)

-- By a table (02): "pad by pad, ports rising", the figure of pad i with port q.
abbrev pub figure : Board → List ℕ → ℕ → ℕ → ℕ
figure b figures i q = get_or figures (i * b.ports + q) 0

-- A call is given two weights, length before bend, or a table. Benkert's word for what a leader costs is badness.
pub data Badness : Type 0 where
  by_weights : ℕ → ℕ → Badness
  by_table : List ℕ → Badness

abbrev pub cost_of : Board → Badness → ℕ → ℕ → ℕ
cost_of b (by_weights lw bw) = weighted b lw bw
cost_of b (by_table figures) = figure b figures

-- The table of a cost.
pub record TableOf (b : Board) (cost : ℕ → ℕ → ℕ) (figures : List ℕ) : Type 0 where
  pub long : length figures ≡ b.pads * b.ports
  pub at : (i q : ℕ) → i < b.pads → q < b.ports → figure b figures i q ≡ cost i q

-- The total of a layout, for any such cost. (With the weighted cost it is (length weight × sum of lengths) + (bend weight × sum of bends): `total_is`.)
abbrev pub total : Board → (ℕ → ℕ → ℕ) → (ℕ → ℕ) → ℕ
total b cost f = sum b.pads (λ i. cost i (f i))
