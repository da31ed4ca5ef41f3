-- DEFINITIONS. One problem, of which all calls that seek layouts are instances: a board, which layouts count, and the value of a layout. That of 01, and of
-- 02's tables, slots and squares, is Benkert's one-sided labeling: a layout counts if no two records touch, and its value is its total.
use Rattle.std.specs.Prelude.{◌≡◌, ℕ, zero, suc, ◌+◌, ◌≤◌, ◌<◌}
use Rattle.paper.specs.Job.{Job}
use Rattle.paper.specs.Layouts.{Board, board_of, Untouching, Badness, cost_of, total}

pub record Problem : Type 1 where
  pub board : Board
  pub Counts : (ℕ → ℕ) → Type 0
  pub value : (ℕ → ℕ) → ℕ

-- A best layout counts, and none that counts has a smaller value.
pub record Best (p : Problem) (f : ℕ → ℕ) : Type 0 where
  pub counts : p.Counts f
  pub least : (g : ℕ → ℕ) → p.Counts g → p.value f ≤ p.value g

-- 01's order. f comes before g: at some pad f has the smaller port number, and at every pad to the right of it they have the same.
pub record Before (b : Board) (f g : ℕ → ℕ) : Type 0 where
  pub pad : ℕ
  pub inside : pad < b.pads
  pub smaller : f pad < g pad
  pub alike : (j : ℕ) → j < b.pads → b.x pad < b.x j → f j ≡ g j

-- The earliest best layout; the earliest best layout after l; and l has no best layout after it.
pub record FirstBest (p : Problem) (f : ℕ → ℕ) : Type 0 where
  pub best : Best p f
  pub earliest : (g : ℕ → ℕ) → Best p g → ¬ Before p.board g f

pub record NextBest (p : Problem) (l f : ℕ → ℕ) : Type 0 where
  pub best : Best p f
  pub later : Before p.board l f
  pub earliest : (g : ℕ → ℕ) → Best p g → Before p.board l g → ¬ Before p.board g f

abbrev pub LastBest : Problem → (ℕ → ℕ) → Type 0
LastBest p l = (g : ℕ → ℕ) → Best p g → ¬ Before p.board l g

-- 02: "Place k must equal First followed by k calls of Next, and the count must be one more than the last place". The layout f at place k, counted from 0; and
-- there are c best layouts.
abbrev pub PlaceBest : Problem → ℕ → (ℕ → ℕ) → Type 0
PlaceBest p zero f = FirstBest p f
PlaceBest p (suc k) f = (g : ℕ → ℕ) × PlaceBest p k g × NextBest p g f

pub record CountBest (p : Problem) (c : ℕ) : Type 0 where
  pub last : ℕ
  pub layout : ℕ → ℕ
  pub at : PlaceBest p last layout
  pub end : LastBest p layout
  pub more : c ≡ last + 1

-- One-sided labeling, for any cost of leading a pad to a port: a best layout has no touching pair, and no layout without a touching pair has a smaller total.
abbrev pub labeling : Board → (ℕ → ℕ → ℕ) → Problem
labeling b cost = record { board = b; Counts = Untouching b; value = total b cost }

-- On the board of a job: 01's by weights, 02's by a table.
abbrev pub labeling_of : Job → Badness → Problem
labeling_of job bad = labeling (board_of job) (cost_of (board_of job) bad)
