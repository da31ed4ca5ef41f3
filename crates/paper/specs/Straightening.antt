-- DEFINITIONS. 02: "Some board designers still believe that untouching leaders must be longer. For bend weight 0 we want it shown that no layout at
-- all, touching or not, has a smaller total than the one First returns." "No. 5 does not speak of these tables", and "is kept for jobs whose half-sides are all 0":
-- by examples, with a bend weight, with a table and with a square untouching leaders can cost more.
use Rattle.std.specs.Prelude.{◌≡◌, List, [], ◌∷◌, ℕ, ◌+◌, ◌*◌, ◌≤◌, ◌<◌, pos, None}
use Rattle.paper.specs.Answers.{Work}
use Rattle.paper.specs.Job.{Job, records, count}
use Rattle.paper.specs.Layouts.{Board, board_of, held, Touching, Layout, EachOnce, Badness, by_weights, by_table, cost_of, total}
use Rattle.paper.specs.Promises.{FirstPromise}
use Rattle.paper.specs.Sheets.{level_pad, crossing_pays, copper}

-- No layout at all, touching or not, has a smaller total than t: on any board, where ports may stay free. (Where there are as many ports as pads, the layouts
-- are the lists in which each port number stands once: `each_port_once`.)
abbrev pub LeastOfAll : Board → (ℕ → ℕ → ℕ) → ℕ → Type 0
LeastOfAll b cost t = (f : ℕ → ℕ) → Layout b f → t ≤ total b cost f

-- Straightening costs nothing: no layout at all has a smaller total than First answers.
abbrev pub CostsNothing : Job → Badness → Work → Type 0
CostsNothing job bad work = (before after : List ℕ) (t : ℕ) → FirstPromise job bad work before (pos t) after
    → LeastOfAll (board_of job) (cost_of (board_of job) bad) t

-- On records it costs something: First answers t, and a list in which each port number stands once, and two records touch, has the smaller total u.
pub record Costs (bytes : List ℕ) (bad : Badness) (t : ℕ) (list : List ℕ) (u : ℕ) : Type 0 where
  pub first : (before : List ℕ) × (after : List ℕ) × FirstPromise (records bytes) bad None before (pos t) after
  pub once : EachOnce (board_of (records bytes)) (held list)
  pub touch : (i : ℕ) × (j : ℕ) × (j < i) × (i < count bytes) × Touching (board_of (records bytes)) (held list) i j
  pub sums : u ≡ total (board_of (records bytes)) (cost_of (board_of (records bytes)) bad) (held list)
  pub smaller : u < t

-- With a bend weight it can: the lengths of the two layouts are the same together, and untouching both leaders have a bend.
abbrev pub BendsCanCost : Type 0
BendsCanCost = (lw bw : ℕ) → lw ≤ 1000 → bw ≤ 1000 → 0 < bw → Costs level_pad (by_weights lw bw) (50 * lw + 2 * bw) (0 ∷ 1 ∷ []) (50 * lw + bw)

-- With a table it can.
abbrev pub TablesCanCost : Type 0
TablesCanCost = Costs level_pad (by_table crossing_pays) 2 (0 ∷ 1 ∷ []) 0

-- With a square it can, in length: the shorter layout leads an arm over it.
abbrev pub SquaresCanCost : Type 0
SquaresCanCost = Costs (copper 4) (by_weights 1 0) 84 (0 ∷ 1 ∷ []) 76
