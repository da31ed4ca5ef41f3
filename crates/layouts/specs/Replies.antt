-- What First, Next and Page make of a walk, in the paper's words.
use Rattle.std.specs.Prelude.{◌≡◌, List, ℕ, ◌≤◌, ◌<◌, length, Option, Some, None, Result, Ok, Err}
use Rattle.job.specs.declared.Job.{Job}
use Rattle.job.specs.Board.{board_on, pads_on, ports_on, AcceptedOn}
use Rattle.paper.specs.declared.Badness.{Badness as Given}
use Rattle.paper.specs.declared.Badness.TheVariants.{Weights, Table}
use Rattle.paper.specs.declared.Refusal.{Refusal}
use Rattle.paper.specs.Given.{badness_of}
use Rattle.paper.specs.Layouts.{Board, held, Untouching, cost_of}
use Rattle.paper.specs.Problem.{Problem, Best, FirstBest, NextBest, LastBest, labeling}
use Rattle.paper.specs.Refusals.{work_needed, refusal, NoLayout as NothingCounts}
use Rattle.paper.specs.Promises.{Kept, Following}
use Rattle.paper.specs.laws.Squares.{Open}
use Rattle.paper.specs.laws.Accepted.{Fair}
use Rattle.strips.specs.Least.{none, some}
use Rattle.slots.specs.Slots.{figures_in, SlotTable, TellsLeast}
use Rattle.board.specs.Lists.{ListsOf}
use Rattle.walks.specs.declared.Start.{Start}
use Rattle.walks.specs.declared.Walked.{Walked}
use Rattle.walks.specs.declared.Start.TheVariants.{First, Given as FromGiven}
use Rattle.walks.specs.Walks.{Rules}
use Rattle.layouts.specs.declared.Unmet.{Unmet}
use Rattle.layouts.specs.declared.Unmet.TheVariants.{NoLayout, NotBest}

-- The problem that a job and what its leaders cost by pose.
abbrev pub problem_on : Job → Given → Problem
problem_on job bad = labeling (board_on job) (cost_of (board_on job) (badness_of bad))

-- By weights there is a work list of enough numbers, by a table there are as many ports as pads.
abbrev pub Readable : Job → Given → ℕ → Type 0
Readable job (Weights w) size = work_needed (pads_on job) (ports_on job) ≤ size
Readable job (Table figures) size = ports_on job ≡ pads_on job

-- What the walks ask for: that, of a job that passed the checks, and of weights or a table that did.
abbrev pub Workable : Job → Given → ℕ → Type 0
Workable job bad size = AcceptedOn job × Fair (board_on job) (badness_of bad) × Readable job bad size

-- The rules of a walk through the best layouts of a problem.
abbrev pub rules_of : Problem → Rules
rules_of p = record {
  Earliest = λ w v. FirstBest p (held v) × Kept p.board.pads w v;
  Nothing = NothingCounts p;
  Best = λ w. Best p (held w);
  Next = λ w v. NextBest p (held w) (held v) × Kept p.board.pads w v;
  Last = λ w. LastBest p (held w);
  Least = λ t. (w : List ℕ) → Best p (held w) → t ≡ p.value (held w);
}

-- A walk starts with room for a layout, and with an untouching one if it is given.
abbrev pub StartOn : Start → Board → List ℕ → Type 0
StartOn First b w = b.pads ≤ length w
StartOn FromGiven b w = (b.pads ≤ length w) × Untouching b (held w)

-- FIRST: the list holds the earliest best layout, t is its value, and the entries from n on are kept; or no layout counts, and the list is kept.
abbrev pub FirstOn : Problem → List ℕ → List ℕ → Result ℕ Unmet → Type 0
FirstOn p before after (Ok t) = FirstBest p (held after) × (t ≡ p.value (held after)) × Kept p.board.pads before after
FirstOn p before after (Err NoLayout) = NothingCounts p × (after ≡ before)
FirstOn p before after (Err NotBest) = ⊥

-- NEXT, asked of an untouching layout: it is best, and the earliest best layout after it has replaced it; or it is the last best one, and is kept; or it
-- is not best, and is kept.
abbrev pub NextOn : Problem → List ℕ → List ℕ → Result (Option ℕ) Unmet → Type 0
NextOn p before after (Ok (Some t)) =
    Best p (held before) × NextBest p (held before) (held after) × (t ≡ p.value (held after)) × Kept p.board.pads before after
NextOn p before after (Ok None) = Best p (held before) × LastBest p (held before) × (after ≡ before)
NextOn p before after (Err NotBest) = (¬ Best p (held before)) × (after ≡ before)
NextOn p before after (Err NoLayout) = ⊥

-- PAGE, asked of an untouching layout: it is best, so many that follow stand on the page, and the total is its value; or it is not best, and the page is kept.
abbrev pub PageOn : Problem → List ℕ → List ℕ → List ℕ → Result Walked Unmet → Type 0
PageOn p given before after (Ok r) = Best p (held given) × Following p given before r.count after × (r.total ≡ p.value (held given))
PageOn p given before after (Err NotBest) = (¬ Best p (held given)) × (after ≡ before)
PageOn p given before after (Err NoLayout) = ⊥

-- 15 where no layout is untouching, 10 where the given one is not best.
abbrev pub refused_for : Unmet → Refusal
refused_for NoLayout = refusal 15 0 0
refused_for NotBest = refusal 10 0 0

-- The lists of a board, and in the work list that is lent its costs, where leaders are open, and least totals: t is the least of all.
pub record Tabled (b : Board) (cost : ℕ → ℕ → ℕ) (order lo hi work : List ℕ) (t : ℕ) : Type 0 where
  pub lists : ListsOf b order lo hi
  pub figures : (j q : ℕ) → j < b.pads → q < b.ports → Open b j q → figures_in work b.pads b.ports j q ≡ some (cost j q)
  pub shut : (j q : ℕ) → j < b.pads → q < b.ports → ¬ Open b j q → figures_in work b.pads b.ports j q ≡ none
  pub table : SlotTable order lo hi b.ports work
  pub least : TellsLeast order lo hi b.ports work t
