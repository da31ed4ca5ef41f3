-- What a leader is measured by, and what Measure is given: a pad and a port, weights, a list of entries.
use Rattle.std.specs.Prelude.{List, ℕ, ◌≤◌, ◌<◌, length}
use Rattle.paper.specs.declared.Weights.{Weights}
use Rattle.paper.specs.Answers.{Work}
use Rattle.paper.specs.Job.{Job}
use Rattle.paper.specs.Layouts.{board_of, held, Badness}
use Rattle.paper.specs.Refusals.{Passed, measure_trials}
use Rattle.paper.specs.laws.Accepted.{AcceptedJob, Fair}
use Rattle.paper.proofs.laws.Accepted.{measure_facts, measure_entries}
use Rattle.job.specs.declared.Job.{Job as Lent}
use Rattle.job.specs.Board.{pads_on, ports_on}

-- Pad i and port q are some of the job's.
abbrev pub PadAndPort : Lent → ℕ → ℕ → Type 0
PadAndPort job i q = (i < pads_on job) × (q < ports_on job)

-- Weights in range: `Fair` of them, on any board.
abbrev pub InRange : Weights → Type 0
InRange w = (w.length ≤ 1000) × (w.bend ≤ 1000)

-- The list has an entry for each of n pads, a number of one of p ports.
abbrev pub Entries : List ℕ → ℕ → ℕ → Type 0
Entries list n p = (n ≤ length list) × ((i : ℕ) → i < n → held list i < p)

-- Measure's trials tell all that a total asks for.
pub measurable : (job : Job) (bad : Badness) (work : Work) (list : List ℕ) → Passed (measure_trials job bad work list)
    → (AcceptedJob job × Fair (board_of job) bad) × Entries list (board_of job).pads (board_of job).ports
measurable job bad work list p = let f = measure_facts job bad work list p in ((f.0, f.1), (f.2, measure_entries job bad work list p))
