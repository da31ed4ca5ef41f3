-- `measure::total` meets its contract. Assumes nothing.
use Prim.Native.Nat.{◌≤◌, ◌*◌}
use mathlib.Core.Path.{◌≡◌}
use Rattle.paper.specs.Given.{badness_of}
use Rattle.paper.specs.Layouts.{held, cost_of, sum as costs}
use Rattle.job.specs.Board.{board_on}
use Rattle.measure.proofs.total.Given as goal

-- Each cost has 32 bits, so that 64 of them do not wrap.
abbrev pub invariant-loop-i : goal.invariant-loop-i
invariant-loop-i l = (l.sum ≡ costs l.i (λ k. cost_of (board_on l.job) (badness_of l.bad) k (held l.list k))) × (l.sum ≤ l.i * 4294967295)
