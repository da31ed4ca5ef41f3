-- `measure::weighted` meets its contract. Assumes nothing.
use native.Mathlib.Omega.{arith}
use native.Mathlib.Nat.{mul-le-mul}
use Prim.Native.Nat.{ℕ, ◌*◌, ◌≤◌}
use Rattle.paper.specs.Leaders.{length_of}
use Rattle.paper.specs.Layouts.{leader}
use Rattle.paper.proofs.laws.Totals.{length_bound}
use Rattle.job.specs.declared.Job.{Job}
use Rattle.job.specs.Board.{board_on, AcceptedOn}
use Rattle.measure.specs.Given.{PadAndPort}
use Rattle.measure.proofs.weighted.Goals as goal

short : (job : Job) (i q : ℕ) → AcceptedOn job → PadAndPort job i q → length_of (leader (board_on job) i q) ≤ 3000000
short job i q a h = length_bound (leader (board_on job) i q) (a.width i h.0) (a.pad i h.0) (a.port q h.1)

pub overflow_cast-result : goal.overflow_cast-result
overflow_cast-result c = omega (arith, c.length.ensures.0, short c.args.job.now c.args.i c.args.q c.requires.accepted.0 c.requires.leader)

pub overflow_mul-result : goal.overflow_mul-result
overflow_mul-result c =
    let long = mul-le-mul c.requires.accepted.1.0 (short c.args.job.now c.args.i c.args.q c.requires.accepted.0 c.requires.leader) in
    rw c.length.ensures.0 (omega (arith, long))

pub overflow_add-result : goal.overflow_add-result
overflow_add-result c =
    let long = mul-le-mul c.requires.accepted.1.0 (short c.args.job.now c.args.i c.args.q c.requires.accepted.0 c.requires.leader) in
    let turns : c.args.w.bend * c.bends.result ≤ 1000 * 1 = mul-le-mul c.requires.accepted.1.1 c.bends.ensures.1 in
    rw c.length.ensures.0 (omega (arith, long, turns))
