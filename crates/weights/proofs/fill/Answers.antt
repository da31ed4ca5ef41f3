use mathlib.Core.Path.{◌≡◌, ap}
use Prim.Native.Nat.{ℕ, ◌*◌}
use native.Mathlib.Omega.{arith}
use Rattle.numbers.proofs.Filled.{filled_to}
use Rattle.job.specs.Board.{board_on}
use Rattle.weights.proofs.Rows.{table_filled}
use Rattle.weights.proofs.fill.Goals as goal

pub returns : goal.returns
returns c =
    let b = board_on c.args.job.now in
    let e : c.loop-j.j ≡ b.pads = omega arith in
    table_filled (filled_to (ap (λ (k : ℕ). k * b.ports) e) c.loop-j.invariant)
