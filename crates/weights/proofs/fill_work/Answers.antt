use mathlib.Core.Path.{◌≡◌}
use Prim.Native.Nat.{◌*◌}
use native.Mathlib.Omega.{arith}
use Rattle.weights.proofs.Rows.{figures_filled}
use Rattle.weights.proofs.fill_work.Goals as goal

pub returns : goal.returns
returns c =
    let done : c.loop-k.k ≡ c.count-n.result * c.port_count-p.result = omega arith in
    let all = rw (c.count-n.ensures, c.port_count-p.ensures) at done in
    (c.loop-k.invariant.long, figures_filled (rw all at c.loop-k.invariant))
