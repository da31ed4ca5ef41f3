-- `totals::trial_of` meets its contract. Assumes nothing.
use mathlib.Core.Path.{ap}
use Prim.Native.Nat.{ℕ, ◌+◌, ◌*◌}
use lib.ListN.{length}
use Rattle.totals.proofs.trial_of.Goals as goal

pub returns : goal.returns
returns c =
    let row = ap (λ (k : ℕ). k * length c.args.lists.now.order.now) c.from.ensures in
    λ i. record { low = c.args.low.now; high = c.args.high.now; figures = c.args.figures.now; past = c.args.r + 1; row = row i }
