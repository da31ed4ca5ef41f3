-- `heads::enter` meets its contract. Assumes nothing.
use mathlib.Core.Path.{◌≡◌, refl}
use native.Mathlib.Omega.{arith}
use lib.ListN.{length}
use Rattle.heads.proofs.Tallies.{enter_start, enter_end}
use Rattle.heads.proofs.enter.Goals as goal

pub loop-i-init : goal.loop-i-init
loop-i-init c = (enter_start _ _ _ c.args.kept.now.at c.args.kept.now.seen c.args.kept.now.all c.requires.tallies, refl)

pub returns-clause-tallies_2 : goal.returns-clause-tallies_2
returns-clause-tallies_2 c =
    let e : c.loop-i.i ≡ length c.args.lists.now.order.now = omega arith in
    enter_end _ _ _ c.loop-i.kept.at c.loop-i.kept.seen c.loop-i.kept.all (rw e at c.loop-i.invariant.0)
