use Prim.Native.Nat.{◌+◌}
use native.Mathlib.Numerals.{add-one}
use native.Mathlib.Omega.{arith}
use Rattle.numbers.proofs.Copies.{copied_none, copied_more}
use Rattle.walks.proofs.copy.Goals as goal

pub loop-i-init : goal.loop-i-init
loop-i-init c = copied_none c.args.at c.args.from.now c.args.to.now

pub loop-i-preserved : goal.loop-i-preserved
loop-i-preserved c =
    rw (add-one c.loop-i.i) (copied_more c.loop-i.i c.args.at c.args.from.now c.args.to.now c.loop-i.to (omega (arith, c.requires.1, c.loop-i-test.true)) c.loop-i.invariant)
