use mathlib.Core.Path.{◌≡◌, ◌∙◌}
use Prim.Native.Nat.{◌<◌}
use native.Mathlib.Omega.{arith}
use mir.Syntax.{w64}
use mir.Val.{to_z, of_z}
use Rattle.numbers.proofs.Bits.{read_back}
use Rattle.numbers.proofs.Filled.{filled_more}
use Rattle.paper.specs.Job.{y_of}
use Rattle.job.specs.Board.{pads_on}
use Rattle.board.proofs.sides.Goals as goal

pub loop-j-preserved : goal.loop-j-preserved
loop-j-preserved c =
    let inside : c.loop-j.j < pads_on c.args.job.now = omega arith in
    let height : to_z w64 (of_z w64 c.y-y.result) ≡ y_of c.args.job.now.pads.now c.loop-j.j = read_back c.y-y.result c.y-y.type_inv ∙ c.y-y.ensures.0 in
    let low = rw height at c.under-low.ensures in
    let high = rw height at c.upto.ensures in
    rw (c.from.ensures, c.from-in-loop-j.ensures) (filled_more inside c.loop-j.invariant.0 _ low, filled_more inside c.loop-j.invariant.1 _ high)
