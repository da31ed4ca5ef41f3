-- `layouts::next_on` meets its contract. Assumes nothing.
use mathlib.Core.Path.{◌≡◌, ◌∙◌}
use Prim.Native.Nat.{◌≤◌}
use native.Mathlib.Omega.{arith}
use lib.Seq.{length-take-le}
use Rattle.job.specs.Board.{pads_on}
use Rattle.layouts.specs.Replies.{problem_on}
use Rattle.layouts.proofs.Replied.{next_last, next_some}
use Rattle.layouts.proofs.next_on.Goals as goal

pub returns-then-r-eq0 : goal.returns-then-r-eq0
returns-then-r-eq0 c =
    let n : c.from-n.result ≡ pads_on c.args.job.now = c.from-n.ensures ∙ c.count.ensures in
    let few : c.from-n.result ≤ 64 = omega (arith, n, c.requires.workable.0.few) in
    next_last (problem_on c.args.job.now c.args.bad.now) c.requires.workable.0.some c.args.layout.now _ _ _ c.in-Some.r (length-take-le _ _ few ∙ n)
    c.in-Some.ensures c.if-r-eq0.true

pub returns-else-r-eq0 : goal.returns-else-r-eq0
returns-else-r-eq0 c =
    let n : c.from-n.result ≡ pads_on c.args.job.now = c.from-n.ensures ∙ c.count.ensures in
    let few : c.from-n.result ≤ 64 = omega (arith, n, c.requires.workable.0.few) in
    next_some (problem_on c.args.job.now c.args.bad.now) c.requires.workable.0.some c.args.layout.now _ _ _ c.in-Some.r (length-take-le _ _ few ∙ n)
    c.in-Some.ensures c.if-r-eq0.false
