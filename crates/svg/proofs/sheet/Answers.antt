-- `svg::sheet` meets its contract. Assumes nothing.
use borrow.Author.Rules.{rules}
use mathlib.Core.Path.{refl}
use native.Mathlib.Omega.{arith}
use lib.ListN.{length}
use Rattle.paper.proofs.laws.Exported.{svg_long}
use Rattle.svg.proofs.Parts.{made_long, copied}
use Rattle.svg.proofs.sheet.Goals as goal

pub returns-then-out-end : goal.returns-then-out-end
returns-then-out-end c =
    let long = (made_long c.args.job.now c.args.list.now c.requires c.lines-end.ensures.0 (search rules)).0 in
    rw c.of_whole.ensures (svg_long c.args.job.now c.args.list.now (length c.args.out.now) c.requires (omega (arith, long, c.if-out-end.true)), refl)

pub slice_bounds-word-end : goal.slice_bounds-word-end
slice_bounds-word-end c =
    (made_long c.args.job.now c.args.list.now c.requires c.lines-end.ensures.0 (search rules)).1

pub word-requires : goal.word-requires
word-requires c =
    omega (arith, (made_long c.args.job.now c.args.list.now c.requires c.lines-end.ensures.0 (search rules)).1, c.if-out-end.false)

pub returns : goal.returns
returns c =
    copied c.args.job.now c.args.list.now c.requires c.lines-end.ensures.0 (search rules) (omega (arith, c.if-out-end.false)) c.word.ensures
