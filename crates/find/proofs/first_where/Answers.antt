use Rattle.std.proofs.Common.{sym, ◌∙◌}
use Rattle.find.specs.Search.{none_below, none_more, found_here}
use Rattle.find.proofs.first_where.Goals as goal

pub loop-i-init : goal.loop-i-init
loop-i-init g c = λ p says. none_below p

pub returns-then-test : goal.returns-then-test
returns-then-test g c =
    λ p says.
    let here = says c.loop-i.i c.loop-i-test.true _ c.test.ensures in
    sym (found_here p _ (c.loop-i.invariant p says) (sym here ∙ c.if-test.true) _ c.loop-i-test.true)

pub loop-i-preserved : goal.loop-i-preserved
loop-i-preserved g c =
    λ p says.
    let here = says c.loop-i.i c.loop-i-test.true _ c.test.ensures in
    none_more p _ (c.loop-i.invariant p says) (sym here ∙ c.if-test.false)
