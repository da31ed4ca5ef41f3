use Rattle.std.proofs.Common.{refl, sym, ◌∙◌}
use Rattle.paper.specs.laws.Tests.{with_earlier}
use Rattle.find.specs.Search.{none_below, none_more, none_end, pairs_more, pairs_end, pair_here}
use Rattle.find.proofs.first_pair_where.Goals as goal
use Rattle.find.proofs.first_pair_where.Goals.{else-records-test, then-records-test+then-loop-earlier-test+then-test}

pub records-init : goal.records-init
records-init g c = (refl, λ q says. none_below (with_earlier q))

pub loop-earlier-init : goal.loop-earlier-init
loop-earlier-init g c = (c.records.invariant.0, λ q says. none_below (q c.records.at))

pub loop-earlier-preserved : goal.loop-earlier-preserved
loop-earlier-preserved g c = (
  c.loop-earlier.invariant.0,
  λ q says.
      let here = says c.records.at c.loop-earlier.earlier c.records-test.true c.loop-earlier-test.true _ c.test.ensures in
      none_more (q c.records.at) _ (c.loop-earlier.invariant.1 q says) (sym here ∙ c.if-test.false),
)

pub records-preserved : goal.records-preserved
records-preserved g c = (
  c.loop-earlier.invariant.0,
  λ q says.
      pairs_more q _ (c.records.invariant.1 q says) (none_end _ _ _ (c.loop-earlier.invariant.1 q says) c.loop-earlier.auto.earlier-end c.loop-earlier-test.false),
)

pub returns : goal.returns
returns g c =
    elim c.records-test.branch [
      | else-records-test w ↦
          λ q says. w.found-is ∙ c.records.invariant.0 ∙ sym (pairs_end q _ (none_end _ _ _ (c.records.invariant.1 q says) c.records.auto.at-end w.records-test.false))
      | then-records-test+then-loop-earlier-test+then-test w ↦
          λ q says.
          let here = says c.records.at w.loop-earlier.earlier w.records-test.true w.loop-earlier-test.true _ w.test.ensures in
          w.found-is ∙ sym (pair_here q _ _ (c.records.invariant.1 q says) (w.loop-earlier.invariant.1 q says) (sym here ∙ w.if-test.true) w.loop-earlier-test.true _ w.records-test.true)
    ]
