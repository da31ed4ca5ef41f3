-- `counting::choose` meets its contract: the ends of the strip by the list of places are laws of places' Ports. Assumes nothing.
use native.Mathlib.Omega.{arith}
use Rattle.counting.proofs.Walks.{StripAt, strip_at, choosing_countable, choosing_some, choosing_pickable, choosing_chosen}
use Rattle.counting.proofs.choose.Goals as goal
use Rattle.counting.proofs.choose.Goals.{After-high-b}

strip : (c : After-high-b) → StripAt c.args.l.now c.args.w.now c.args.m c.low-a.result c.high-b.result
strip c = strip_at c.requires.proper_board c.args.m c.requires.placed.0 c.requires.placed.1 _ _ c.low-a.ensures c.high-b.ensures

pub number-here-requires-clause-countable : goal.number-here-requires-clause-countable
number-here-requires-clause-countable c = choosing_countable (strip (goal.at.number-here-requires-clause-countable c).After-high-b) c.requires.choosable.1

pub nonzero_div-others : goal.nonzero_div-others
nonzero_div-others c =
    let S = strip (goal.at.nonzero_div-others c).After-high-b in
    omega (arith, choosing_some S c.requires.choosable.1 _ c.number-here.ensures.count_of.0 _ c.requires.ways_bound.0 c.requires.ways_bound.1)

pub pick-requires-clause-pickable : goal.pick-requires-clause-pickable
pick-requires-clause-pickable c =
    let S = strip (goal.at.pick-requires-clause-pickable c).After-high-b in
    (_, choosing_pickable S c.requires.choosable.1 _ c.number-here.ensures.count_of.0 _ c.requires.ways_bound.0 c.requires.ways_bound.1)

pub returns-clause-chosen_is : goal.returns-clause-chosen_is
returns-clause-chosen_is c =
    let S = strip (goal.at.returns-clause-chosen_is c).After-high-b in λ C X.
    choosing_chosen S X _ c.number-here.ensures.count_of.0 _ c.requires.ways_bound.0 c.requires.ways_bound.1 _
    (c.pick.ensures.picked_is _ (choosing_pickable S X _ c.number-here.ensures.count_of.0 _ c.requires.ways_bound.0 c.requires.ways_bound.1))
