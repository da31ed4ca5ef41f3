-- `walks::begin` meets its contract: the least total tells whether there is a layout to start at. Assumes nothing.
use mathlib.Core.Path.{refl}
use native.Mathlib.Omega.{arith}
use Rattle.choices.specs.Over.{working_in}
use Rattle.steps.proofs.Whole.{none_solvable, some_solvable}
use Rattle.walks.proofs.begin.Goals as goal

pub returns-then-least-ge-NONE : goal.returns-then-least-ge-NONE
returns-then-least-ge-NONE c =
    let W = working_in c.args.search.now c.args.w.now c.requires.room in
    rw c.in-First.is (none_solvable W.proper c.args.least c.requires.least.0 W.table (omega (arith, c.if-least-ge-NONE.true)), refl)

pub first-requires-clause-solvable : goal.first-requires-clause-solvable
first-requires-clause-solvable c =
    let W = working_in c.args.search.now c.args.w.now c.requires.room in
    some_solvable W.proper c.args.least c.requires.least.0 W.table (omega (arith, c.if-least-ge-NONE.false))
