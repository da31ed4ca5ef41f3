-- `steps::is_best` meets its contract (`told_best`). Assumes nothing.
use Rattle.steps.proofs.Whole.{told_best}
use Rattle.steps.proofs.is_best.Goals as goal

pub returns : goal.returns
returns c = told_best c.args.search.now.proper c.args.least c.requires.least c.args.w.now c.requires.untouching_layout c.total_of.result c.total_of.ensures
