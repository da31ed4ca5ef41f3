-- `layouts::first_on` meets its contract (`first_some`). Assumes nothing.
use mathlib.Core.Path.{refl}
use Rattle.layouts.specs.Replies.{problem_on}
use Rattle.layouts.proofs.Replied.{first_some}
use Rattle.layouts.proofs.first_on.Goals as goal

pub returns-in-Some : goal.returns-in-Some
returns-in-Some c = first_some (problem_on c.args.job.now c.args.bad.now) c.requires.workable.0.some c.args.layout.now _ _ _ c.in-Some.r refl c.in-Some.ensures
