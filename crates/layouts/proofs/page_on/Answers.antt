-- `layouts::page_on` meets its contract (`page_some`, `page_none`). Assumes nothing.
use mathlib.Core.Path.{◌≡◌, ◌∙◌}
use Rattle.job.specs.Board.{board_on, pads_on}
use Rattle.paper.specs.Given.{badness_of}
use Rattle.paper.specs.Layouts.{cost_of}
use Rattle.layouts.proofs.Replied.{front_same, front_long, copy_startable, page_some, page_none}
use Rattle.layouts.proofs.page_on.Goals as goal

pub walk-requires-clause-start_on : goal.walk-requires-clause-start_on
walk-requires-clause-start_on c =
    let b = board_on c.args.job.now in
    let n : c.from-n.result ≡ pads_on c.args.job.now = c.from-n.ensures ∙ c.count.ensures in
    copy_startable b (cost_of b (badness_of c.args.bad.now)) c.args.layout.now _
    (front_same b.pads c.from-n.result c.args.layout.now _ _ n c.copy_from_slice.ensures.after c.requires.untouching.0)
    (front_long b.pads c.from-n.result c.args.layout.now _ _ n c.copy_from_slice.ensures.after c.requires.untouching.0) c.requires.untouching.1

pub returns-in-Some : goal.returns-in-Some
returns-in-Some c =
    let b = board_on c.args.job.now in
    let n : c.from-n.result ≡ pads_on c.args.job.now = c.from-n.ensures ∙ c.count.ensures in
    page_some b (cost_of b (badness_of c.args.bad.now)) c.args.layout.now _
    (front_same b.pads c.from-n.result c.args.layout.now _ _ n c.copy_from_slice.ensures.after c.requires.untouching.0) c.args.page.now _ _ c.in-Some.r c.in-Some.ensures

pub returns-in-None : goal.returns-in-None
returns-in-None c =
    let b = board_on c.args.job.now in
    let n : c.from-n.result ≡ pads_on c.args.job.now = c.from-n.ensures ∙ c.count.ensures in
    page_none b (cost_of b (badness_of c.args.bad.now)) c.args.layout.now _
    (front_same b.pads c.from-n.result c.args.layout.now _ _ n c.copy_from_slice.ensures.after c.requires.untouching.0) c.args.page.now _ _ c.in-None.ensures
