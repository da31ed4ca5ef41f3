-- `numbering::count` meets its contract: the count, in the paper's words. Assumes nothing.
use mathlib.Core.Path.{refl}
use Rattle.paper.specs.Job.{records}
use Rattle.paper.specs.Layouts.{board_of}
use Rattle.numbering.proofs.Bridged.{ready, counted, too_many}
use Rattle.numbering.proofs.count.Goals as goal

pub count-c-requires-clause-ready : goal.count-c-requires-clause-ready
count-c-requires-clause-ready c = (_, ready (board_of (records c.args.job.now)) refl _ _ _ c.in_ok-lent.ensures)

pub returns-then-c-gt-LIMIT : goal.returns-then-c-gt-LIMIT
returns-then-c-gt-LIMIT c = too_many (board_of (records c.args.job.now)) refl _ _ _ c.in_ok-lent.ensures c.count-c.new.buffer c.count-c.result c.count-c.ensures.count_is c.if-c-gt-LIMIT.true

pub returns : goal.returns
returns c = counted (board_of (records c.args.job.now)) refl _ _ _ c.in_ok-lent.ensures c.count-c.new.buffer c.count-c.result c.count-c.ensures.count_is c.if-c-gt-LIMIT.false
