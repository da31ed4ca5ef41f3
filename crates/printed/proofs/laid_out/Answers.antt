-- `printed::laid_out` meets its contract. Assumes nothing.
use borrow.Author.Rules.{rules}
use Rattle.std.specs.Prelude.{None}
use Rattle.paper.specs.Job.{records}
use Rattle.paper.specs.Layouts.{by_weights}
use Rattle.measure.specs.Given.{measurable}
use Rattle.printed.specs.Lines.{bends_are, sheet_written}
use Rattle.printed.proofs.laid_out.Goals as goal

pub total-bends-requires : goal.total-bends-requires
total-bends-requires c =
    let all = measurable (records c.args.job.now) (by_weights 0 1) None c.args.list.now c.requires.0 in
    rw c.of_records.ensures (record {
      accepted = all.0;
      entries = all.1;
    })

pub returns : goal.returns
returns c = (
  sheet_written c.args.job.now c.args.list.now c.requires.1 (bends_are c.args.job.now c.args.list.now c.total-bends.result (rw c.of_records.ensures at c.total-bends.ensures))
      c.lines-end.ensures.0 c.word-a.ensures c.field-b.ensures.0 c.field.ensures.0,
  search rules,
)
