-- `printed::line` meets its contract. Assumes nothing.
use borrow.Author.Rules.{rules}
use Rattle.printed.specs.Lines.{line_written}
use Rattle.printed.proofs.line.Goals as goal

pub returns : goal.returns
returns c = (
  line_written c.args.job.now c.args.i c.args.q (rw c.of_records-records.ensures at c.name.ensures) (rw c.of_records-records.ensures at c.length.ensures.0)
      (rw c.of_records-records.ensures at c.bends.ensures.0) (rw c.from.ensures at c.field-a.ensures.0) (rw c.from-2.ensures at c.field-b.ensures.0)
      c.field-c.ensures.0 c.field.ensures.0,
  search rules,
)
