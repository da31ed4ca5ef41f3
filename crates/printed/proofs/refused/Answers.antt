-- `printed::refused` meets its contract. Assumes nothing.
use borrow.Author.Rules.{rules}
use Rattle.text.specs.Writing.{writes_then}
use Rattle.printed.proofs.refused.Goals as goal

pub returns : goal.returns
returns c = (
  writes_then (writes_then (writes_then c.word-a.ensures (rw c.from.ensures at c.field-b.ensures.0)) c.word-c.ensures) (rw c.from-2.ensures at c.field.ensures.0),
  search rules,
)
