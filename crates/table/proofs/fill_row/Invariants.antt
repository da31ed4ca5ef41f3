-- `table::fill_row` meets its contract. The loop's invariant: the row is right before b (`Rows.Row`), the short lists have it (`CopiedRow`), the ports of its strips are
-- marked (`Rows.MarkedRow`), and what is kept for the next row is right. Assumes nothing.
use Rattle.pads.specs.Sides.{sides}
use Rattle.heads.specs.Given.{TalliesOn}
use Rattle.totals.specs.Cell.{CopiedRow}
use Rattle.totals.specs.Lent.{figures_of}
use Rattle.table.proofs.Rows.{Row, MarkedRow}
use Rattle.table.proofs.fill_row.Given as goal

abbrev pub invariant-loop-b : goal.invariant-loop-b
invariant-loop-b l = record {
  tallies : TalliesOn l.lists l.kept l.a;
  row : Row (sides l.lists) (figures_of l.lists l.figures) l.lists.order.now l.heads l.totals l.a l.b;
  copied : CopiedRow l.row.heads l.row.totals l.heads l.totals l.a l.b;
  marked : MarkedRow l.lists.order.now l.figures.cost.now l.figures.bars.now l.lists.lo.now l.lists.hi.now l.heads l.ports l.a l.b;
}
