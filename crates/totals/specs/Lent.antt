-- The definitions of Cell, of the lists that are lent to the code: those of a board, its figures, and cells.
use Rattle.std.specs.Prelude.{List, ℕ, ◌+◌, ◌*◌, length, get_or}
use Rattle.strips.specs.Least.{Least}
use Rattle.strips.specs.Grid.{Grid}
use Rattle.pads.specs.Sides.{sides}
use Rattle.pads.specs.declared.Lists.{Lists}
use Rattle.totals.specs.Cell.{coded, figures, grid_of, choice, least_of, Sizes, Port, port_total, Rows, Parts, CopiedRow, FullFrom, Leads, MarkedFrom}
use Rattle.totals.specs.Cell as cell
use Rattle.totals.specs.declared.Figures.{Figures}
use Rattle.totals.specs.declared.Table.{Table}
use Rattle.totals.specs.declared.Trial.{Trial}

-- the board, and each pad's figures
abbrev pub board : Lists → Figures → Grid
board l f = grid_of l.order.now f.cost.now f.bars.now l.lo.now l.hi.now

abbrev pub figures_of : Lists → Figures → ℕ → ℕ → Least
figures_of l f = figures f.cost.now f.bars.now (length l.order.now)

-- the best total of the board, and of a strip by the port of its rightmost pad
abbrev pub least_on : Lists → Figures → ℕ
least_on l f = least_of l.order.now f.cost.now f.bars.now l.lo.now l.hi.now

abbrev pub choice_on : Lists → Figures → ℕ → ℕ → ℕ → ℕ → Least
choice_on l f = choice l.order.now f.cost.now f.bars.now l.lo.now l.hi.now

-- heads and totals of the right lengths, and right
abbrev pub SizesOn : Lists → Figures → List ℕ → List ℕ → Type 0
SizesOn l f hs ts = Sizes hs ts l.order.now f.cost.now f.bars.now

abbrev pub RowsOn : Lists → Figures → List ℕ → List ℕ → ℕ → Type 0
RowsOn l f hs ts a = Rows (sides l) (figures_of l f) l.order.now hs ts a

abbrev pub PartsOn : Lists → Figures → List ℕ → List ℕ → ℕ → ℕ → Type 0
PartsOn l f hs ts a b = Parts (sides l) (figures_of l f) l.order.now hs ts a b

abbrev pub TableOn : Lists → Figures → List ℕ → List ℕ → Type 0
TableOn l f hs ts = cell.Table l.order.now f.cost.now f.bars.now l.lo.now l.hi.now hs ts

-- what a strip's total is read from: the parts that its ports leave, those below them in a row of the table
pub record PartsReady (l : Lists) (f : Figures) (row table : Table) (a b : ℕ) : Type 0 where
  pub sizes : SizesOn l f table.heads.now table.totals.now
  pub parts : PartsOn l f table.heads.now table.totals.now a b
  pub copied : CopiedRow row.heads.now row.totals.now table.heads.now table.totals.now a b

-- a pad that fills a strip with those after it, and the ports that lead it
abbrev pub FullOn : Lists → Figures → ℕ → ℕ → ℕ → Type 0
FullOn l f r a b = FullFrom (board l f) l.order.now r a b

abbrev pub LeadsOn : Lists → Figures → ℕ → ℕ → ℕ → ℕ → Type 0
LeadsOn l f r a b q = Leads (board l f) l.order.now r a b q

abbrev pub MarkedOn : Lists → Figures → List ℕ → List ℕ → ℕ → Type 0
MarkedOn l f hs ms a = MarkedFrom l.order.now f.cost.now f.bars.now l.lo.now l.hi.now hs ms a

-- what the ports of the pad at place r are tried by
abbrev pub trial_of : Table → Table → Lists → Figures → ℕ → Trial
trial_of low high l f r = record { low = low; high = high; figures = f; past = r + 1; row = get_or l.order.now r 0 * length l.order.now }

-- a port of a trial: what its total is read from, and the total
abbrev pub PortOf : Trial → ℕ → ℕ → ℕ → Type 0
PortOf t q below above =
    Port t.low.heads.now t.low.totals.now t.high.heads.now t.high.totals.now t.figures.cost.now t.figures.bars.now t.past t.row q below above

abbrev pub total_of : Trial → ℕ → ℕ → ℕ → ℕ
total_of t q below above =
    port_total t.low.heads.now t.low.totals.now t.high.heads.now t.high.totals.now t.figures.cost.now t.figures.bars.now t.past t.row q below above
