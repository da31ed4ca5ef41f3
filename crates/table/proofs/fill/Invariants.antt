-- `table::fill` meets its contract. The loop's invariant: the rows from a on are right and marked, and what is kept for the next row is right. Assumes nothing.
use Prim.Native.Nat.{ℕ, ◌^◌, ◌<◌}
use lib.ListN.{get_or}
use Rattle.heads.specs.Given.{TalliesOn}
use Rattle.totals.specs.Lent.{RowsOn, MarkedOn}
use Rattle.table.proofs.fill.Given as goal

abbrev pub invariant-loop-a : goal.invariant-loop-a
invariant-loop-a l = record {
  cheap : (i : ℕ) → get_or l.figures.cost.now i 0 < 2 ^ 32;
  tallies : TalliesOn l.lists l.kept l.a;
  rows : RowsOn l.lists l.figures l.heads l.totals l.a;
  marked : MarkedOn l.lists l.figures l.heads l.ports l.a;
}
