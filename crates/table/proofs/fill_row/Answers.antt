-- `table::fill_row` meets its contract. Assumes nothing.
use mathlib.Core.Path.{◌≡◌, ap, ◌∙◌}
use mathlib.Core.Bool.{cond}
use lib.Dec.{eqb}
use Prim.Native.Nat.{◌+◌, ◌-◌, ◌<◌, ◌≤◌}
use native.Mathlib.Omega.{arith}
use lib.ListN.{length}
use Rattle.pads.specs.Pads.{head_of}
use Rattle.pads.specs.Sides.{square_pads}
use Rattle.totals.specs.Cell.{no_total, place, Marks}
use Rattle.totals.specs.Lent.{board}
use Rattle.table.specs.Noted.{Stored}
use Rattle.totals.proofs.Corners.{corner_top, place-listed}
use Rattle.totals.proofs.Cells.{figures_cheap, kept_cell}
use Rattle.table.proofs.Rows.{kept_head, row_step, copied_step, kept_marks, marked_step}
use Rattle.table.proofs.fill_row.Goals as goal

pub bounds-totals-i : goal.bounds-totals-i
bounds-totals-i c = omega (
  arith,
  c.corner.ensures.0,
  c.requires.sizes.totals,
  place-listed c.args.a c.loop-b.b (length c.args.lists.now.order.now) (omega (arith, c.requires.a_in)) (omega arith),
)

pub loop-b-preserved : goal.loop-b-preserved
loop-b-preserved c =
    let ab : c.args.a ≤ c.loop-b.b = c.loop-b.auto.b in
    let inside : c.loop-b.b ≤ length c.args.lists.now.order.now = omega (arith, c.loop-b-test.true) in
    let few : length c.args.lists.now.order.now ≤ 64 = (square_pads c.args.lists.now c.requires.square).few in
    let here : c.corner.result + c.args.a ≡ place c.args.a c.loop-b.b = omega (arith, c.corner.ensures.0) in
    let in-heads : place c.args.a c.loop-b.b < length c.loop-b.heads = omega (arith, c.requires.sizes.heads, corner_top c.loop-b.b (omega arith)) in
    let in-totals : place c.args.a c.loop-b.b < length c.loop-b.totals = omega (arith, c.requires.sizes.totals, place-listed c.args.a c.loop-b.b (length c.args.lists.now.order.now) ab inside) in
    let kept : c.byte_of-k.result ≡ cond (eqb c.note-v.result no_total) 0 (head_of c.head-head.result) =
    c.byte_of-k.ensures ∙ ap head_of c.kept.ensures ∙ kept_head c.note-v.result c.head-head.result in
    let stored : Stored c.loop-b.ports c.note-v.new.ports (c.corner.result + c.args.a) c.note-v.ensures.noted.ports = rw here c.note-v.ensures.noted.stored in
    let marks : c.corner.result + c.args.a < length c.loop-b.ports → c.args.a < c.loop-b.b → 0 < c.byte_of-k.result
    → Marks (board c.args.lists.now c.args.figures.now) c.args.lists.now.order.now (c.byte_of-k.result - 1) c.args.a c.loop-b.b c.note-v.ensures.noted.ports =
    rw here (λ r. kept_marks _ _ _ _ _ _ _ _ kept (c.note-v.ensures.noted.marks r)) in
    record {
      tallies = c.head-head.ensures.tallies_2;
      row = row_step _ _ _ _ _ _ c.loop-b.b _ _ _ here few ab inside (omega (arith, c.requires.sizes.heads)) (omega (arith, c.requires.sizes.totals))
          (kept_cell _ _ (square_pads c.args.lists.now c.requires.square).level (figures_cheap c.requires.sizes) _ _ _ _ _ _ (omega arith) c.note-v.ensures.valued kept) c.loop-b.invariant.row;
      copied = copied_step _ _ _ _ _ c.loop-b.b _ _ _ here ab (omega arith) in-heads in-totals c.loop-b.invariant.copied;
      marked = marked_step _ _ _ _ _ _ _ _ _ c.loop-b.b _ _ _ here few ab inside (omega (arith, c.requires.sizes.heads)) stored marks c.loop-b.invariant.marked;
    }
