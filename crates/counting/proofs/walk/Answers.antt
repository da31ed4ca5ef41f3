use mathlib.Core.Path.{refl}
use native.Mathlib.Omega.{arith}
use lib.ListN.{length-set}
use Rattle.places.proofs.Ports.{entered_none}
use Rattle.pads.specs.Sides.{square_pads}
use Rattle.counting.proofs.Walks.{walking_none, walking_done, turn_port, turn_more, turn_entered}
use Rattle.counting.proofs.walk.Goals as goal

pub loop-m-init : goal.loop-m-init
loop-m-init c = (
  λ C X. walking_none (square_pads c.args.l.now c.requires.proper_board.0.square) c.requires.proper_board.0.arranged X.sets.marked.listed X.solvable c.args.out.now c.args.c c.args.k X.walkable,
  refl,
  entered_none c.args.l.now.order.now c.args.out.now,
  c.requires.numbers,
  refl,
)

pub bounds-at-p : goal.bounds-at-p
bounds-at-p c = let X = c.requires.placeable in omega (arith, turn_port c.requires.proper_board.0 X.1 c.args.out.now (c.loop-m.invariant.0 X.0 X.1) (omega arith) c.loop-m-test.true (c.choose-p.ensures.chosen_is X.0))

pub loop-m-preserved : goal.loop-m-preserved
loop-m-preserved c =
    let X = c.requires.placeable in (
      λ C Y. turn_more c.requires.proper_board.0 Y c.args.out.now (c.loop-m.invariant.0 C Y) (omega arith) c.loop-m-test.true (c.choose-p.ensures.chosen_is C),
      simp length-set c.loop-m.invariant.1,
      turn_entered c.requires.proper_board.0 X.1 c.args.out.now (c.loop-m.invariant.0 X.0 X.1) (omega arith) c.loop-m-test.true (c.choose-p.ensures.chosen_is X.0) c.loop-m.invariant.1 c.loop-m.invariant.2,
      c.choose-p.ensures.numbers_2,
      omega arith,
    )

pub returns : goal.returns
returns c = λ C X.
    walking_done (square_pads c.args.l.now c.requires.proper_board.0.square) c.requires.proper_board.0.arranged X.sets.marked.listed X.solvable c.args.out.now c.args.k c.loop-m.out c.loop-m.m c.loop-m.ways
    c.loop-m.rest (c.loop-m.invariant.0 C X) c.loop-m-test.false
