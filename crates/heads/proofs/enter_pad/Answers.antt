-- `heads::enter_pad` meets its contract. Assumes nothing.
use mathlib.Core.Path.{◌≡◌, refl, sym, ap, ◌∙◌}
use Prim.Native.Nat.{ℕ, ◌+◌}
use native.Mathlib.Omega.{arith}
use lib.ListN.{get_or}
use Rattle.pads.specs.Sides.{sides, square_pads}
use Rattle.heads.proofs.Tallies.{enter_other, marking_start, marking_small, marking_step, marking_end}
use Rattle.heads.proofs.enter_pad.Goals as goal

pub returns-then-from-a-clause-entering_2 : goal.returns-then-from-a-clause-entering_2
returns-then-from-a-clause-entering_2 c =
    enter_other _ _ _ c.args.kept.now.at c.args.kept.now.seen c.args.kept.now.all _ c.requires.i_in_bounds
    (λ e. c.if-from-a.true (c.from.ensures ∙ ap (λ (j : ℕ). get_or c.args.lists.now.lo.now j 0) c.from-j.ensures ∙ e)) c.requires.entering

pub loop-b-init : goal.loop-b-init
loop-b-init c =
    let here : get_or c.args.lists.now.lo.now (get_or c.args.lists.now.order.now c.args.i 0) 0 ≡ c.args.a = rw c.from-j.ensures at (sym c.from.ensures ∙ c.if-from-a.false) in
    (rw (c.from-b.ensures, c.from-j.ensures) (marking_start (sides c.args.lists.now) c.args.lists.now.order.now c.args.a c.args.i c.requires.i_in_bounds here _ _ _ c.requires.entering), refl)

pub overflow_add-kept : goal.overflow_add-kept
overflow_add-kept c =
    let s = marking_small (sides c.args.lists.now) c.args.lists.now.order.now c.args.a c.args.i c.requires.i_in_bounds (rw c.from-j.ensures at (sym c.from.ensures ∙ c.if-from-a.false))
    c.loop-b.kept.at c.loop-b.kept.seen c.loop-b.kept.all c.loop-b.b (omega arith) c.loop-b.invariant.0 in
    omega (arith, s.0, (square_pads c.args.lists.now c.requires.square).few, c.reached.ensures.1)

pub overflow_add-kept-in-loop-b : goal.overflow_add-kept-in-loop-b
overflow_add-kept-in-loop-b c =
    let s = marking_small (sides c.args.lists.now) c.args.lists.now.order.now c.args.a c.args.i c.requires.i_in_bounds (rw c.from-j.ensures at (sym c.from.ensures ∙ c.if-from-a.false))
    c.loop-b.kept.at c.loop-b.kept.seen c.loop-b.kept.all c.loop-b.b (omega arith) c.loop-b.invariant.0 in
    omega (arith, s.1, (square_pads c.args.lists.now c.requires.square).few)

pub loop-b-preserved : goal.loop-b-preserved
loop-b-preserved c = (
  marking_step (sides c.args.lists.now) c.args.lists.now.order.now c.args.a c.args.i c.requires.i_in_bounds (rw c.from-j.ensures at (sym c.from.ensures ∙ c.if-from-a.false))
      c.loop-b.kept.at c.loop-b.kept.seen c.loop-b.kept.all c.loop-b.b _ _ (omega arith) (omega arith) (square_pads c.args.lists.now c.requires.square).few (omega arith)
      (rw (c.from-b.ensures, c.from-j.ensures) at c.loop-b.auto.b) (ap (λ (k : ℕ). get_or c.loop-b.kept.seen c.loop-b.b 0 + k) c.reached.ensures.0) refl c.loop-b.invariant.0,
  c.loop-b.invariant.1,
)

pub returns-clause-entering_2 : goal.returns-clause-entering_2
returns-clause-entering_2 c =
    marking_end (sides c.args.lists.now) c.args.lists.now.order.now c.args.a c.args.i c.requires.i_in_bounds (rw c.from-j.ensures at (sym c.from.ensures ∙ c.if-from-a.false))
    c.loop-b.kept.at c.loop-b.kept.seen c.loop-b.kept.all c.loop-b.b (omega arith) c.loop-b.invariant.0
