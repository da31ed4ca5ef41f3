-- `totals::next_port` meets its contract. Assumes nothing.
use mathlib.Core.Path.{refl, sym, ap, ◌∙◌}
use Prim.Native.Nat.{ℕ, ◌+◌, ◌≤◌}
use borrow.Author.Count.{below_more}
use native.Mathlib.Omega.{arith}
use lib.ListN.{length, get_or}
use Rattle.pads.specs.Sides.{square_pads}
use Rattle.totals.specs.Cell.{Says}
use Rattle.totals.specs.Lent.{LeadsOn}
use Rattle.totals.proofs.Corners.{corner_step, place-listed}
use Rattle.totals.proofs.Leading.{table_best, none_leads, port_here, attains_says}
use Rattle.totals.proofs.next_port.Goals as goal

pub bounds-table-corner : goal.bounds-table-corner
bounds-table-corner c = omega (
  arith,
  c.corner.ensures.0,
  c.requires.table.sizes.totals,
  place-listed c.args.a c.args.b (length c.args.lists.now.order.now) (omega (arith, c.requires.full.full)) c.requires.full.ports,
)

pub returns-then-best : goal.returns-then-best
returns-then-best c = record {
  start = c.requires.a_le_from.1;
  within = omega arith;
  passed = λ i u v. none_leads (square_pads c.args.lists.now c.requires.square) c.requires.table c.args.r c.args.a c.args.b c.requires.full (sym (ap (λ (i : ℕ). get_or c.args.table.now.totals.now (i + c.args.a) 0) c.corner.ensures.0 ∙ table_best (square_pads c.args.lists.now c.requires.square) c.requires.table c.args.r c.args.a c.args.b c.requires.full) ∙ c.if-best.true) i;
  found = λ u. absurd (omega arith);
}

pub attains-requires-clause-port : goal.attains-requires-clause-port
attains-requires-clause-port c =
    let aq : c.args.a ≤ c.loop-q.q = omega (arith, c.requires.a_le_from.0) in
    rw c.trial_of-trial.ensures (port_here (square_pads c.args.lists.now c.requires.square) c.requires.table c.args.r c.args.a c.args.b c.requires.full c.loop-q.q aq c.loop-q-test.true _ c.loop-q.below _ refl c.loop-q.invariant.0 (omega (arith, c.corner-base.ensures.0)))

pub returns-then-attains : goal.returns-then-attains
returns-then-attains c =
    let aq : c.args.a ≤ c.loop-q.q = omega (arith, c.requires.a_le_from.0) in
    let says : Says (LeadsOn c.args.lists.now c.args.figures.now c.args.r c.args.a c.args.b c.loop-q.q) c.attains.result =
    attains_says (square_pads c.args.lists.now c.requires.square) c.requires.table c.args.r c.args.a c.args.b c.requires.full c.loop-q.q aq c.loop-q-test.true _ c.loop-q.below _ refl c.loop-q.invariant.0
    (omega (arith, c.corner-base.ensures.0)) _ (ap (λ (i : ℕ). get_or c.args.table.now.totals.now (i + c.args.a) 0) c.corner.ensures.0 ∙ table_best (square_pads c.args.lists.now c.requires.square) c.requires.table c.args.r c.args.a c.args.b c.requires.full) c.if-best.false c.attains.result (rw c.trial_of-trial.ensures at c.attains.ensures) in
    (record { start = c.loop-q.auto.q; within = omega arith; passed = c.loop-q.invariant.1; found = λ u. says.yes c.if-attains.true }, c.loop-q-test.true)

pub loop-q-preserved : goal.loop-q-preserved
loop-q-preserved c =
    let aq : c.args.a ≤ c.loop-q.q = omega (arith, c.requires.a_le_from.0) in
    let says : Says (LeadsOn c.args.lists.now c.args.figures.now c.args.r c.args.a c.args.b c.loop-q.q) c.attains.result =
    attains_says (square_pads c.args.lists.now c.requires.square) c.requires.table c.args.r c.args.a c.args.b c.requires.full c.loop-q.q aq c.loop-q-test.true _ c.loop-q.below _ refl c.loop-q.invariant.0
    (omega (arith, c.corner-base.ensures.0)) _ (ap (λ (i : ℕ). get_or c.args.table.now.totals.now (i + c.args.a) 0) c.corner.ensures.0 ∙ table_best (square_pads c.args.lists.now c.requires.square) c.requires.table c.args.r c.args.a c.args.b c.requires.full) c.if-best.false c.attains.result (rw c.trial_of-trial.ensures at c.attains.ensures) in (
      omega (arith, c.loop-q.invariant.0, corner_step c.loop-q.q),
      λ i u v. below_more (λ i. c.args.from ≤ i → LeadsOn c.args.lists.now c.args.figures.now c.args.r c.args.a c.args.b i → ⊥) c.loop-q.q
          (λ k v w. c.loop-q.invariant.1 k w v) (λ w. says.no c.if-attains.false) i v u,
    )

pub returns : goal.returns
returns c = record {
  start = c.requires.a_le_from.1;
  within = omega arith;
  passed = λ i u v. c.loop-q.invariant.1 i u (omega arith);
  found = λ u. absurd (omega arith);
}
