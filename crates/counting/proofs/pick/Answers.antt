use mathlib.Core.Path.{ap}
use Prim.Native.Nat.{ℕ}
use native.Mathlib.Omega.{arith}
use lib.ListN.{get_or}
use Rattle.counting.proofs.Buffers.{countable_listed, countable_high}
use Rattle.counting.proofs.Walks.{pickable_countable, choosing_none, choosing_never, choosing_below, choosing_above, choosing_few, choosing_found, choosing_more}
use Rattle.counting.proofs.pick.Goals as goal

pub corner-requires : goal.corner-requires
corner-requires c = countable_high (pickable_countable c.requires.pickable.1) c.requires.numbers.few

pub overflow_add-q-items : goal.overflow_add-q-items
overflow_add-q-items c = omega (arith, countable_listed (pickable_countable c.requires.pickable.1))

pub offset_bounds-sets-corner : goal.offset_bounds-sets-corner
offset_bounds-sets-corner c = omega (arith, countable_listed (pickable_countable c.requires.pickable.1))

pub bounds-sets-corner : goal.bounds-sets-corner
bounds-sets-corner c = omega (arith, countable_listed (pickable_countable c.requires.pickable.1))

pub loop-q-init : goal.loop-q-init
loop-q-init c = (
  λ s P. rw c.into_iter-q-iterator.ensures.into_iter_gives
      (choosing_none P c.requires.numbers.few _ (ap (λ (k : ℕ). get_or c.args.sets.now k 0) (omega arith))),
  c.requires.numbers,
)

pub number-under-requires-clause-countable : goal.number-under-requires-clause-countable
number-under-requires-clause-countable c =
    let P = c.requires.pickable in
    choosing_below P.1 c.requires.numbers.few (c.loop-q.invariant.0 P.0 P.1) c.in-Some.ensures.steps

pub number-over-requires-clause-countable : goal.number-over-requires-clause-countable
number-over-requires-clause-countable c =
    let P = c.requires.pickable in
    choosing_above P.1 c.requires.numbers.few (c.loop-q.invariant.0 P.0 P.1) c.in-Some.ensures.steps

pub overflow_mul-ways : goal.overflow_mul-ways
overflow_mul-ways c =
    let P = c.requires.pickable in
    omega (arith, choosing_few P.1 c.requires.numbers.few (c.loop-q.invariant.0 P.0 P.1) c.in-Some.ensures.steps _ _ c.number-under.ensures.count_of.0 c.number-over.ensures.count_of.0)

pub overflow_mul-ways-in-loop-q : goal.overflow_mul-ways-in-loop-q
overflow_mul-ways-in-loop-q c =
    let P = c.requires.pickable in
    omega (arith, choosing_few P.1 c.requires.numbers.few (c.loop-q.invariant.0 P.0 P.1) c.in-Some.ensures.steps _ _ c.number-under.ensures.count_of.0 c.number-over.ensures.count_of.0)

pub returns-then-rest-ways-clause-picked_is : goal.returns-then-rest-ways-clause-picked_is
returns-then-rest-ways-clause-picked_is c = λ s P.
    choosing_found P c.requires.numbers.few (c.loop-q.invariant.0 s P) c.in-Some.ensures.steps _ _ c.number-under.ensures.count_of.0 c.number-over.ensures.count_of.0 c.if-rest-ways.true

pub loop-q-preserved : goal.loop-q-preserved
loop-q-preserved c = (
  λ s P. choosing_more P c.requires.numbers.few (c.loop-q.invariant.0 s P) c.in-Some.ensures.steps _ _ c.number-under.ensures.count_of.0 c.number-over.ensures.count_of.0
      c.if-rest-ways.false,
  c.number-over.ensures.numbers_2,
)

-- k is below the sum over all ports: the loop does not end before its port.
pub unreachable-requires : goal.unreachable-requires
unreachable-requires c =
    let P = c.requires.pickable in
    choosing_never P.1 c.requires.numbers.few (c.loop-q.invariant.0 P.0 P.1) c.in-None.ensures.steps.0
