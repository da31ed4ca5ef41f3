-- `counting::place` meets its contract. Assumes nothing.
use mathlib.Core.Path.{◌∙◌}
use Prim.Native.Nat.{ℕ}
use native.Mathlib.Omega.{arith}
use lib.ListN.{length}
use Rattle.strips.specs.Least.{Least}
use Rattle.counting.specs.Counting.{costed, SetsOf, Ready}
use Rattle.counting.proofs.Buffers.{room_enough}
use Rattle.counting.proofs.Whole.{ready_sets, ready_countable, ready_count, count_above, count_past, count_found, count_placeable}
use Rattle.counting.proofs.place.Goals as goal
use Rattle.counting.proofs.place.Goals.{After-split_at_mut-sets}

-- The front of the buffer has the board's sets.
sets : (c : After-split_at_mut-sets) {C : ℕ → ℕ → Least} → Ready c.args.l.now C c.args.buffer.now
    → SetsOf (costed c.args.l.now C) c.args.l.now.order.now c.split_at_mut-sets.result.0.now
sets c R = ready_sets R (c.split_at_mut-sets.ensures.front_len ∙ c.base_of-base.ensures.0) (λ i h. c.split_at_mut-sets.ensures.by_index.0 i 0 (omega arith))

pub split_at_mut-sets-requires : goal.split_at_mut-sets-requires
split_at_mut-sets-requires c = omega (arith, room_enough (length c.args.l.now.order.now))

pub count_all-c-requires-clause-room : goal.count_all-c-requires-clause-room
count_all-c-requires-clause-room c = (c.args.l.now.proper.few, omega arith, omega (arith, room_enough (length c.args.l.now.order.now)))

pub count_all-c-requires-clause-countable : goal.count_all-c-requires-clause-countable
count_all-c-requires-clause-countable c =
    ready_countable c.requires.ready.1 (sets (goal.at.count_all-c-requires-clause-countable c).After-split_at_mut-sets c.requires.ready.1)

pub returns-then-c-eq-MOST : goal.returns-then-c-eq-MOST
returns-then-c-eq-MOST c = λ C R.
    let S = sets (goal.at.returns-then-c-eq-MOST c).After-split_at_mut-sets R in
    count_above _ (ready_count R S _ c.count_all-c.ensures.count_of.0) c.args.out.now c.if-c-eq-MOST.true

pub returns-then-c-k : goal.returns-then-c-k
returns-then-c-k c = λ C R.
    let S = sets (goal.at.returns-then-c-k c).After-split_at_mut-sets R in
    count_past _ (ready_count R S _ c.count_all-c.ensures.count_of.0) c.if-c-eq-MOST.false c.args.out.now c.args.k c.if-c-k.true

pub walk-requires-clause-placeable : goal.walk-requires-clause-placeable
walk-requires-clause-placeable c =
    let R = c.requires.ready.1 in
    let S = sets (goal.at.walk-requires-clause-placeable c).After-split_at_mut-sets R in
    (c.requires.ready.0, count_placeable R S _ (ready_count R S _ c.count_all-c.ensures.count_of.0) c.if-c-eq-MOST.false c.args.k c.if-c-k.false)

pub returns : goal.returns
returns c = λ C R.
    let S = sets (goal.at.returns c).After-split_at_mut-sets R in
    let N = ready_count R S _ c.count_all-c.ensures.count_of.0 in
    count_found _ N c.if-c-eq-MOST.false c.args.out.now c.args.k _ c.if-c-k.false
    (c.walk.ensures C (count_placeable R S _ N c.if-c-eq-MOST.false c.args.k c.if-c-k.false))
