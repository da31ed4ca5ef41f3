-- `counting::count` meets its contract: the whole board is a strip. Assumes nothing.
use mathlib.Core.Path.{◌∙◌}
use Prim.Native.Nat.{ℕ}
use native.Mathlib.Omega.{arith}
use lib.ListN.{length}
use Rattle.strips.specs.Least.{Least}
use Rattle.counting.specs.Counting.{costed, SetsOf, Ready}
use Rattle.counting.proofs.Buffers.{room_enough}
use Rattle.counting.proofs.Whole.{ready_sets, ready_countable, ready_count}
use Rattle.counting.proofs.count.Goals as goal
use Rattle.counting.proofs.count.Goals.{After-split_at_mut-sets}

-- The front of the buffer has the board's sets.
sets : (c : After-split_at_mut-sets) {C : ℕ → ℕ → Least} → Ready c.args.l.now C c.args.buffer.now
    → SetsOf (costed c.args.l.now C) c.args.l.now.order.now c.split_at_mut-sets.result.0.now
sets c R = ready_sets R (c.split_at_mut-sets.ensures.front_len ∙ c.base_of-base.ensures.0) (λ i h. c.split_at_mut-sets.ensures.by_index.0 i 0 (omega arith))

pub split_at_mut-sets-requires : goal.split_at_mut-sets-requires
split_at_mut-sets-requires c = omega (arith, room_enough (length c.args.l.now.order.now))

pub count_all-requires-clause-room : goal.count_all-requires-clause-room
count_all-requires-clause-room c = (c.args.l.now.proper.few, omega arith, omega (arith, room_enough (length c.args.l.now.order.now)))

pub count_all-requires-clause-countable : goal.count_all-requires-clause-countable
count_all-requires-clause-countable c =
    let R = c.requires.ready.1 in
    ready_countable R (sets (goal.at.count_all-requires-clause-countable c).After-split_at_mut-sets R)

pub returns-clause-count_is : goal.returns-clause-count_is
returns-clause-count_is c = λ C R.
    ready_count R (sets (goal.at.returns-clause-count_is c).After-split_at_mut-sets R) _ c.count_all.ensures.count_of.0
