use Prim.Native.Nat.{ℕ, ◌+◌, ◌≤◌, ◌<◌}
use native.Mathlib.Omega.{arith}
use Rattle.totals.specs.Cell.{corner_of, place}
use Rattle.totals.proofs.Corners.{corner_step, place-listed}
use Rattle.counting.proofs.Buffers.{base_few, place-first, empty_none, empty_more}
use Rattle.counting.proofs.keep_empty.Goals as goal

-- A strip of no ports, among those of n ports, has its place in the room for their numbers.
inside : (n b : ℕ) → n ≤ 64 → b < n + 1 → (place b b < corner_of (n + 1)) × (place b b < 2145)
inside n b few h =
    let k : place b b < corner_of (n + 1) = place-listed b b n (omega arith) (omega arith) in
    (k, omega (arith, base_few n few))

pub loop-b-init : goal.loop-b-init
loop-b-init c = (empty_none _, omega (arith, place-first))

pub offset_bounds-numbers-at : goal.offset_bounds-numbers-at
offset_bounds-numbers-at c = omega (arith, inside c.args.n c.loop-b.b c.requires.0 c.loop-b-test.true)

pub bounds-numbers-at : goal.bounds-numbers-at
bounds-numbers-at c = omega (arith, inside c.args.n c.loop-b.b c.requires.0 c.loop-b-test.true)

pub overflow_add-at-in-loop-b : goal.overflow_add-at-in-loop-b
overflow_add-at-in-loop-b c = omega (arith, inside c.args.n c.loop-b.b c.requires.0 c.loop-b-test.true)

pub loop-b-preserved : goal.loop-b-preserved
loop-b-preserved c = (
  empty_more c.loop-b.b c.loop-b.at c.args.numbers.now c.loop-b.numbers c.loop-b.invariant.1
      (omega (arith, inside c.args.n c.loop-b.b c.requires.0 c.loop-b-test.true)) c.loop-b.invariant.0,
  omega (arith, corner_step c.loop-b.b),
)
