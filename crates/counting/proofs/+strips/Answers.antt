use mathlib.Core.Path.{◌≡◌, ap}
use Prim.Native.Nat.{ℕ, ◌+◌, ◌≤◌}
use native.Mathlib.Omega.{arith}
use lib.ListN.{get_or}
use Rattle.totals.specs.Cell.{place}
use Rattle.counting.specs.Counting.{limit, capped, CountOf, Numbers}
use Rattle.counting.proofs.Buffers.{countable_low, countable_listed, countable_high, count-told, numbers_more, kept_room, kept_small, kept_count, kept_none}
use Rattle.counting.proofs.Rounds.{Round, round_none, round_low, round_high, round_below, round_above, round_both, round_fits, round_small, round_large, round_done, round_most}
use Rattle.counting.proofs.+strips.Goals as goal
use Rattle.counting.proofs.+strips.Goals.{count_strip-in-None, count_strip-in-Some+else-under-over-lt-SMALL+then-sum-eq-MOST}

pub count_strip-corner-corner-requires : goal.count_strip-corner-corner-requires
count_strip-corner-corner-requires t c = countable_high c.requires.countable c.requires.numbers.0.few

pub count_strip-overflow_add-q-items : goal.count_strip-overflow_add-q-items
count_strip-overflow_add-q-items t c = omega (arith, countable_listed c.requires.countable)

pub count_strip-offset_bounds-sets-corner : goal.count_strip-offset_bounds-sets-corner
count_strip-offset_bounds-sets-corner t c = omega (arith, countable_listed c.requires.countable)

pub count_strip-bounds-sets-corner : goal.count_strip-bounds-sets-corner
count_strip-bounds-sets-corner t c = omega (arith, countable_listed c.requires.countable)

pub count_strip-loop-q-init : goal.count_strip-loop-q-init
count_strip-loop-q-init t c =
    rw c.into_iter-q-iterator.ensures.into_iter_gives (round_none _ c.requires.numbers.0 c.requires.numbers.1 (ap (λ (k : ℕ). get_or c.args.sets.now k 0) (omega arith)))

pub count_strip-overflow_add-under : goal.count_strip-overflow_add-under
count_strip-overflow_add-under t c = omega (arith, countable_listed (round_below c.loop-q.invariant c.requires.numbers.1 c.requires.countable c.in-Some.ensures.steps))

pub count_strip-offset_bounds-numbers-corner : goal.count_strip-offset_bounds-numbers-corner
count_strip-offset_bounds-numbers-corner t c = omega (arith, countable_listed (round_below c.loop-q.invariant c.requires.numbers.1 c.requires.countable c.in-Some.ensures.steps))

pub count_strip-bounds-numbers-corner : goal.count_strip-bounds-numbers-corner
count_strip-bounds-numbers-corner t c = kept_room c.loop-q.invariant.right (round_below c.loop-q.invariant c.requires.numbers.1 c.requires.countable c.in-Some.ensures.steps) _ (omega arith)

pub count_strip-bounds-numbers-corner-in-loop-q : goal.count_strip-bounds-numbers-corner-in-loop-q
count_strip-bounds-numbers-corner-in-loop-q t c = kept_room c.loop-q.invariant.right (round_above c.loop-q.invariant c.requires.numbers.1 c.requires.countable c.in-Some.ensures.steps) _ (omega arith)

pub count_strip-overflow_add-under-in-loop-q : goal.count_strip-overflow_add-under-in-loop-q
count_strip-overflow_add-under-in-loop-q t c = omega (
  arith,
  round_both c.loop-q.invariant c.requires.numbers.1 c.requires.countable c.in-Some.ensures.steps
      (c.corner.result + c.args.a) (c.corner-corner.result + c.in-Some.q + 1) (omega arith) (omega arith),
)

pub count_strip-overflow_add-sum : goal.count_strip-overflow_add-sum
count_strip-overflow_add-sum t c = omega (
  arith,
  round_fits c.loop-q.invariant c.requires.numbers.1 c.requires.countable c.in-Some.ensures.steps
      (c.corner.result + c.args.a) (c.corner-corner.result + c.in-Some.q + 1) (omega arith) (omega arith) c.if-under-over-lt-SMALL.true,
)

pub count_strip-loop-q-preserved-then-under-over-lt-SMALL : goal.count_strip-loop-q-preserved-then-under-over-lt-SMALL
count_strip-loop-q-preserved-then-under-over-lt-SMALL t c =
    round_small c.loop-q.invariant c.requires.numbers.1 c.requires.countable c.in-Some.ensures.steps _ _ (omega arith) (omega arith) c.if-under-over-lt-SMALL.true

pub count_strip-number-under-requires : goal.count_strip-number-under-requires
count_strip-number-under-requires t c = (
  omega (arith, round_low c.loop-q.invariant c.requires.numbers.1 c.requires.countable c.in-Some.ensures.steps, round_high c.loop-q.invariant c.requires.numbers.1 c.requires.countable c.in-Some.ensures.steps),
  (c.loop-q.invariant.right, round_below c.loop-q.invariant c.requires.numbers.1 c.requires.countable c.in-Some.ensures.steps),
)

pub count_strip-number-over-requires : goal.count_strip-number-over-requires
count_strip-number-over-requires t c = (
  omega (arith, round_low c.loop-q.invariant c.requires.numbers.1 c.requires.countable c.in-Some.ensures.steps, round_high c.loop-q.invariant c.requires.numbers.1 c.requires.countable c.in-Some.ensures.steps),
  (c.number-under.ensures.numbers_2, round_above c.loop-q.invariant c.requires.numbers.1 c.requires.countable c.in-Some.ensures.steps),
)

pub count_strip-loop-q-preserved : goal.count_strip-loop-q-preserved
count_strip-loop-q-preserved t c =
    rw (c.min-sum.ensures, c.min.ensures, c.times.ensures)
    (round_large c.loop-q.invariant c.requires.numbers.1 c.requires.countable c.in-Some.ensures.steps _ _ c.number-under.ensures.count_of.0 c.number-over.ensures.count_of.0 _ c.number-over.ensures.numbers_2)

pub count_strip-overflow_add-numbers : goal.count_strip-overflow_add-numbers
count_strip-overflow_add-numbers t c = omega (arith, countable_listed c.requires.countable)

pub count_strip-offset_bounds-numbers-corner-2 : goal.count_strip-offset_bounds-numbers-corner-2
count_strip-offset_bounds-numbers-corner-2 t c = omega (arith, countable_listed c.requires.countable)

pub count_strip-bounds-numbers-corner-2 : goal.count_strip-bounds-numbers-corner-2
count_strip-bounds-numbers-corner-2 t c = omega (arith, countable_listed c.requires.countable, c.requires.numbers.0.room, c.match-next.auto.numbers)

-- After the loop all ports are behind, or the sum is above the limit.
pub count_strip-returns : goal.count_strip-returns
count_strip-returns t c =
    let counted : CountOf c.args.sets.now c.args.a c.args.b (capped c.match-next.sum) × Numbers c.args.sets.now c.match-next.numbers =
    elim c.match-next.branch [
      | count_strip-in-None w ↦ rw (w.sum-is, w.numbers-is) (round_done c.loop-q.invariant c.requires.numbers.1 w.in-None.ensures.steps.0, c.loop-q.invariant.right)
      | count_strip-in-Some+else-under-over-lt-SMALL+then-sum-eq-MOST w ↦
          let R : Round c.args.sets.now c.args.a c.args.b w.number-over.new.numbers c.next.new.self.0 w.min-sum.result =
          rw (w.min-sum.ensures, w.min.ensures, w.times.ensures)
          (round_large c.loop-q.invariant c.requires.numbers.1 c.requires.countable w.in-Some.ensures.steps _ _ w.number-under.ensures.count_of.0 w.number-over.ensures.count_of.0 _ w.number-over.ensures.numbers_2) in
          rw (w.sum-is, w.numbers-is) (round_most R c.requires.numbers.1 (omega (arith, w.if-sum-eq-MOST.true)), w.number-over.ensures.numbers_2)
    ] in
    let number : CountOf c.args.sets.now c.args.a c.args.b c.min-sum-2.result = rw c.min-sum-2.ensures counted.0 in
    let few : c.min-sum-2.result ≤ limit + 1 = omega (arith, c.min-sum-2.ensures) in record {
      count_of = (number, few);
      numbers_2 = numbers_more c.args.a c.args.b _ counted.1 c.requires.numbers.1 (countable_listed c.requires.countable) _ (omega arith) few number;
    }

pub number-corner-requires : goal.number-corner-requires
number-corner-requires t c = countable_high c.requires.countable c.requires.numbers.few

pub number-overflow_add-kept : goal.number-overflow_add-kept
number-overflow_add-kept t c = omega (arith, countable_listed c.requires.countable)

pub number-offset_bounds-numbers-corner : goal.number-offset_bounds-numbers-corner
number-offset_bounds-numbers-corner t c = omega (arith, countable_listed c.requires.countable)

pub number-bounds-numbers-corner : goal.number-bounds-numbers-corner
number-bounds-numbers-corner t c = kept_room c.requires.numbers c.requires.countable _ (omega arith)

pub number-count_strip-requires : goal.number-count_strip-requires
number-count_strip-requires t c = (
  omega (arith, countable_low c.requires.countable),
  ((c.requires.numbers, kept_none c.requires.numbers c.requires.countable _ (omega arith) c.if-kept-eq-NOT_YET.true), c.requires.countable),
)

pub number-returns-clause-count_of : goal.number-returns-clause-count_of
number-returns-clause-count_of t c =
    let at : c.corner.result + c.args.a ≡ place c.args.a c.args.b = omega arith in
    let N = kept_count c.requires.numbers c.requires.countable _ at (omega (arith, kept_small c.requires.numbers c.requires.countable _ at)) in
    (N, count-told c.requires.countable _ N)
