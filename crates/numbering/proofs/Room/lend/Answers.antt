-- `numbering::Room::lend` meets its contract: what is filled stands in its own room, and the ports then in the buffer. Assumes nothing.
use mathlib.Core.Path.{◌≡◌, refl, sym, ◌∙◌}
use Prim.Native.Nat.{◌*◌}
use native.Mathlib.Omega.{arith}
use native.Mathlib.Nat.{mul-le-mul}
use lib.Seq.{length-take-le}
use borrow.Author.Tests.{ltb-true, ltb-false}
use Rattle.numbers.proofs.Filled.{zeros_front}
use Rattle.paper.specs.Job.{records, count}
use Rattle.paper.specs.Layouts.{board_of}
use Rattle.counting.proofs.Strips.{marked_by}
use Rattle.counting.proofs.Whole.{listed}
use Rattle.numbering.specs.Outcomes.{Stacked}
use Rattle.numbering.proofs.Bridged.{Listing, no_layout, some_layout, job_pads, job_even, job_arranged, job_stacked, strips_room, strips_all, strips_lent, front_long, front_copied}
use Rattle.numbering.proofs.Room.lend.Goals as goal
use Rattle.numbering.proofs.Room.lend.Goals.{After-from-n, After-bar, After-fill-least}

number-is : (c : After-from-n) → c.from-n.result ≡ count c.args.job.now
number-is c = c.from-n.ensures ∙ c.count.ensures

listing : (c : After-bar) → Listing c.args.job.now c.prepare.new.order c.prepare.new.lo c.prepare.new.hi
listing c = record { accepted = c.requires.0; falling = c.prepare.ensures.order_of; around = c.prepare.ensures.sides_of }

stacked : (c : After-fill-least)
    → Stacked (board_of (records c.args.job.now)) c.args.figures.now c.bar.new.bars c.prepare.new.order c.prepare.new.lo c.prepare.new.hi c.fill-least.result
stacked c = job_stacked (record { accepted = c.requires.0; falling = c.prepare.ensures.order_of; around = c.prepare.ensures.sides_of })
    c.bar.ensures c.fill-least.ensures.table c.fill-least.ensures.value

pub bar-requires-clause-bars_len : goal.bar-requires-clause-bars_len
bar-requires-clause-bars_len c =
    let few = c.requires.0.few in
    rw (number-is (goal.at.bar-requires-clause-bars_len c).After-from-n)
    (length-take-le _ _ (mul-le-mul few few), zeros_front (count c.args.job.now * count c.args.job.now) 4096)

pub invariant_of-lists : goal.invariant_of-lists
invariant_of-lists c =
    let A = listing (goal.at.invariant_of-lists c).After-bar in
    record { proper = rw (number-is (goal.at.invariant_of-lists c).After-from-n ∙ sym (job_pads A)) (job_even A) }

pub returns-then-least-ge-NONE : goal.returns-then-least-ge-NONE
returns-then-least-ge-NONE c =
    let K = stacked (goal.at.returns-then-least-ge-NONE c).After-fill-least in
    (no_layout _ refl K c.if-least-ge-NONE.true, refl)

pub returns-then-short_buffer : goal.returns-then-short_buffer
returns-then-short_buffer c =
    let K = stacked (goal.at.returns-then-short_buffer c).After-fill-least in
    let short = rw (number-is (goal.at.returns-then-short_buffer c).After-from-n) at (ltb-true _ _ (sym c.short_buffer.ensures ∙ c.if-short_buffer.true)) in
    ((some_layout _ refl K c.if-least-ge-NONE.false, short), refl)

pub slice_bounds-copy_from_slice-end : goal.slice_bounds-copy_from_slice-end
slice_bounds-copy_from_slice-end c =
    let A = listing (goal.at.slice_bounds-copy_from_slice-end c).After-bar in
    strips_lent A _ _ (number-is (goal.at.slice_bounds-copy_from_slice-end c).After-from-n) c.corner.ensures.0 _ (ltb-false _ _ (sym c.short_buffer.ensures ∙ c.if-short_buffer.false))

pub slice_bounds-copy_from_slice-end-2 : goal.slice_bounds-copy_from_slice-end-2
slice_bounds-copy_from_slice-end-2 c =
    let A = listing (goal.at.slice_bounds-copy_from_slice-end-2 c).After-bar in
    sym (length-take-le _ _ (strips_lent A _ _ (number-is (goal.at.slice_bounds-copy_from_slice-end-2 c).After-from-n) c.corner.ensures.0 _ (ltb-false _ _ (sym c.short_buffer.ensures ∙ c.if-short_buffer.false))))

pub copy_from_slice-requires : goal.copy_from_slice-requires
copy_from_slice-requires c =
    let A = listing (goal.at.copy_from_slice-requires c).After-bar in let e = number-is (goal.at.copy_from_slice-requires c).After-from-n in
    length-take-le _ _ (strips_lent A _ _ e c.corner.ensures.0 _ (ltb-false _ _ (sym c.short_buffer.ensures ∙ c.if-short_buffer.false)))
    ∙ sym (length-take-le _ _ (omega (arith, strips_room A _ _ e c.corner.ensures.0, c.fill-least.auto.ports)))

pub returns : goal.returns
returns c =
    let A = listing (goal.at.returns c).After-bar in
    let K = stacked (goal.at.returns c).After-fill-least in
    let e = number-is (goal.at.returns c).After-from-n in
    let room = strips_room A _ _ e c.corner.ensures.0 in
    let all = strips_all A _ _ e c.corner.ensures.0 in
    let enough = (ltb-false _ _ (sym c.short_buffer.ensures ∙ c.if-short_buffer.false)) in (
      record { some = some_layout _ refl K c.if-least-ge-NONE.false; enough = rw e at enough },
      front_long _ c.fill-least.new.ports _ _ (omega (arith, room, c.fill-least.auto.ports)) c.copy_from_slice.ensures.after
          (strips_lent A _ _ e c.corner.ensures.0 _ enough),
      record {
        bars = c.bar.new.bars;
        stacked = K;
        proper = record { square = e ∙ sym (job_pads A); arranged = job_arranged A };
        marked = marked_by c.fill-least.new.ports (listed (job_even A) (job_arranged A) _) c.fill-least.ensures.table c.fill-least.ensures.marked_from
            (omega (arith, all, room, c.fill-least.auto.ports)) _
            (λ i h. front_copied _ c.fill-least.new.ports _ _ (omega (arith, room, c.fill-least.auto.ports)) c.copy_from_slice.ensures.after i (omega (arith, all, h)));
        some = c.if-least-ge-NONE.false;
      },
    )
