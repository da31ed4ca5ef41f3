-- `printed::lines` meets its contract. Assumes nothing.
use Prim.Native.Nat.{◌<◌}
use mathlib.Core.Path.{◌≡◌}
use native.Mathlib.Omega.{arith}
use Rattle.std.specs.Prelude.{None}
use Rattle.paper.specs.Job.{records, count}
use Rattle.text.specs.Writing.{writes_length}
use Rattle.paper.specs.Layouts.{by_weights}
use Rattle.paper.proofs.laws.Accepted.{measure_facts, measure_entries}
use Rattle.printed.specs.Lines.{lines_none, lines_more}
use Rattle.printed.proofs.lines.Goals as goal

pub count-i-end-requires : goal.count-i-end-requires
count-i-end-requires c = rw c.of_records.ensures (omega (arith, (measure_facts (records c.args.job.now) (by_weights 0 1) None c.args.list.now c.requires.0).0.size))

pub loop-i-init : goal.loop-i-init
loop-i-init c = (omega arith, lines_none _ _ _)

pub bounds-list-from : goal.bounds-list-from
bounds-list-from c =
    let many = rw c.of_records.ensures at c.count-i-end.ensures in
    omega (arith, many, c.from.ensures, (measure_facts (records c.args.job.now) (by_weights 0 1) None c.args.list.now c.requires.0).2)

pub line-at-requires : goal.line-at-requires
line-at-requires c =
    let many = rw c.of_records.ensures at c.count-i-end.ensures in
    let h : c.loop-i.i < count c.args.job.now = omega (arith, many) in (
      h,
      rw c.from.ensures (measure_entries (records c.args.job.now) (by_weights 0 1) None c.args.list.now c.requires.0 c.loop-i.i h),
      omega (arith, many, (measure_facts (records c.args.job.now) (by_weights 0 1) None c.args.list.now c.requires.0).0.few, writes_length c.loop-i.invariant.1),
    )

pub loop-i-preserved : goal.loop-i-preserved
loop-i-preserved c =
    (omega arith, lines_more c.args.job.now c.args.list.now c.loop-i.i c.loop-i.invariant.1 (rw c.from.ensures at c.line-at.ensures.0))

pub returns : goal.returns
returns c =
    let many = rw c.of_records.ensures at c.count-i-end.ensures in
    let done : c.loop-i.i ≡ count c.args.job.now = omega (arith, many) in
    (rw done at c.loop-i.invariant.1, omega (arith, done, (measure_facts (records c.args.job.now) (by_weights 0 1) None c.args.list.now c.requires.0).0.few))
