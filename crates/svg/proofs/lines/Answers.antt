-- `svg::lines` meets its contract. Assumes nothing.
use mathlib.Core.Path.{◌≡◌}
use native.Mathlib.Omega.{arith}
use mir.Facts.{to_z-of_z}
use mir.Syntax.{w64}
use mir.Val.{to_z, of_z}
use borrow.Author.Rules.{sfits_of}
use Rattle.std.specs.Prelude.{None}
use Rattle.text.specs.Writing.{writes_length, writes_joined}
use Rattle.paper.specs.Job.{records, count}
use Rattle.paper.specs.Leaders.{Leader}
use Rattle.paper.specs.Layouts.{by_weights, board_of, held, leader}
use Rattle.paper.proofs.laws.Accepted.{measure_facts, measure_entries}
use Rattle.paper.proofs.laws.Exported.{all_on_sheet, text_bound}
use Rattle.svg.proofs.Parts.{lines_room}
use Rattle.svg.proofs.lines.Goals as goal

pub count-i-end-requires : goal.count-i-end-requires
count-i-end-requires c = omega (arith, (measure_facts (records c.args.job.now) (by_weights 0 0) None c.args.list.now c.requires.0).0.size)

pub bounds-list-from : goal.bounds-list-from
bounds-list-from c =
    omega (arith, (measure_facts (records c.args.job.now) (by_weights 0 0) None c.args.list.now c.requires.0).2)

pub port-q-requires : goal.port-q-requires
port-q-requires c = rw c.from.ensures (measure_entries (records c.args.job.now) (by_weights 0 0) None c.args.list.now c.requires.0 c.loop-i.i (omega arith))

pub line-at-requires : goal.line-at-requires
line-at-requires c =
    let leader-is : let it : Leader = record { x = c.x.result; y = to_z w64 (of_z w64 c.y.result); port = to_z w64 (of_z w64 c.port-q.result) } in it ≡ leader (board_of (records c.args.job.now)) c.loop-i.i (held c.args.list.now c.loop-i.i) = rw (c.x.ensures, to_z-of_z (sfits_of c.y.type_inv), c.y.ensures.0, to_z-of_z (sfits_of c.port-q.type_inv), c.port-q.ensures.0, c.from.ensures) in
    let few = (measure_facts (records c.args.job.now) (by_weights 0 0) None c.args.list.now c.requires.0).0.few in
    let on = all_on_sheet c.args.job.now c.args.list.now c.requires.0 in
    let room = lines_room (board_of (records c.args.job.now)) (held c.args.list.now) on few c.loop-i.i (omega arith) in
    rw leader-is (on c.loop-i.i (omega arith), omega (arith, room, c.loop-i.invariant.stop, writes_length c.loop-i.invariant, c.requires.1))

pub loop-i-preserved : goal.loop-i-preserved
loop-i-preserved c =
    let leader-is : let it : Leader = record { x = c.x.result; y = to_z w64 (of_z w64 c.y.result); port = to_z w64 (of_z w64 c.port-q.result) } in it ≡ leader (board_of (records c.args.job.now)) c.loop-i.i (held c.args.list.now c.loop-i.i) = rw (c.x.ensures, to_z-of_z (sfits_of c.y.type_inv), c.y.ensures.0, to_z-of_z (sfits_of c.port-q.type_inv), c.port-q.ensures.0, c.from.ensures) in
    let written = rw leader-is at c.line-at.ensures in
    writes_joined _ c.loop-i.i c.loop-i.invariant written

pub returns : goal.returns
returns c =
    let done : c.loop-i.i ≡ count c.args.job.now = omega arith in
    let w = rw done at c.loop-i.invariant in
    (w, omega (arith, w.stop, text_bound c.args.job.now c.args.list.now c.requires.0))
