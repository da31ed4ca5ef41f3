-- `calls::lead` meets its contract. Assumes nothing.
use Prim.Native.Nat.{◌≤◌, ◌<◌}
use native.Mathlib.Omega.{arith}
use mir.Facts.{to_z-of_z}
use borrow.Author.Rules.{sfits_of}
use Rattle.paper.specs.declared.Form.TheVariants.{Records}
use Rattle.paper.specs.Job.{count}
use Rattle.paper.specs.laws.Accepted.{Accepted}
use Rattle.paper.proofs.laws.Accepted.{draw_accepted}
use Rattle.paper.proofs.laws.Drawn.{passed_on_sheet}
use Rattle.calls.proofs.lead.Goals as goal

pub overflow_cast-pad : goal.overflow_cast-pad
overflow_cast-pad c =
    let facts : Accepted Records c.args.job.now c.args.job.now × (6 ≤ c.args.room) × (c.args.i < count c.args.job.now) × (c.args.q < count c.args.job.now) = draw_accepted c.args.job.now c.args.i c.args.q c.args.room c.requires in
    omega (arith, facts.2, facts.0.few)

pub overflow_cast-port : goal.overflow_cast-port
overflow_cast-port c =
    let facts : Accepted Records c.args.job.now c.args.job.now × (6 ≤ c.args.room) × (c.args.i < count c.args.job.now) × (c.args.q < count c.args.job.now) = draw_accepted c.args.job.now c.args.i c.args.q c.args.room c.requires in
    omega (arith, facts.3, facts.0.few)

pub x-requires : goal.x-requires
x-requires c =
    let facts : Accepted Records c.args.job.now c.args.job.now × (6 ≤ c.args.room) × (c.args.i < count c.args.job.now) × (c.args.q < count c.args.job.now) = draw_accepted c.args.job.now c.args.i c.args.q c.args.room c.requires in
    rw c.of_records-records.ensures facts.2

pub y-requires : goal.y-requires
y-requires c =
    let facts : Accepted Records c.args.job.now c.args.job.now × (6 ≤ c.args.room) × (c.args.i < count c.args.job.now) × (c.args.q < count c.args.job.now) = draw_accepted c.args.job.now c.args.i c.args.q c.args.room c.requires in
    rw c.of_records-records.ensures facts.2

pub port-requires : goal.port-requires
port-requires c =
    let facts : Accepted Records c.args.job.now c.args.job.now × (6 ≤ c.args.room) × (c.args.i < count c.args.job.now) × (c.args.q < count c.args.job.now) = draw_accepted c.args.job.now c.args.i c.args.q c.args.room c.requires in
    rw c.of_records-records.ensures facts.3

pub lead-requires : goal.lead-requires
lead-requires c =
    rw (c.x.ensures, to_z-of_z (sfits_of c.y.type_inv), c.y.ensures.0, to_z-of_z (sfits_of c.port.type_inv), c.port.ensures.0, c.of_records-records.ensures)
    (passed_on_sheet c.args.job.now c.args.i c.args.q c.args.room c.requires)

pub returns : goal.returns
returns c =
    rw (c.lead.ensures, c.x.ensures, to_z-of_z (sfits_of c.y.type_inv), c.y.ensures.0, to_z-of_z (sfits_of c.port.type_inv), c.port.ensures.0, c.of_records-records.ensures)
