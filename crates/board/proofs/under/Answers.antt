use Prim.Native.Nat.{◌+◌, ◌/◌}
use mathlib.Core.Path.{◌≡◌, ◌∙◌}
use native.Mathlib.Omega.{arith}
use mir.Syntax.{w64}
use mir.Val.{to_z, of_z}
use mathlib.Core.Bool.{true, false}
use lib.Signed.{lt_z, lt_z_yes, lt_z_no}
use Rattle.numbers.proofs.Bits.{read_back}
use Rattle.paper.specs.Job.{port_of}
use Rattle.board.proofs.Counts.{halved_up, halved_down}
use Rattle.board.proofs.under.Goals as goal

pub loop-a-preserved-then-port-h : goal.loop-a-preserved-then-port-h
loop-a-preserved-then-port-h c =
    let job = c.args.job.now in
    let read : (to_z w64 (of_z w64 c.port.result)) ≡ port_of job.form job.ports.now ((c.loop-a.a + c.loop-a.b) / 2) = read_back c.port.result c.port.type_inv ∙ c.port.ensures.0 in
    let t : lt_z (to_z w64 (of_z w64 c.port.result)) (to_z w64 (of_z w64 c.args.h)) ≡ true = c.if-port-h.true in
    halved_up _ c.requires.2 c.loop-a.invariant (omega arith) (lt_z_yes (rw (← read, t) tt))

pub loop-a-preserved : goal.loop-a-preserved
loop-a-preserved c =
    let job = c.args.job.now in
    let read : (to_z w64 (of_z w64 c.port.result)) ≡ port_of job.form job.ports.now ((c.loop-a.a + c.loop-a.b) / 2) = read_back c.port.result c.port.type_inv ∙ c.port.ensures.0 in
    let t : lt_z (to_z w64 (of_z w64 c.port.result)) (to_z w64 (of_z w64 c.args.h)) ≡ false = c.if-port-h.false in
    halved_down _ c.requires.2 c.loop-a.invariant (omega arith) (omega arith) (lt_z_no (rw (← read, t) tt))
