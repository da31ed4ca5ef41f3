use Prim.Native.Nat.{ℕ, ◌*◌}
use native.Mathlib.Omega.{arith}
use lib.ListN.{length}
use Rattle.choices.specs.Memory.{memory_none}
use Rattle.walks.proofs.Turning.{room_for, turning_none, turning_more}
use Rattle.walks.proofs.turn.Goals as goal

pub loop-k-init : goal.loop-k-init
loop-k-init c = (turning_none _ _ _ _ _ _ c.requires.best_layout, memory_none _ _ _ _ _ _ c.args.search.now.proper.pads.few)

pub copy-requires : goal.copy-requires
copy-requires c =
    let G = c.loop-k.invariant.0 in
    let n = length c.args.search.now.lists.order.now in
    let room = room_for n (length c.args.page.now) c.requires.order_nonzero.0 c.loop-k.k c.loop-k-test.true in
    let kept = c.if-not-step.ensures.step_is.kept.long in
    (omega (arith, c.requires.order_nonzero.1, G.long, kept), omega (arith, room, G.wide))

pub loop-k-preserved : goal.loop-k-preserved
loop-k-preserved c =
    let G = c.loop-k.invariant.0 in
    let next = c.if-not-step.ensures.step_is in
    let room = room_for (length c.args.search.now.lists.order.now) (length c.args.page.now) c.requires.order_nonzero.0 c.loop-k.k c.loop-k-test.true in
    (turning_more _ _ _ _ _ _ _ _ _ G _ _ room next c.copy.ensures, c.step.ensures.memory_2)
