-- `draw::lead` meets its contract: each call draws a point of the leader, and the test of the two heights picks the case. Assumes nothing.
use mathlib.Core.Path.{◌≡◌, sym, ap, ◌∙◌}
use Prim.Native.Nat.{◌≤◌}
use lib.Dec.{lit<}
use lib.IntN.{ℤ, nat_abs}
use mir.Syntax.{w32, w64}
use mir.Val.{to_z, of_z}
use Rattle.std.specs.Prelude.{Ok}
use Rattle.paper.specs.declared.Polyline.TheVariants.{Straight, Bent}
use Rattle.paper.specs.laws.Drawn.{canvas}
use Rattle.paper.proofs.laws.Drawn.{level_drawn, bend_drawn}
use Rattle.numbers.proofs.Bits.{same_bits}
use Rattle.draw.proofs.Bits.{height_back}
use Rattle.draw.proofs.lead.Goals as goal

-- a height that was passed on in 64 bits and came back in 32
passed : {y r : ℤ} → nat_abs y ≤ 1000000 → (r ≡ to_z w64 (of_z w64 y)) × (nat_abs r ≤ 1000000) → to_z w32 (of_z w32 r) ≡ y
passed {y} {r} h e = height_back w32 (lit< tt) r e.1 ∙ e.0 ∙ height_back w64 (lit< tt) y h

pub returns-then-y-q : goal.returns-then-y-q
returns-then-y-q c =
    let pad-is : c.on_canvas-pad.result ≡ canvas c.args.x c.args.y = c.on_canvas-pad.ensures ∙ ap (canvas c.args.x) (passed c.requires.pad c.short.ensures) in
    let port_is : c.on_canvas-port.result ≡ canvas 0 c.args.q = c.on_canvas-port.ensures ∙ ap (canvas 0) (passed c.requires.port c.short-2.ensures) in
    let pad = pad-is in
    let port = port_is in
    (λ i. Ok (Straight (pad i) (port i)))
    ∙ sym (level_drawn _ (same_bits c.args.y c.args.q c.ranges.y.sfits c.ranges.q.sfits c.if-y-q.true))

pub returns-else-y-q : goal.returns-else-y-q
returns-else-y-q c =
    let pad-is : c.on_canvas-pad.result ≡ canvas c.args.x c.args.y = c.on_canvas-pad.ensures ∙ ap (canvas c.args.x) (passed c.requires.pad c.short.ensures) in
    let port_is : c.on_canvas-port.result ≡ canvas 0 c.args.q = c.on_canvas-port.ensures ∙ ap (canvas 0) (passed c.requires.port c.short-2.ensures) in
    let pad = pad-is in
    let port = port_is in
    let bend = c.on_canvas-bend.ensures ∙ ap (canvas c.args.x) (passed c.requires.port c.short-else-y-q.ensures) in
    (λ i. Ok (Bent (pad i) (bend i) (port i))) ∙ sym (bend_drawn _ (λ e'. c.if-y-q.false (ap (of_z w64) e')))
