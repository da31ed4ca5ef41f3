use mathlib.Core.Path.{◌≡◌, ap, ◌∙◌}
use Prim.Native.Nat.{ℕ, ◌+◌, ◌-◌, ◌≤◌, min}
use native.Mathlib.Omega.{arith}
use Rattle.slots.specs.Slots.{lowest}
use Rattle.slots.specs.Columns.{total_at}
use Rattle.slots.proofs.Values.{lowest_more}
use Rattle.slots.proofs.Column.with_four.Goals as goal

pub loop-k-preserved : goal.loop-k-preserved
loop-k-preserved c = let f = total_at c.args.self.now in
    let q = c.args.q + c.loop-k.k in
    let h : c.args.a ≤ q = omega arith in
    let e : q + 1 - c.args.a ≡ c.args.q + (c.loop-k.k + 1) - c.args.a = omega arith in
    c.with_port-least.ensures ∙ ap (λ (v : ℕ). min v (f q)) c.loop-k.invariant ∙ lowest_more f c.args.a q h ∙ ap (λ (i : ℕ). lowest f c.args.a i) e
