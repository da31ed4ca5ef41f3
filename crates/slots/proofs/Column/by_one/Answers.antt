use mathlib.Core.Path.{ap, ◌∙◌}
use Prim.Native.Nat.{ℕ, ◌+◌, ◌-◌, min}
use native.Mathlib.Omega.{arith}
use Rattle.slots.specs.Columns.{total_at}
use Rattle.slots.proofs.Values.{lowest_start, lowest_more, lowest_zero}
use Rattle.slots.proofs.Column.by_one.Goals as goal

pub loop-q-init : goal.loop-q-init
loop-q-init c = lowest_start _ _

pub returns-then-v-eq0 : goal.returns-then-v-eq0
returns-then-v-eq0 c = let f = total_at c.args.self.now in
    lowest_zero f c.args.a (c.loop-q.q + 1 - c.args.a) (c.args.c - c.args.a) _ (c.with_port-v.ensures ∙ ap (λ (v : ℕ). min v (f c.loop-q.q)) c.loop-q.invariant ∙ lowest_more f c.args.a c.loop-q.q c.loop-q.auto.q)
    c.if-v-eq0.true (omega (arith, c.loop-q-test.true))

pub loop-q-preserved : goal.loop-q-preserved
loop-q-preserved c = let f = total_at c.args.self.now in
    c.with_port-v.ensures ∙ ap (λ (v : ℕ). min v (f c.loop-q.q)) c.loop-q.invariant ∙ lowest_more f c.args.a c.loop-q.q c.loop-q.auto.q
