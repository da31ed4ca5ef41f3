use mathlib.Core.Path.{◌≡◌, ap, ◌∙◌}
use Prim.Native.Nat.{ℕ, ◌+◌, ◌*◌, ◌-◌}
use native.Mathlib.Omega.{arith}
use Rattle.slots.specs.Slots.{lowest}
use Rattle.slots.specs.Columns.{total_at}
use Rattle.slots.proofs.Values.{lowest_zero}
use Rattle.slots.proofs.Column.by_four.Goals as goal

pub returns-then-v-eq0 : goal.returns-then-v-eq0
returns-then-v-eq0 c = lowest_zero (total_at c.args.self.now) c.args.a (c.args.c + 4 * c.loop-turn.turn + 4 - c.args.a) (c.args.c + 4 * c.args.turns - c.args.a) _
    c.with_four-v.ensures c.if-v-eq0.true (omega (arith, c.loop-turn-test.true))

pub loop-turn-preserved : goal.loop-turn-preserved
loop-turn-preserved c =
    let e : c.args.c + 4 * c.loop-turn.turn + 4 - c.args.a ≡ c.args.c + 4 * (c.loop-turn.turn + 1) - c.args.a = omega arith in
    c.with_four-v.ensures ∙ ap (λ (i : ℕ). lowest (total_at c.args.self.now) c.args.a i) e
