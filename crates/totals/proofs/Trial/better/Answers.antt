-- `totals::Trial::better` meets its contract: where the port's total is the best so far, its digit comes in. Assumes nothing.
use mathlib.Core.Path.{◌≡◌, sym, ◌∙◌}
use mathlib.Core.Bool.{true}
use Prim.Native.Nat.{◌<◌}
use Rattle.totals.specs.Cell.{no_total, opens}
use Rattle.totals.proofs.Ports.{port_free}
use Rattle.totals.proofs.Marking.{with_digit, joined_same}
use native.Mathlib.Omega.{arith}
use Rattle.totals.proofs.Trial.better.Goals as goal

pub returns-then-self-q-eq0-2 : goal.returns-then-self-q-eq0-2
returns-then-self-q-eq0-2 c =
    let open-port : opens c.args.self.now.low.heads.now c.args.self.now.high.heads.now c.args.self.now.past c.args.q c.args.above ≡ true = sym c.opens.ensures ∙ c.if-opens.true in
    let small : c.sum-s.result < no_total = omega (arith, c.sum-s.ensures.small) in
    joined_same c.args.v c.args.q _ _ _ c.if-s-v-2.true small
    (port_free c.requires.port _ open-port c.sum-s.ensures.is c.if-self-q-eq0-2.true) (with_digit _ _ c.requires.q_bound.0 c.requires.q_bound.1)
