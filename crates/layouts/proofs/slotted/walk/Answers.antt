-- `layouts::slotted::walk` meets its contract: the lists lent are arrays and parts of arrays. Assumes nothing.
use mathlib.Core.Path.{◌≡◌, ◌∙◌}
use Prim.Native.Nat.{◌*◌, ◌≤◌}
use native.Mathlib.Nat.{mul-le-mul}
use native.Mathlib.Omega.{arith}
use lib.Seq.{length-take-le}
use Rattle.numbers.proofs.Filled.{zeros_front}
use Rattle.job.specs.Board.{pads_on, ports_on}
use Rattle.layouts.proofs.slotted.walk.Goals as goal

pub walk_at-requires-clause-bars_len : goal.walk_at-requires-clause-bars_len
walk_at-requires-clause-bars_len c =
    let n : c.from-n.result ≡ pads_on c.args.job.now = c.from-n.ensures ∙ c.count.ensures in
    let p : c.from-p.result ≡ ports_on c.args.job.now = c.from-p.ensures ∙ c.port_count.ensures in
    let few : c.from-n.result ≤ 64 = omega (arith, n, c.requires.workable.0.few) in
    let most : c.from-p.result ≤ 128 = omega (arith, p, c.requires.workable.0.slots_few) in
    (length-take-le _ _ (mul-le-mul few most) ∙ (λ i. n i * p i), zeros_front (c.from-n.result * c.from-p.result) 8192)
