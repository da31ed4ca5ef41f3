-- `layouts::full::walk` meets its contract: the lists lent are arrays and parts of arrays. Assumes nothing.
use mathlib.Core.Path.{◌≡◌, sym, ◌∙◌}
use Prim.Native.Nat.{◌*◌, ◌≤◌}
use native.Mathlib.Nat.{mul-le-mul}
use native.Mathlib.Omega.{arith}
use lib.Seq.{length-take-le}
use Rattle.numbers.proofs.Filled.{zeros_front}
use Rattle.job.specs.Board.{pads_on, ports_on}
use Rattle.layouts.proofs.full.walk.Goals as goal

pub walk_at-requires-clause-bars_len : goal.walk_at-requires-clause-bars_len
walk_at-requires-clause-bars_len c =
    let n : c.from-n.result ≡ pads_on c.args.job.now = c.from-n.ensures ∙ c.count.ensures in
    let p : c.from-n.result ≡ ports_on c.args.job.now = n ∙ sym c.requires.2 in
    let few : c.from-n.result ≤ 64 = omega (arith, n, c.requires.0.few) in
    (length-take-le _ _ (mul-le-mul few few) ∙ (λ i. n i * p i), zeros_front (c.from-n.result * c.from-n.result) 4096)
