-- `checks::verdicts::of_list` meets its contract. Assumes nothing.
use Rattle.std.proofs.Common.{◌*◌, ◌≤◌, sym, arith}
use Rattle.std.proofs.Math.Seq.{length-take-le}
use Rattle.checks.specs.Sound.{pads_few}
use Rattle.checks.proofs.verdicts.of_list.Goals as goal

pub slice_bounds-of_pads-end : goal.slice_bounds-of_pads-end
slice_bounds-of_pads-end c =
    let few : c.args.n ≤ 64 = pads_few c.args.n (sym c.in_ok-whole.ensures) in
    sym (length-take-le _ _ (omega (arith, few, c.requires, c.from-bytes.ensures)))

pub of_pads-requires : goal.of_pads-requires
of_pads-requires c =
    let few : c.args.n ≤ 64 = pads_few c.args.n (sym c.in_ok-whole.ensures) in
    omega (arith, few, c.from-bytes.ensures, length-take-le (16 * c.from-bytes.result) c.args.made.now (omega (arith, few, c.requires, c.from-bytes.ensures)))
