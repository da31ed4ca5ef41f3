-- `svg::point` meets its contract. Assumes nothing.
use mathlib.Core.Path.{◌≡◌}
use native.Mathlib.Omega.{arith}
use lib.IntN.{pos, neg_ℤ, ◌-ℤ◌}
use mir.Syntax.{w64}
use mir.Val.{to_z, of_z}
use Rattle.numbers.proofs.Signs.{nat_abs_neg}
use Rattle.numbers.proofs.Bits.{minus_fits, minus_back}
use Rattle.svg.proofs.Parts.{point_written, point_length}
use Rattle.svg.proofs.point.Goals as goal

pub quarters-comma-requires : goal.quarters-comma-requires
quarters-comma-requires c = rw c.from.ensures (omega (arith, point_length c.args.x c.args.y, c.requires.1))

pub word-down-requires : goal.word-down-requires
word-down-requires c =
    let across = rw c.from.ensures at c.quarters-comma.ensures.stop in
    omega (arith, point_length c.args.x c.args.y, c.requires.1, across, c.quarters-comma.auto.out)

pub overflow_sub-y : goal.overflow_sub-y
overflow_sub-y c =
    minus_fits w64 c.args.y (omega (arith, c.requires.0))

pub numeral-requires : goal.numeral-requires
numeral-requires c =
    let down_is : to_z w64 (of_z w64 (pos 0 -ℤ to_z w64 (of_z w64 c.args.y))) ≡ neg_ℤ c.args.y = minus_back w64 c.args.y (omega (arith, c.requires.0)) in
    let long = point_length c.args.x c.args.y in
    let across = rw c.from.ensures at c.quarters-comma.ensures.stop in
    rw down_is (
      omega (arith, nat_abs_neg c.args.y, c.requires.0),
      omega (arith, long, c.requires.1, across, c.quarters-comma.auto.out, c.word-down.ensures.stop, c.word-down.auto.out),
    )

pub returns : goal.returns
returns c =
    let down_is : to_z w64 (of_z w64 (pos 0 -ℤ to_z w64 (of_z w64 c.args.y))) ≡ neg_ℤ c.args.y = minus_back w64 c.args.y (omega (arith, c.requires.0)) in
    point_written c.args.x c.args.y (rw c.from.ensures at c.quarters-comma.ensures) c.word-down.ensures (rw down_is at c.numeral.ensures)
