-- `svg::numeral` meets its contract. Assumes nothing.
use mathlib.Core.Path.{◌≡◌}
use native.Mathlib.Omega.{arith}
use lib.IntN.{nat_abs}
use mir.Syntax.{w64}
use mir.Val.{to_z, of_z}
use Rattle.numbers.proofs.Bits.{read_back}
use Rattle.svg.proofs.Parts.{below_written, below_length, above_written, above_length}
use Rattle.svg.proofs.numeral.Goals as goal
use Rattle.svg.proofs.numeral.Goals.{then-v-lt0, else-v-lt0}

pub word-digits-requires : goal.word-digits-requires
word-digits-requires c =
    let back : to_z w64 (of_z w64 c.args.v) ≡ c.args.v = read_back c.args.v c.ranges.v.sfits in
    omega (arith, below_length c.args.v (rw back at c.if-v-lt0.true), c.requires.1)

pub quarters-requires : goal.quarters-requires
quarters-requires c =
    let back : to_z w64 (of_z w64 c.args.v) ≡ c.args.v = read_back c.args.v c.ranges.v.sfits in
    let size_is : c.unsigned_abs.result ≡ nat_abs c.args.v = rw back at c.unsigned_abs.ensures.value in
    rw size_is (elim c.if-v-lt0.branch [
      | then-v-lt0 w ↦ omega (arith, below_length c.args.v (rw back at w.if-v-lt0.true), w.digits-is, w.word-digits.ensures.stop, c.requires.1)
      | else-v-lt0 w ↦ omega (arith, above_length c.args.v (rw back at w.if-v-lt0.false), w.digits-is, c.requires.1)
    ])

pub returns : goal.returns
returns c =
    let back : to_z w64 (of_z w64 c.args.v) ≡ c.args.v = read_back c.args.v c.ranges.v.sfits in
    let size_is : c.unsigned_abs.result ≡ nat_abs c.args.v = rw back at c.unsigned_abs.ensures.value in
    elim c.if-v-lt0.branch [
      | then-v-lt0 w ↦ below_written c.args.v (rw back at w.if-v-lt0.true) w.word-digits.ensures (rw (size_is, w.digits-is, w.out-is) at c.quarters.ensures)
      | else-v-lt0 w ↦ above_written c.args.v (rw back at w.if-v-lt0.false) (rw (size_is, w.digits-is, w.out-is) at c.quarters.ensures)
    ]
