-- `svg::further` meets its contract. Assumes nothing.
use mathlib.Core.Path.{◌≡◌}
use native.Mathlib.Omega.{arith}
use mir.Syntax.{w64}
use mir.Val.{to_z, of_z}
use Rattle.numbers.proofs.Bits.{read_back}
use Rattle.text.specs.Writing.{writes_then}
use Rattle.svg.proofs.further.Goals as goal

pub point-requires : goal.point-requires
point-requires c =
    let back : to_z w64 (of_z w64 c.args.y) ≡ c.args.y = read_back c.args.y c.ranges.y.sfits in
    rw back (c.requires.0, omega (arith, c.word-blank.ensures.stop, c.word-blank.auto.out, c.requires.1))

pub returns : goal.returns
returns c =
    let back : to_z w64 (of_z w64 c.args.y) ≡ c.args.y = read_back c.args.y c.ranges.y.sfits in
    writes_then c.word-blank.ensures (rw back at c.point.ensures)
