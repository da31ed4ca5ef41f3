-- `svg::quarters` meets its contract. Assumes nothing.
use Prim.Native.Nat.{◌%◌}
use mathlib.Core.Path.{◌≡◌, refl}
use native.Mathlib.Omega.{arith}
use Rattle.text.specs.Writing.{writes_none}
use Rattle.svg.proofs.Parts.{quarters_written, quarters-length}
use Rattle.svg.proofs.quarters.Goals as goal

pub decimal-point-requires : goal.decimal-point-requires
decimal-point-requires c = omega (arith, quarters-length c.args.n _ refl, c.requires)

pub returns-in-0 : goal.returns-in-0
returns-in-0 c = quarters_written _ 0 c.in-0.is c.decimal-point.ensures (writes_none _ _)

pub word-requires : goal.word-requires
word-requires c = omega (arith, quarters-length c.args.n 1 c.in-1.is)

pub returns-in-1 : goal.returns-in-1
returns-in-1 c = quarters_written _ 1 c.in-1.is c.decimal-point.ensures c.word.ensures

pub word-requires-in-2 : goal.word-requires-in-2
word-requires-in-2 c = omega (arith, quarters-length c.args.n 2 c.in-2.is)

pub returns-in-2 : goal.returns-in-2
returns-in-2 c = quarters_written _ 2 c.in-2.is c.decimal-point.ensures c.word-in-2.ensures

pub word-requires-in_default : goal.word-requires-in_default
word-requires-in_default c =
    let three : c.args.n % 4 ≡ 3 = omega arith in
    omega (arith, quarters-length c.args.n 3 three)

pub returns-in_default : goal.returns-in_default
returns-in_default c =
    let three : c.args.n % 4 ≡ 3 = omega arith in
    quarters_written _ 3 three c.decimal-point.ensures c.word-in_default.ensures
