-- `text::field` meets its contract. Assumes nothing.
use native.Mathlib.Omega.{arith}
use Rattle.text.specs.Digits.{decimal_short}
use Rattle.text.specs.Writing.{writes_then, writes_byte}
use Rattle.text.proofs.field.Goals as goal

pub returns : goal.returns
returns c =
    (writes_then c.decimal-last.ensures (writes_byte _ _ _), omega (arith, decimal_short c.args.n c.ranges.n.fits, c.decimal-last.ensures.stop))
