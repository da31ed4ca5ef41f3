-- How a whole number of the job is drawn: as the 32-bit float that is a quarter of it.
use Rattle.std.specs.Prelude.{ℤ, nat_abs, Float}
use Rattle.std.specs.Float.{binary32}
use Rattle.std.specs.Float.Ieee.{round}
use Rattle.paper.specs.Canvas.{negative}

-- The 32-bit float nearest to v / 4. It is negative only where v is, so that of 0 is +0.
unfoldable pub quarter : ℤ → Float
quarter v = round binary32 (negative v) (nat_abs v) 4
