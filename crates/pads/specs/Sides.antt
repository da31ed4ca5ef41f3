-- The sides that the lists of a board have; and a board with as many ports as pads.
use Rattle.std.specs.Prelude.{◌≡◌, length}
use Rattle.std.proofs.Common.{subst}
use Rattle.pads.specs.Pads.{Sides, sides_of, Pads}
use Rattle.pads.specs.declared.Lists.{Lists}

abbrev pub sides : Lists → Sides
sides l = sides_of l.lo.now l.hi.now

-- there are as many ports as pads
abbrev pub Square : Lists → Type 0
Square l = l.ports ≡ length l.order.now

pub square_pads : (l : Lists) → Square l → Pads l.order.now l.lo.now l.hi.now (length l.order.now)
square_pads l e = subst (Pads l.order.now l.lo.now l.hi.now) e l.proper
