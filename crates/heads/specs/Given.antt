-- The definitions of Heads, of the lists that the code has.
use Rattle.std.specs.Prelude.{ℕ}
use Rattle.pads.specs.Sides.{sides}
use Rattle.pads.specs.declared.Lists.{Lists}
use Rattle.heads.specs.Heads.{Tallies, EnteringAll}
use Rattle.heads.specs.declared.Kept.{Kept}

abbrev pub TalliesOn : Lists → Kept → ℕ → Type 0
TalliesOn l k a = Tallies (sides l) l.order.now k.at k.seen k.all a

abbrev pub EnteringOn : Lists → Kept → ℕ → ℕ → Type 0
EnteringOn l k a i = EnteringAll (sides l) l.order.now k.at k.seen k.all a i
