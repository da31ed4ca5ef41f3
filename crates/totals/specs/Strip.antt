-- The least total of a strip of ports, as the table reads it: of the pads of a list that lie in the strip.
use Rattle.std.specs.Prelude.{Bool, true, false, ◌&&◌, ◌||◌, List, [], ◌∷◌, ℕ, ◌+◌}
use Rattle.strips.specs.Least.{Least, none, some}
use Rattle.strips.specs.Lists.{keep}
use Rattle.strips.specs.Grid.{Grid}
use Rattle.strips.specs.Grid as strip
use Rattle.pads.specs.Pads.{Sides, fits}

-- a pad that lies in the whole (x) lies in the part below (y) or in the part above (z)
abbrev pub cut : Bool → Bool → Bool → Bool
cut true y z = y || z
cut false y z = true

-- no pad of js in a .. b - 1 is in the way of an arm on port q
unfoldable pub parted_within : Sides → ℕ → ℕ → ℕ → List ℕ → Bool
parted_within S a b q [] = true
parted_within S a b q (j ∷ js) = cut (fits S a b j) (fits S a q j) (fits S (q + 1) b j) && parted_within S a b q js

-- a figure may be none, where a pad may not use a port
abbrev pub given : Least → Bool
given none = false
given (some v) = true

abbrev pub value : Least → ℕ
value none = 0
value (some v) = v

-- the board of sides and figures
abbrev pub grid : Sides → (ℕ → ℕ → Least) → Grid
grid S C = record { lo = S.lo; hi = S.hi; ok = λ j q. given (C j q); cost = λ j q. value (C j q) }

-- the least total of the pads of js that lie in the strip a .. b - 1, led to ports of the strip with no two touching
unfoldable pub best_within : Sides → (ℕ → ℕ → Least) → List ℕ → ℕ → ℕ → Least
best_within S C js a b = strip.best (grid S C) (keep (fits S a b) js) a b

-- the same with the first pad, r, on port q
unfoldable pub local_within : Sides → (ℕ → ℕ → Least) → ℕ → List ℕ → ℕ → ℕ → ℕ → Least
local_within S C r rest a b q = strip.local (grid S C) r (keep (fits S a b) rest) a b q
