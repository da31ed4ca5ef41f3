-- A whole number as two naturals, up z - dn z, and how far apart two whole numbers are.
use Rattle.std.specs.Prelude.{ℕ, suc, ℤ, pos, negsuc, nat_abs, ◌-ℤ◌}

-- how far apart two whole numbers are
abbrev pub apart : ℤ → ℤ → ℕ
apart a b = nat_abs (a -ℤ b)

-- z is up z - dn z, and one of the two is 0
abbrev pub up : ℤ → ℕ
up (pos n) = n
up (negsuc n) = 0

abbrev pub dn : ℤ → ℕ
dn (pos n) = 0
dn (negsuc n) = suc n
