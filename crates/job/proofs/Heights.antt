-- Where a height stands; and the size of a difference of heights that is below 0, which needs no sign.
use mathlib.Core.Path.{◌≡◌}
use mathlib.Core.List.{List}
use Prim.Native.Nat.{ℕ, ◌+◌, ◌*◌, ◌<◌}
use mathlib.Core.Bool.{true, false, true≢false}
use native.Mathlib.Omega.{arith}
use borrow.Author.Tests.{ltb-true}
use lib.Dec.{T}
use lib.ListN.{length}
use lib.IntN.{ℤ, pos, negsuc, nat_abs, ◌-ℤ◌}
use lib.Signed.{lt_z, non_neg}
use Rattle.paper.specs.declared.Form.{Form}
use Rattle.paper.specs.declared.Form.TheVariants.{Records, Slots}
use Rattle.paper.specs.Job.{stride_of, offset_of, port_count}

-- e is 0 less d, which is below 0: it has no sign, and d's size.
pub record Negated (d e : ℤ) : Type 0 where
  pub plain : T (non_neg e)
  pub same : nat_abs e ≡ nat_abs d

-- The negative of a number below 0 is such.
pub negated : (d : ℤ) → lt_z d (pos 0) ≡ true → Negated d (pos 0 -ℤ d)
negated (pos n) t = absurd (omega (arith, ltb-true n 0 t))
negated (negsuc n) t = record { plain = tt; same = omega arith }

-- A number that is not below 0 has no sign.
pub not_below_zero : (d : ℤ) → lt_z d (pos 0) ≡ false → T (non_neg d)
not_below_zero (pos n) t = tt
not_below_zero (negsuc n) t = absurd (true≢false t)

-- The 4 bytes of port q are in the list.
pub port_inside : (form : Form) (ports : List ℕ) (q : ℕ) → q < port_count form ports → stride_of form * q + offset_of form + 3 < length ports
port_inside Records ports q l = omega arith
port_inside Slots ports q l = omega arith
