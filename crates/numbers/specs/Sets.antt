-- A set of small numbers as one number: its binary digit q says whether q is in it.
use Rattle.std.specs.Prelude.{◌≡◌, Bool, true, false}
use Rattle.std.proofs.Math.Bool.{cond}
use Prim.Native.Nat.{ℕ, zero, suc, ◌+◌, ◌^◌, ◌≤◌, ◌<◌}

-- The numbers below b of which p says yes.
unfoldable pub set_of : (ℕ → Bool) → ℕ → ℕ
set_of p zero = 0
set_of p (suc b) = set_of p b + cond (p b) (2 ^ b) 0

-- ---- the least number of a set

-- q is the first number from k on, and below b, of which p says yes
pub record NextIn (p : ℕ → Bool) (k b q : ℕ) : Type 0 where
  pub from : k ≤ q
  pub below : q < b
  pub picked : p q ≡ true
  pub passed : (i : ℕ) → k ≤ i → i < q → p i ≡ false
