-- The ports of a strip, in the list that is lent for them.
use Rattle.std.specs.Prelude.{◌≡◌, ◌≢◌, List, ℕ, ◌-◌, ◌<◌, length, get_or}
use Rattle.pads.specs.declared.Lists.{Lists}
use Rattle.totals.specs.declared.Figures.{Figures}
use Rattle.totals.specs.Cell.{no_total, place, Marks}
use Rattle.totals.specs.Lent.{board}

-- ms got m at the place p, as far as it goes
pub record Stored (ms ms' : List ℕ) (p m : ℕ) : Type 0 where
  pub long : length ms' ≡ length ms
  pub here : p < length ms → get_or ms' p 0 ≡ m
  pub other : (i : ℕ) → i ≢ p → get_or ms' i 0 ≡ get_or ms i 0

-- at the place of the strip a .. b - 1 with head h and total v it got the ports that lead the strip's rightmost pad
pub record Noted (l : Lists) (f : Figures) (ms ms' : List ℕ) (a b h v : ℕ) : Type 0 where
  pub ports : ℕ
  pub stored : Stored ms ms' (place a b) ports
  pub marks : place a b < length ms → (v ≡ no_total → ⊥) → a < b → Marks (board l f) l.order.now (h - 1) a b ports
