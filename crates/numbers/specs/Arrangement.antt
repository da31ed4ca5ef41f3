-- The numbers below n in some order.
use Rattle.std.specs.Prelude.{◌≡◌, List, ℕ, ◌<◌, length, get_or}

-- each number below n stands in `order`, once
pub record Arrangement (n : ℕ) (order : List ℕ) : Type 0 where
  pub long : length order ≡ n
  pub inside : (k : ℕ) → k < length order → get_or order k 0 < n
  pub covers : (j : ℕ) → j < n → (m : ℕ) × (m < n) × (get_or order m 0 ≡ j)
  pub apart : (i m : ℕ) → i < n → m < n → get_or order i 0 ≡ get_or order m 0 → i ≡ m
