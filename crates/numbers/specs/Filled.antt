-- A list that a loop fills, entry by entry.
use Rattle.std.specs.Prelude.{◌≡◌, List, ℕ, ◌<◌, length, get_or}

-- The list has n entries, and each of the first k is as P says.
pub record Filled (n : ℕ) (P : ℕ → ℕ → Type 0) (list : List ℕ) (k : ℕ) : Type 0 where
  pub long : length list ≡ n
  pub at : (j : ℕ) → j < k → P j (get_or list j 0)
