-- A list that is kept from some place on.
use Rattle.std.specs.Prelude.{◌≡◌, List, ℕ, ◌≤◌, length, get_or}

-- v is w in all entries from n on.
pub record KeptFrom (n : ℕ) (w v : List ℕ) : Type 0 where
  pub long : length v ≡ length w
  pub rest : (k : ℕ) → n ≤ k → get_or v k 0 ≡ get_or w k 0
