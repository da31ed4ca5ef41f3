-- A list with a part that is copied from another.
use Rattle.std.specs.Prelude.{◌≡◌, List, ℕ, ◌+◌, ◌≤◌, ◌<◌, length, get_or}

-- after is before with the first n entries of w from place `at` on.
pub record Copied (n at : ℕ) (w before after : List ℕ) : Type 0 where
  pub long : length after ≡ length before
  pub here : (i : ℕ) → i < n → get_or after (at + i) 0 ≡ get_or w i 0
  pub early : (i : ℕ) → i < at → get_or after i 0 ≡ get_or before i 0
  pub late : (i : ℕ) → at + n ≤ i → get_or after i 0 ≡ get_or before i 0
