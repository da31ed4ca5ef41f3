-- Pads and the strips that they lie in. Pads are numbers, ports are numbers; a strip is the run of ports a .. b - 1.
-- A list of pads is in the order right to left, and may have pads that do not lie in the strip: they do not count.
use Rattle.std.specs.Prelude.{◌≡◌, Option, None, Some, Bool, true, false, ◌&&◌, List, [], ◌∷◌, ℕ, ◌+◌, ◌-◌, ◌≤◌, ◌<◌, leb, length, get_or, drop}

-- lo j: how many ports lie strictly below pad j; hi j: how many lie at its height or below
pub record Sides : Type 0 where
  pub lo : ℕ → ℕ
  pub hi : ℕ → ℕ

-- a pad with these sides has no port outside a .. b - 1 to reach over: it lies in the strip
unfoldable pub spans : ℕ → ℕ → ℕ → ℕ → Bool
spans a b l h = leb a l && leb h b

abbrev pub fits : Sides → ℕ → ℕ → ℕ → Bool
fits S a b j = spans a b (S.lo j) (S.hi j)

abbrev pub bit : Bool → ℕ
bit true = 1
bit false = 0

-- how many pads of js lie in the strip a .. b - 1
unfoldable pub pads_in : Sides → ℕ → ℕ → List ℕ → ℕ
pads_in S a b [] = 0
pads_in S a b (j ∷ js) = bit (fits S a b j) + pads_in S a b js

-- the sides that slices hold
abbrev pub sides_of : List ℕ → List ℕ → Sides
sides_of lo hi = record { lo = λ j. get_or lo j 0; hi = λ j. get_or hi j 0 }

-- n pads and p ports: the pads' numbers in order right to left, and each one's sides, which differ by 1 at most
pub record Pads (order lo hi : List ℕ) (p : ℕ) : Type 0 where
  pub few : length order ≤ 64
  pub ports : p ≤ 128
  pub lows : length lo ≡ length order
  pub highs : length hi ≡ length order
  pub listed : (k : ℕ) → k < length order → get_or order k 0 < length order
  pub level : (j : ℕ) → get_or lo j 0 ≤ get_or hi j 0
  pub narrow : (j : ℕ) → get_or hi j 0 ≤ get_or lo j 0 + 1
  pub top : (j : ℕ) → get_or hi j 0 ≤ p

-- h is 1 more than the place in order of the rightmost pad of the strip a .. b - 1, when the strip gets its b - a leftmost pads;
-- 0 where there are fewer than b - a
pub record Head (S : Sides) (order : List ℕ) (a b h : ℕ) : Type 0 where
  pub top : h ≤ length order + 1
  pub past : (k : ℕ) → h ≤ k → k ≤ length order → pads_in S a b (drop k order) < b - a
  pub at : (s : ℕ) → h ≡ s + 1 → pads_in S a b (drop s order) ≡ b - a

-- a strip's head from the place of that pad
abbrev pub head_of : Option ℕ → ℕ
head_of None = 0
head_of (Some r) = r + 1
