-- What is kept of the strips from one row to the next, and the place of a strip's rightmost pad.
use Rattle.std.specs.Prelude.{◌≡◌, List, ℕ, ◌+◌, ◌-◌, ◌≤◌, ◌<◌, length, get_or, drop}
use Rattle.pads.specs.Pads.{Sides, pads_in}

-- what is kept for the strips that end at b, from one row to the next: of the strip a .. b - 1, m pads stand at place k or after it, and t in all
pub record Tally (S : Sides) (order : List ℕ) (a b k m t : ℕ) : Type 0 where
  pub placed : k ≤ length order
  pub seen : m ≡ pads_in S a b (drop k order)
  pub all : t ≡ pads_in S a b order

abbrev pub Tallies : Sides → List ℕ → List ℕ → List ℕ → List ℕ → ℕ → Type 0
Tallies S order at seen all a = (b : ℕ) → b ≤ length order → Tally S order a b (get_or at b 0) (get_or seen b 0) (get_or all b 0)

-- the same while the pads that lie above exactly a ports come in: those at places before i are in
pub record Entering (S : Sides) (order : List ℕ) (a i b k m : ℕ) : Type 0 where
  pub placed : k ≤ length order
  pub before : i ≤ k → m ≡ pads_in S (a + 1) b (drop k order)
  pub after : k ≤ i → m + pads_in S a b (drop i order) ≡ pads_in S a b (drop k order) + pads_in S (a + 1) b (drop i order)

abbrev pub EnteringAll : Sides → List ℕ → List ℕ → List ℕ → List ℕ → ℕ → ℕ → Type 0
EnteringAll S order at seen all a i =
    (b : ℕ) → b ≤ length order → Entering S order a i b (get_or at b 0) (get_or seen b 0) × Entering S order a i b 0 (get_or all b 0)

-- k is the place of the rightmost of the strip's b - a leftmost pads
pub record Top (S : Sides) (order : List ℕ) (a b k : ℕ) : Type 0 where
  pub placed : k < length order
  pub full : pads_in S a b (drop k order) ≡ b - a
  pub later : (i : ℕ) → k < i → i ≤ length order → pads_in S a b (drop i order) < b - a
