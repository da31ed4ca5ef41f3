-- The search for a strip's rightmost pad, from any place with its number of pads.
use mathlib.Core.Path.{◌≡◌, sym, ap, ◌∙◌}
use mathlib.Core.Logic.{⊎_elim}
use mathlib.Core.List.{List}
use Prim.Native.Nat.{ℕ, ◌+◌, ◌-◌, ◌≤◌, ◌<◌, zero-le}
use native.Mathlib.Omega.{arith}
use lib.ListN.{length, drop, get_or}
use Rattle.pads.specs.Pads.{Sides, fits, bit, pads_in, Head}
use Rattle.heads.specs.Heads.{Top}
use Rattle.pads.specs.Counts.{count_end, le_or_lt, count-drop, count_step, bit_le}

-- m of the strip's pads stand at place k or after it, and b - a were not reached after it
pub record Scan (S : Sides) (order : List ℕ) (a b k m : ℕ) : Type 0 where
  pub placed : k ≤ length order
  pub counted : m ≡ pads_in S a b (drop k order)
  pub few : m ≤ b - a
  pub later : (i : ℕ) → k < i → i ≤ length order → pads_in S a b (drop i order) < b - a

module _ (S : Sides) (order : List ℕ) (a b : ℕ) where
  count_less : (k i : ℕ) → k ≤ i → pads_in S a b (drop i order) ≤ pads_in S a b (drop k order)
  count_less k i h = let e = count-drop S a b order k i h in omega arith

  pub on_placed : (k m : ℕ) → 0 < m → m ≡ pads_in S a b (drop k order) → k < length order
  on_placed k m h e = ⊎_elim (λ u. absurd (let z = count_end S order a b k u in omega arith)) (λ u. u) (le_or_lt (length order) k)

  -- ---- back

  pub scan_start : (k m : ℕ) → k ≤ length order → m ≡ pads_in S a b (drop k order) → m < b - a → Scan S order a b k m
  scan_start k m h e l = record { placed = h; counted = e; few = omega arith; later = λ i u v. let c = count_less k i (omega arith) in omega arith }

  pub scan_some : (k m : ℕ) → m < b - a → b - a ≤ pads_in S a b order → Scan S order a b k m → 0 < k
  scan_some k m l h s =
      ⊎_elim (λ (u : k ≤ 0). absurd (let e : k ≡ 0 = omega arith in let c = ap (λ (i : ℕ). pads_in S a b (drop i order)) e in let d = s.counted in
      omega arith)) (λ (u : 0 < k). u) (le_or_lt k 0)

  pub scan_step : (k m : ℕ) → 0 < k → m < b - a → Scan S order a b k m → Scan S order a b (k - 1) (m + bit (fits S a b (get_or order (k - 1) 0)))
  scan_step k m nz more s =
      let placed = s.placed in
      let e : k - 1 + 1 ≡ k = omega arith in
      let step = count_step S order a b (k - 1) (omega arith) ∙ ap (λ (i : ℕ). bit (fits S a b (get_or order (k - 1) 0)) + pads_in S a b (drop i order)) e in
      let one = bit_le (fits S a b (get_or order (k - 1) 0)) in
      record {
        placed = omega arith;
        counted = omega (arith, s.counted);
        few = omega arith;
        later = λ i u v. ⊎_elim
            (λ (w : i ≤ k). let q : i ≡ k = omega arith in rw q (omega (arith, s.counted)))
            (λ (w : k < i). s.later i w v) (le_or_lt i k);
      }

  pub scan_found : (k m : ℕ) → a < b → b - a ≤ m → Scan S order a b k m → Top S order a b k
  scan_found k m ab all s = record {
    placed = on_placed k m (omega arith) s.counted;
    full = omega (arith, s.counted, s.few);
    later = s.later;
  }

  -- ---- on

  -- one pad less
  pub on_step : (k m : ℕ) → k < length order → m ≡ pads_in S a b (drop k order)
      → (bit (fits S a b (get_or order k 0)) ≤ m) × (m - bit (fits S a b (get_or order k 0)) ≡ pads_in S a b (drop (k + 1) order))
  on_step k m h e = let s = count_step S order a b k h in (omega arith, omega arith)

  pub on_found : (k m : ℕ) → k < length order → m ≡ pads_in S a b (drop k order) → b - a ≤ m → m - bit (fits S a b (get_or order k 0)) < b - a → Top S order a b k
  on_found k m h e l g =
      let s = on_step k m h e in let one = bit_le (fits S a b (get_or order k 0)) in
      record { placed = h; full = omega arith; later = λ i u v. let c = count_less (k + 1) i (omega arith) in omega arith }

  -- ---- heads

  pub top_head : (k : ℕ) → Top S order a b k → Head S order a b (k + 1)
  top_head k t = record {
    top = omega (arith, t.placed);
    past = λ i u v. t.later i (omega arith) v;
    at = λ s e. let q : s ≡ k = omega arith in rw q t.full;
  }

  pub few_head : pads_in S a b order < b - a → Head S order a b 0
  few_head h = record { top = zero-le; past = λ k u v. let c = count_less 0 k zero-le in omega arith; at = λ s e. absurd (omega arith) }

  pub empty_head : b - a ≡ 0 → Head S order a b (length order + 1)
  empty_head z = record {
    top = omega arith;
    past = λ k u v. absurd (omega arith);
    at = λ s e. let q : s ≡ length order = omega arith in rw q (count_end S order a b (length order) (omega arith) ∙ sym z);
  }
