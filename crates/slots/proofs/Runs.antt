-- Laws of the loops that write a run of numbers.
use mathlib.Core.Path.{◌≡◌, ◌∙◌, subst}
use mathlib.Core.Logic.{⊎_elim}
use mathlib.Core.List.{List}
use Prim.Native.Nat.{ℕ, ◌+◌, ◌≤◌, ◌<◌}
use native.Mathlib.Omega.{arith}
use lib.ListN.{length, get_or, set}
use lib.Seq.{get_or-set_same, get_or-set_other}
use Rattle.numbers.proofs.Kept.{kept_all, kept_set}
use Rattle.pads.specs.Counts.{le_or_lt}
use Rattle.slots.specs.Slots.{Written}

pub run_none : (w : List ℕ) (base count : ℕ) (f : ℕ → ℕ) → Written w w base count f 0
run_none w base count f = record { kept = kept_all (base + count) w; run = λ k h. absurd (omega arith) }

pub run_more : (w v : List ℕ) (base count : ℕ) (f : ℕ → ℕ) (i x : ℕ) → i < count → base + count ≤ length w → x ≡ f i → Written w v base count f i
    → Written w (set v (base + i) x) base count f (i + 1)
run_more w v base count f i x h room e R = record {
  kept = kept_set (base + count) w v (base + i) x (omega arith) R.kept;
  run = λ k u. ⊎_elim
      (λ (s : i ≤ k). let same : i ≡ k = omega arith in
      subst (λ (n : ℕ). get_or (set v (base + i) x) (base + n) 0 ≡ f n) same (get_or-set_same v (base + i) x 0 (omega (arith, R.kept.long)) ∙ e))
      (λ (s : k < i). get_or-set_other v (base + i) (base + k) x 0 (λ n. absurd (omega arith)) ∙ R.run k s)
      (le_or_lt i k);
}

pub run_all_lem : (w v : List ℕ) (base count : ℕ) (f : ℕ → ℕ) (i : ℕ) → count ≤ i → Written w v base count f i → Written w v base count f count
run_all_lem w v base count f i h R = record { kept = R.kept; run = λ k u. R.run k (omega arith) }
