-- `faults::bad_table` meets its contract. Assumes nothing.
use mathlib.Core.Path.{◌≡◌, refl, ap, ◌∙◌}
use mathlib.Core.Logic.{◌≢◌, ◌⊎◌, inl, inr, ⊎_elim, ◌↔◌}
use mathlib.Core.Bool.{Bool, true, false, not, ◌||◌}
use Prim.Native.Nat.{ℕ, ◌+◌, ◌*◌, ◌/◌, ◌%◌, ◌<◌}
use native.Mathlib.Nat.{div-add-mod', mul_comm}
use native.Mathlib.Decide.{ℕ_discrete}
use native.Mathlib.Omega.{arith}
use lib.Arith.{digits_div, digits_mod}
use lib.Dec.{T, eqb}
use Rattle.numbers.proofs.Tests.{or_iff, not_iff, eqb_iff}
use borrow.Author.Rules.{rules}
use Rattle.faults.proofs.bad_table.Goals as goal

alike : (a b : Bool) → (T a → T b) → (T b → T a) → a ≡ b
alike true true f g = refl
alike true false f g = absurd (f tt)
alike false true f g = absurd (g tt)
alike false false f g = refl

-- k is n times p exactly if n goes into it p times and nothing is left.
product-test : (n p k : ℕ) → 0 < n → (not (eqb (k / n) p) || not (eqb (k % n) 0)) ≡ not (eqb k (n * p))
product-test n p k some = alike _ _ (λ t. whole.1 (off (parts.0 t))) (λ t. parts.1 (split (ℕ_discrete (k / n) p) (whole.0 t)))
  where
    parts : T (not (eqb (k / n) p) || not (eqb (k % n) 0)) ↔ ((k / n ≢ p) ⊎ (k % n ≢ 0))
    parts = or_iff (not (eqb (k / n) p)) (not (eqb (k % n) 0)) (not_iff (eqb (k / n) p) (eqb_iff (k / n) p)) (not_iff (eqb (k % n) 0) (eqb_iff (k % n) 0))

    whole : T (not (eqb k (n * p))) ↔ (k ≢ n * p)
    whole = not_iff (eqb k (n * p)) (eqb_iff k (n * p))

    even : k ≡ n * p → k ≡ p * n + 0
    even e = omega (arith, mul_comm n p)

    off : (k / n ≢ p) ⊎ (k % n ≢ 0) → k ≢ n * p
    off = ⊎_elim (λ d e. d (ap (λ (m : ℕ). m / n) (even e) ∙ digits_div p some)) (λ d e. d (ap (λ (m : ℕ). m % n) (even e) ∙ digits_mod p some))

    split : Dec (k / n ≡ p) → k ≢ n * p → (k / n ≢ p) ⊎ (k % n ≢ 0)
    split (no d) ne = inl d
    split (yes d) ne = inr (λ e. let f : k / n * n ≡ p * n = ap (λ (m : ℕ). m * n) d in ne (omega (arith, div-add-mod' k n)))
