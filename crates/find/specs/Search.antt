-- The first number below n at which a test holds, and the first pair.
--     first_where p n       Some i: i is below n, p holds at i and at no number below i. None: p holds at no number below n
--     first_pair_where q n  Some of i and j: i is the first number below n with `with_earlier q i`, and j the first below i of which q holds with i
use Prim.Native.Nat.{ℕ, zero, suc, ◌+◌, ◌<◌, ◌≤◌}
use Rattle.std.specs.Prelude.{Bool, ◌||◌, ◌≡◌, Option, Some, None, option_map}
use Rattle.std.proofs.Math.Bool.{true, false, or-true}
use Rattle.std.proofs.Common.{true≢false, ◌∙◌, le_of_suc-le-suc, not-suc-le-zero, eq-or-lt_of_le, le_antisymm, add-one}
use Rattle.std.proofs.Math.Path.{refl, sym, subst}
use Rattle.std.proofs.Math.Logic.{⊎_elim}
use native.Mathlib.Omega.{arith}
use Rattle.paper.specs.laws.Tests.{somewhere, with_earlier}
use Rattle.find.specs.declared.Fault.{Fault}

-- the number found already, or else n where the test holds
abbrev pub or_at : Option ℕ → Bool → ℕ → Option ℕ
or_at (Some i) t n = Some i
or_at None true n = Some n
or_at None false n = None

unfoldable pub first_where : (ℕ → Bool) → ℕ → Option ℕ
first_where p zero = None
first_where p (suc n) = or_at (first_where p n) (p n) n

-- i, with the number found below it
abbrev pub and_at : ℕ → Option ℕ → Option Fault
and_at i (Some j) = Some (record { at = i; earlier = j })
and_at i None = None

-- the number found, and the first number below it of which q holds with it
abbrev pub pair_at : (ℕ → ℕ → Bool) → Option ℕ → Option Fault
pair_at q (Some i) = and_at i (first_where (q i) i)
pair_at q None = None

unfoldable pub first_pair_where : (ℕ → ℕ → Bool) → ℕ → Option Fault
first_pair_where q n = pair_at q (first_where (with_earlier q) n)

at≢nowhere : {A : Type 0} {a : A} → Some a ≡ None → ⊥
at≢nowhere e = cc

-- both sides of an 'or' that is false
pub or_false_left : (s t : Bool) → (s || t) ≡ false → s ≡ false
or_false_left true t e = e
or_false_left false t e = refl

pub or_false_right : (s t : Bool) → (s || t) ≡ false → t ≡ false
or_false_right true t e = absurd (true≢false e)
or_false_right false t e = e

-- a loop that counts up: nothing is found below 0; nothing below i and not at i is nothing below i + 1;
-- nothing below i and the test holds at i: what is found below any n past i is i
module _ (p : ℕ → Bool) where
  pub none_below : first_where p 0 ≡ None
  unfolding first_where
  none_below = refl

  pub none_more : (i : ℕ) → first_where p i ≡ None → p i ≡ false → first_where p (i + 1) ≡ None
  unfolding first_where
  none_more i before here = rw (add-one, before, here)

  pub found_here : (i : ℕ) → first_where p i ≡ None → p i ≡ true → (n : ℕ) → i < n → first_where p n ≡ Some i
  unfolding first_where
  found_here i before here zero l = absurd (not-suc-le-zero l)
  found_here i before here (suc n) l =
      ⊎_elim (λ e. rw (← e, before, here)) (λ lt. rw (found_here i before here n lt)) (eq-or-lt_of_le (le_of_suc-le-suc l))

  pub none_end : (i n : ℕ) → first_where p i ≡ None → i ≤ n → n ≤ i → first_where p n ≡ None
  none_end i n before h k = rw (← le_antisymm h k) before

  pub some_here : (i : ℕ) → p i ≡ true → (n : ℕ) → i < n → somewhere p n ≡ true
  unfolding somewhere
  some_here i here zero l = absurd (not-suc-le-zero l)
  some_here i here (suc n) l =
      ⊎_elim (λ e. rw (← e, here) (or-true (somewhere p i))) (λ lt. rw (some_here i here n lt)) (eq-or-lt_of_le (le_of_suc-le-suc l))

  -- a number is found: it is below n, the test holds there, and at no number below it
  pub at_is : (n i : ℕ) → first_where p n ≡ Some i → (i < n) × (p i ≡ true) × (first_where p i ≡ None)
  unfolding first_where
  at_is zero i e = absurd (at≢nowhere (sym e))
  at_is (suc n) i e = go (at_is n i) (first_where p n) (p n) refl refl e
    where
      go : (first_where p n ≡ Some i → (i < n) × (p i ≡ true) × (first_where p i ≡ None)) → (f : Option ℕ) (t : Bool) → first_where p n ≡ f → p n ≡ t
          → or_at f t n ≡ Some i → (i < suc n) × (p i ≡ true) × (first_where p i ≡ None)
      go below (Some k) t a b e =
          let r = below (a ∙ e) in
          (omega (arith, r.0), r.1, r.2)
      go below None true a b e =
          let q : n ≡ i = cc in
          (omega arith, subst (λ (k : ℕ). p k ≡ true) q b, subst (λ (k : ℕ). first_where p k ≡ None) q a)
      go below None false a b e = absurd (at≢nowhere (sym e))

  -- nothing found below n + 1: nothing below n
  none_fewer : (n : ℕ) → first_where p (suc n) ≡ None → first_where p n ≡ None
  unfolding first_where
  none_fewer n e = below (first_where p n) (p n) e
    where
      below : (f : Option ℕ) (t : Bool) → or_at f t n ≡ None → f ≡ None
      below (Some i) t e = e
      below None t e = refl

  -- nothing found below n: the test holds at no number below n
  pub none_at : (n : ℕ) → first_where p n ≡ None → (k : ℕ) → k < n → p k ≡ false
  unfolding first_where
  none_at zero e k l = absurd (not-suc-le-zero l)
  none_at (suc n) e k l =
      ⊎_elim
      (λ q. rw q (here (first_where p n) (p n) e))
      (λ lt. none_at n (none_fewer n e) k lt)
      (eq-or-lt_of_le (le_of_suc-le-suc l))
    where
      here : (f : Option ℕ) (t : Bool) → or_at f t n ≡ None → t ≡ false
      here (Some i) t e = absurd (at≢nowhere e)
      here None true e = absurd (at≢nowhere e)
      here None false e = refl

  -- so it holds at none of them
  pub none_some : (n : ℕ) → first_where p n ≡ None → somewhere p n ≡ false
  unfolding somewhere
  none_some zero e = refl
  none_some (suc n) e = rw (none_some n (none_fewer n e), none_at (suc n) e n (omega arith))

-- nested loops: where nothing is found below i and q holds of i and no number below it, nothing is found below i + 1;
-- where j is the first number below i of which q holds with i, what is found below any n past i is i with j
module _ (q : ℕ → ℕ → Bool) where
  pub pairs_more : (i : ℕ) → first_where (with_earlier q) i ≡ None → first_where (q i) i ≡ None → first_where (with_earlier q) (i + 1) ≡ None
  pairs_more i before here = none_more (with_earlier q) i before (none_some (q i) i here)

  pub pairs_end : (n : ℕ) → first_where (with_earlier q) n ≡ None → first_pair_where q n ≡ None
  unfolding first_pair_where
  pairs_end n e = rw e

  pub pair_here : (i j : ℕ) → first_where (with_earlier q) i ≡ None → first_where (q i) j ≡ None → q i j ≡ true → j < i → (n : ℕ) → i < n → first_pair_where q n ≡ Some (record { at = i; earlier = j })
  unfolding first_pair_where
  pair_here i j before below here l n k =
      rw (found_here (with_earlier q) i before (some_here (q i) j here i l) n k, found_here (q i) j below here i l)

  -- the first of the pair that is found is what is found of the first numbers alone
  pub pair_first : (n : ℕ) → option_map (λ (f : Fault). f.at) (first_pair_where q n) ≡ first_where (with_earlier q) n
  unfolding first_pair_where
  pair_first n = go (first_where (with_earlier q) n) refl
    where
      with : (i : ℕ) → with_earlier q i ≡ true → (f : Option ℕ) → first_where (q i) i ≡ f → option_map (λ (g : Fault). g.at) (and_at i f) ≡ Some i
      with i t (Some j) e = refl
      with i t None e = absurd (true≢false (sym t ∙ none_some (q i) i e))

      go : (f : Option ℕ) → first_where (with_earlier q) n ≡ f → option_map (λ (g : Fault). g.at) (pair_at q f) ≡ f
      go (Some i) e = with i (at_is (with_earlier q) n i e).1 (first_where (q i) i) refl
      go None e = refl
