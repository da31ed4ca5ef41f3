-- Writing the first places of a list, one by one. Assumes nothing.
use mathlib.Core.Path.{◌≡◌, refl}
use mathlib.Core.List.{List, [], ◌∷◌}
use Prim.Native.Nat.{◌≤◌}
use native.Mathlib.Omega.{arith}
use lib.ListN.{length, drop, set}

module _ {A : Type 0} where
  pub four_places : (a b c d : A) (l : List A) → 4 ≤ length l → set (set (set (set l 0 a) 1 b) 2 c) 3 d ≡ a ∷ b ∷ c ∷ d ∷ drop 4 l
  four_places a b c d [] h = absurd (omega arith)
  four_places a b c d (p ∷ []) h = absurd (omega arith)
  four_places a b c d (p ∷ q ∷ []) h = absurd (omega arith)
  four_places a b c d (p ∷ q ∷ r ∷ []) h = absurd (omega arith)
  four_places a b c d (p ∷ q ∷ r ∷ s ∷ l) h = refl

  pub six_places : (a b c d e f : A) (l : List A) → 6 ≤ length l → set (set (set (set (set (set l 0 a) 1 b) 2 c) 3 d) 4 e) 5 f ≡ a ∷ b ∷ c ∷ d ∷ e ∷ f ∷ drop 6 l
  six_places a b c d e f [] h = absurd (omega arith)
  six_places a b c d e f (p ∷ []) h = absurd (omega arith)
  six_places a b c d e f (p ∷ q ∷ []) h = absurd (omega arith)
  six_places a b c d e f (p ∷ q ∷ r ∷ []) h = absurd (omega arith)
  six_places a b c d e f (p ∷ q ∷ r ∷ s ∷ []) h = absurd (omega arith)
  six_places a b c d e f (p ∷ q ∷ r ∷ s ∷ t ∷ []) h = absurd (omega arith)
  six_places a b c d e f (p ∷ q ∷ r ∷ s ∷ t ∷ u ∷ l) h = refl
