-- Laws of the first entries of a list.
use mathlib.Core.Path.{◌≡◌, sym, ◌∙◌, subst}
use mathlib.Core.List.{List, Memᴰ}
use Prim.Native.Nat.{ℕ, ◌≤◌, ◌<◌}
use native.Mathlib.Omega.{arith}
use lib.ListN.{length, get_or, take, length-take}
use lib.Seq.{get_or-take}
use Rattle.strips.proofs.ByPlace.{mem_at, place_mem}

-- A member of the first k entries stands before place k.
pub take_mem : (xs : List ℕ) (k x : ℕ) → Memᴰ x (take k xs) → (i : ℕ) × (i < k) × (get_or xs i 0 ≡ x)
take_mem xs k x m =
    let t = mem_at (take k xs) x m in
    let l : t.0 < k = omega (arith, t.1, length-take k xs) in
    (t.0, l, sym (get_or-take k xs t.0 0 l) ∙ t.2)

-- .. and what stands before place k is one.
pub mem_take : (xs : List ℕ) (k i : ℕ) → i < k → k ≤ length xs → Memᴰ (get_or xs i 0) (take k xs)
mem_take xs k i h l = subst (λ (x : ℕ). Memᴰ x (take k xs)) (get_or-take k xs i 0 h) (place_mem (take k xs) i (omega (arith, length-take k xs)))
