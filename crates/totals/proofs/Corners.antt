-- Laws of the places of strips in a table.
use mathlib.Core.Path.{◌≡◌, refl}
use mathlib.Core.Logic.{⊎_elim}
use Prim.Native.Nat.{ℕ, zero, suc, ◌+◌, ◌*◌, ◌≤◌, ◌<◌, zero-le}
use native.Mathlib.Omega.{arith}
use native.Mathlib.Nat.{suc-mul}
use native.Mathlib.Numerals.{add-one}
use Rattle.totals.specs.Cell.{corner_of, place}
use Rattle.pads.specs.Counts.{le_or_lt}

pub corner_step : (b : ℕ) → corner_of (b + 1) ≡ corner_of b + (b + 1)
unfolding corner_of
corner_step b = rw (add-one b) refl

pub corner_twice : (b : ℕ) → corner_of b + corner_of b ≡ b * (b + 1)
unfolding corner_of
corner_twice zero = refl
corner_twice (suc b) = let m = corner_twice b in let p = suc-mul b (suc b + 1) in omega (arith, m, p)

pub corner_mono : (a b : ℕ) → a ≤ b → corner_of a ≤ corner_of b
unfolding corner_of
corner_mono a zero h = let e : a ≡ 0 = omega arith in rw e zero-le
corner_mono a (suc b) h =
    ⊎_elim (λ (u : a ≤ b). let m = corner_mono a b u in omega arith) (λ (u : b < a). let e : a ≡ suc b = omega arith in rw e (omega arith)) (le_or_lt a b)

pub corner_top : (b : ℕ) → b ≤ 64 → corner_of b ≤ 2080
unfolding corner_of
corner_top b h = corner_mono b 64 h

corner_next : (b b' : ℕ) → b < b' → corner_of b + b < corner_of b'
corner_next b b' h = let m = corner_mono (b + 1) b' (omega arith) in let s = corner_step b in omega arith

-- the strips of n ports have their places before those that end after them
pub place-listed : (a b n : ℕ) → a ≤ b → b ≤ n → place a b < corner_of (n + 1)
place-listed a b n h l = let m = corner_next b (n + 1) (omega arith) in omega arith

-- two strips with one place end together, and so start together
pub place_end : (a b a' b' : ℕ) → a ≤ b → a' ≤ b' → place a b ≡ place a' b' → b ≡ b'
place_end a b a' b' h h' e =
    ⊎_elim
    (λ (u : b ≤ b'). ⊎_elim (λ (v : b' ≤ b). omega arith) (λ (v : b < b'). absurd (let n = corner_next b b' v in omega arith)) (le_or_lt b' b))
    (λ (u : b' < b). absurd (let n = corner_next b' b u in omega arith))
    (le_or_lt b b')

pub place_start : (a b a' b' : ℕ) → a ≤ b → a' ≤ b' → place a b ≡ place a' b' → a ≡ a'
place_start a b a' b' h h' e = let n = place_end a b a' b' h h' e in let m : corner_of b ≡ corner_of b' = rw n refl in omega arith

-- of two strips that start together the narrower has the earlier place
pub place-before : (a q b : ℕ) → place a q < place a b → q < b
place-before a q b h = ⊎_elim (λ (u : b ≤ q). absurd (let m = corner_mono b q u in omega arith)) (λ (u : q < b). u) (le_or_lt b q)

pub place_after : (a q b : ℕ) → place a b ≤ place a q → b ≤ q
place_after a q b h = ⊎_elim (λ (u : b ≤ q). u) (λ (u : q < b). absurd (let n = corner_next q b u in omega arith)) (le_or_lt b q)
