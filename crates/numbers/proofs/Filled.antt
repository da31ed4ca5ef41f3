-- A list that a loop fills, entry by entry; a table as a list. Assumes nothing.
use Rattle.std.specs.Prelude.{◌≡◌, refl, List, ℕ, zero, suc, ◌+◌, ◌*◌, ◌≤◌, ◌<◌, length, get_or, set, take, replicate}
use Rattle.std.proofs.Common.{◌∙◌, mul-le-mul_right, suc-mul, arith, length-set, get_or-set_same, get_or-set_other}
use Rattle.std.proofs.Math.Decide.{dec_lt}
use Rattle.numbers.specs.Filled.{Filled}

-- At first nothing is filled;
pub filled_none : {n : ℕ} {P : ℕ → ℕ → Type 0} {list : List ℕ} → length list ≡ n → Filled n P list 0
filled_none e = record { long = e; at = λ j h. absurd (omega arith) }

-- a store fills the next entry;
pub filled_more : {n : ℕ} {P : ℕ → ℕ → Type 0} {list : List ℕ} {k : ℕ} → k < n → Filled n P list k → (v : ℕ) → P k v → Filled n P (set list k v) (k + 1)
filled_more {n} {P} {list} {k} h F v p = record { long = length-set list k v ∙ F.long; at = λ j l. go j l (dec_lt j k) }
  where
    go : (j : ℕ) → j < k + 1 → Dec (j < k) → P j (get_or (set list k v) j 0)
    go j l (yes d) = rw (get_or-set_other list k j v 0 (λ e. omega arith)) (F.at j d)
    go j l (no d) = let e : j ≡ k = omega arith in rw (e, get_or-set_same list k v 0 (omega (arith, F.long))) p

-- and when no entry is left all are filled.
pub filled_done : {n : ℕ} {P : ℕ → ℕ → Type 0} {list : List ℕ} {k : ℕ} → n ≤ k → Filled n P list k → Filled n P list n
filled_done h F = record { long = F.long; at = λ j l. F.at j (omega arith) }

-- Filled up to k is filled up to m, where these are the same.
pub filled_to : {n : ℕ} {P : ℕ → ℕ → Type 0} {list : List ℕ} {k m : ℕ} → k ≡ m → Filled n P list k → Filled n P list m
filled_to e F = rw (← e) F

-- The front of a list of zeros has zeros.
pub zeros_front : (n m k : ℕ) → get_or (take n (replicate {A = ℕ} m 0)) k 0 ≡ 0
zeros_front zero m k = refl
zeros_front (suc n) zero k = refl
zeros_front (suc n) (suc m) zero = refl
zeros_front (suc n) (suc m) (suc k) = zeros_front n m k

-- The place of column q in row j is in a table of n rows of p entries.
pub place_in : (n p j q : ℕ) → j < n → q < p → j * p + q < n * p
place_in n p j q h l = omega (arith, mul-le-mul_right p h, suc-mul j p)
