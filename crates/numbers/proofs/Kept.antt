-- A list that is kept from some place on. Assumes nothing.
use Rattle.std.specs.Prelude.{refl, List, ℕ, ◌≤◌, ◌<◌, set}
use Rattle.std.proofs.Common.{◌∙◌, arith, length-set, get_or-set_other}
use Rattle.numbers.specs.Kept.{KeptFrom}

pub kept_all : (n : ℕ) (w : List ℕ) → KeptFrom n w w
kept_all n w = record { long = refl; rest = λ k h. refl }

-- A store before n keeps the rest.
pub kept_set : (n : ℕ) (w v : List ℕ) (i x : ℕ) → i < n → KeptFrom n w v → KeptFrom n w (set v i x)
kept_set n w v i x h K = record { long = length-set v i x ∙ K.long; rest = λ k u. get_or-set_other v i k x 0 (λ e. absurd (omega arith)) ∙ K.rest k u }

pub kept_later : {m : ℕ} {w v : List ℕ} (n : ℕ) → m ≤ n → KeptFrom m w v → KeptFrom n w v
kept_later n h K = record { long = K.long; rest = λ k u. K.rest k (omega arith) }

pub kept_twice : {n : ℕ} {u w v : List ℕ} → KeptFrom n u w → KeptFrom n w v → KeptFrom n u v
kept_twice K L = record { long = L.long ∙ K.long; rest = λ k h. L.rest k h ∙ K.rest k h }
