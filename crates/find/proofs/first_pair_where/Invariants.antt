-- `find::first_pair_where` meets its contract. Assumes nothing.
use Rattle.std.proofs.Common.{◌≡◌, ℕ, ◌<◌, Bool, None}
use Rattle.paper.specs.laws.Tests.{with_earlier}
use Rattle.find.specs.Search.{first_where}
use Rattle.find.proofs.first_pair_where.Given as goal

-- none is found yet, by any test that the closure works out
abbrev pub invariant-loop-earlier : goal.invariant-loop-earlier
invariant-loop-earlier g l =
    (l.found ≡ None) × ((q : ℕ → ℕ → Bool) → ((i j : ℕ) → i < l.n → j < i → (b : Bool) → goal.F-post g l.test i j b → b ≡ q i j) → first_where (q l.at) l.earlier ≡ None)

abbrev pub invariant-records : goal.invariant-records
invariant-records g l =
    (l.found ≡ None) × ((q : ℕ → ℕ → Bool) → ((i j : ℕ) → i < l.n → j < i → (b : Bool) → goal.F-post g l.test i j b → b ≡ q i j) → first_where (with_earlier q) l.at ≡ None)
