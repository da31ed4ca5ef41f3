-- `find::first_where` meets its contract. Assumes nothing.
use Rattle.std.proofs.Common.{◌≡◌, ℕ, ◌<◌, Bool, None}
use Rattle.find.specs.Search.{first_where}
use Rattle.find.proofs.first_where.Given as goal

-- of any test that the closure works out
abbrev pub invariant-loop-i : goal.invariant-loop-i
invariant-loop-i g l =
    (p : ℕ → Bool) → ((i : ℕ) → i < l.n → (b : Bool) → goal.F-post g l.test i b → b ≡ p i) → first_where p l.i ≡ None
