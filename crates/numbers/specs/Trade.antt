-- Two numbers that are traded for each other.
use Rattle.std.specs.Prelude.{ℕ}
use Rattle.std.proofs.Math.Logic.{ite}
use Rattle.std.proofs.Math.Decide.{ℕ_discrete}

-- j for i and i for j, and every other number for itself
unfoldable pub trade : ℕ → ℕ → ℕ → ℕ
trade i j k = ite (ℕ_discrete k i) j (ite (ℕ_discrete k j) i k)
