-- `job::height` meets its contract. Assumes nothing.
use mathlib.Core.Path.{◌≡◌, ap, ◌∙◌}
use Prim.Native.Nat.{ℕ, ◌<◌}
use native.Mathlib.Omega.{arith}
use native.Mathlib.Decide.{dec_lt}
use borrow.Author.Tests.{lt-ltb, le-ltb}
use lib.IntN.{negsuc}
use lib.Signed.{mag}
use mir.Syntax.{w32}
use mir.Val.{to_z}
use mir.ValLaws.{to_z-of_z}
use Rattle.numbers.proofs.Bits.{read_back}
use Rattle.paper.specs.Job.{twos}
use Rattle.paper.proofs.laws.Written.{wrapped}
use Rattle.job.proofs.height.Goals as goal

-- The signed reading of 32 bits is two's complement.
signed : (n : ℕ) → n < 4294967296 → to_z w32 n ≡ twos n
unfolding twos
signed n h = go (dec_lt n 2147483648)
  where
    go : Dec (n < 2147483648) → to_z w32 n ≡ twos n
    go (yes l) = rw (lt-ltb n 2147483648 l)
    go (no l) = rw (le-ltb n 2147483648 (omega arith), wrapped n h) (ap negsuc (omega arith))

pub returns : goal.returns
returns c =
    let same = c.from.ensures ∙ to_z-of_z w32 c.cast_signed.result (record { sfits = c.cast_signed.type_inv }) in
    let small : mag c.from.result < 2147483648 = rw same c.cast_signed.type_inv in
    rw (read_back c.from.result c.from.type_inv) (same ∙ c.cast_signed.ensures ∙ signed c.word.result c.word.type_inv ∙ ap twos c.word.ensures, small)
