-- The size of C's number of a refusal.
use Rattle.std.specs.Prelude.{◌≡◌, ℕ, ◌+◌, ◌*◌, pos, neg_ℤ}
use Rattle.std.proofs.Common.{arith}
use Rattle.paper.specs.declared.Refusal.{Refusal}
use Rattle.paper.specs.Refusals.{Alone}
use Rattle.paper.specs.Promises.{refusal_number}

abbrev pub size_of : Refusal → ℕ
size_of r = 4294967296 * r.earlier + 65536 * r.reason + r.at

-- THEOREM. C's number of a refusal that names one record, and so of every one but 9, is that of its refusal number and this record.
pub alone_number : (r : Refusal) → Alone r → refusal_number r ≡ neg_ℤ (pos (65536 * r.reason + r.at))
alone_number r a = let n : 4294967296 * r.earlier + 65536 * r.reason + r.at ≡ 65536 * r.reason + r.at = omega (arith, a.1) in rw n
