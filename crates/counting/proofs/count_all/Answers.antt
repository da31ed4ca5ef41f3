use native.Mathlib.Omega.{arith}
use Rattle.std.proofs.lemmas.Grind.{common_steps}
use Rattle.counting.proofs.Buffers.{numbers_none}
use Rattle.counting.proofs.count_all.Goals as goal

pub number-requires-clause-numbers : goal.number-requires-clause-numbers
number-requires-clause-numbers c =
    numbers_none c.requires.room.0 c.requires.room.1 (omega arith) (λ k h. grind (arith, common_steps)) c.keep_empty.ensures
