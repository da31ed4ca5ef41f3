-- A word stands at the front of a text where as many bytes as it has are the same.
use Rattle.std.proofs.Common.{◌≡◌, refl, List, [], ◌∷◌, ℕ, cond, nat_eq, length, take, drop, arith, rules}
use Rattle.std.proofs.lemmas.Grind.{common_steps}
use lib.Pointwise.{pointwise}
use Rattle.paper.specs.laws.Parsing.{got, none, word_front}

pub word_front_same : (w s : List ℕ) → word_front w s ≡ cond (pointwise nat_eq (take (length w) s) w) (got 0 (drop (length w) s)) none
unfolding word_front
word_front_same [] s = search rules
word_front_same (b ∷ w) [] = refl
word_front_same (b ∷ w) (c ∷ s) = grind (arith, common_steps, word_front_same w s)
