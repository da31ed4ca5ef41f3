-- The tests of a list of pads that was read.
use Rattle.std.specs.Prelude.{Bool, ◌&&◌, ◌||◌, List, [], ◌∷◌, ℕ, ◌*◌, eqb, ltb}
use Rattle.paper.specs.declared.Form.TheVariants.{Slots}
use Rattle.paper.specs.Job.{count}
use Rattle.paper.specs.laws.Tests.{Test, at_each, at_whole, bad_field, same_name, same_x, with_earlier}

-- ---- the tests

-- As the code tries them, of n rows whose bytes are made: 1 and 22, and then of the bytes 4, 6 and 7.
abbrev pub record_tests : List ℕ → List Test
record_tests made =
    at_each 4 (count made) (bad_field Slots made) ∷
    at_each 6 (count made) (with_earlier (same_name made)) ∷
    at_each 7 (count made) (with_earlier (same_x made)) ∷ []

abbrev pub row_tests : ℕ → List ℕ → ℕ → List Test
row_tests n made room = at_whole 1 (eqb n 0 || ltb 64 n) ∷ at_whole 22 (ltb room (16 * n)) ∷ record_tests made

-- The same at 64 pads, of which there are n.
abbrev pub wide : ℕ → (ℕ → Bool) → ℕ → Bool
wide n p i = ltb i n && p i

abbrev pub wide_tests : ℕ → List ℕ → ℕ → List Test
wide_tests n made room =
    at_whole 1 (eqb n 0 || ltb 64 n) ∷
    at_whole 22 (ltb room (16 * n)) ∷
    at_each 4 64 (wide n (bad_field Slots made)) ∷
    at_each 6 64 (wide n (with_earlier (same_name made))) ∷
    at_each 7 64 (wide n (with_earlier (same_x made))) ∷ []
