-- What it is that tests say what trials say. That the tests of each call do is proofs/laws/Decided.
use Rattle.std.specs.Prelude.{◌≡◌, ◌↔◌, Bool, ◌&&◌, List, [], ◌∷◌, ℕ, ◌<◌, T, eqb, ltb}
use Rattle.paper.specs.Answers.{Work}
use Rattle.paper.specs.Job.{Job, form_of, pads_of, ports_of}
use Rattle.paper.specs.Layouts.{board_of, Badness}
use Rattle.paper.specs.Refusals.{Trial, Clean}
use Rattle.paper.specs.laws.Tests.{Test, at_each, at_pairs, with_earlier}
use Rattle.paper.specs.laws.Tests.{badness_test, sound_tests, measure_tests}

-- ---- tests that compute them

-- A test's refusal number, how many records it is tried at, which it finds at fault, and which may be named with those.
abbrev pub reason_of : Test → ℕ
reason_of (at_each r n p) = r
reason_of (at_pairs r n q) = r

abbrev pub among_of : Test → ℕ
among_of (at_each r n p) = n
among_of (at_pairs r n q) = n

abbrev pub fault_of : Test → ℕ → Bool
fault_of (at_each r n p) i = p i
fault_of (at_pairs r n q) i = with_earlier q i

abbrev pub beside_of : Test → ℕ → ℕ → Bool
beside_of (at_each r n p) i j = eqb j 0
beside_of (at_pairs r n q) i j = ltb j i && q i j

-- The test says what the trial says.
pub record TestOf (s : Test) (t : Trial) : Type 0 where
  pub reason_same : reason_of s ≡ t.reason
  pub among_same : among_of s ≡ t.among
  pub fault_iff : (i : ℕ) → i < t.among → T (fault_of s i) ↔ t.fault i
  pub beside_iff : (i j : ℕ) → i < t.among → T (beside_of s i j) ↔ t.beside i j
  pub some_beside : (i : ℕ) → i < t.among → t.fault i → (j : ℕ) × t.beside i j

-- The tests say what the trials say; a later one may go by the earlier trials being clean.
abbrev pub TestsOf : List Test → List Trial → Type 0
TestsOf [] [] = Unit {0}
TestsOf [] (t ∷ ts) = ⊥
TestsOf (s ∷ ss) [] = ⊥
TestsOf (s ∷ ss) (t ∷ ts) = TestOf s t × (Clean t → TestsOf ss ts)

-- ---- each call's

-- The tests of 1 to 7 and Measure's, of a job that is given by weights or a table.
abbrev pub sound_tests_of : Job → Badness → Work → ℕ → List Test
sound_tests_of job bad = sound_tests (form_of job) (pads_of job) (ports_of job) (badness_test (board_of job) bad)

abbrev pub measure_tests_of : Job → Badness → Work → List ℕ → List Test
measure_tests_of job bad = measure_tests (form_of job) (pads_of job) (ports_of job) (badness_test (board_of job) bad)
