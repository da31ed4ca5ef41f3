-- 01: "For J5 it prints exactly" these four lines.
use Rattle.std.specs.Prelude.{◌≡◌, refl, List, ◌∷◌, ℕ, zero, suc, ◌≤◌, replicate, get_or, Some, None, Ok}
use Rattle.std.proofs.Common.{arith}
use Rattle.paper.specs.Job.{records, twos, name_of, half_of, x_of, y_of, last_of, port_of}
use Rattle.paper.specs.Leaders.{length_of, bends_of}
use Rattle.paper.specs.Layouts.{board_of, held, weighted, by_weights, sum}
use Rattle.paper.specs.Problem.{FirstBest, labeling_of}
use Rattle.paper.specs.Refusals.{Passed, sound_trials, first_trials}
use Rattle.paper.specs.Promises.{Kept}
use Rattle.paper.specs.laws.Totals.{total_of}
use Rattle.paper.specs.Sheets.{J5}
use Rattle.paper.specs.laws.Tests.{somewhere, outside, between, leaders_touch, meets_large, job_tests, sound_tests}
use Rattle.paper.specs.laws.Decided.{sound_tests_of}
use Rattle.paper.proofs.laws.Decided.{tests_pass, sound_tests_lem}
use Rattle.paper.proofs.laws.Accepted.{sound_accepted, first_passed}
use Rattle.paper.specs.laws.Trying.{first_test, best_test, heads, words, any, some_word, least_test}
use Rattle.paper.proofs.laws.Trying.{first_iff, labeling_searchable}
use Rattle.paper.specs.laws.Trying.{misled, untouching_test, differ_right, decided_at, before_test, cheaper}
use Rattle.text.specs.Text.{bytes, digits, decimal}
use Rattle.printed.specs.Printed.{line, lines, Printed}

-- [1, 2, 0], in a list of 64
abbrev list : List ℕ
list = 1 ∷ 2 ∷ 0 ∷ replicate 61 0

sound : Passed (sound_trials (records J5) (by_weights 1 0) None 64)
unfolding somewhere outside job_tests sound_tests twos name_of half_of x_of y_of last_of port_of
sound =
    tests_pass (sound_tests_of (records J5) (by_weights 1 0) None 64) (sound_trials (records J5) (by_weights 1 0) None 64)
    (sound_tests_lem (records J5) (by_weights 1 0) None 64) tt

earliest : FirstBest (labeling_of (records J5) (by_weights 1 0)) (held list)
unfolding first_test best_test heads words any some_word least_test misled untouching_test differ_right decided_at before_test cheaper somewhere between leaders_touch meets_large
    twos half_of x_of y_of port_of length_of bends_of sum weighted
earliest = (first_iff (labeling_of (records J5) (by_weights 1 0)) (labeling_searchable (board_of (records J5)) (weighted (board_of (records J5)) 1 0) (sound_accepted (records J5) (by_weights 1 0) None 64 sound).0.proper.differ) (held list)).0 tt

passed : Passed (first_trials (records J5) (by_weights 1 0) None 64)
passed = first_passed (records J5) (by_weights 1 0) None 64 sound (λ none. none (held list) earliest.best.counts)

total : 90 ≡ total_of (board_of (records J5)) (by_weights 1 0) list
unfolding twos x_of y_of port_of length_of bends_of sum weighted
total = refl

rest : (k : ℕ) → 3 ≤ k → get_or list k 0 ≡ get_or (replicate 64 0) k 0
rest zero h = absurd (omega arith)
rest (suc zero) h = absurd (omega arith)
rest (suc (suc k)) h = refl

kept : Kept 3 (replicate 64 0) list
kept = record { long = refl; rest = rest }

-- THEOREM: these and no others (`printed_one`).
pub printed-J5 : Printed J5 (bytes "101 1 10 0\n102 2 20 0\n103 0 60 1\ntotal 90 1\n")
unfolding line lines digits decimal twos name_of x_of y_of port_of length_of bends_of sum
printed-J5 = record { answer = Ok (Some 90); list = list; first = (passed, earliest, total, kept); says = refl }
