-- DEFINITIONS. 01, "The printing program": what it prints for a job.
use Rattle.std.specs.Prelude.{◌≡◌, List, [], ◌++◌, ℕ, replicate, Some, None, Ok, Err}
use Prim.Native.String.{String}
use Rattle.paper.specs.declared.Refusal.{Refusal}
use Rattle.paper.specs.Answers.{Answer}
use Rattle.paper.specs.Job.{records, count, name_of}
use Rattle.paper.specs.Leaders.{length_of, bends_of}
use Rattle.paper.specs.Layouts.{by_weights, board_of, leader, held, sum}
use Rattle.paper.specs.Promises.{FirstAnswers}
use Rattle.text.specs.Text.{bytes, decimal, joined, Writes}

-- A number in decimal, and what stands after it.
abbrev pub field : ℕ → String → List ℕ
field n s = decimal n ++ bytes s

-- The line of record i, led to port q: name, port number, leader length, bends.
unfoldable pub line : List ℕ → ℕ → ℕ → List ℕ
line job i q =
    field (name_of job i) " " ++ field q " " ++ field (length_of (leader (board_of (records job)) i q)) " " ++ field (bends_of (leader (board_of (records job)) i q)) "\n"

-- The lines of the first n records, in file order, for the layout that a list holds.
unfoldable pub lines : List ℕ → List ℕ → ℕ → List ℕ
lines job list = joined (λ i. line job i (held list i))

-- Sums of the lengths and of the bends that are printed.
abbrev pub lengths : List ℕ → List ℕ → ℕ
lengths job list = sum (count job) (λ i. length_of (leader (board_of (records job)) i (held list i)))

abbrev pub bends : List ℕ → List ℕ → ℕ
bends job list = sum (count job) (λ i. bends_of (leader (board_of (records job)) i (held list i)))

-- The sheet of the layout that a list holds: its lines, and then the sums. The one line of a refused job.
abbrev pub sheet : List ℕ → List ℕ → List ℕ
sheet job list = lines job list (count job) ++ bytes "total " ++ field (lengths job list) " " ++ field (bends job list) "\n"

abbrev pub refused : Refusal → List ℕ
refused r = bytes "refused " ++ field r.reason " " ++ bytes "record " ++ field r.at "\n"

-- What is printed where First answers a and leaves a list. (It never answers end.)
abbrev pub told : List ℕ → List ℕ → Answer → List ℕ
told job list (Ok (Some t)) = sheet job list
told job list (Ok None) = []
told job list (Err r) = refused r

-- What is printed for a job: what First says of it with weights 1, 0 and a list of 64 zeros.
pub record Printed (job text : List ℕ) : Type 0 where
  pub answer : Answer
  pub list : List ℕ
  pub first : FirstAnswers (records job) (by_weights 1 0) None (replicate 64 0) answer list
  pub says : text ≡ told job list answer

-- It is printed into a lent list of bytes: it stands at the start, r is its length, and every byte after it is kept.
pub record Prints (job before : List ℕ) (r : ℕ) (after : List ℕ) : Type 0 where
  pub text : List ℕ
  pub printed : Printed job text
  pub written : Writes before 0 text r after
