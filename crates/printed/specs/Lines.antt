-- What follows from the definitions.
use Rattle.std.specs.Prelude.{◌≡◌, List, ℕ, ◌+◌, ◌≤◌, length, replicate, take, Some, None, Ok, Err}
use Rattle.std.proofs.Common.{ap, sym, subst, ◌∙◌, arith}
use Rattle.std.proofs.lemmas.List.Edits.{sets}
use Rattle.paper.specs.declared.Refusal.{Refusal}
use Rattle.paper.specs.Answers.{Answer}
use Rattle.paper.specs.Job.{records, count, name_of}
use Rattle.paper.specs.Leaders.{length_of, bends_of}
use Rattle.paper.specs.Layouts.{by_weights, board_of, leader, held}
use Rattle.paper.specs.Refusals.{Passed, measure_trials, calls_of}
use Rattle.paper.specs.Promises.{FirstAnswers}
use Rattle.paper.specs.laws.Totals.{total_of}
use Rattle.paper.proofs.laws.Totals.{total_is}
use Rattle.paper.proofs.laws.Decided.{sound_parts}
use Rattle.paper.proofs.laws.Accepted.{fair_iff, first_sound, sound_accepted, sound_other_room, untouching_passed}
use Rattle.paper.proofs.laws.Determined.{first_answer}
use Rattle.text.specs.Text.{bytes, Writes}
use Rattle.text.specs.Writing.{writes_none, writes_then, writes_joined, writes_whole}
use Rattle.printed.specs.Printed.{field, line, lines, lengths, bends, sheet, refused, told, Printed, Prints}

-- THEOREM: what is printed for a job is determined.
pub printed_one : (job s t : List ℕ) → Printed job s → Printed job t → s ≡ t
printed_one job s t p q =
    let (a, l) = first_answer (calls_of (records job) (by_weights 1 0) None) (replicate 64 0) p.answer q.answer p.list q.list p.first q.first in
    p.says ∙ ap (λ (m : List ℕ). told job m p.answer) l ∙ ap (told job q.list) a ∙ sym q.says

-- THEOREM: so are its length and every byte of the list that it is printed into.
pub prints_one : (job before : List ℕ) (r q : ℕ) (a b : List ℕ) → Prints job before r a → Prints job before q b → (r ≡ q) × (a ≡ b)
prints_one job before r q a b p s =
    let e = printed_one job p.text s.text p.printed s.printed in
    (omega (arith, p.written.stop, s.written.stop, ap length e), p.written.stored ∙ ap (sets before 0) e ∙ sym s.written.stored)

-- The first r bytes are what is printed.
prints_whole : (job before : List ℕ) (r : ℕ) (after : List ℕ) → Prints job before r after → r ≤ length before → Printed job (take r after)
prints_whole job before r after p h = subst (Printed job) (sym (writes_whole p.written (omega (arith, p.written.stop)))) p.printed

-- A line has four fields.
pub line_written : (job : List ℕ) (i q : ℕ) {b₀ b₁ b₂ b₃ b₄ : List ℕ} {k₀ k₁ k₂ k₃ k₄ name l b : ℕ} → name ≡ name_of job i
    → l ≡ length_of (leader (board_of (records job)) i q) → b ≡ bends_of (leader (board_of (records job)) i q)
    → Writes b₀ k₀ (field name " ") k₁ b₁ → Writes b₁ k₁ (field q " ") k₂ b₂ → Writes b₂ k₂ (field l " ") k₃ b₃ → Writes b₃ k₃ (field b "\n") k₄ b₄
    → Writes b₀ k₀ (line job i q) k₄ b₄
unfolding line
line_written job i q e f g w₀ w₁ w₂ w₃ = rw (← e, ← f, ← g) (writes_then (writes_then (writes_then w₀ w₁) w₂) w₃)

-- No lines yet; the lines so far, and one more.
pub lines_none : (job list b : List ℕ) → Writes b 0 (lines job list 0) 0 b
unfolding lines
lines_none job list b = writes_none b 0

pub lines_more : (job list : List ℕ) (i : ℕ) {b m a : List ℕ} {r q : ℕ} → Writes b 0 (lines job list i) r m → Writes m r (line job i (held list i)) q a
    → Writes b 0 (lines job list (i + 1)) q a
unfolding lines
lines_more job list i f g = writes_joined (λ i. line job i (held list i)) i f g

-- First's total with the weights 1, 0 is the sum of lengths, and Measure's with 0, 1 the sum of bends.
lengths_are : (job list : List ℕ) (t : ℕ) → t ≡ total_of (board_of (records job)) (by_weights 1 0) list → t ≡ lengths job list
lengths_are job list t e = omega (arith, total_is (board_of (records job)) 1 0 (held list))

pub bends_are : (job list : List ℕ) (t : ℕ) → t ≡ total_of (board_of (records job)) (by_weights 0 1) list → t ≡ bends job list
bends_are job list t e = omega (arith, total_is (board_of (records job)) 0 1 (held list))

-- The whole sheet: the lines, and then the sums.
pub sheet_written : (job list : List ℕ) {b₀ b₁ b₂ b₃ b₄ : List ℕ} {k₀ k₁ k₂ k₃ k₄ l b : ℕ} → l ≡ lengths job list → b ≡ bends job list
    → Writes b₀ k₀ (lines job list (count job)) k₁ b₁ → Writes b₁ k₁ (bytes "total ") k₂ b₂ → Writes b₂ k₂ (field l " ") k₃ b₃ → Writes b₃ k₃ (field b "\n") k₄ b₄
    → Writes b₀ k₀ (sheet job list) k₄ b₄
sheet_written job list e f w₀ w₁ w₂ w₃ = rw (← e, ← f) (writes_then (writes_then (writes_then w₀ w₁) w₂) w₃)

-- From First's answer to what is printed.
module _ (job list : List ℕ) (a : Answer) (f : FirstAnswers (records job) (by_weights 1 0) None (replicate 64 0) a list) where
  -- A layout: what the sheet goes by,
  pub first_passed : (t : ℕ) → a ≡ Ok (Some t) → Passed (measure_trials (records job) (by_weights 0 1) None list) × (t ≡ lengths job list)
  first_passed t e =
      let (p, b, s, k) : FirstAnswers (records job) (by_weights 1 0) None (replicate 64 0) (Ok (Some t)) list = rw e at f in
      let q = first_sound (records job) (by_weights 1 0) None 64 p in
      let (sizes, given, roomy, passed) = (sound_parts (records job) (by_weights 1 0) None 64).0 q in
      let fair = (fair_iff (board_of (records job)) (by_weights 0 1)).1 (omega arith, omega arith) in
      let room = (sound_accepted (records job) (by_weights 1 0) None 64 q).2 in
      let other = sound_other_room (records job) (by_weights 0 1) None 64 (length list) ((sound_parts (records job) (by_weights 0 1) None 64).1 (sizes, fair, roomy, passed)) (omega (arith, k.long)) in
      (untouching_passed (records job) (by_weights 0 1) None list other b.best.counts, lengths_are job list t s)

  -- and its text is what is printed;
  pub prints_sheet : (t : ℕ) → a ≡ Ok (Some t) → {before after : List ℕ} {r : ℕ} → Writes before 0 (sheet job list) r after
      → Prints job before r after
  prints_sheet t e w = record { text = sheet job list; printed = record { answer = a; list = list; first = f; says = rw e }; written = w }

  -- a refusal: its line;
  pub prints_refusal : (g : Refusal) → a ≡ Err g → {before after : List ℕ} {r : ℕ} → Writes before 0 (refused g) r after
      → Prints job before r after
  prints_refusal g e w = record { text = refused g; printed = record { answer = a; list = list; first = f; says = rw e }; written = w }

  -- never end.
  pub no_end : ¬ (a ≡ (Ok None))
  no_end e = rw e at f
