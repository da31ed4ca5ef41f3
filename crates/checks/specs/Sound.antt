-- What it tells that the checks so far came to nothing.
use Rattle.std.specs.Prelude.{ℕ, ◌*◌, ◌<◌, ◌≤◌, ◌%◌, List, ◌∷◌, ◌++◌, Bool, false, not, ◌||◌, ◌≡◌, refl, ltb, eqb, length, Option, Some, None, Ok, Err}
use Rattle.std.proofs.Common.{sym, ◌∙◌, arith, ltb-false, leb-false}
use Rattle.paper.specs.declared.Form.{Form}
use Rattle.paper.specs.declared.Form.TheVariants.{Records, Slots}
use Rattle.paper.specs.Answers.{Work}
use Rattle.paper.specs.Job.{count, port_count}
use Rattle.paper.specs.Layouts.{held}
use Rattle.paper.specs.laws.Tests.{bad_size, bad_entry, Test, at_whole}
use Rattle.paper.specs.laws.Tests.{size_tests, enough_tests, work_tests, room_tests, job_tests, sound_tests}
use Rattle.paper.specs.laws.Imported.{row_tests}
use Rattle.job.specs.declared.Job.{Job}
use Rattle.job.specs.Board.{pads_on, ports_on}
use Rattle.find.specs.Search.{first_where, none_at, or_false_left, or_false_right}
use Rattle.checks.specs.Verdicts.{Verdict, at_record, outcome, and_then, verdict, verdict_append, on_job, own, Formed, Few}

-- Two checks came to nothing: each did.
pub both_sound : (u v : Verdict) → and_then u v ≡ Ok tt → (u ≡ Ok tt) × (v ≡ Ok tt)
both_sound (Ok x) v e = (refl, e)
both_sound (Err r) v e = absurd (let z : ◌≡◌ {A = ℕ} 0 1 = cc in omega arith)

-- Tests one after another did: the first ones did, and the others.
pub append_sound : (ts us : List Test) → verdict (ts ++ us) ≡ Ok tt → (verdict ts ≡ Ok tt) × (verdict us ≡ Ok tt)
append_sound ts us e = both_sound (verdict ts) (verdict us) (sym (verdict_append ts us) ∙ e)

-- A search did: it found nothing.
pub nothing_found : (r : ℕ) (f : Option ℕ) → at_record r f ≡ Ok tt → f ≡ None
nothing_found r (Some i) e = absurd (let z : ◌≡◌ {A = ℕ} 0 1 = cc in omega arith)
nothing_found r None e = refl

-- A test of the input as a whole did: it fails.
pub whole_false : (r : ℕ) (t : Bool) → outcome (at_whole r t) ≡ Ok tt → t ≡ false
whole_false r t e = none_at (λ i. t) 1 (nothing_found r (first_where (λ i. t) 1) e) 0 (omega arith)

-- 1 not given: at most so many bytes.
size_le : (one most : ℕ) (bytes : List ℕ) → outcome (at_whole 1 (bad_size one most bytes)) ≡ Ok tt → length bytes ≤ most
size_le one most bytes e =
    let n = length bytes in
    ltb-false most n (or_false_right (eqb n 0 || not (eqb (n % one) 0)) (ltb most n) (whole_false 1 (bad_size one most bytes) e))

sizes_few : (form : Form) (pads ports : List ℕ) → own form pads ports → verdict (size_tests form pads ports) ≡ Ok tt
    → (length pads ≤ 1024) × (length ports ≤ 1024) × (count pads ≤ 64) × (port_count form ports ≤ 128)
sizes_few Records pads ports same e =
    let l = size_le 16 1024 pads (both_sound _ _ e).0 in
    rw same (l, l, omega arith, omega arith)
sizes_few Slots pads ports same e =
    let two = both_sound _ _ e in
    let l = size_le 16 1024 pads two.0 in
    let k = size_le 4 512 ports (both_sound _ _ two.1).0 in
    (l, omega arith, omega arith, omega arith)

pub sizes_sound : (job : Job) → Formed job → verdict (on_job size_tests job) ≡ Ok tt → Few job
sizes_sound job formed e =
    let (pads, ports, few, slots) = sizes_few job.form job.pads.now job.ports.now formed e in
    record { short = (pads, ports); few = few; slots_few = slots }

-- 8 not given: every entry is a port number.
pub entries_below : (n p : ℕ) (list : List ℕ) → at_record 8 (first_where (bad_entry p list) n) ≡ Ok tt → (k : ℕ) → k < n → held list k < p
entries_below n p list e k h =
    leb-false p (held list k) (or_false_left _ _ (none_at (bad_entry p list) n (nothing_found 8 (first_where (bad_entry p list) n) e) k h))

-- None of First's given: so few bytes, and room for the layout.
pub first_sized : (job : Job) (given : Test) (work : Work) (room : ℕ) → Formed job → verdict (on_job sound_tests job given work room) ≡ Ok tt
    → Few job × (pads_on job ≤ room)
unfolding sound_tests
first_sized job given work room formed e =
    let sizes = append_sound (on_job size_tests job) (given ∷ on_job room_tests job work room ++ on_job job_tests job) e in
    let after = both_sound (outcome given) (verdict (on_job room_tests job work room ++ on_job job_tests job)) sizes.1 in
    let roomy = append_sound (on_job room_tests job work room) (on_job job_tests job) after.1 in
    let three = both_sound (outcome (at_whole 3 (ltb room (pads_on job)))) (verdict (on_job enough_tests job ++ work_tests (pads_on job) (ports_on job) work)) roomy.0 in
    (sizes_sound job formed sizes.0, ltb-false room (pads_on job) (whole_false 3 (ltb room (pads_on job)) three.0))

-- 1 and 22 of a list that was read not given: so few pads, and room for their records.
pub pads_few : (n : ℕ) → outcome (at_whole 1 (eqb n 0 || ltb 64 n)) ≡ Ok tt → n ≤ 64
pads_few n e = ltb-false 64 n (or_false_right (eqb n 0) (ltb 64 n) (whole_false 1 (eqb n 0 || ltb 64 n) e))

pub list_few : (n room : ℕ) (made : List ℕ) → verdict (row_tests n made room) ≡ Ok tt → (n ≤ 64) × (16 * n ≤ room)
list_few n room made e =
    let one = both_sound (outcome (at_whole 1 (eqb n 0 || ltb 64 n))) _ e in
    let two = both_sound (outcome (at_whole 22 (ltb room (16 * n)))) _ one.1 in
    (pads_few n one.0, ltb-false room (16 * n) (whole_false 22 (ltb room (16 * n)) two.0))
