-- `checks::verdicts::of_draw` meets its contract. Assumes nothing.
use Rattle.std.proofs.Common.{sym, ap, ◌∙◌, Bool, refl, ◌++◌, ◌∷◌, [], ℕ, List, ltb}
use Rattle.std.proofs.lemmas.Result.{err_from_is_err_and}
use Rattle.paper.specs.declared.Form.TheVariants.{Records}
use Rattle.paper.specs.Job.{count}
use Rattle.paper.specs.laws.Tests.{Test, at_whole, bad_number, size_tests, job_tests, draw_tests}
use Rattle.checks.specs.Verdicts.{outcome, and_nothing, refuses, passes, stops, goes_on}
use Rattle.checks.specs.Sound.{sizes_sound}
use Rattle.checks.proofs.verdicts.of_draw.Goals as goal

-- 3; 11; and what comes after the sizes
abbrev room : ℕ → Test
room r = at_whole 3 (ltb r 6)

abbrev last : List ℕ → ℕ → ℕ → List Test
last bytes i q = at_whole 11 (bad_number (count bytes) i q) ∷ []

abbrev jobs : List ℕ → List Test
jobs bytes = job_tests Records bytes bytes

pub returns-in_err-of_sizes : goal.returns-in_err-of_sizes
unfolding draw_tests
returns-in_err-of_sizes c =
    let p = err_from_is_err_and c.from_residual.result c.from_residual.ensures.1 in
    let e = rw c.of_records-records.ensures at c.in_err-of_sizes.ensures in
    let bytes = c.args.job.now in
    rw (p.1, p.2) (sym (stops (size_tests Records bytes bytes) (room c.args.room ∷ (jobs bytes ++ last bytes c.args.i c.args.q)) _ (sym e)))

pub returns-in_err-whole : goal.returns-in_err-whole
unfolding draw_tests
returns-in_err-whole c =
    let p = err_from_is_err_and c.from_residual-in_err-whole.result c.from_residual-in_err-whole.ensures.1 in
    let one = rw c.of_records-records.ensures at c.in_ok-of_sizes.ensures in
    let bytes = c.args.job.now in
    let rest = jobs bytes ++ last bytes c.args.i c.args.q in
    rw (p.1, p.2)
    (sym (goes_on (size_tests Records bytes bytes) (room c.args.room ∷ rest) (sym one) ∙ refuses (room c.args.room) rest _ (sym c.in_err-whole.ensures)))

pub of_job-requires : goal.of_job-requires
of_job-requires c =
    (sizes_sound c.of_records-records.result (rw c.of_records-records.ensures refl) (sym c.in_ok-of_sizes.ensures)).short

pub returns-in_err-of_job : goal.returns-in_err-of_job
unfolding draw_tests
returns-in_err-of_job c =
    let p = err_from_is_err_and c.from_residual-in_err-of_job.result c.from_residual-in_err-of_job.ensures.1 in
    let one = rw c.of_records-records.ensures at c.in_ok-of_sizes.ensures in
    let e = rw c.of_records-records.ensures at c.in_err-of_job.ensures in
    let bytes = c.args.job.now in
    let rest = jobs bytes ++ last bytes c.args.i c.args.q in
    rw (p.1, p.2)
    (sym (
    goes_on (size_tests Records bytes bytes) (room c.args.room ∷ rest) (sym one)
    ∙ passes (room c.args.room) rest (sym c.in_ok-whole.ensures)
    ∙ stops (jobs bytes) (last bytes c.args.i c.args.q) _ (sym e)))

pub returns : goal.returns
unfolding draw_tests
returns c =
    let one = rw c.of_records-records.ensures at c.in_ok-of_sizes.ensures in
    let all = rw c.of_records-records.ensures at c.in_ok-of_job.ensures in
    let bytes = c.args.job.now in
    let rest = jobs bytes ++ last bytes c.args.i c.args.q in
    c.whole-2.ensures
    ∙ ap (λ (t : Bool). outcome (at_whole 11 t)) c.bad_number.ensures
    ∙ sym (
    goes_on (size_tests Records bytes bytes) (room c.args.room ∷ rest) (sym one)
    ∙ passes (room c.args.room) rest (sym c.in_ok-whole.ensures)
    ∙ goes_on (jobs bytes) (last bytes c.args.i c.args.q) (sym all)
    ∙ and_nothing (outcome (at_whole 11 (bad_number (count bytes) c.args.i c.args.q))))
