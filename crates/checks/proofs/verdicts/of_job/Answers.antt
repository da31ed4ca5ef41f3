-- `checks::verdicts::of_job` meets its contract. Assumes nothing.
use Rattle.std.proofs.Common.{sym, ◌∙◌}
use Rattle.std.proofs.lemmas.Result.{err_from_is_err_and}
use Rattle.paper.specs.laws.Tests.{job_tests, field_tests, board_tests}
use Rattle.checks.specs.Verdicts.{on_job, stops, goes_on}
use Rattle.checks.proofs.verdicts.of_job.Goals as goal

pub returns-in_err-of_fields : goal.returns-in_err-of_fields
unfolding job_tests
returns-in_err-of_fields c =
    let p = err_from_is_err_and c.from_residual.result c.from_residual.ensures.1 in
    rw (p.1, p.2) (sym (stops (on_job field_tests c.args.job.now) (on_job board_tests c.args.job.now) _ (sym c.in_err-of_fields.ensures)))

pub returns : goal.returns
unfolding job_tests
returns c =
    c.of_board.ensures ∙ sym (goes_on (on_job field_tests c.args.job.now) (on_job board_tests c.args.job.now) (sym c.in_ok-of_fields.ensures))
