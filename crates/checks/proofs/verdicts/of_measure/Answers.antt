-- `checks::verdicts::of_measure` meets its contract. Assumes nothing.
use Rattle.std.proofs.Common.{sym, ◌∙◌, length}
use Rattle.std.proofs.lemmas.Result.{err_from_is_err_and}
use Rattle.paper.specs.Given.{badness_of}
use Rattle.paper.specs.laws.Tests.{badness_test, sound_tests, layout_tests, measure_tests}
use Rattle.job.specs.Board.{board_on}
use Rattle.checks.specs.Verdicts.{on_job, stops, goes_on}
use Rattle.checks.specs.Sound.{first_sized}
use Rattle.checks.proofs.verdicts.of_measure.Goals as goal

pub returns-in_err-of_first : goal.returns-in_err-of_first
unfolding measure_tests
returns-in_err-of_first c =
    let p = err_from_is_err_and c.from_residual.result c.from_residual.ensures.1 in
    let job = c.args.job.now in
    let given = badness_test (board_on job) (badness_of c.args.bad.now) in
    rw (p.1, p.2) (sym (stops (on_job sound_tests job given c.args.work (length c.args.list.now)) (layout_tests (board_on job) c.args.list.now) _ (sym c.in_err-of_first.ensures)))

pub of_layout-requires : goal.of_layout-requires
of_layout-requires c =
    let job = c.args.job.now in
    first_sized job (badness_test (board_on job) (badness_of c.args.bad.now)) c.args.work (length c.args.list.now) c.requires (sym c.in_ok-of_first.ensures)

pub returns : goal.returns
unfolding measure_tests
returns c =
    let job = c.args.job.now in
    let given = badness_test (board_on job) (badness_of c.args.bad.now) in
    c.of_layout.ensures ∙ sym (goes_on (on_job sound_tests job given c.args.work (length c.args.list.now)) (layout_tests (board_on job) c.args.list.now) (sym c.in_ok-of_first.ensures))
