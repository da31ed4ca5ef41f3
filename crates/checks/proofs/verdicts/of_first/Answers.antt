-- `checks::verdicts::of_first` meets its contract. Assumes nothing.
use Rattle.std.proofs.Common.{sym, ◌∙◌, ◌++◌, ◌∷◌}
use Rattle.std.proofs.lemmas.Result.{err_from_is_err_and}
use Rattle.paper.specs.Given.{badness_of}
use Rattle.paper.specs.laws.Tests.{size_tests, room_tests, job_tests, badness_test, sound_tests}
use Rattle.job.specs.Board.{board_on}
use Rattle.checks.specs.Verdicts.{on_job, refuses, passes, stops, goes_on}
use Rattle.checks.specs.Sound.{sizes_sound}
use Rattle.checks.proofs.verdicts.of_first.Goals as goal

pub returns-in_err-of_sizes : goal.returns-in_err-of_sizes
unfolding sound_tests
returns-in_err-of_sizes c =
    let p = err_from_is_err_and c.from_residual.result c.from_residual.ensures.1 in
    rw (p.1, p.2) (sym (stops (on_job size_tests c.args.job.now) _ _ (sym c.in_err-of_sizes.ensures)))

pub returns-in_err-of_badness : goal.returns-in_err-of_badness
unfolding sound_tests
returns-in_err-of_badness c =
    let p = err_from_is_err_and c.from_residual-in_err-of_badness.result c.from_residual-in_err-of_badness.ensures.1 in
    let job = c.args.job.now in
    let given = badness_test (board_on job) (badness_of c.args.bad.now) in
    let rest = on_job room_tests job c.args.work c.args.room ++ on_job job_tests job in
    rw (p.1, p.2)
    (sym (goes_on (on_job size_tests job) (given ∷ rest) (sym c.in_ok-of_sizes.ensures) ∙ refuses given rest _ (sym c.in_err-of_badness.ensures)))

pub of_room-requires : goal.of_room-requires
of_room-requires c = sizes_sound c.args.job.now c.requires (sym c.in_ok-of_sizes.ensures)

pub returns-in_err-of_room : goal.returns-in_err-of_room
unfolding sound_tests
returns-in_err-of_room c =
    let p = err_from_is_err_and c.from_residual-in_err-of_room.result c.from_residual-in_err-of_room.ensures.1 in
    let job = c.args.job.now in
    let given = badness_test (board_on job) (badness_of c.args.bad.now) in
    let room = on_job room_tests job c.args.work c.args.room in
    rw (p.1, p.2)
    (sym (
    goes_on (on_job size_tests job) (given ∷ (room ++ on_job job_tests job)) (sym c.in_ok-of_sizes.ensures)
    ∙ passes given (room ++ on_job job_tests job) (sym c.in_ok-of_badness.ensures)
    ∙ stops room (on_job job_tests job) _ (sym c.in_err-of_room.ensures)))

pub of_job-requires : goal.of_job-requires
of_job-requires c = (sizes_sound c.args.job.now c.requires (sym c.in_ok-of_sizes.ensures)).short

pub returns : goal.returns
unfolding sound_tests
returns c =
    let job = c.args.job.now in
    let given = badness_test (board_on job) (badness_of c.args.bad.now) in
    let room = on_job room_tests job c.args.work c.args.room in
    c.of_job.ensures
    ∙ sym (
    goes_on (on_job size_tests job) (given ∷ (room ++ on_job job_tests job)) (sym c.in_ok-of_sizes.ensures)
    ∙ passes given (room ++ on_job job_tests job) (sym c.in_ok-of_badness.ensures)
    ∙ goes_on room (on_job job_tests job) (sym c.in_ok-of_room.ensures))
