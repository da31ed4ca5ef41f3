-- `calls::svg` meets its contract. Assumes nothing.
use mathlib.Core.Path.{refl}
use lib.ListN.{length}
use Rattle.std.specs.Prelude.{None}
use Rattle.std.proofs.lemmas.Result.{err_from_is_err_and}
use Rattle.paper.specs.Job.{records}
use Rattle.paper.specs.Layouts.{by_weights}
use Rattle.paper.specs.Refusals.{measure_trials}
use Rattle.paper.proofs.laws.Exported.{svg_refused}
use Rattle.checks.specs.Judged.{Judged, judged_sound, judged_refused, measure_judged}
use Rattle.calls.proofs.svg.Goals as goal

pub returns-in_err-of_measure : goal.returns-in_err-of_measure
returns-in_err-of_measure c =
    let judged : Judged c.of_measure.result (measure_trials (records c.args.job.now) (by_weights 0 0) None c.args.list.now) = rw (c.of_measure.ensures, c.of_records.ensures) (measure_judged (records c.args.job.now) (by_weights 0 0) None c.args.list.now) in
    let p = err_from_is_err_and c.from_residual.result c.from_residual.ensures.1 in
    rw (p.1, p.2) (svg_refused c.args.job.now c.args.list.now (length c.args.text.now) _ (judged_refused _ _ _ judged c.in_err-of_measure.was), refl)

pub sheet-requires : goal.sheet-requires
sheet-requires c =
    let judged : Judged c.of_measure.result (measure_trials (records c.args.job.now) (by_weights 0 0) None c.args.list.now) = rw (c.of_measure.ensures, c.of_records.ensures) (measure_judged (records c.args.job.now) (by_weights 0 0) None c.args.list.now) in
    judged_sound _ _ judged c.in_ok-of_measure.was
