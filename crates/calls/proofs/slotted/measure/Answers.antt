-- `calls::slotted::measure` meets its contract. Assumes nothing.
use Rattle.std.specs.Prelude.{None}
use Rattle.std.proofs.lemmas.Result.{err_from_is_err_and}
use Rattle.paper.specs.Job.{slots}
use Rattle.paper.specs.Layouts.{by_weights}
use Rattle.paper.specs.Refusals.{measure_trials}
use Rattle.measure.specs.Given.{measurable}
use Rattle.checks.specs.Judged.{Judged, judged_sound, judged_refused, measure_judged}
use Rattle.calls.proofs.slotted.measure.Goals as goal

pub returns-in_err-of_measure : goal.returns-in_err-of_measure
returns-in_err-of_measure c =
    let judged : Judged c.of_measure.result (measure_trials (slots c.args.pads.now c.args.ports.now) (by_weights c.args.weights.length c.args.weights.bend) None c.args.list.now) = rw (c.of_measure.ensures, c.of_slots-job.ensures) (measure_judged (slots c.args.pads.now c.args.ports.now) (by_weights c.args.weights.length c.args.weights.bend) None c.args.list.now) in
    let p = err_from_is_err_and c.from_residual.result c.from_residual.ensures.1 in
    rw (p.1, p.2) (judged_refused _ _ _ judged c.in_err-of_measure.was)

pub total-requires : goal.total-requires
total-requires c =
    let judged : Judged c.of_measure.result (measure_trials (slots c.args.pads.now c.args.ports.now) (by_weights c.args.weights.length c.args.weights.bend) None c.args.list.now) = rw (c.of_measure.ensures, c.of_slots-job.ensures) (measure_judged (slots c.args.pads.now c.args.ports.now) (by_weights c.args.weights.length c.args.weights.bend) None c.args.list.now) in
    let all = measurable (slots c.args.pads.now c.args.ports.now) (by_weights c.args.weights.length c.args.weights.bend) None c.args.list.now (judged_sound _ _ judged c.in_ok-of_measure.was) in
    rw c.of_slots-job.ensures (record {
      accepted = all.0;
      entries = all.1;
    })

pub returns : goal.returns
returns c =
    let judged : Judged c.of_measure.result (measure_trials (slots c.args.pads.now c.args.ports.now) (by_weights c.args.weights.length c.args.weights.bend) None c.args.list.now) = rw (c.of_measure.ensures, c.of_slots-job.ensures) (measure_judged (slots c.args.pads.now c.args.ports.now) (by_weights c.args.weights.length c.args.weights.bend) None c.args.list.now) in
    (judged_sound _ _ judged c.in_ok-of_measure.was, rw c.of_slots-job.ensures at c.total.ensures)
