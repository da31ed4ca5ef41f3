-- `calls::slotted::next` meets its contract. Assumes nothing.
use mathlib.Core.Path.{refl, subst}
use lib.ListN.{length}
use Rattle.std.specs.Prelude.{Some}
use Rattle.std.proofs.lemmas.Result.{err_from_is_err_and}
use Rattle.paper.specs.Job.{slots}
use Rattle.paper.specs.Layouts.{by_weights}
use Rattle.paper.specs.Problem.{labeling_of}
use Rattle.paper.specs.Refusals.{measure_trials}
use Rattle.paper.proofs.laws.Accepted.{sound_working, measure_accepted, measure_facts, measure_refused}
use Rattle.layouts.specs.Replies.{NextOn}
use Rattle.checks.specs.Judged.{Judged, judged_sound, judged_refused, measure_judged}
use Rattle.calls.proofs.Facts.{next_answers, next_refuses, work_open, work_told}
use Rattle.calls.proofs.slotted.next.Goals as goal

pub returns-in_err-of_measure : goal.returns-in_err-of_measure
returns-in_err-of_measure c =
    let judged : Judged c.of_measure.result (measure_trials (slots c.args.pads.now c.args.ports.now) (by_weights c.args.weights.length c.args.weights.bend) (Some (length c.args.work.now)) c.args.list.now) = rw (c.of_measure.ensures, c.of_slots-job.ensures) (measure_judged (slots c.args.pads.now c.args.ports.now) (by_weights c.args.weights.length c.args.weights.bend) (Some (length c.args.work.now)) c.args.list.now) in
    let refused = judged_refused _ _ _ judged c.in_err-of_measure.was in
    let p = err_from_is_err_and c.from_residual.result c.from_residual.ensures.1 in
    rw (p.1, p.2) (record {
      next_answers = (measure_refused (slots c.args.pads.now c.args.ports.now) (by_weights c.args.weights.length c.args.weights.bend) (Some (length c.args.work.now)) c.args.list.now _ refused, refl);
      work_after = λ _ _. refl;
    })

pub next_on-requires : goal.next_on-requires
next_on-requires c =
    let judged : Judged c.of_measure.result (measure_trials (slots c.args.pads.now c.args.ports.now) (by_weights c.args.weights.length c.args.weights.bend) (Some (length c.args.work.now)) c.args.list.now) = rw (c.of_measure.ensures, c.of_slots-job.ensures) (measure_judged (slots c.args.pads.now c.args.ports.now) (by_weights c.args.weights.length c.args.weights.bend) (Some (length c.args.work.now)) c.args.list.now) in
    let passed = judged_sound _ _ judged c.in_ok-of_measure.was in
    let f = measure_facts (slots c.args.pads.now c.args.ports.now) (by_weights c.args.weights.length c.args.weights.bend) (Some (length c.args.work.now)) c.args.list.now passed in
    let m = measure_accepted (slots c.args.pads.now c.args.ports.now) (by_weights c.args.weights.length c.args.weights.bend) (Some (length c.args.work.now)) c.args.list.now passed in
    rw c.of_slots-job.ensures (record {
      workable = (f.0, f.1, sound_working (slots c.args.pads.now c.args.ports.now) (by_weights c.args.weights.length c.args.weights.bend) (length c.args.work.now) (length c.args.list.now) m.0);
      untouching = (f.2, m.1);
    })

pub returns-in_err-total : goal.returns-in_err-total
returns-in_err-total c =
    let judged : Judged c.of_measure.result (measure_trials (slots c.args.pads.now c.args.ports.now) (by_weights c.args.weights.length c.args.weights.bend) (Some (length c.args.work.now)) c.args.list.now) = rw (c.of_measure.ensures, c.of_slots-job.ensures) (measure_judged (slots c.args.pads.now c.args.ports.now) (by_weights c.args.weights.length c.args.weights.bend) (Some (length c.args.work.now)) c.args.list.now) in
    let passed = judged_sound _ _ judged c.in_ok-of_measure.was in
    let known : NextOn (labeling_of (slots c.args.pads.now c.args.ports.now) (by_weights c.args.weights.length c.args.weights.bend)) c.args.list.now c.next_on.new.layout c.next_on.result = rw c.of_slots-job.ensures at c.next_on.ensures in
    let q = err_from_is_err_and c.from_residual-in_err-total.result c.from_residual-in_err-total.ensures.1 in
    rw (q.1, q.2) (record {
      next_answers = next_refuses (slots c.args.pads.now c.args.ports.now) (by_weights c.args.weights.length c.args.weights.bend) (Some (length c.args.work.now)) c.args.list.now passed _ _ (subst (NextOn _ _ _) c.in_err-total.was known);
      work_after = work_open _ _ _;
    })

pub returns : goal.returns
returns c =
    let judged : Judged c.of_measure.result (measure_trials (slots c.args.pads.now c.args.ports.now) (by_weights c.args.weights.length c.args.weights.bend) (Some (length c.args.work.now)) c.args.list.now) = rw (c.of_measure.ensures, c.of_slots-job.ensures) (measure_judged (slots c.args.pads.now c.args.ports.now) (by_weights c.args.weights.length c.args.weights.bend) (Some (length c.args.work.now)) c.args.list.now) in
    let passed = judged_sound _ _ judged c.in_ok-of_measure.was in
    let known : NextOn (labeling_of (slots c.args.pads.now c.args.ports.now) (by_weights c.args.weights.length c.args.weights.bend)) c.args.list.now c.next_on.new.layout c.next_on.result = rw c.of_slots-job.ensures at c.next_on.ensures in
    record {
      next_answers = next_answers (slots c.args.pads.now c.args.ports.now) (by_weights c.args.weights.length c.args.weights.bend) (Some (length c.args.work.now)) c.args.list.now passed _ _ (subst (NextOn _ _ _) c.in_ok-total.was known);
      work_after = work_told c.in_ok-total.total c.args.work.now c.next_on.new.work;
    }
