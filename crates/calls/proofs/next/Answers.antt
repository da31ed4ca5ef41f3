-- `calls::next` meets its contract. Assumes nothing.
use mathlib.Core.Path.{refl, subst}
use Prim.Native.Nat.{◌≤◌}
use lib.ListN.{length}
use borrow.Author.Rules.{rules}
use Rattle.std.specs.Prelude.{None, Ok, Err}
use Rattle.std.proofs.lemmas.Result.{err_from_is_err_and}
use Rattle.paper.specs.Job.{records, count}
use Rattle.paper.specs.Given.{badness_of}
use Rattle.paper.specs.Layouts.{board_of, held, Untouching, by_table}
use Rattle.paper.specs.Problem.{labeling_of}
use Rattle.paper.specs.Refusals.{measure_trials}
use Rattle.paper.specs.laws.Accepted.{AcceptedJob, Fair}
use Rattle.paper.proofs.laws.Accepted.{measure_accepted, measure_facts, measure_refused}
use Rattle.layouts.specs.Replies.{NextOn, refused_for}
use Rattle.checks.specs.Judged.{Judged, judged_sound, judged_refused, measure_judged}
use Rattle.calls.proofs.Facts.{next_answers, next_refuses}
use Rattle.calls.proofs.Figured.{measure_by, next_back}
use Rattle.calls.proofs.next.Goals as goal

pub returns-in_err-of_measure : goal.returns-in_err-of_measure
returns-in_err-of_measure c =
    let judged : Judged c.of_measure.result (measure_trials (records c.args.job.now) (badness_of c.args.bad) None c.args.list.now) = rw (c.of_measure.ensures, c.of_records.ensures) (measure_judged (records c.args.job.now) (badness_of c.args.bad) None c.args.list.now) in
    let refused = judged_refused _ _ _ judged c.in_err-of_measure.was in
    let p = err_from_is_err_and c.from_residual.result c.from_residual.ensures.1 in
    rw (p.1, p.2) (measure_refused (records c.args.job.now) (badness_of c.args.bad) None c.args.list.now _ refused, refl)

pub with_figures-requires : goal.with_figures-requires
with_figures-requires c =
    let judged : Judged c.of_measure.result (measure_trials (records c.args.job.now) (badness_of c.args.bad) None c.args.list.now) = rw (c.of_measure.ensures, c.of_records.ensures) (measure_judged (records c.args.job.now) (badness_of c.args.bad) None c.args.list.now) in
    let passed = judged_sound _ _ judged c.in_ok-of_measure.was in
    let (accepted, fair, room) = measure_facts (records c.args.job.now) (badness_of c.args.bad) None c.args.list.now passed in
    let (_, untouching) = measure_accepted (records c.args.job.now) (badness_of c.args.bad) None c.args.list.now passed in
    record {
      accepted = (accepted, fair);
      callable = λ p l b t e f.
          let able : AcceptedJob (records c.args.job.now) × Fair (board_of (records c.args.job.now)) (by_table p.now) × (count c.args.job.now ≤ length l.now) = (accepted, t.long, rw e room) in
          let apart : Untouching (board_of (records c.args.job.now)) (held l.now) = rw e untouching in
          search rules;
    }

pub returns-in_err-total : goal.returns-in_err-total
returns-in_err-total c =
    let judged : Judged c.of_measure.result (measure_trials (records c.args.job.now) (badness_of c.args.bad) None c.args.list.now) = rw (c.of_measure.ensures, c.of_records.ensures) (measure_judged (records c.args.job.now) (badness_of c.args.bad) None c.args.list.now) in
    let passed = judged_sound _ _ judged c.in_ok-of_measure.was in
    let (accepted, fair, room) = measure_facts (records c.args.job.now) (badness_of c.args.bad) None c.args.list.now passed in
    let (p, l, b, after, left, t, e, f, ran, g, h) = c.with_figures.ensures in
    let found : NextOn (labeling_of (records c.args.job.now) (by_table p.now)) l.now after.now c.with_figures.result = search rules in
    let known : NextOn (labeling_of (records c.args.job.now) (by_table p.now)) c.args.list.now c.with_figures.new.list c.with_figures.result = rw (← e, ← g) found in
    let by = measure_by c.args.job.now (badness_of c.args.bad) fair t _ passed in
    let q = err_from_is_err_and c.from_residual-in_err-total.result c.from_residual-in_err-total.ensures.1 in
    rw (q.1, q.2)
    (next_back c.args.job.now (badness_of c.args.bad) fair t c.args.list.now (Err (refused_for c.in_err-total.field-0.0)) c.with_figures.new.list
    (next_refuses (records c.args.job.now) (by_table p.now) None c.args.list.now by _ _ (subst (NextOn _ _ _) c.in_err-total.was known)))

pub returns : goal.returns
returns c =
    let judged : Judged c.of_measure.result (measure_trials (records c.args.job.now) (badness_of c.args.bad) None c.args.list.now) = rw (c.of_measure.ensures, c.of_records.ensures) (measure_judged (records c.args.job.now) (badness_of c.args.bad) None c.args.list.now) in
    let passed = judged_sound _ _ judged c.in_ok-of_measure.was in
    let (accepted, fair, room) = measure_facts (records c.args.job.now) (badness_of c.args.bad) None c.args.list.now passed in
    let (p, l, b, after, left, t, e, f, ran, g, h) = c.with_figures.ensures in
    let found : NextOn (labeling_of (records c.args.job.now) (by_table p.now)) l.now after.now c.with_figures.result = search rules in
    let known : NextOn (labeling_of (records c.args.job.now) (by_table p.now)) c.args.list.now c.with_figures.new.list c.with_figures.result = rw (← e, ← g) found in
    let by = measure_by c.args.job.now (badness_of c.args.bad) fair t _ passed in
    next_back c.args.job.now (badness_of c.args.bad) fair t c.args.list.now (Ok c.in_ok-total.total) c.with_figures.new.list
    (next_answers (records c.args.job.now) (by_table p.now) None c.args.list.now by _ _ (subst (NextOn _ _ _) c.in_ok-total.was known))
