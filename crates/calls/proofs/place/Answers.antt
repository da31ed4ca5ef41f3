-- `calls::place` meets its contract. Assumes nothing.
use mathlib.Core.Path.{refl, subst}
use Prim.Native.Nat.{◌≤◌}
use lib.ListN.{length}
use borrow.Author.Rules.{rules}
use Rattle.std.specs.Prelude.{None, Some, Ok, Err}
use Rattle.std.proofs.lemmas.Result.{err_from_is_err_and}
use Rattle.paper.specs.Job.{records, count}
use Rattle.paper.specs.Given.{badness_of}
use Rattle.paper.specs.Layouts.{board_of, by_table}
use Rattle.paper.specs.Problem.{labeling_of}
use Rattle.paper.specs.Refusals.{sound_trials}
use Rattle.paper.specs.laws.Accepted.{AcceptedJob, Fair}
use Rattle.paper.proofs.laws.Accepted.{sound_accepted}
use Rattle.paper.proofs.laws.Numbers.{buffer_open, buffer_kept}
use Rattle.paper.proofs.laws.Places.{place-refused}
use Rattle.numbering.specs.Outcomes.{PlaceOn, refused_for as not_told}
use Rattle.checks.specs.Judged.{Judged, judged_sound, judged_refused, sound_judged}
use Rattle.calls.proofs.Facts.{place_answers, place_refuses, place_leaves}
use Rattle.calls.proofs.Figured.{sound_by, place_back}
use Rattle.calls.proofs.place.Goals as goal

pub returns-in_err-of_first : goal.returns-in_err-of_first
returns-in_err-of_first c =
    let judged : Judged c.of_first.result (sound_trials (records c.args.job.now) (badness_of c.args.bad) None (length c.args.list.now)) = rw (c.of_first.ensures, c.of_records.ensures) (sound_judged (records c.args.job.now) (badness_of c.args.bad) None (length c.args.list.now)) in
    let refused = judged_refused _ _ _ judged c.in_err-of_first.was in
    let p = err_from_is_err_and c.from_residual.result c.from_residual.ensures.1 in
    rw (p.1, p.2) (record {
      place_answers = (place-refused (records c.args.job.now) (badness_of c.args.bad) (length c.args.buffer.now) c.args.place (length c.args.list.now) _ refused, refl);
      buffer_promise = buffer_kept _ _ _ refl;
    })

pub with_figures-requires : goal.with_figures-requires
with_figures-requires c =
    let judged : Judged c.of_first.result (sound_trials (records c.args.job.now) (badness_of c.args.bad) None (length c.args.list.now)) = rw (c.of_first.ensures, c.of_records.ensures) (sound_judged (records c.args.job.now) (badness_of c.args.bad) None (length c.args.list.now)) in
    let passed = judged_sound _ _ judged c.in_ok-of_first.was in
    let facts = sound_accepted (records c.args.job.now) (badness_of c.args.bad) None (length c.args.list.now) passed in
    record {
      accepted = (facts.0, facts.1);
      callable = λ p l b t e f.
          let able : AcceptedJob (records c.args.job.now) × Fair (board_of (records c.args.job.now)) (by_table p.now) × (count c.args.job.now ≤ length l.now) = (facts.0, t.long, rw e facts.2) in
          search rules;
    }

pub returns-in_err-total : goal.returns-in_err-total
returns-in_err-total c =
    let judged : Judged c.of_first.result (sound_trials (records c.args.job.now) (badness_of c.args.bad) None (length c.args.list.now)) = rw (c.of_first.ensures, c.of_records.ensures) (sound_judged (records c.args.job.now) (badness_of c.args.bad) None (length c.args.list.now)) in
    let passed = judged_sound _ _ judged c.in_ok-of_first.was in
    let facts = sound_accepted (records c.args.job.now) (badness_of c.args.bad) None (length c.args.list.now) passed in
    let (p, l, b, after, left, t, e, f, ran, g, h) = c.with_figures.ensures in
    let found : PlaceOn (labeling_of (records c.args.job.now) (by_table p.now)) c.args.place l.now after.now b.now left.now c.with_figures.result = search rules in
    let known : PlaceOn (labeling_of (records c.args.job.now) (by_table p.now)) c.args.place c.args.list.now c.with_figures.new.list c.args.buffer.now c.with_figures.new.buffer c.with_figures.result = rw (← e, ← f, ← g, ← h) found in
    let by = sound_by c.args.job.now (badness_of c.args.bad) facts.1 t _ passed in
    let told = subst (PlaceOn _ _ _ _ _ _) c.in_err-total.was known in
    let q = err_from_is_err_and c.from_residual-in_err-total.result c.from_residual-in_err-total.ensures.1 in
    rw (q.1, q.2) (record {
      place_answers = place_back c.args.job.now (badness_of c.args.bad) facts.1 t (length c.args.buffer.now) c.args.place c.args.list.now (Err (not_told c.in_err-total.field-0.0)) c.with_figures.new.list (place_refuses (records c.args.job.now) (by_table p.now) c.args.buffer.now c.with_figures.new.buffer c.args.place c.args.list.now _ by _ told);
      buffer_promise = place_leaves (records c.args.job.now) (by_table p.now) c.args.buffer.now c.with_figures.new.buffer c.args.place c.args.list.now _ by _ told;
    })

pub returns : goal.returns
returns c =
    let judged : Judged c.of_first.result (sound_trials (records c.args.job.now) (badness_of c.args.bad) None (length c.args.list.now)) = rw (c.of_first.ensures, c.of_records.ensures) (sound_judged (records c.args.job.now) (badness_of c.args.bad) None (length c.args.list.now)) in
    let passed = judged_sound _ _ judged c.in_ok-of_first.was in
    let facts = sound_accepted (records c.args.job.now) (badness_of c.args.bad) None (length c.args.list.now) passed in
    let (p, l, b, after, left, t, e, f, ran, g, h) = c.with_figures.ensures in
    let found : PlaceOn (labeling_of (records c.args.job.now) (by_table p.now)) c.args.place l.now after.now b.now left.now c.with_figures.result = search rules in
    let known : PlaceOn (labeling_of (records c.args.job.now) (by_table p.now)) c.args.place c.args.list.now c.with_figures.new.list c.args.buffer.now c.with_figures.new.buffer c.with_figures.result = rw (← e, ← f, ← g, ← h) found in
    let by = sound_by c.args.job.now (badness_of c.args.bad) facts.1 t _ passed in
    record {
      place_answers = place_back c.args.job.now (badness_of c.args.bad) facts.1 t (length c.args.buffer.now) c.args.place c.args.list.now (Ok (Some c.in_ok-total.total)) c.with_figures.new.list (place_answers (records c.args.job.now) (by_table p.now) c.args.buffer.now c.with_figures.new.buffer c.args.place c.args.list.now _ by _ (subst (PlaceOn _ _ _ _ _ _) c.in_ok-total.was known));
      buffer_promise = buffer_open _ _ _;
    }
