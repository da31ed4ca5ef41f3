-- `calls::draw` meets its contract. Assumes nothing.
use mathlib.Core.Path.{refl, sym, subst}
use native.Mathlib.Omega.{arith}
use lib.ListN.{length}
use Rattle.std.specs.Prelude.{Ok}
use Rattle.std.proofs.lemmas.Result.{err_from_is_err_and}
use Rattle.paper.specs.Answers.{Drawn}
use Rattle.paper.specs.Job.{records}
use Rattle.paper.specs.Layouts.{board_of, leader}
use Rattle.paper.specs.Refusals.{draw_trials}
use Rattle.checks.specs.Judged.{Judged, judged_sound, judged_refused, draw_judged}
use Rattle.paper.specs.Canvas.{Draws}
use Rattle.paper.proofs.laws.Drawn.{drawn_is, coordinates_few, passed_on_sheet, draw_answers}
use Rattle.paper.proofs.laws.Accepted.{draw_accepted}
use Rattle.calls.proofs.draw.Goals as goal

pub returns-in_err-of_draw : goal.returns-in_err-of_draw
returns-in_err-of_draw c =
    let judged : Judged c.of_draw.result (draw_trials c.args.job.now c.args.i c.args.q (length c.args.points.now)) = rw c.of_draw.ensures (draw_judged c.args.job.now c.args.i c.args.q (length c.args.points.now)) in
    let p = err_from_is_err_and c.from_residual.result c.from_residual.ensures.1 in
    rw (p.1, p.2) (judged_refused _ _ _ judged c.in_err-of_draw.was, refl)

pub lead-requires : goal.lead-requires
lead-requires c =
    let judged : Judged c.of_draw.result (draw_trials c.args.job.now c.args.i c.args.q (length c.args.points.now)) = rw c.of_draw.ensures (draw_judged c.args.job.now c.args.i c.args.q (length c.args.points.now)) in
    judged_sound _ _ judged c.in_ok-of_draw.was

pub put-requires : goal.put-requires
put-requires c =
    let judged : Judged c.of_draw.result (draw_trials c.args.job.now c.args.i c.args.q (length c.args.points.now)) = rw c.of_draw.ensures (draw_judged c.args.job.now c.args.i c.args.q (length c.args.points.now)) in
    let p = judged_sound _ _ judged c.in_ok-of_draw.was in
    omega (arith, coordinates_few (Ok c.lead.result), (draw_accepted c.args.job.now c.args.i c.args.q (length c.args.points.now) p).1)

pub returns : goal.returns
returns c =
    let judged : Judged c.of_draw.result (draw_trials c.args.job.now c.args.i c.args.q (length c.args.points.now)) = rw c.of_draw.ensures (draw_judged c.args.job.now c.args.i c.args.q (length c.args.points.now)) in
    let p = judged_sound _ _ judged c.in_ok-of_draw.was in
    let l = leader (board_of (records c.args.job.now)) c.args.i c.args.q in
    let drawn : Drawn = Ok c.lead.result in
    let is : Draws l drawn = subst (λ (d : Drawn). Draws l d) (sym c.lead.ensures) (drawn_is l (passed_on_sheet c.args.job.now c.args.i c.args.q (length c.args.points.now) p)) in
    rw c.put.ensures (draw_answers c.args.job.now c.args.i c.args.q c.args.points.now drawn p is)
