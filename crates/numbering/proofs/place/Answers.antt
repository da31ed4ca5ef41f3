-- `numbering::place` meets its contract: the layout at a place, in the paper's words. Assumes nothing.
use mathlib.Core.Path.{refl}
use Rattle.std.proofs.lemmas.Result.{err_from_is_err_and}
use Rattle.paper.specs.Job.{records}
use Rattle.paper.specs.Layouts.{board_of}
use Rattle.numbering.proofs.Bridged.{ready, placed, not_placed}
use Rattle.numbering.proofs.place.Goals as goal

pub place-requires-clause-ready : goal.place-requires-clause-ready
place-requires-clause-ready c = (_, ready (board_of (records c.args.job.now)) refl _ _ _ c.in_ok-lent.ensures)

pub returns-in_err-place : goal.returns-in_err-place
returns-in_err-place c =
    let p = err_from_is_err_and c.from_residual-in_err-place.result c.from_residual-in_err-place.ensures.1 in
    rw (p.1, p.2) (not_placed (board_of (records c.args.job.now)) refl _ _ _ c.in_ok-lent.ensures c.args.k c.args.layout.now c.place.new.out c.place.new.buffer _ c.in_err-place.ensures)

pub returns : goal.returns
returns c = placed (board_of (records c.args.job.now)) refl _ _ _ c.in_ok-lent.ensures c.args.k c.args.layout.now c.place.new.out c.place.new.buffer c.in_ok-place.ensures
