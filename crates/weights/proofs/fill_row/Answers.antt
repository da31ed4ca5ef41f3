use native.Mathlib.Omega.{arith}
use Rattle.paper.specs.Layouts.{weighted}
use Rattle.job.specs.Board.{board_on}
use Rattle.weights.proofs.Rows.{filled_place}
use Rattle.weights.proofs.fill_row.Goals as goal

pub loop-q-preserved : goal.loop-q-preserved
loop-q-preserved c =
    let b = board_on c.args.job.now in
    let more = filled_place b (weighted b c.args.w.length c.args.w.bend) c.loop-q.figures c.args.j c.loop-q.q c.weighted.result
    c.requires.accepted.2 (omega arith) c.loop-q.invariant c.weighted.ensures in
    rw (c.from.ensures, c.from-2.ensures, c.port_count-p.ensures, c.from-in-loop-q.ensures) more
