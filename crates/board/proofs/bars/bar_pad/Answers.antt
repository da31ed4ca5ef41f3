-- `board::bars::bar_pad` meets its contract. Assumes nothing.
use mathlib.Core.Path.{◌∙◌}
use native.Mathlib.Omega.{arith}
use mir.Syntax.{w64}
use mir.Val.{to_z, of_z}
use Rattle.numbers.proofs.Bits.{read_back}
use Rattle.paper.specs.Layouts.{leader, square}
use Rattle.paper.proofs.laws.Squares.{meets_cases}
use Rattle.job.specs.Board.{board_on}
use Rattle.board.proofs.Barring.{Run, row_in, run_is, bars_skip, bars_pad}
use Rattle.board.proofs.bars.bar_pad.Goals as goal

-- its leader does not come as far right
pub returns-then-x-from : goal.returns-then-x-from
returns-then-x-from c =
    let b = board_on c.args.job.now in
    let S = c.requires.square_of in
    bars_skip b c.args.j c.args.i c.requires.bars_to
    (λ q l n large m. absurd (omega (arith, ((meets_cases (leader b c.args.i q) (square b c.args.j)).0 m).0, c.if-x-from.true, c.from.ensures, c.x-x.ensures, S.x_is, S.half_is)))

-- from what it first bars to what it last bars
pub mark-requires : goal.mark-requires
mark-requires c =
    let b = board_on c.args.job.now in
    let S = c.requires.square_of in
    let reach = rw c.from.ensures at c.if-x-from.false in
    let R : Run b c.args.i c.args.j c.first_barred.result c.after_barred.result = run_is b c.args.i c.args.j c.args.s S c.x-x.result (to_z w64 (of_z w64 c.y-y.result)) c.port_count-p.result
    c.x-x.ensures (read_back c.y-y.result c.y-y.type_inv ∙ c.y-y.ensures.0) c.port_count-p.ensures reach (rw c.from-2.ensures at c.first_barred.ensures) (rw c.from-2.ensures at c.after_barred.ensures) in
    rw (c.from-3.ensures, c.from-4.ensures, c.from-5.ensures, c.from-6.ensures, c.port_count-p.ensures) (omega (arith, R.low), omega (arith, row_in c.requires.accepted.1 R.high, c.requires.bars_to.long))

pub returns : goal.returns
returns c =
    let b = board_on c.args.job.now in
    let S = c.requires.square_of in
    let reach = rw c.from.ensures at c.if-x-from.false in
    let R : Run b c.args.i c.args.j c.first_barred.result c.after_barred.result = run_is b c.args.i c.args.j c.args.s S c.x-x.result (to_z w64 (of_z w64 c.y-y.result)) c.port_count-p.result
    c.x-x.ensures (read_back c.y-y.result c.y-y.type_inv ∙ c.y-y.ensures.0) c.port_count-p.ensures reach (rw c.from-2.ensures at c.first_barred.ensures) (rw c.from-2.ensures at c.after_barred.ensures) in
    let marked = rw (c.from-3.ensures, c.from-4.ensures, c.from-5.ensures, c.from-6.ensures, c.port_count-p.ensures) at c.mark.ensures in
    bars_pad b c.args.j c.args.i c.requires.bars_to c.requires.accepted.1 (λ e. absurd (omega arith)) (omega (arith, S.large, S.half_is)) R marked
