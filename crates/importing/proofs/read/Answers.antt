-- `importing::read` meets its contract. Assumes nothing.
use Rattle.std.proofs.Common.{refl, arith, length, rules}
use Rattle.std.proofs.lemmas.Result.{err_from_is_err_and}
use Rattle.paper.proofs.laws.Imported.{csv_large}
use Rattle.importing.specs.Made.{list_answered, bad_answered, good_listed}
use Rattle.importing.proofs.read.Goals as goal

pub returns-then-text-gt16384 : goal.returns-then-text-gt16384
returns-then-text-gt16384 c =
    rw c.of_whole.ensures (csv_large c.args.text.now (length c.args.pads.now) c.if-text-gt16384.true, refl)

pub returns-in_err-n : goal.returns-in_err-n
returns-in_err-n c =
    let p = err_from_is_err_and c.from_residual.result c.from_residual.ensures.1 in
    rw (p.1, p.2)
    (bad_answered c.args.text.now c.args.pads.now c.lines.new.made (omega (arith, c.if-text-gt16384.false)) c.lines.result _ _ (λ e p. search rules) c.lines.ensures c.in_err-n.ensures.cases, refl)

pub returns : goal.returns
returns c =
    let (rows, e, many, made) = good_listed c.args.text.now c.args.pads.now c.lines.new.made (omega (arith, c.if-text-gt16384.false)) c.lines.result c.in_ok-n.n _ (λ e p. p) c.lines.ensures c.in_ok-n.ensures.cases in
    list_answered c.args.text.now c.args.pads.now _ (omega (arith, c.if-text-gt16384.false)) _ rows e many made c.checked.result c.checked.new.pads c.checked.ensures
