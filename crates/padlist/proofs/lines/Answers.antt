use Rattle.std.proofs.Common.{◌≡◌, ◌+◌, ◌∙◌, ◌<◌, length, arith}
use Rattle.std.proofs.lemmas.Result.{err_from_is_err_and}
use Rattle.text.specs.Writing.{writes_length}
use Rattle.padlist.specs.Laws.{reading_next, reading_bad, reading_end}
use Rattle.padlist.proofs.lines.Goals as goal
use Rattle.padlist.proofs.lines.Goals.{then-n-lt64, else-n-lt64}

pub returns-in_err-row : goal.returns-in_err-row
returns-in_err-row c =
    let head = rw c.in_ok-rest.ensures.ok_part at c.line-head.ensures.front in
    let read = c.in_err-row.ensures in
    let some : 0 < length c.loop-rest.rest.now = grind arith in
    let p = err_from_is_err_and c.from_residual-in_err-row.result c.from_residual-in_err-row.ensures.1 in
    let bad : c.in_err-row.field-0.0 ≡ record { line = c.loop-rest.n + 2 } = grind arith in
    rw (p.1, p.2, bad) (reading_bad c.loop-rest.invariant head some (rw read.ok_part at c.line-read.ensures.front))

pub loop-rest-preserved : goal.loop-rest-preserved
loop-rest-preserved c =
    let read = rw c.in_ok-row.ensures.ok_part at c.line-read.ensures in
    let next = reading_next c.loop-rest.invariant _ _ read.front (omega (arith, read.shorter)) in
    elim c.if-n-lt64.branch [
      | then-n-lt64 w ↦ next (λ _. (rw (w.made-is, ← w.from.ensures) w.put.ensures.stored, writes_length (c.loop-rest.invariant.kept (omega arith)) ∙ c.told-made))
      | else-n-lt64 w ↦ next (λ m. absurd (omega arith))
    ]

pub returns : goal.returns
returns c =
    let head = rw c.in_ok-rest.ensures.ok_part at c.line-head.ensures.front in
    reading_end c.loop-rest.invariant head (grind arith)
