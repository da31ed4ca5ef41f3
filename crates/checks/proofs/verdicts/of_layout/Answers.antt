-- `checks::verdicts::of_layout` meets its contract. Assumes nothing.
use Rattle.std.proofs.Common.{sym, ◌∙◌}
use Rattle.std.proofs.lemmas.Result.{err_from_is_err_and}
use Rattle.paper.specs.laws.Tests.{layout_tests}
use Rattle.job.specs.Board.{pads_on, ports_on}
use Rattle.checks.specs.Verdicts.{and_nothing}
use Rattle.checks.specs.Sound.{entries_below}
use Rattle.checks.proofs.verdicts.of_layout.Goals as goal

pub returns-in_err-at_record : goal.returns-in_err-at_record
unfolding layout_tests
returns-in_err-at_record c =
    let p = err_from_is_err_and c.from_residual.result c.from_residual.ensures.1 in
    let found = rw (c.first_bad_entry.ensures, c.count.ensures, c.port_count.ensures) at c.in_err-at_record.ensures in
    rw (p.1, p.2, ← found)

pub of_leaders-requires : goal.of_leaders-requires
of_leaders-requires c =
    let none = rw (c.first_bad_entry.ensures, c.count.ensures, c.port_count.ensures) at c.in_ok-at_record.ensures in
    (c.requires.0.short, (c.requires.1, entries_below (pads_on c.args.job.now) (ports_on c.args.job.now) c.args.list.now (sym none)))

pub returns : goal.returns
unfolding layout_tests
returns c =
    let none = rw (c.first_bad_entry.ensures, c.count.ensures, c.port_count.ensures) at c.in_ok-at_record.ensures in
    rw (← none) (c.of_leaders.ensures ∙ sym (and_nothing _))
