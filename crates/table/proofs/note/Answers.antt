-- `table::note` meets its contract. Assumes nothing.
use mathlib.Core.Path.{◌≡◌}
use Prim.Native.Nat.{◌+◌}
use native.Mathlib.Omega.{arith}
use Rattle.totals.specs.Cell.{place}
use Rattle.table.proofs.Rows.{stored, passed_by}
use Rattle.table.proofs.note.Goals as goal

pub returns-then-i-ports-clause-noted : goal.returns-then-i-ports-clause-noted
returns-then-i-ports-clause-noted c =
    let here : c.corner.result + c.args.a ≡ place c.args.a c.args.b = omega (arith, c.corner.ensures.0) in record {
      ports = c.strip_best-best.result.ports;
      stored = rw here (stored c.args.ports.now (place c.args.a c.args.b) c.strip_best-best.result.ports);
      marks = λ r. c.strip_best-best.ensures.marks;
    }

pub returns-else-i-ports-clause-noted : goal.returns-else-i-ports-clause-noted
returns-else-i-ports-clause-noted c =
    record {
      ports = 0;
      stored = passed_by c.args.ports.now (place c.args.a c.args.b) 0 (omega (arith, c.corner.ensures.0, c.if-i-ports.false));
      marks = λ r. absurd (omega (arith, c.corner.ensures.0, c.if-i-ports.false));
    }
