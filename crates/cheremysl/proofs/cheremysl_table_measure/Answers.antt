-- `cheremysl::cheremysl_table_measure` meets its contract: its number is within 63 bits. Assumes nothing.
use native.Mathlib.Omega.{arith}
use Rattle.std.specs.Prelude.{None}
use Rattle.paper.specs.Job.{records}
use Rattle.paper.specs.Layouts.{by_table}
use Rattle.paper.proofs.laws.Bounds.{measure_bounded}
use Rattle.cheremysl.proofs.cheremysl_table_measure.Goals as goal

pub for_c-requires : goal.for_c-requires
for_c-requires c =
    measure_bounded (records c.args.job.now) (by_table c.args.table.now) None (λ k. omega (arith, c.type_inv.table k)) c.args.layout.now c.measure.result c.measure.ensures
