-- `cheremysl::cheremysl_measure` meets its contract: its number is within 63 bits. Assumes nothing.
use Rattle.std.specs.Prelude.{None}
use Rattle.paper.specs.Job.{records}
use Rattle.paper.specs.Given.{badness_of}
use Rattle.paper.proofs.laws.Bounds.{measure_bounded}
use Rattle.cheremysl.proofs.cheremysl_measure.Goals as goal

pub for_c-requires : goal.for_c-requires
for_c-requires c =
    measure_bounded (records c.args.job.now) (badness_of c.by_c.result) None (rw c.by_c.ensures tt) c.args.layout.now c.measure.result c.measure.ensures
