-- `cheremysl::cheremysl_slots_measure` meets its contract: its number is within 63 bits. Assumes nothing.
use Rattle.std.specs.Prelude.{None}
use Rattle.paper.specs.Job.{slots}
use Rattle.paper.specs.Layouts.{by_weights}
use Rattle.paper.proofs.laws.Bounds.{measure_bounded}
use Rattle.cheremysl.proofs.cheremysl_slots_measure.Goals as goal

pub for_c-requires : goal.for_c-requires
for_c-requires c =
    measure_bounded (slots c.args.pads.now c.args.ports.now) (by_weights c.of_c.result.length c.of_c.result.bend) None tt c.args.layout.now c.measure.result c.measure.ensures
