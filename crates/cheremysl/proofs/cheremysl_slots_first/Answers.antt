-- `cheremysl::cheremysl_slots_first` meets its contract: its number is within 63 bits. Assumes nothing.
use lib.ListN.{length}
use Rattle.std.specs.Prelude.{Some}
use Rattle.paper.specs.Job.{slots}
use Rattle.paper.specs.Layouts.{by_weights}
use Rattle.paper.proofs.laws.Bounds.{first_bounded}
use Rattle.cheremysl.proofs.cheremysl_slots_first.Goals as goal

pub for_c-requires : goal.for_c-requires
for_c-requires c =
    first_bounded (slots c.args.pads.now c.args.ports.now) (by_weights c.of_c.result.length c.of_c.result.bend) (Some (length c.args.work.now)) tt c.args.layout.now c.first.result _ c.first.ensures.first_answers
