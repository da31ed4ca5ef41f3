-- `cheremysl::cheremysl_slots_next` meets its contract: its number is within 63 bits. Assumes nothing.
use lib.ListN.{length}
use Rattle.std.specs.Prelude.{Some}
use Rattle.paper.specs.Job.{slots}
use Rattle.paper.specs.Layouts.{by_weights}
use Rattle.paper.proofs.laws.Bounds.{next_bounded}
use Rattle.cheremysl.proofs.cheremysl_slots_next.Goals as goal

pub for_c-requires : goal.for_c-requires
for_c-requires c =
    next_bounded (slots c.args.pads.now c.args.ports.now) (by_weights c.of_c.result.length c.of_c.result.bend) (Some (length c.args.work.now)) tt c.args.layout.now c.next.result _ c.next.ensures.next_answers
