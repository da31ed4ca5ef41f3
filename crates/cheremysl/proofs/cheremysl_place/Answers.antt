-- `cheremysl::cheremysl_place` meets its contract: its number is within 63 bits. Assumes nothing.
use lib.ListN.{length}
use Rattle.paper.specs.Job.{records}
use Rattle.paper.specs.Given.{badness_of}
use Rattle.paper.proofs.laws.Bounds.{place_bounded}
use Rattle.cheremysl.proofs.cheremysl_place.Goals as goal

pub for_c-requires : goal.for_c-requires
for_c-requires c =
    place_bounded (records c.args.job.now) (badness_of c.by_c.result) (rw c.by_c.ensures tt) (length c.args.buffer.now) c.args.place c.args.layout.now c.place.result _ c.place.ensures.place_answers
