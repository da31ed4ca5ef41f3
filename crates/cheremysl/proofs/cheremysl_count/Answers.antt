-- `cheremysl::cheremysl_count` meets its contract: its number is within 63 bits. Assumes nothing.
use lib.ListN.{length}
use Rattle.paper.specs.Job.{records}
use Rattle.paper.specs.Given.{badness_of}
use Rattle.paper.proofs.laws.Bounds.{count_bounded}
use Rattle.cheremysl.proofs.cheremysl_count.Goals as goal

pub for_c-requires : goal.for_c-requires
for_c-requires c =
    count_bounded (records c.args.job.now) (badness_of c.by_c.result) (length c.args.buffer.now) c.count.result c.count.ensures.count_answers
