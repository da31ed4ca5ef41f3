-- `cheremysl::cheremysl_page` meets its contract: its number is within 63 bits. Assumes nothing.
use native.Mathlib.Omega.{arith}
use Rattle.std.specs.Prelude.{None}
use Rattle.paper.specs.Job.{records}
use Rattle.paper.specs.Given.{badness_of}
use Rattle.paper.proofs.laws.Bounds.{page_counted}
use Rattle.cheremysl.proofs.cheremysl_page.Goals as goal

pub for_c-requires : goal.for_c-requires
for_c-requires c =
    page_counted (records c.args.job.now) (badness_of c.by_c.result) None c.args.layout.now c.args.page.now c.page.result _ (omega (arith, c.well_formed.1.1.1.1.0.1)) c.page.ensures
