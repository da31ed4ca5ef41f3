-- `cheremysl::cheremysl_read_csv` meets its contract: its number is within 63 bits. Assumes nothing.
use Rattle.paper.proofs.laws.Bounds.{csv_bounded}
use Rattle.cheremysl.proofs.cheremysl_read_csv.Goals as goal

pub for_c-requires : goal.for_c-requires
for_c-requires c =
    csv_bounded c.args.text.now c.args.pads.now c.read_csv.result _ c.read_csv.ensures
