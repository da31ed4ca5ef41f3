-- `printed::sheet` meets its contract. Assumes nothing.
use mathlib.Core.Path.{◌≡◌, sym}
use mathlib.Core.List.{List}
use Prim.Native.Nat.{ℕ, ◌≤◌}
use native.Mathlib.Omega.{arith}
use lib.ListN.{length, take}
use lib.Seq.{length-take-le}
use borrow.Author.Rules.{rules}
use Rattle.std.specs.Prelude.{Some, None, Ok}
use Rattle.printed.specs.Lines.{first_passed, prints_sheet, prints_refusal, no_end}
use Rattle.printed.proofs.sheet.Goals as goal

within : (a : List ℕ) (r : ℕ) → r ≤ length a → (r ≤ length a) × (r ≡ length (take r a))
within a r h = (h, sym (length-take-le r a h))

pub laid_out-requires : goal.laid_out-requires
laid_out-requires c =
    let is : c.first.result ≡ Ok (Some c.in-Ok-Some.lengths) = cc in
    let (p, l) = first_passed c.args.job.now _ c.first.result c.first.ensures _ is in
    (p, l, search rules)

pub returns-in-Ok-Some : goal.returns-in-Ok-Some
returns-in-Ok-Some c =
    let is : c.first.result ≡ Ok (Some c.in-Ok-Some.lengths) = cc in
    record {
      prints = prints_sheet c.args.job.now _ c.first.result c.first.ensures _ is c.laid_out.ensures.0;
      upper_bound = within _ _ (omega arith);
    }

pub returns-in-Err : goal.returns-in-Err
returns-in-Err c =
    record {
      prints = prints_refusal c.args.job.now _ c.first.result c.first.ensures _ c.in-Err.is c.refused.ensures.0;
      upper_bound = within _ _ (omega arith);
    }

pub returns-in-Ok-None : goal.returns-in-Ok-None
returns-in-Ok-None c =
    let is : c.first.result ≡ Ok None = cc in
    absurd (no_end c.args.job.now _ c.first.result c.first.ensures is)
