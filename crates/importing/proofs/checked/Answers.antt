-- `importing::checked` meets its contract. Assumes nothing.
use Rattle.std.proofs.Common.{sym, arith, length, ◌∙◌}
use Rattle.std.proofs.Math.Seq.{length-take-le}
use Rattle.importing.specs.Made.{made_few}
use Rattle.importing.proofs.checked.Goals as goal

pub slice_bounds-copy_from_slice-end : goal.slice_bounds-copy_from_slice-end
slice_bounds-copy_from_slice-end c =
    let few = made_few c.args.made.now c.args.n (length c.args.pads.now) (sym c.in_ok-of_list.ensures) in
    omega (arith, few.1, c.from-bytes.ensures)

pub slice_bounds-copy_from_slice-end-2 : goal.slice_bounds-copy_from_slice-end-2
slice_bounds-copy_from_slice-end-2 c =
    let few = made_few c.args.made.now c.args.n (length c.args.pads.now) (sym c.in_ok-of_list.ensures) in
    sym (length-take-le _ _ (omega (arith, few.1, c.from-bytes.ensures)))

pub slice_bounds-copy_from_slice-end-3 : goal.slice_bounds-copy_from_slice-end-3
slice_bounds-copy_from_slice-end-3 c =
    let few = made_few c.args.made.now c.args.n (length c.args.pads.now) (sym c.in_ok-of_list.ensures) in
    sym (length-take-le _ _ (omega (arith, few.0, c.requires, c.from-bytes.ensures)))

pub copy_from_slice-requires : goal.copy_from_slice-requires
copy_from_slice-requires c =
    let few = made_few c.args.made.now c.args.n (length c.args.pads.now) (sym c.in_ok-of_list.ensures) in
    length-take-le _ _ (omega (arith, few.1, c.from-bytes.ensures)) ∙ sym (length-take-le _ _ (omega (arith, few.0, c.requires, c.from-bytes.ensures)))
