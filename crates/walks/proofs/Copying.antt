-- A part of a list that is written over with the front of another.
use mathlib.Core.Path.{◌≡◌}
use mathlib.Core.List.{List}
use Prim.Native.Nat.{ℕ, ◌+◌, ◌≤◌}
use native.Mathlib.Omega.{arith}
use lib.ListN.{length, take}
use borrow.Rule.Slice.PartMut.{put_mid}
use Rattle.std.proofs.lemmas.Grind.{common_steps}
use Rattle.numbers.specs.Copies.{Copied}

pub copied_part : (n at size : ℕ) (w before ys : List ℕ) → size ≡ n → ys ≡ take n w → n ≤ length w → at + n ≤ length before
    → Copied n at w before (put_mid at size before ys)
copied_part n at size w before ys same front few room = record {
  long = grind (arith, common_steps);
  here = λ i h. grind (arith, common_steps);
  early = λ i h. grind (arith, common_steps);
  late = λ i h. grind (arith, common_steps);
}
