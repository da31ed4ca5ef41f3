-- `fields::digits` meets its contract: the digits up to the place came to the value. Assumes nothing.
use Prim.Native.Nat.{◌≤◌}
use mathlib.Core.Path.{◌≡◌}
use lib.ListN.{drop}
use Rattle.paper.specs.laws.Parsing.{digits_front}
use Rattle.fields.proofs.digits.Given as goal

abbrev pub invariant-loop-place : goal.invariant-loop-place
invariant-loop-place l = record { small : l.value ≤ 1000001; so_far : digits_front l.first l.text ≡ digits_front l.value (drop l.place l.text) }
