-- `counting::walk` meets its contract. The loop's invariant: `Walking` at all costs, the places before m are entered, and right numbers. Assumes nothing.
use mathlib.Core.Path.{◌≡◌}
use Prim.Native.Nat.{ℕ}
use lib.ListN.{length}
use Rattle.strips.specs.Least.{Least}
use Rattle.places.specs.Places.{Entered}
use Rattle.counting.specs.Counting.{costed, Placeable, Numbers}
use Rattle.counting.proofs.Walks.{Walking}
use Rattle.counting.proofs.walk.Given as goal

abbrev pub invariant-loop-m : goal.invariant-loop-m
invariant-loop-m l =
    ((C : ℕ → ℕ → Least) → Placeable l.l C l.sets l.c l.k → Walking (costed l.l C) l.l.order.now l.initial.out l.k l.out l.m l.ways l.rest)
    × (length l.at ≡ 128) × Entered l.l.order.now l.out l.m l.at × Numbers l.sets l.numbers × (length l.numbers ≡ length l.initial.numbers)
