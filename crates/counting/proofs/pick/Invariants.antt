-- `counting::pick` meets its contract. The loop's invariant: at each site `Choosing`, and right numbers. Assumes nothing.
use Rattle.counting.specs.Counting.{Site, Pickable, Numbers}
use Rattle.counting.proofs.Walks.{Choosing}
use Rattle.counting.proofs.pick.Given as goal

abbrev pub invariant-loop-q : goal.invariant-loop-q
invariant-loop-q l = ((s : Site) → Pickable l.sets l.a l.b l.others l.k s → Choosing l.sets l.a l.b l.others l.k s l.q-iterator.0 l.rest) × Numbers l.sets l.numbers
