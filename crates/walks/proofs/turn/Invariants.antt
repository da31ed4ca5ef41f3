-- `walks::turn` meets its contract. The loop's invariant: `Turning`, whose laws are in Turning, and what the steps remember is current. Assumes nothing.
use lib.ListN.{length}
use Rattle.choices.specs.Memory.{Memory}
use Rattle.choices.specs.Over.{on}
use Rattle.walks.proofs.Turning.{Turning}
use Rattle.walks.proofs.turn.Given as goal

abbrev pub invariant-loop-k : goal.invariant-loop-k
invariant-loop-k l = on Turning l.search l.initial.w l.initial.page l.w l.page l.k × on Memory l.search l.w (length l.search.lists.order.now) l.known
