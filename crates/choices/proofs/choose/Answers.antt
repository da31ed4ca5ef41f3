-- `choices::choose` meets its contract: what each of its ends says is a law of Choosing. Assumes nothing.
use native.Mathlib.Omega.{arith}
use Rattle.choices.specs.Over.{grid_in}
use Rattle.choices.specs.Memory.{start_at, stop_at}
use Rattle.choices.proofs.Choosing.{choose_next}
use Rattle.choices.proofs.choose.Goals as goal

pub returns-then-start-b : goal.returns-then-start-b
returns-then-start-b c = choose_next (grid_in c.args.search.now) c.args.search.now.lists.order.now c.args.m (start_at c.args.known.now c.args.m) (stop_at c.args.known.now c.args.m)
    c.args.from (omega (arith, c.requires.ready.ports, c.args.search.now.proper.pads.ports)) _
    (rw (c.max-start.ensures, c.from-a.ensures, c.from-b.ensures) at c.next_port.ensures)
