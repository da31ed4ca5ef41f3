-- `choices::settle` meets its contract: the ends of the strip by the list of places are laws of Ports. Assumes nothing.
use mathlib.Core.Path.{◌≡◌}
use native.Mathlib.Omega.{arith}
use lib.ListN.{get_or}
use Rattle.choices.specs.Memory.{first_port, end_port}
use Rattle.places.proofs.Ports.{low_floor, high_ceil}
use Rattle.choices.proofs.Choosing.{lows}
use Rattle.choices.proofs.settle.Goals as goal

pub returns : goal.returns
returns c =
    let P = c.args.lists.now.proper in
    let h = lows P (get_or c.args.lists.now.order.now c.args.m 0) in
    let first-port : c.low-a.result ≡ first_port c.args.lists.now.order.now c.args.lists.now.lo.now c.args.w.now c.args.m =
    low_floor c.args.m c.requires.placed (omega (arith, c.requires.known_len.0)) _ _ (omega (arith, h, P.ports)) (rw (c.from.ensures, c.from-j.ensures) at c.low-a.ensures) in
    let end-port : c.high-b.result ≡ end_port c.args.lists.now.ports c.args.lists.now.order.now c.args.lists.now.hi.now c.args.w.now c.args.m =
    high_ceil c.args.m c.requires.placed (omega (arith, c.requires.known_len.0)) c.args.lists.now.ports _ _ P.ports (rw (c.from-2.ensures, c.from-j.ensures) at c.high-b.ensures) in
    rw (first-port, end-port) at c.note.ensures
