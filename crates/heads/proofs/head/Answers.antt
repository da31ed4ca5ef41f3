-- `heads::head` meets its contract: a strip with too few pads, one of no ports, or the place that `top` finds. Assumes nothing.
use mathlib.Core.Path.{◌≡◌, sym, ◌∙◌}
use Prim.Native.Nat.{◌-◌, ◌≤◌}
use native.Mathlib.Omega.{arith}
use lib.ListN.{length, drop}
use Rattle.pads.specs.Pads.{pads_in}
use Rattle.pads.specs.Counts.{count_end}
use Rattle.pads.specs.Sides.{sides, square_pads}
use Rattle.heads.proofs.Scan.{top_head, few_head, empty_head}
use Rattle.heads.proofs.Tallies.{tallies_set}
use Rattle.heads.proofs.head.Goals as goal
use Rattle.heads.proofs.head.Goals.{then-w-eq0, else-w-eq0}

pub returns-then-from-w-clause-head : goal.returns-then-from-w-clause-head
returns-then-from-w-clause-head c = few_head _ _ _ _ (omega (arith, (c.requires.tallies c.args.b c.requires.a_le_b.1).all, c.from.ensures, c.if-from-w.true))

pub returns-clause-head : goal.returns-clause-head
returns-clause-head c =
    elim c.if-w-eq0.branch [
      | then-w-eq0 w ↦ rw w.k-is (empty_head _ _ _ _ w.if-w-eq0.true)
      | else-w-eq0 w ↦ rw w.k-is (top_head _ _ _ _ _ w.top-k.ensures)
    ]

pub returns-clause-tallies_2 : goal.returns-clause-tallies_2
returns-clause-tallies_2 c =
    let here : (c.if-w-eq0.k ≤ length c.args.lists.now.order.now) × (c.args.b - c.args.a ≡ pads_in (sides c.args.lists.now) c.args.a c.args.b (drop c.if-w-eq0.k c.args.lists.now.order.now)) =
    elim c.if-w-eq0.branch [
      | then-w-eq0 w ↦ rw w.k-is (omega arith, w.if-w-eq0.true ∙ sym (count_end (sides c.args.lists.now) c.args.lists.now.order.now c.args.a c.args.b (length c.args.lists.now.order.now) (omega arith)))
      | else-w-eq0 w ↦ rw w.k-is (omega (arith, w.top-k.ensures.placed), sym w.top-k.ensures.full)
    ] in
    tallies_set (sides c.args.lists.now) c.args.lists.now.order.now c.args.kept.now.at c.args.kept.now.seen c.args.kept.now.all c.args.a c.args.b c.if-w-eq0.k (c.args.b - c.args.a) (omega arith) (omega arith)
    (square_pads c.args.lists.now c.requires.square).few c.requires.a_le_b.1 here.0 here.1 c.requires.tallies
