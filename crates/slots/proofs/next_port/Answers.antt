use mathlib.Core.Path.{◌≡◌, ap, subst}
use mathlib.Core.Logic.{⊎_elim}
use Prim.Native.Nat.{ℕ, ◌≤◌, ◌<◌}
use native.Mathlib.Omega.{arith}
use lib.ListN.{length, get_or}
use Rattle.pads.specs.Counts.{le_or_lt}
use Rattle.slots.specs.Slots.{no_sum}
use Rattle.slots.proofs.Spots.{Search, search_at}
use Rattle.slots.proofs.Leading.{strip_start, three, none_leads, sum_leads, sum_other}
use Rattle.slots.proofs.next_port.Goals as goal

pub bounds-work-column : goal.bounds-work-column
bounds-work-column c =
    let l = c.args.lists.now in
    let spots : Search (length l.order.now) l.ports c.args.m c.args.a c.args.b c.layer_of-layer.result (length c.args.work.now) = search_at c.requires.table.room c.args.m c.args.a c.args.b c.layer_of-layer.result c.layer_of-layer.ensures.0 c.requires.inside.listed
    (strip_start l.proper c.requires.table c.args.m c.args.a c.args.b c.requires.inside) c.requires.inside.ports in
    omega (arith, spots.here, spots.layers)

pub returns-then-best-ge-NONE : goal.returns-then-best-ge-NONE
returns-then-best-ge-NONE c =
    let l = c.args.lists.now in
    let spots : Search (length l.order.now) l.ports c.args.m c.args.a c.args.b c.layer_of-layer.result (length c.args.work.now) = search_at c.requires.table.room c.args.m c.args.a c.args.b c.layer_of-layer.result c.layer_of-layer.ensures.0 c.requires.inside.listed
    (strip_start l.proper c.requires.table c.args.m c.args.a c.args.b c.requires.inside) c.requires.inside.ports in
    record {
      start = c.requires.a_le_from.1;
      within = omega arith;
      passed = λ i u v L. none_leads l.proper c.requires.table c.args.m c.args.a c.args.b c.requires.inside
          (subst (λ (k : ℕ). no_sum ≤ get_or c.args.work.now k 0) spots.cell (omega (arith, c.if-best-ge-NONE.true))) i L;
      found = λ h. absurd (omega arith);
    }

pub port_total-requires : goal.port_total-requires
port_total-requires c =
    let l = c.args.lists.now in
    let spots : Search (length l.order.now) l.ports c.args.m c.args.a c.args.b c.layer_of-layer.result (length c.args.work.now) = search_at c.requires.table.room c.args.m c.args.a c.args.b c.layer_of-layer.result c.layer_of-layer.ensures.0 c.requires.inside.listed
    (strip_start l.proper c.requires.table c.args.m c.args.a c.args.b c.requires.inside) c.requires.inside.ports in
    let aq : c.args.a ≤ c.loop-q.q = omega (arith, c.loop-q.auto.q, c.requires.a_le_from.0) in
    three l.proper c.requires.table c.args.m c.args.a c.args.b c.requires.inside c.loop-q.q _ _ _ aq c.loop-q-test.true spots.figures spots.next spots.above spots.row
    (omega (arith, spots.layers, c.layer_of-layer.ensures.0))

pub returns-then-port_total-best : goal.returns-then-port_total-best
returns-then-port_total-best c =
    let l = c.args.lists.now in
    let spots : Search (length l.order.now) l.ports c.args.m c.args.a c.args.b c.layer_of-layer.result (length c.args.work.now) = search_at c.requires.table.room c.args.m c.args.a c.args.b c.layer_of-layer.result c.layer_of-layer.ensures.0 c.requires.inside.listed
    (strip_start l.proper c.requires.table c.args.m c.args.a c.args.b c.requires.inside) c.requires.inside.ports in
    let aq : c.args.a ≤ c.loop-q.q = omega (arith, c.loop-q.auto.q, c.requires.a_le_from.0) in (
      record {
        start = c.loop-q.auto.q;
        within = omega (arith, c.loop-q-test.true);
        passed = c.loop-q.invariant;
        found = λ h. sum_leads l.proper c.requires.table c.args.m c.args.a c.args.b c.requires.inside c.loop-q.q aq h _ _ _ _ _ spots.figures spots.next spots.above
            (ap (λ (k : ℕ). get_or c.args.work.now k 0) spots.cell) (omega (arith, c.if-best-ge-NONE.false)) c.port_total.ensures c.if-port_total-best.true;
      },
      c.loop-q-test.true,
    )

pub loop-q-preserved : goal.loop-q-preserved
loop-q-preserved c =
    let l = c.args.lists.now in
    let spots : Search (length l.order.now) l.ports c.args.m c.args.a c.args.b c.layer_of-layer.result (length c.args.work.now) = search_at c.requires.table.room c.args.m c.args.a c.args.b c.layer_of-layer.result c.layer_of-layer.ensures.0 c.requires.inside.listed
    (strip_start l.proper c.requires.table c.args.m c.args.a c.args.b c.requires.inside) c.requires.inside.ports in
    let aq : c.args.a ≤ c.loop-q.q = omega (arith, c.loop-q.auto.q, c.requires.a_le_from.0) in
    let blank = sum_other l.proper c.requires.table c.args.m c.args.a c.args.b c.requires.inside c.loop-q.q aq c.loop-q-test.true _ _ _ _ _ spots.figures spots.next spots.above
    (ap (λ (k : ℕ). get_or c.args.work.now k 0) spots.cell) (omega (arith, c.if-best-ge-NONE.false)) c.port_total.ensures c.if-port_total-best.false in
    λ i u v. ⊎_elim (λ (w : c.loop-q.q ≤ i). let e : i ≡ c.loop-q.q = omega arith in rw e blank) (λ (w : i < c.loop-q.q). c.loop-q.invariant i u w) (le_or_lt c.loop-q.q i)

pub returns : goal.returns
returns c = record {
  start = c.requires.a_le_from.1;
  within = omega arith;
  passed = λ i u v. c.loop-q.invariant i u (omega (arith, c.loop-q-test.false));
  found = λ u. absurd (omega arith);
}
