-- `choices::lowest` meets its contract: what it leaves is a law of Memory. Assumes nothing.
use Prim.Native.Nat.{◌-◌, ◌<◌}
use native.Mathlib.Omega.{arith}
use Rattle.choices.specs.Choices.{Chosen, LocallyBest}
use Rattle.choices.specs.Over.{on, working_in}
use Rattle.choices.specs.Tables.{source_of}
use Rattle.choices.proofs.Choosing.{chosen_some, choice_some}
use Rattle.choices.proofs.Memory.{settled_strip, settled_learnt, strip_look, strip_chosen, strip_choice, learnt_least}
use Rattle.choices.proofs.lowest.Goals as goal

pub returns-then-f-gt0-clause-chosen : goal.returns-then-f-gt0-clause-chosen
returns-then-f-gt0-clause-chosen c =
    let few : c.args.m < 64 = omega (arith, c.requires.m_in_bounds.0, c.args.search.now.proper.pads.few) in
    let L = settled_learnt c.args.w.now c.args.m c.requires.placed.1 c.settle.ensures in
    let C : Chosen (on LocallyBest c.args.search.now c.args.w.now c.args.m) 0 (c.from-f.result - 1) =
    rw c.from-f.ensures (strip_chosen (source_of c.args.search.now.tables c.args.search.now.lists.ports) c.args.m 0 _
    (settled_strip c.args.w.now c.args.m c.requires.placed.1 c.settle.ensures) (L.facts.least c.args.m few (rw c.from-f.ensures at c.if-f-gt0.true))) in
    (C, chosen_some c.args.w.now c.args.search.now.proper c.args.m c.requires.m_in_bounds.0 c.requires.m_in_bounds.1 _ C)

pub choose-requires-clause-ready : goal.choose-requires-clause-ready
choose-requires-clause-ready c =
    strip_look c.args.m (settled_strip c.args.w.now c.args.m c.requires.placed.1 c.settle.ensures) (working_in c.args.search.now c.args.w.now c.requires.room)
    c.requires.m_in_bounds.0 c.requires.m_in_bounds.1

pub unwrap-q-requires : goal.unwrap-q-requires
unwrap-q-requires c =
    choice_some c.args.w.now c.args.search.now.proper c.args.m c.requires.m_in_bounds.0 c.requires.m_in_bounds.1 _
    (strip_choice (source_of c.args.search.now.tables c.args.search.now.lists.ports) c.args.m 0 _
    (settled_strip c.args.w.now c.args.m c.requires.placed.1 c.settle.ensures) c.choose.ensures)

pub returns-clause-chosen : goal.returns-clause-chosen
returns-clause-chosen c =
    let C = rw c.unwrap-q.ensures at c.choose.ensures in (
      strip_chosen (source_of c.args.search.now.tables c.args.search.now.lists.ports) c.args.m 0 _
          (settled_strip c.args.w.now c.args.m c.requires.placed.1 c.settle.ensures) C.0,
      C.1,
    )

pub returns-clause-learnt : goal.returns-clause-learnt
returns-clause-learnt c =
    let few : c.args.m < 64 = omega (arith, c.requires.m_in_bounds.0, c.args.search.now.proper.pads.few) in
    let C = rw c.unwrap-q.ensures at c.choose.ensures in
    learnt_least c.args.m few (settled_learnt c.args.w.now c.args.m c.requires.placed.1 c.settle.ensures) c.unwrap-q.result C.0
