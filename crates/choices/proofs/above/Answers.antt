-- `choices::above` meets its contract: what it leaves is a law of Memory. Assumes nothing.
use mathlib.Core.Path.{sym, ◌∙◌}
use Prim.Native.Nat.{◌<◌}
use native.Mathlib.Omega.{arith}
use Rattle.choices.specs.Over.{working_in}
use Rattle.choices.specs.Tables.{source_of}
use Rattle.choices.proofs.Choosing.{choice_none}
use Rattle.choices.proofs.Memory.{settled_strip, settled_learnt, strip_look, strip_choice, most_chosen, learnt_most}
use Rattle.choices.proofs.above.Goals as goal

pub returns-then-from-clause-chosen : goal.returns-then-from-clause-chosen
returns-then-from-clause-chosen c =
    let few : c.args.m < 64 = omega (arith, c.requires.m_in_bounds.0, c.args.search.now.proper.pads.few) in
    most_chosen c.args.m c.requires.placed.1 c.requires.current.0 c.args.from few (sym c.from.ensures ∙ c.if-from.true) c.requires.current.1

pub choose-port-requires-clause-ready : goal.choose-port-requires-clause-ready
choose-port-requires-clause-ready c =
    strip_look c.args.m (settled_strip c.args.w.now c.args.m c.requires.placed.1 c.settle.ensures) (working_in c.args.search.now c.args.w.now c.requires.room)
    c.requires.m_in_bounds.0 c.requires.m_in_bounds.1

pub returns-then-is_none-clause-chosen : goal.returns-then-is_none-clause-chosen
returns-then-is_none-clause-chosen c =
    strip_choice (source_of c.args.search.now.tables c.args.search.now.lists.ports) c.args.m c.args.from _
    (settled_strip c.args.w.now c.args.m c.requires.placed.1 c.settle.ensures) c.choose-port.ensures

pub returns-then-is_none-clause-learnt : goal.returns-then-is_none-clause-learnt
returns-then-is_none-clause-learnt c =
    let few : c.args.m < 64 = omega (arith, c.requires.m_in_bounds.0, c.args.search.now.proper.pads.few) in
    learnt_most c.args.m few (settled_learnt c.args.w.now c.args.m c.requires.placed.1 c.settle.ensures) c.args.from 128 c.args.search.now.proper.pads.ports
    (settled_strip c.args.w.now c.args.m c.requires.placed.1 c.settle.ensures) (choice_none _ _ _ c.if-is_none.ensures c.choose-port.ensures) (omega arith)

pub returns-else-is_none-clause-chosen : goal.returns-else-is_none-clause-chosen
returns-else-is_none-clause-chosen c =
    strip_choice (source_of c.args.search.now.tables c.args.search.now.lists.ports) c.args.m c.args.from _
    (settled_strip c.args.w.now c.args.m c.requires.placed.1 c.settle.ensures) c.choose-port.ensures

pub returns-else-is_none-clause-learnt : goal.returns-else-is_none-clause-learnt
returns-else-is_none-clause-learnt c = settled_learnt c.args.w.now c.args.m c.requires.placed.1 c.settle.ensures
