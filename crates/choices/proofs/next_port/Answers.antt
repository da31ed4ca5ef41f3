-- `choices::next_port` meets its contract: either table's search, by laws of Sources. Assumes nothing.
use mathlib.Core.Path.{refl}
use Rattle.choices.specs.declared.Tables.TheVariants.{Slotted}
use Rattle.choices.specs.Tables.{source_of}
use Rattle.choices.proofs.Sources.{slots_next, full_next}
use Rattle.choices.proofs.next_port.Goals as goal

pub returns-in-Full : goal.returns-in-Full
returns-in-Full c =
    let F = rw c.in-Full.is at c.args.search.now.right in
    rw c.in-Full.is (full_next _ _ _ _ F c.args.m c.args.a c.args.b c.args.from _ c.next_port.ensures)

pub returns-in-Slotted : goal.returns-in-Slotted
returns-in-Slotted c =
    rw c.in-Slotted.is (slots_next _ (source_of (Slotted c.in-Slotted.work) c.args.search.now.lists.ports) _ _ refl c.args.m c.args.a c.args.b c.args.from _ c.next_port-in-Slotted.ensures)
