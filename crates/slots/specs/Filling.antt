-- What the work list holds for the lists of a board, by the words of Slots.
use Rattle.std.specs.Prelude.{List, ℕ, length, drop}
use Rattle.strips.specs.Least.{Least}
use Rattle.strips.specs.Grid.{Grid}
use Rattle.pads.specs.Sides.{sides}
use Rattle.pads.specs.declared.Lists.{Lists}
use Rattle.slots.specs.Slots.{figures_at, figures_in, slot_grid, Room, Opens, Layer, SlotTable}

-- Where the figures start.
abbrev pub figures_after : Lists → ℕ
figures_after l = figures_at (length l.order.now) l.ports

-- The figures that the list w holds.
abbrev pub figures_on : Lists → List ℕ → ℕ → ℕ → Least
figures_on l w = figures_in w (length l.order.now) l.ports

-- The list w is long enough.
abbrev pub RoomOn : Lists → List ℕ → Type 0
RoomOn l w = Room (length l.order.now) l.ports (length w)

-- The open figures that the list v holds are right for the figures of w.
abbrev pub OpensOn : Lists → List ℕ → List ℕ → Type 0
OpensOn l w v = Opens (sides l) (figures_on l w) l.order.now l.ports v

-- So is its layer at `here`, for the pads from place k on.
abbrev pub LayerOn : Lists → List ℕ → ℕ → List ℕ → ℕ → Type 0
LayerOn l w k v here = Layer (sides l) (figures_on l w) (drop k l.order.now) l.ports v here

-- The tables are right, and the board that they are of.
abbrev pub SlotTableOn : Lists → List ℕ → Type 0
SlotTableOn l w = SlotTable l.order.now l.lo.now l.hi.now l.ports w

abbrev pub slot_grid_on : Lists → List ℕ → Grid
slot_grid_on l w = slot_grid l.order.now l.lo.now l.hi.now l.ports w
