-- What is said of lists and a source, said of a search.
use Rattle.std.specs.Prelude.{List, ℕ, ◌≤◌, length}
use Rattle.strips.specs.Grid.{Grid}
use Rattle.choices.specs.Source.{Source, grid_on}
use Rattle.choices.specs.Choices.{Working}
use Rattle.choices.specs.Tables.{source_of, right_in}
use Rattle.choices.specs.declared.given.Search.{Search}

-- a word over lists and a source, of those of a search
abbrev pub on {ℓ} : {A : Type ℓ} → (List ℕ → Source → List ℕ → List ℕ → A) → Search → A
on word s = word s.lists.order.now (source_of s.tables s.lists.ports) s.lists.lo.now s.lists.hi.now

-- its board
abbrev pub grid_in : Search → Grid
grid_in s = grid_on s.lists.order.now (source_of s.tables s.lists.ports) s.lists.lo.now s.lists.hi.now

-- a list with room for a layout is all that it wants
pub working_in : (s : Search) (w : List ℕ) → length s.lists.order.now ≤ length w → on Working s w
working_in s w room = record { proper = s.proper; table = right_in s.tables s.lists.order.now s.lists.lo.now s.lists.hi.now s.lists.ports s.right; room = room }
