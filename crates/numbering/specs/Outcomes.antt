-- What counting and placing come to on a job, in the paper's words.
use Rattle.std.specs.Prelude.{◌≡◌, List, ℕ, ◌^◌, ◌≤◌, ◌<◌, length, Result, Ok, Err}
use Rattle.paper.specs.Layouts.{Board, held, figure}
use Rattle.paper.specs.Problem.{Problem, PlaceBest, CountBest, labeling}
use Rattle.paper.specs.declared.Refusal.{Refusal}
use Rattle.paper.specs.Refusals.{NoLayout, limit, buffer_needed, refusal}
use Rattle.paper.specs.Refusals as refusals
use Rattle.paper.specs.Promises.{Kept}
use Rattle.counting.specs.declared.NoPlace.{NoPlace}
use Rattle.counting.specs.declared.NoPlace.TheVariants.{Past as NotBelow, TooMany as Above}
use Rattle.counting.specs.Counting.{ProperBoard, Marked}
use Rattle.totals.specs.Cell.{grid_of, Table, least_of}
use Rattle.board.specs.Lists.{ListsOf}
use Rattle.board.specs.Bars.{BarsOf}
use Rattle.numbering.specs.declared.Lent.{Lent}
use Rattle.numbering.specs.declared.Why.{Why}
use Rattle.numbering.specs.declared.Why.TheVariants.{NoLayout as NothingCounts, Short, TooMany, Past}

-- Why a place is not there is why nothing is told of it.
abbrev pub why_of : NoPlace → Why
why_of NotBelow = Past
why_of Above = TooMany

-- The calls' refusals.
abbrev pub refused_for : Why → Refusal
refused_for NothingCounts = refusal 15 0 0
refused_for Short = refusal 18 0 0
refused_for TooMany = refusal 16 0 0
refused_for Past = refusal 17 0 0

-- Some layout counts, and a buffer of so many numbers is long enough.
pub record Numerable (p : Problem) (numbers : ℕ) : Type 0 where
  pub some : (f : ℕ → ℕ) × p.Counts f
  pub enough : buffer_needed p.board.pads ≤ numbers

-- Some does, and the buffer is too short.
abbrev pub TooShort : Problem → ℕ → Type 0
TooShort p numbers = ((f : ℕ → ℕ) × p.Counts f) × (numbers < buffer_needed p.board.pads)

-- The lists of a board, its bars, and some table of least totals by the figures cs: t is the least of all.
pub record Stacked (b : Board) (cs bs order lo hi : List ℕ) (t : ℕ) : Type 0 where
  pub lists : ListsOf b order lo hi
  pub bars : BarsOf b bs
  pub heads : List ℕ
  pub totals : List ℕ
  pub table : Table order cs bs lo hi heads totals
  pub least : t ≡ least_of order cs bs lo hi

-- What is lent: the board's lists, with some bars and table; the ports that lead each strip stand in the buffer, and the least total is one.
pub record LentBy (b : Board) (cs left : List ℕ) (p : Lent) : Type 0 where
  pub bars : List ℕ
  pub stacked : Stacked b cs bars p.lists.order.now p.lists.lo.now p.lists.hi.now p.least
  pub proper : ProperBoard p.lists
  pub marked : Marked (grid_of p.lists.order.now cs bars p.lists.lo.now p.lists.hi.now) p.lists.order.now left
  pub some : p.least < 2 ^ 62

-- What lending comes to: that; or there is no layout, or no room, and the buffer is as it was.
abbrev pub LentOn : Board → (cs lent left : List ℕ) → Result Lent Why → Type 0
LentOn b cs lent left (Ok p) = Numerable (labeling b (figure b cs)) (length lent) × (length left ≡ length lent) × LentBy b cs left p
LentOn b cs lent left (Err NothingCounts) = NoLayout (labeling b (figure b cs)) × (left ≡ lent)
LentOn b cs lent left (Err Short) = TooShort (labeling b (figure b cs)) (length lent) × (left ≡ lent)
LentOn b cs lent left (Err TooMany) = ⊥
LentOn b cs lent left (Err Past) = ⊥

-- COUNT: v is the number of layouts; or it is above the limit.
abbrev pub CountOn : Problem → List ℕ → List ℕ → Result ℕ Why → Type 0
CountOn p lent left (Ok v) = Numerable p (length lent) × CountBest p v × (v ≤ limit)
CountOn p lent left (Err NothingCounts) = NoLayout p × (left ≡ lent)
CountOn p lent left (Err Short) = TooShort p (length lent) × (left ≡ lent)
CountOn p lent left (Err TooMany) = Numerable p (length lent) × refusals.TooMany p
CountOn p lent left (Err Past) = ⊥

-- PLACE k: the list holds the layout there, t is its value, and the entries from n on are kept; or the list is as it was: there are too many layouts, or as many as k
-- at most.
abbrev pub PlaceOn : Problem → ℕ → (before after lent left : List ℕ) → Result ℕ Why → Type 0
PlaceOn p k before after lent left (Ok t) =
    Numerable p (length lent)
    × ((c : ℕ) × CountBest p c × (c ≤ limit) × (k < c))
    × PlaceBest p k (held after)
    × (t ≡ p.value (held after))
    × Kept p.board.pads before after
PlaceOn p k before after lent left (Err NothingCounts) = NoLayout p × (after ≡ before) × (left ≡ lent)
PlaceOn p k before after lent left (Err Short) = TooShort p (length lent) × (after ≡ before) × (left ≡ lent)
PlaceOn p k before after lent left (Err TooMany) = Numerable p (length lent) × refusals.TooMany p × (after ≡ before)
PlaceOn p k before after lent left (Err Past) = Numerable p (length lent) × ((c : ℕ) × CountBest p c × (c ≤ limit) × (c ≤ k)) × (after ≡ before)
