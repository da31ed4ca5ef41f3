-- What counting is about, and what it promises. `order` has the record numbers, rightmost pad first, and B is their board, with as many ports as pads.
-- The code has the sets of the ports that lead each strip, and no figures: what it says holds on every board that the sets mark.
use Rattle.std.specs.Prelude.{◌≡◌, List, ℕ, ◌+◌, ◌-◌, ◌*◌, ◌≤◌, ◌<◌, min, length, get_or, take, drop, bit_and, Option, MatchOption, Result, Ok, Err}
use lib.Count.{count_trailing_zeros}
use Rattle.numbers.specs.Arrangement.{Arrangement}
use Rattle.numbers.specs.Kept.{KeptFrom}
use Rattle.strips.specs.Lists.{keep}
use Rattle.strips.specs.Grid.{Grid, Sol, best}
use Rattle.strips.specs.Prefix.{lies}
use Rattle.strips.specs.FirstNext.{Listed, Extends, At}
use Rattle.strips.specs.ByPlace.{sum_to}
use Rattle.ways.specs.Tree.{ways, ways_at}
use Rattle.ways.specs.Count.{may_take, many, many_at}
use Rattle.ways.specs.Place.{AtPlace, HowMany}
use Rattle.strips.specs.Least.{Least, some}
use Rattle.pads.specs.declared.Lists.{Lists}
use Rattle.pads.specs.Sides.{sides, Square}
use Rattle.totals.specs.Strip.{grid}
use Rattle.totals.specs.Cell.{corner_of, place, FullFrom, Leads, Marks}
use Rattle.places.specs.Places.{port_in}
use Rattle.counting.specs.declared.Picked.{Picked}
use Rattle.counting.specs.declared.NoPlace.{NoPlace}
use Rattle.counting.specs.declared.NoPlace.TheVariants.{TooMany, Past}

-- Counts are exact up to this.
abbrev pub limit : ℕ
limit = 1000000000000000000

-- A number as the code holds it: those above the limit are all told by the first of them.
abbrev pub capped : ℕ → ℕ
capped c = min c (limit + 1)

-- What stands where a number is not counted yet.
abbrev pub not_yet : ℕ
not_yet = 4611686018427387904

-- The least port of a set, and the set of the others: binary digit q is for port q.
abbrev pub FirstPort : ℕ → Option ℕ → ℕ → Type 0
FirstPort set r rest =
    MatchOption r ((set ≡ 0) × (rest ≡ 0)) (λ q. (set ≡ 0 → ⊥) × (q ≡ count_trailing_zeros 64 set) × (rest ≡ bit_and set (set - 1)))

-- The lists of a proper board: each pad is listed once, and there are as many ports.
pub record ProperBoard (l : Lists) : Type 0 where
  pub square : Square l
  pub arranged : Arrangement (length l.order.now) l.order.now

-- Their board, where pad j costs C j q with port q.
abbrev pub costed : Lists → (ℕ → ℕ → Least) → Grid
costed l C = grid (sides l) C

module _ (B : Grid) (order : List ℕ) where
  -- The board has a layout.
  abbrev pub Solvable : Type 0
  Solvable = (f : ℕ → ℕ) × Sol B order 0 (length order) f

  -- The pads that lie in the strip a .. b - 1, of those from place k on.
  abbrev pub pads_from : ℕ → ℕ → ℕ → List ℕ
  pads_from a b k = keep (lies B a b) (drop k order)

  -- From some place on the strip has a pad for each port, and these have a layout in it.
  pub record Solved (a b : ℕ) : Type 0 where
    pub low : a ≤ b
    pub high : b ≤ length order
    pub place : ℕ
    pub inside : place ≤ length order
    pub full : length (pads_from a b place) ≡ b - a
    pub total : ℕ
    pub least : best B (pads_from a b place) a b ≡ some total

  -- c is the number of their best layouts in it. (From whatever place there is a pad for each port, they are the same pads.)
  pub record StripCount (a b c : ℕ) : Type 0 where
    pub is : (k : ℕ) → k ≤ length order → length (pads_from a b k) ≡ b - a → c ≡ capped (many B (length order) (pads_from a b k) a b)

  -- The strip has a layout: the place of its rightmost pad, and the ports that lead it, as a set.
  pub record Led (a b m : ℕ) : Type 0 where
    pub head : ℕ
    pub full : FullFrom B order head a b
    pub marks : Marks B order head a b m

  -- The board is one that the theory of strips speaks of, and ms has these sets of ports, for each strip that has a layout.
  pub record Marked (ms : List ℕ) : Type 0 where
    pub listed : Listed B (length order) order
    pub led : (a b : ℕ) → a < b → Solved a b → Led a b (get_or ms (place a b) 0)

  -- How many of them have port q at the rightmost pad, which stands at place r ..
  abbrev pub number_at : ℕ → ℕ → ℕ → ℕ → ℕ
  number_at r a b q = many_at B (length order) q (get_or order r 0) (keep (lies B a b) (drop (r + 1) order)) a b

  -- .. and of how many layouts of the board these are part, where each goes with `others` layouts of the rest.
  abbrev pub number_with : ℕ → ℕ → ℕ → ℕ → ℕ → ℕ
  number_with r a b others q = others * number_at r a b q

  -- COUNT: c tells the number of best layouts.
  pub record CountIs (c : ℕ) : Type 0 where
    pub number : ℕ
    pub is : HowMany B order (length order) number
    pub told : c ≡ capped number

  -- The ports that w gives to the first m pads are those of some best layout, ..
  abbrev pub Begun : List ℕ → ℕ → Type 0
  Begun w m = Extends B (length order) order m (port_in w)

  -- .. how many best layouts have them, ..
  abbrev pub ways_from : List ℕ → ℕ → ℕ
  ways_from w m = ways (length order) (may_take B 0 (length order)) (port_in w) (take m order) (drop m order)

  -- .. and how many of these have port q at the next.
  abbrev pub ways_with : List ℕ → ℕ → ℕ → ℕ
  ways_with w m q = ways_at (length order) (may_take B 0 (length order)) (port_in w) (take m order) (get_or order m 0) (drop (m + 1) order) q

-- Where port q has F q layouts, in order of the ports, place k is place r.rest of the r.ways that port r.port has.
pub record Falls (F : ℕ → ℕ) (k : ℕ) (r : Picked) : Type 0 where
  pub passed : k ≡ sum_to F r.port + r.rest
  pub count : r.ways ≡ F r.port
  pub small : r.rest < r.ways

module _ (B : Grid) (order : List ℕ) where
  -- So it is with the ports of a strip ..
  pub record PickedIs (m a b others k : ℕ) (r : Picked) : Type 0 where
    pub leads : Leads B order m a b r.port
    pub falls : Falls (number_with B order m a b others) k r

  -- .. and with those of the pad at place m, after the ports that w gives to the pads before it.
  pub record ChosenIs (w : List ℕ) (m k : ℕ) (r : Picked) : Type 0 where
    pub leads : At B (length order) order (port_in w) m r.port
    pub falls : Falls (ways_with B order w m) k r

  -- What a walk to place k starts with: c is the number of best layouts, below the limit and above k.
  pub record Walkable (c k : ℕ) : Type 0 where
    pub number : c ≡ many B (length order) order 0 (length order)
    pub few : c ≤ limit
    pub inside : k < c

  -- v holds the layout at place k, and keeps the rest of w.
  pub record WalkIs (w : List ℕ) (k : ℕ) (v : List ℕ) : Type 0 where
    pub at : AtPlace B order (length order) k (port_in v)
    pub kept : KeptFrom (length order) w v

  -- PLACE k. The count is at most the limit and above k, and v holds the layout at place k; ..
  pub record FoundIs (w : List ℕ) (k : ℕ) (v : List ℕ) : Type 0 where
    pub number : ℕ
    pub is : HowMany B order (length order) number
    pub few : number ≤ limit
    pub inside : k < number
    pub at : AtPlace B order (length order) k (port_in v)
    pub kept : KeptFrom (length order) w v

  -- .. or it is at most the limit, and k is not below it; ..
  pub record PastIs (w : List ℕ) (k : ℕ) (v : List ℕ) : Type 0 where
    pub number : ℕ
    pub is : HowMany B order (length order) number
    pub few : number ≤ limit
    pub past : number ≤ k
    pub same : v ≡ w

  -- .. or it is above the limit.
  pub record AboveIs (w v : List ℕ) : Type 0 where
    pub number : ℕ
    pub is : HowMany B order (length order) number
    pub above : limit < number
    pub same : v ≡ w

  abbrev pub PlaceIs : List ℕ → ℕ → List ℕ → Result (Unit {0}) NoPlace → Type 0
  PlaceIs w k v (Ok _) = FoundIs w k v
  PlaceIs w k v (Err Past) = PastIs w k v
  PlaceIs w k v (Err TooMany) = AboveIs w v

-- The sets of ports of a board: one for each strip.
pub record SetsOf (B : Grid) (order ms : List ℕ) : Type 0 where
  pub long : length ms ≡ corner_of (length order + 1)
  pub marked : Marked B order ms

-- Beside the sets there is a number for each strip, in the same order: how many best layouts the strip has, or that it is not counted yet. A number is right on
-- every board that the sets mark, ..
abbrev pub CountOf : List ℕ → ℕ → ℕ → ℕ → Type 0
CountOf ms a b c = (B : Grid) (order : List ℕ) → SetsOf B order ms → Solved B order a b → StripCount B order a b c

-- .. and to be counted, a strip has a layout on one of them.
pub record Countable (ms : List ℕ) (a b : ℕ) : Type 0 where
  pub board : Grid
  pub order : List ℕ
  pub sets : SetsOf board order ms
  pub solved : Solved board order a b

-- Such sets, of 64 ports at most, and numbers. A strip of no ports has one layout.
pub record Numbers (ms ns : List ℕ) : Type 0 where
  pub few : length ms ≤ 2145
  pub room : length ms ≤ length ns
  pub small : (a b : ℕ) → a ≤ b → place a b < length ms → get_or ns (place a b) 0 ≤ not_yet
  pub right : (a b : ℕ) → a ≤ b → place a b < length ms → get_or ns (place a b) 0 < not_yet → CountOf ms a b (get_or ns (place a b) 0)
  pub empty : (b : ℕ) → place b b < length ms → get_or ns (place b b) 0 ≡ 1

-- The first n strips of no ports have the number 1, and all else is kept.
pub record EmptyKept (n : ℕ) (before after : List ℕ) : Type 0 where
  pub long : length after ≡ length before
  pub ones : (b : ℕ) → b < n → get_or after (place b b) 0 ≡ 1
  pub others : (a b : ℕ) → a < b → get_or after (place a b) 0 ≡ get_or before (place a b) 0

-- What is asked of a board with these lists: the buffer has the sets of a board that has a layout.
pub record Ready (l : Lists) (C : ℕ → ℕ → Least) (bf : List ℕ) : Type 0 where
  pub marked : Marked (costed l C) l.order.now bf
  pub solvable : Solvable (costed l C) l.order.now

-- The buffer of n ports has the sets that it had, and right numbers.
pub record Buffer (n : ℕ) (before after : List ℕ) : Type 0 where
  pub sets : take (corner_of (n + 1)) after ≡ take (corner_of (n + 1)) before
  pub numbers : Numbers (take (corner_of (n + 1)) after) (drop (corner_of (n + 1)) after)

-- A pad of a board, by its place.
pub record Site : Type 0 where
  pub board : Grid
  pub order : List ℕ
  pub place : ℕ

-- The pad is the rightmost of the strip a .. b - 1, each layout of which goes with `others` of the rest, and place k is one of these layouts'.
pub record Pickable (ms : List ℕ) (a b others k : ℕ) (s : Site) : Type 0 where
  pub sets : SetsOf s.board s.order ms
  pub full : FullFrom s.board s.order s.place a b
  pub solved : Solved s.board s.order a b
  pub some : 0 < others
  pub inside : k < sum_to (number_with s.board s.order s.place a b others) b
  pub few : sum_to (number_with s.board s.order s.place a b others) b ≤ limit

-- On the board with costs C the pads before place m have the ports that w gives them, and `ways` best layouts go on from there.
pub record Choosable (l : Lists) (C : ℕ → ℕ → Least) (ms w : List ℕ) (m ways : ℕ) : Type 0 where
  pub sets : SetsOf (costed l C) l.order.now ms
  pub begun : Begun (costed l C) l.order.now w m
  pub all : ways ≡ ways_from (costed l C) l.order.now w m

-- The board with costs C has c best layouts, and one at place k.
pub record Placeable (l : Lists) (C : ℕ → ℕ → Least) (ms : List ℕ) (c k : ℕ) : Type 0 where
  pub sets : SetsOf (costed l C) l.order.now ms
  pub solvable : Solvable (costed l C) l.order.now
  pub walkable : Walkable (costed l C) l.order.now c k
