-- The table of least totals of n pads on p ports, which may stay free: what the work list holds, and what the inputs are.
-- The work list has n + 1 layers of (p + 2) × (p + 2) numbers. In layer k the strip of the ports a .. b - 1 stands in column b, at a: the least total of those
-- pads from place k of `order` on that lie in it. After the layers come the open figures, place by place, and then the figures, pad by pad.
use Rattle.std.specs.Prelude.{◌≡◌, Bool, false, cond, ◌&&◌, ◌||◌, List, [], ◌∷◌, ℕ, zero, suc, ◌+◌, ◌-◌, ◌*◌, ◌^◌, ◌≤◌, ◌<◌, min, leb, ltb, length, get_or, drop}
use Rattle.std.proofs.Common.{arith}
use Rattle.numbers.specs.Kept.{KeptFrom}
use Rattle.strips.specs.Least.{Least, none, some}
use Rattle.strips.specs.Grid.{Grid}
use Rattle.strips.specs.Grid as strip
use Rattle.strips.specs.Prefix.{Lies}
use Rattle.pads.specs.Pads.{Sides, sides_of}
use Rattle.totals.specs.Strip.{grid, best_within}
use Rattle.totals.specs.Cell.{coded_by}

-- A total as the list holds it: 2 ^ 62 stands for none, so that three of them can be added.
abbrev pub no_sum : ℕ
no_sum = 2 ^ 62

abbrev pub stored : Least → ℕ
stored o = coded_by no_sum o

-- A figure as the list holds it: one from 2 ^ 32 on says that the pad may not use the port.
unfoldable pub figure_of : ℕ → Least
figure_of x = cond (ltb x (2 ^ 32)) (some x) none

-- How many numbers a layer has.
unfoldable pub layer_of : ℕ → ℕ
layer_of p = (p + 2) * (p + 2)

-- The place of the strip a .. b - 1 in the layer that starts at `here`.
abbrev pub cell_at : ℕ → ℕ → ℕ → ℕ → ℕ
cell_at p here a b = here + (b * (p + 2) + a)

-- Where the open figures start, and where the figures.
abbrev pub opens_at : ℕ → ℕ → ℕ
opens_at n p = (n + 1) * layer_of p

abbrev pub figures_at : ℕ → ℕ → ℕ
figures_at n p = opens_at n p + n * p

-- The figures that the list w holds, of n pads with p ports.
abbrev pub figures_in : List ℕ → ℕ → ℕ → ℕ → ℕ → Least
figures_in w n p j q = figure_of (get_or w (figures_at n p + (j * p + q)) 0)

-- The board that the lists hold.
abbrev pub slot_grid : List ℕ → List ℕ → List ℕ → ℕ → List ℕ → Grid
slot_grid order lo hi p w = grid (sides_of lo hi) (figures_in w (length order) p)

-- Pad j stands at the height of port q: an arm from further right may not go there.
unfoldable pub level : Sides → ℕ → ℕ → Bool
level S q j = leb (S.lo j) q && ltb q (S.hi j)

-- One of the pads js stands there.
unfoldable pub barred : Sides → ℕ → List ℕ → Bool
barred S q [] = false
barred S q (j ∷ js) = level S q j || barred S q js

-- The figure of the pad at place k with port q; none where it may not use it, or a pad further left bars it.
abbrev pub open_figure : Sides → (ℕ → ℕ → Least) → List ℕ → ℕ → ℕ → Least
open_figure S C order k q = cond (barred S q (drop (k + 1) order)) none (C (get_or order k 0) q)

-- The same from a figure x and a mark s, which says whether the port is barred.
abbrev pub opened_of : Bool → ℕ → ℕ
opened_of s x = stored (cond s none (figure_of x))

-- The smallest of f a, .., f (a + k - 1) and 2 ^ 62.
unfoldable pub lowest : (ℕ → ℕ) → ℕ → ℕ → ℕ
lowest f a zero = no_sum
lowest f a (suc k) = min (lowest f a k) (f (a + k))

-- The work list is long enough.
pub record Room (n p size : ℕ) : Type 0 where
  pub few : n ≤ 64
  pub ports : p ≤ 128
  pub long : 2 * ((n + 1) * layer_of p) ≤ size

-- v is w from base + count on, and the first i of the `count` places from `base` on have f 0, f 1, ..
pub record Written (w v : List ℕ) (base count : ℕ) (f : ℕ → ℕ) (i : ℕ) : Type 0 where
  pub kept : KeptFrom (base + count) w v
  pub run : (k : ℕ) → k < i → get_or v (base + k) 0 ≡ f k

-- What stands from a place of w on; the open figures of these, by their marks.
abbrev pub follows : List ℕ → ℕ → ℕ → ℕ
follows w m i = get_or w (m + i) 0

abbrev pub opened_from : List Bool → List ℕ → ℕ → ℕ → ℕ
opened_from shut w m q = opened_of (get_or shut q false) (follows w m q)

-- The marks v are those of w, and set from place l to place h - 1: here the ports of a pad's height.
pub record Shuts (l h : ℕ) (w v : List Bool) : Type 0 where
  pub long : length v ≡ length w
  pub marks : (q : ℕ) → q < length w → get_or v q false ≡ ((leb l q && ltb q h) || get_or w q false)

-- v is w, with 1 from place l to place h - 1.
pub record Shut (l h : ℕ) (w v : List ℕ) : Type 0 where
  pub long : length v ≡ length w
  pub marks : (q : ℕ) → q < length w → get_or v q 0 ≡ cond (leb l q && ltb q h) 1 (get_or w q 0)

-- The open figures are right.
abbrev pub Opens : Sides → (ℕ → ℕ → Least) → List ℕ → ℕ → List ℕ → Type 0
Opens S C order p w =
    (k q : ℕ) → k < length order → q < p → get_or w (opens_at (length order) p + (k * p + q)) 0 ≡ stored (open_figure S C order k q)

-- The layer that starts at `here` is right: it has the least totals of the pads js.
abbrev pub Layer : Sides → (ℕ → ℕ → Least) → List ℕ → ℕ → List ℕ → ℕ → Type 0
Layer S C js p w here = (a b : ℕ) → a ≤ b → b ≤ p → get_or w (cell_at p here a b) 0 ≡ stored (best_within S C js a b)

-- A layer while it is filled: the strips that start before a are right, and so are those in which the pad at place k does not lie.
pub record LayerTo (S : Sides) (C : ℕ → ℕ → Least) (order : List ℕ) (p k : ℕ) (w v : List ℕ) (here a : ℕ) : Type 0 where
  pub kept : KeptFrom (here + layer_of p) w v
  pub cells : (a' b' : ℕ) → a' ≤ b' → b' ≤ p → (a ≤ a' → a' ≤ S.lo (get_or order k 0) → S.hi (get_or order k 0) ≤ b' → ⊥)
      → get_or v (cell_at p here a' b') 0 ≡ stored (best_within S C (drop k order) a' b')

-- What a row's sums are read from: the open figures from `row` on, and the strips that start at a, of the layer that starts at `next`. None is above 2 ^ 62.
pub record Summed (w : List ℕ) (row next p a : ℕ) : Type 0 where
  pub ports : p ≤ 128
  pub start : a ≤ p
  pub figures : row + p ≤ length w
  pub layer : next + layer_of p ≤ length w
  pub small_figures : (q : ℕ) → q < p → get_or w (row + q) 0 ≤ no_sum
  pub small_totals : (q : ℕ) → a ≤ q → q < p → get_or w (cell_at p next a q) 0 ≤ no_sum

-- The row r has for each port q from a on the figure with the least total below it.
pub record Sums (r w : List ℕ) (row next p a : ℕ) : Type 0 where
  pub long : length r ≡ 128
  pub sum : (q : ℕ) → a ≤ q → q < p → get_or r q 0 ≡ min no_sum (get_or w (row + q) 0 + get_or w (cell_at p next a q) 0)

-- What a strip's least total is read from.
pub record Readable (r w : List ℕ) (above a b : ℕ) : Type 0 where
  pub start : a ≤ b
  pub sums : b ≤ length r
  pub column : above + b ≤ length w
  pub small_row : (q : ℕ) → a ≤ q → q < b → get_or r q 0 ≤ no_sum
  pub small_column : (q : ℕ) → a ≤ q → q < b → get_or w (above + q) 0 ≤ no_sum

-- The total of each port of a strip, and the least of a .. b - 1.
abbrev pub port_sum : List ℕ → List ℕ → ℕ → ℕ → ℕ
port_sum r w above q = get_or r q 0 + get_or w (above + q) 0

-- The same for all strips a .. b - 1 with h ≤ b: they are read from the row r and the layer after `here`.
pub record Fillable (r w : List ℕ) (here p a h : ℕ) : Type 0 where
  pub ports : p ≤ 128
  pub start : a ≤ h
  pub end : h ≤ p
  pub sums : length r ≡ 128
  pub layers : here + layer_of p + layer_of p ≤ length w
  pub small_row : (q : ℕ) → a ≤ q → q < p → get_or r q 0 ≤ no_sum
  pub small_column : (q b : ℕ) → a ≤ q → q < b → b ≤ p → get_or w (cell_at p (here + layer_of p) (q + 1) b) 0 ≤ no_sum

-- v is w but for the strips a .. b - 1 with h ≤ b (up to c) of the layer at `here`, which have their least totals.
pub record FilledStrips (r w v : List ℕ) (here p a h c : ℕ) : Type 0 where
  pub kept : KeptFrom (here + layer_of p) w v
  pub filled : (b : ℕ) → h ≤ b → b < c → b ≤ p
      → get_or v (cell_at p here a b) 0 ≡ lowest (port_sum r w (cell_at p (here + layer_of p) 1 b)) a (b - a)
  pub others : (a' b' : ℕ) → a' ≤ b' → b' ≤ p → (a' ≡ a → h ≤ b' → b' < c → ⊥) → get_or v (cell_at p here a' b') 0 ≡ get_or w (cell_at p here a' b') 0

-- What a port's total is read from.
pub record Three (w : List ℕ) (figure below above : ℕ) : Type 0 where
  pub figure_in : figure < length w
  pub below_in : below < length w
  pub above_in : above < length w
  pub figure_small : get_or w figure 0 ≤ no_sum
  pub below_small : get_or w below 0 ≤ no_sum
  pub above_small : get_or w above 0 ≤ no_sum

-- The tables are right.
pub record SlotTable (order lo hi : List ℕ) (p : ℕ) (w : List ℕ) : Type 0 where
  pub room : Room (length order) p (length w)
  pub opens : Opens (sides_of lo hi) (figures_in w (length order) p) order p w
  pub layers : (k : ℕ) → k ≤ length order → Layer (sides_of lo hi) (figures_in w (length order) p) (drop k order) p w (k * layer_of p)

-- The least total of all pads on all ports, as the code holds it.
abbrev pub least_on_slots : List ℕ → List ℕ → List ℕ → ℕ → List ℕ → ℕ
least_on_slots order lo hi p w = stored (strip.best (slot_grid order lo hi p w) order 0 p)

-- v is the least total, and says whether there is one.
pub record TellsLeast (order lo hi : List ℕ) (p : ℕ) (w : List ℕ) (v : ℕ) : Type 0 where
  pub total : v ≡ least_on_slots order lo hi p w
  pub none : no_sum ≤ v → strip.best (slot_grid order lo hi p w) order 0 p ≡ none

-- The pad at place m lies in the strip a .. b - 1.
pub record Inside (B : Grid) (order : List ℕ) (p m a b : ℕ) : Type 0 where
  pub ports : b ≤ p
  pub listed : m < length order
  pub here : Lies B a b (get_or order m 0)

-- Figures that were kept are the same figures.
pub figures_same : (n p : ℕ) {w v : List ℕ} → KeptFrom (figures_at n p) w v → figures_in v n p ≡ figures_in w n p
figures_same n p A = λ i j q. figure_of (A.rest (figures_at n p + (j * p + q)) (omega arith) i)
