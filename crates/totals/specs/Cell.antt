-- What the table holds, and what its inputs are.
use Rattle.std.specs.Prelude.{◌≡◌, Bool, true, false, cond, ◌&&◌, leb, ltb, eqb, List, ℕ, zero, suc, ◌+◌, ◌-◌, ◌*◌, ◌^◌, ◌≤◌, ◌<◌, length, get_or, drop}
use Rattle.numbers.specs.Sets.{set_of}
use Rattle.strips.specs.Least.{Least, none, some, least}
use Rattle.strips.specs.Lists.{keep}
use Rattle.strips.specs.Grid.{Grid, LocalBest}
use Rattle.strips.specs.Grid as strip
use Rattle.strips.specs.Prefix.{lies, Lies}
use Rattle.pads.specs.Pads.{Sides, pads_in, sides_of, Head}
use Rattle.totals.specs.Strip.{grid, best_within, local_within}
use Rattle.totals.specs.declared.Best.{Best}

-- the figures that slices hold: none where a bar, a number other than 0, says that the pad may not use the port
abbrev pub figures : List ℕ → List ℕ → ℕ → ℕ → ℕ → Least
figures cs bs n j q = cond (eqb (get_or bs (j * n + q) 0) 0) (some (get_or cs (j * n + q) 0)) none

-- the board that slices hold
abbrev pub grid_of : List ℕ → List ℕ → List ℕ → List ℕ → List ℕ → Grid
grid_of order cs bs lo hi = grid (sides_of lo hi) (figures cs bs (length order))

-- a total as code holds it that lets z stand for none
abbrev pub coded_by : ℕ → Least → ℕ
coded_by z none = z
coded_by z (some v) = v

-- here it is the largest u64
abbrev pub no_total : ℕ
no_total = 18446744073709551615

abbrev pub coded : Least → ℕ
coded o = coded_by no_total o

-- the least total of all pads on all ports, as the code holds it
abbrev pub least_of : List ℕ → List ℕ → List ℕ → List ℕ → List ℕ → ℕ
least_of order cs bs lo hi = coded (strip.best (grid_of order cs bs lo hi) order 0 (length order))

-- `local_within` of the pad at place r of order and the pads after it, from lists
abbrev pub choice : List ℕ → List ℕ → List ℕ → List ℕ → List ℕ → ℕ → ℕ → ℕ → ℕ → Least
choice order cs bs lo hi r a b = local_within (sides_of lo hi) (figures cs bs (length order)) (get_or order r 0) (drop (r + 1) order) a b

-- h is the strip's head, and v the best total of its pads
pub record Valued (S : Sides) (C : ℕ → ℕ → Least) (order : List ℕ) (a b h v : ℕ) : Type 0 where
  pub head : Head S order a b h
  pub value : (s : ℕ) → h ≡ s + 1 → v ≡ coded (best_within S C (drop s order) a b)
  pub nothing : h ≡ 0 → v ≡ no_total

-- h is 1 more than the place of the rightmost of the strip's b - a pads, and v is their best total; h is 0 where the strip has too few pads or no layout
pub record Cell (S : Sides) (C : ℕ → ℕ → Least) (order : List ℕ) (a b h v : ℕ) : Type 0 where
  pub top : h ≤ length order + 1
  pub past : (k : ℕ) → h ≤ k → k ≤ length order → pads_in S a b (drop k order) ≡ b - a → best_within S C (drop k order) a b ≡ none
  pub full : (s : ℕ) → h ≡ s + 1 → pads_in S a b (drop s order) ≡ b - a
  pub value : (s : ℕ) → h ≡ s + 1 → best_within S C (drop s order) a b ≡ some v
  pub nothing : h ≡ 0 → v ≡ no_total

-- how many strips end before port b, those of no ports too: 1 + 2 + .. + b
unfoldable pub corner_of : ℕ → ℕ
corner_of zero = 0
corner_of (suc b) = corner_of b + suc b

-- the place of the strip a .. b - 1 in a table
abbrev pub place : ℕ → ℕ → ℕ
place a b = corner_of b + a

-- the heads have a place for each strip of 64 ports, the totals one for each of the board's, and figures and bars are those of each pad with each port
pub record Sizes (hs ts order cs bs : List ℕ) : Type 0 where
  pub heads : length hs ≡ 2145
  pub totals : corner_of (length order + 1) ≤ length ts
  pub square : length cs ≡ length order * length order
  pub bars : length bs ≡ length order * length order
  pub cheap : (i : ℕ) → get_or cs i 0 < 2 ^ 32

-- the pad at place r heads the strip a .. b - 1, which holds as many pads from there on as ports
pub record Strip (S : Sides) (order : List ℕ) (a b r : ℕ) : Type 0 where
  pub ports : b ≤ length order
  pub listed : r < length order
  pub rest : pads_in S a b (drop (r + 1) order) + 1 ≡ b - a

-- what a port's total is read from: the places of the strips below (in hb and tb) and above it (in hs and ts), `past` the least head that they may not have, and
-- the start of the pad's row of figures and of bars
pub record Port (hb tb hs ts cs bs : List ℕ) (past row q below above : ℕ) : Type 0 where
  pub low_head : below < length hb
  pub low_total : below < length tb
  pub high_head : above < length hs
  pub high_total : above < length ts
  pub listed : row + q < length cs
  pub bar_listed : row + q < length bs
  pub small : past < get_or hb below 0 → past < get_or hs above 0 → (get_or tb below 0 ≤ 2 ^ 38) × (get_or ts above 0 ≤ 2 ^ 38)

-- both strips have a layout of pads after the one that takes the port
abbrev pub opens : List ℕ → List ℕ → ℕ → ℕ → ℕ → Bool
opens hb hs past below above = ltb past (get_or hb below 0) && ltb past (get_or hs above 0)

-- the total with the pad on the port
abbrev pub sum_at : List ℕ → List ℕ → List ℕ → ℕ → ℕ → ℕ → ℕ → ℕ
sum_at tb ts cs row q below above = get_or cs (row + q) 0 + (get_or tb below 0 + get_or ts above 0)

-- the same as the code holds it, the largest u64 where a part has no layout or the pad may not take the port
abbrev pub port_total : List ℕ → List ℕ → List ℕ → List ℕ → List ℕ → List ℕ → ℕ → ℕ → ℕ → ℕ → ℕ → ℕ
port_total hb tb hs ts cs bs past row q below above =
    cond (opens hb hs past below above && eqb (get_or bs (row + q) 0) 0) (sum_at tb ts cs row q below above) no_total

-- the total s of port q beside the least total so far and the ports that have it
abbrev pub joined : Best → ℕ → ℕ → Best
joined v s q =
    cond (ltb s v.total) (record { total = s; ports = 2 ^ q })
    (cond (eqb s v.total && ltb s no_total) (record { total = v.total; ports = v.ports + 2 ^ q }) v)

-- port q, from a on, has the total t, which is one
abbrev pub attained : (ℕ → Least) → ℕ → ℕ → ℕ → Bool
attained f a t q = ltb t no_total && (leb a q && eqb (coded (f q)) t)

-- v has the least of the totals f of the ports a .. b - 1, and the ports that have it
pub record BestOf (f : ℕ → Least) (a b : ℕ) (v : Best) : Type 0 where
  pub total : v.total ≡ coded (least f a (b - a))
  pub top : v.total ≤ no_total
  pub low : (q : ℕ) → a ≤ q → q < b → v.total ≤ coded (f q)
  pub ports : v.ports ≡ set_of (attained f a v.total) b

-- the strips that start at a or above are right in the tables hs and ts
abbrev pub Rows : Sides → (ℕ → ℕ → Least) → List ℕ → List ℕ → List ℕ → ℕ → Type 0
Rows S C order hs ts a = (a' b' : ℕ) → a ≤ a' → a' ≤ b' → b' ≤ length order → Cell S C order a' b' (get_or hs (place a' b') 0) (get_or ts (place a' b') 0)

-- the strips that a port q of a .. b - 1 leaves below and above it are right
abbrev pub Parts : Sides → (ℕ → ℕ → Least) → List ℕ → List ℕ → List ℕ → ℕ → ℕ → Type 0
Parts S C order hs ts a b =
    (q : ℕ) → a ≤ q → q < b
    → Cell S C order a q (get_or hs (place a q) 0) (get_or ts (place a q) 0) × Cell S C order (q + 1) b (get_or hs (place (q + 1) b) 0) (get_or ts (place (q + 1) b) 0)

-- the short lists rh and rt have at q what the tables have of the strip a .. q - 1, for each q from a to b - 1
pub record CopiedRow (rh rt hs ts : List ℕ) (a b : ℕ) : Type 0 where
  pub heads : length rh ≡ 65
  pub totals : length rt ≡ 65
  pub same : (q : ℕ) → a ≤ q → q < b → (get_or rh q 0 ≡ get_or hs (place a q) 0) × (get_or rt q 0 ≡ get_or ts (place a q) 0)

-- the tables are right, for the pads `order` with the sides lo and hi, the figures cs and the bars bs
pub record Table (order cs bs lo hi hs ts : List ℕ) : Type 0 where
  pub sizes : Sizes hs ts order cs bs
  pub rows : Rows (sides_of lo hi) (figures cs bs (length order)) order hs ts 0

-- the pad at place r lies in the strip a .. b - 1, which it and the pads after it fill: a pad for each port
pub record FullFrom (B : Grid) (order : List ℕ) (r a b : ℕ) : Type 0 where
  pub ports : b ≤ length order
  pub listed : r < length order
  pub here : Lies B a b (get_or order r 0)
  pub full : length (keep (lies B a b) (drop (r + 1) order)) + 1 ≡ b - a

-- port q is a locally best one for the pad at place r, in the strip a .. b - 1
abbrev pub Leads : Grid → List ℕ → ℕ → ℕ → ℕ → ℕ → Type 0
Leads B order r a b q = LocalBest B (get_or order r 0) (keep (lies B a b) (drop (r + 1) order)) a b q

-- x says whether Q holds
pub record Says (Q : Type 0) (x : Bool) : Type 0 where
  pub yes : x ≡ true → Q
  pub no : x ≡ false → Q → ⊥

-- q is the first of the ports p .. b - 1 of which Q holds, or b
pub record NextPort (Q : ℕ → Type 0) (p b q : ℕ) : Type 0 where
  pub start : p ≤ q
  pub within : q ≤ b
  pub passed : (i : ℕ) → p ≤ i → i < q → Q i → ⊥
  pub found : q < b → Q q

-- m has the ports that lead the pad at place r in the strip a .. b - 1, as a set
pub record Marks (B : Grid) (order : List ℕ) (r a b m : ℕ) : Type 0 where
  pub picks : ℕ → Bool
  pub set : m ≡ set_of picks b
  pub says : (q : ℕ) → q < b → Says (Leads B order r a b q) (picks q)

-- so have the numbers of ms, for the strips that start at a or above and have a layout, as far as the list goes
abbrev pub MarkedFrom : List ℕ → List ℕ → List ℕ → List ℕ → List ℕ → List ℕ → List ℕ → ℕ → Type 0
MarkedFrom order cs bs lo hi hs ms a =
    (a' b' : ℕ) → a ≤ a' → a' < b' → b' ≤ length order → place a' b' < length ms → 0 < get_or hs (place a' b') 0
    → Marks (grid_of order cs bs lo hi) order (get_or hs (place a' b') 0 - 1) a' b' (get_or ms (place a' b') 0)
