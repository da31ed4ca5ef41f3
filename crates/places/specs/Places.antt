-- Which port the pad at each place has, read the other way round: which place the pad of each port has.
-- A layout is a list: entry j is the port of record j. `order` has the record numbers, rightmost pad first.
use Rattle.std.specs.Prelude.{◌≡◌, List, ℕ, ◌-◌, ◌≤◌, ◌<◌, length, get_or}

-- The ports of a layout, by record number.
abbrev pub port_in : List ℕ → ℕ → ℕ
port_in w j = get_or w j 0

-- at has, of 128 ports, for each that one of the first m pads has the place of that pad; for any other port it has m or more.
pub record Placed (order w : List ℕ) (m : ℕ) (at : List ℕ) : Type 0 where
  pub room : length at ≡ 128
  pub taken : (i : ℕ) → i < m → get_or at (port_in w (get_or order i 0)) 0 < m
  pub by : (q : ℕ) → q < 128 → get_or at q 0 < m → port_in w (get_or order (get_or at q 0) 0) ≡ q

-- The same, with no later place entered.
pub record Entered (order w : List ℕ) (m : ℕ) (at : List ℕ) : Type 0 where
  pub placed : Placed order w m at
  pub free : (q : ℕ) → q < 128 → m ≤ get_or at q 0 → 64 ≤ get_or at q 0

-- What entering the first m places starts from: their pads have ports, for which at has room, and at has no place yet.
pub record Placeable (order w : List ℕ) (m : ℕ) (at : List ℕ) : Type 0 where
  pub few : m ≤ 64
  pub inside : m ≤ length order
  pub listed : (k : ℕ) → k < m → get_or order k 0 < length w
  pub ports : (k : ℕ) → k < m → port_in w (get_or order k 0) < length at
  pub none : Entered order w 0 at

-- A walk from l down ends at a: no place before m has a port from a to l - 1, and one has port a - 1, unless a is 0 ..
pub record Lowest (at : List ℕ) (m l a : ℕ) : Type 0 where
  pub under : a ≤ l
  pub free : (q : ℕ) → a ≤ q → q < l → m ≤ get_or at q 0
  pub stop : 0 < a → get_or at (a - 1) 0 < m

-- .. and one from h up ends at b: no place before m has a port from h to b - 1, and one has port b, unless b is p.
pub record Highest (at : List ℕ) (m h p b : ℕ) : Type 0 where
  pub over : h ≤ b
  pub inside : b ≤ p
  pub free : (q : ℕ) → h ≤ q → q < b → m ≤ get_or at q 0
  pub stop : b < p → get_or at b 0 < m
