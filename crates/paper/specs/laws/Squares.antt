-- A leader and a square, by heights; and a port to which a leader by itself is open. That untouching is leaders apart and each open is proofs/laws/Squares.
use Rattle.std.specs.Prelude.{◌≢◌, ◌⊎◌, ℕ, ◌+◌, ◌≤◌, ◌<◌, ℤ}
use Rattle.numbers.specs.Whole.{up, dn}
use Rattle.paper.specs.Leaders.{Leader, Square, Meets}
use Rattle.paper.specs.Layouts.{Board, leader, square}

-- ---- the test

-- z is at most n above w.
abbrev pub UpTo : ℤ → ℤ → ℕ → Type 0
UpTo z w n = up z + dn w ≤ up w + n + dn z

-- The leader comes as far right as the square; its hand is not right of it.
abbrev pub Reaches : Leader → Square → Type 0
Reaches l s = s.x ≤ l.x + s.half

abbrev pub NotRight : Leader → Square → Type 0
NotRight l s = l.x ≤ s.x + s.half

-- At an x of the square it has a height that is no higher than its top; that is no lower than its bottom.
abbrev pub UnderTop : Leader → Square → Type 0
UnderTop l s = UpTo l.port s.y s.half ⊎ (NotRight l s × UpTo l.y s.y s.half)

abbrev pub OverBottom : Leader → Square → Type 0
OverBottom l s = UpTo s.y l.port s.half ⊎ (NotRight l s × UpTo s.y l.y s.half)

-- ---- two records

-- Of the squares of the pads before k the leader of pad i to port q meets none that is another pad's and more than a point.
abbrev pub OpenTo : Board → ℕ → ℕ → ℕ → Type 0
OpenTo b k i q = (j : ℕ) → j < k → j ≢ i → 0 < b.half j → ¬ Meets (leader b i q) (square b j)

-- It is open: it meets none of all of them.
abbrev pub Open : Board → ℕ → ℕ → Type 0
Open b i q = OpenTo b b.pads i q
