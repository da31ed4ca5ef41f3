-- A leader as the code has it, in the paper's words; and the square of that half-side around its pad.
use Rattle.std.specs.Prelude.{ℕ}
use Rattle.paper.specs.Leaders.{Leader, Square}
use Rattle.faults.specs.declared.leader.Leader.{Leader as Lead}

abbrev pub leader_of : Lead → Leader
leader_of l = record { x = l.x; y = l.y; port = l.port }

abbrev pub square_of : Lead → ℕ → Square
square_of l half = record { x = l.x; y = l.y; half = half }
