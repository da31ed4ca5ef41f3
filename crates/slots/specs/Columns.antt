-- What a column of strips is read from, by the words of Slots.
use Rattle.std.specs.Prelude.{ℕ}
use Rattle.slots.specs.Slots.{Readable, port_sum}
use Rattle.slots.specs.declared.Column.{Column}

-- It can be read for the ports a .. b - 1.
abbrev pub Reads : Column → ℕ → ℕ → Type 0
Reads c a b = Readable c.row.now c.work.now c.above a b

-- The total of port q.
abbrev pub total_at : Column → ℕ → ℕ
total_at c q = port_sum c.row.now c.work.now c.above q
