-- DEFINITIONS. The work list that a call is lent, and what the calls answer, as the code has them.
use Rattle.std.specs.Prelude.{ℕ, Option, Result}
use Rattle.paper.specs.declared.Refusal.{Refusal}
use Rattle.paper.specs.declared.Polyline.{Polyline}

-- No work list is lent, or one of so many numbers.
abbrev pub Work : Type 0
Work = Option ℕ

-- A total, or none: the end.
abbrev pub Answer : Type 0
Answer = Result (Option ℕ) Refusal

-- How many.
abbrev pub Counted : Type 0
Counted = Result ℕ Refusal

-- A leader's points.
abbrev pub Drawn : Type 0
Drawn = Result Polyline Refusal
