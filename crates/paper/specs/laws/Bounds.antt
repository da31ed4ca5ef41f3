-- Answers that fit C's number: a total is at most 64 times the largest figure of 32 bits.
use Rattle.std.specs.Prelude.{◌^◌, ◌≤◌, ◌<◌, Some, None, Ok, Err}
use Rattle.paper.specs.Answers.{Answer, Counted}

abbrev pub Bounded : Answer → Type 0
Bounded (Ok (Some t)) = t ≤ 274877906880
Bounded (Ok None) = Unit {0}
Bounded (Err r) = Unit {0}

abbrev pub BoundedCount : Counted → Type 0
BoundedCount (Ok k) = k < 2 ^ 63
BoundedCount (Err r) = Unit {0}
