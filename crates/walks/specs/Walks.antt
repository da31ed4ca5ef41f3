-- What a walk from layout to layout comes to. It is said for any rules of what its layouts are; those of the lists are in the words of `steps`.
use Rattle.std.specs.Prelude.{◌≡◌, ◌⊎◌, Bool, true, false, List, ℕ, zero, suc, ◌*◌, ◌≤◌, ◌<◌, length, Option, Some, None}
use Rattle.std.specs.Option.{is_some}
use Rattle.choices.specs.Source.{Source}
use Rattle.steps.specs.Steps.{IsLeast, UntouchingLayout, Solvable, BestLayout, FirstIs, NextIs, EndIs, SaysWhether}
use Rattle.numbers.specs.Copies.{Copied}
use Rattle.walks.specs.declared.Start.{Start}
use Rattle.walks.specs.declared.Start.TheVariants.{First, Given}
use Rattle.walks.specs.declared.Walked.{Walked}

-- v holds the earliest best layout, where w was lent; there is no layout; w holds a best one; v holds the next one after that of w, and takes its
-- place; w holds the last one; t is the total of all.
pub record Rules : Type 1 where
  pub Earliest : (w v : List ℕ) → Type 0
  pub Nothing : Type 0
  pub Best : (w : List ℕ) → Type 0
  pub Next : (w v : List ℕ) → Type 0
  pub Last : (w : List ℕ) → Type 0
  pub Least : (t : ℕ) → Type 0

-- The rules of the lists.
abbrev pub list_rules : List ℕ → Source → List ℕ → List ℕ → Rules
list_rules order T lo hi = record {
  Earliest = FirstIs order T lo hi;
  Nothing = Solvable order T lo hi → ⊥;
  Best = BestLayout order T lo hi;
  Next = NextIs order T lo hi;
  Last = λ w. EndIs order T lo hi w w;
  Least = IsLeast order T lo hi;
}

-- A walk from the earliest layout asks for nothing, one from a given layout that it is untouching.
abbrev pub Startable : Start → List ℕ → Source → List ℕ → List ℕ → List ℕ → Type 0
Startable First order T lo hi w = Unit {0}
Startable Given order T lo hi w = UntouchingLayout order T lo hi w

-- l holds its first layout, where w was lent; r says whether there is one, and whether a given one is best.
abbrev pub Begins : Rules → Start → List ℕ → List ℕ → Bool → Type 0
Begins R First w l true = R.Earliest w l
Begins R First w l false = R.Nothing × (l ≡ w)
Begins R Given w l r = SaysWhether r (R.Best w) × (l ≡ w)

-- From w on k layouts of n entries came on the page, one after the other, each the next after the one before it; v holds the last.
unfoldable pub SteppedOn : Rules → ℕ → List ℕ → List ℕ → List ℕ → List ℕ → ℕ → Type 0
SteppedOn R n w page v after zero = (v ≡ w) × (after ≡ page)
SteppedOn R n w page v after (suc k) =
    (u : List ℕ) × (half : List ℕ) × SteppedOn R n w page u half k × R.Next u v × Copied n (k * n) v half after

-- All of them came that fit the page, or there are no more.
pub record Turned (R : Rules) (n : ℕ) (w page v after : List ℕ) (k : ℕ) : Type 0 where
  pub fit : k * n ≤ length page
  pub steps : SteppedOn R n w page v after k
  pub all : (length page < suc k * n) ⊎ R.Last v

-- A walk that starts at a best layout says how many came, and the total of all; where it starts at none, none came.
abbrev pub Turns : Rules → ℕ → List ℕ → List ℕ → List ℕ → List ℕ → Option Walked → Type 0
Turns R n w page v after (Some r) = Turned R n w page v after r.count × R.Least r.total
Turns R n w page v after None = (v ≡ w) × (after ≡ page)

-- A walk, with its first layout, and the least total, also where there is no layout to start at.
pub record Walks (R : Rules) (n : ℕ) (start : Start) (w page v after : List ℕ) (r : Option Walked) : Type 0 where
  pub from : List ℕ
  pub begins : Begins R start w from (is_some r)
  pub turns : Turns R n from page v after r
  pub total : ℕ
  pub least : R.Least total
