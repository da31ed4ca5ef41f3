-- A walk by some rules is one by all rules that follow from them.
use Rattle.std.proofs.Common.{inl, inr, ⊎_elim}
use Rattle.std.specs.Prelude.{◌↔◌, Bool, true, false, List, Option, Some, None}
use Rattle.std.specs.Option.{is_some}
use Prim.Native.Nat.{ℕ, zero, suc}
use Rattle.walks.specs.declared.Start.{Start}
use Rattle.walks.specs.declared.Start.TheVariants.{First, Given}
use Rattle.walks.specs.declared.Walked.{Walked}
use Rattle.walks.specs.Walks.{Rules, Begins, SteppedOn, Turned, Turns, Walks}

-- What R says, S says as well.
pub record Says (R S : Rules) : Type 0 where
  pub earliest : (w v : List ℕ) → R.Earliest w v → S.Earliest w v
  pub nothing : R.Nothing → S.Nothing
  pub best : (w : List ℕ) → R.Best w ↔ S.Best w
  pub next : (w v : List ℕ) → R.Next w v → S.Next w v
  pub last : (w : List ℕ) → R.Last w → S.Last w
  pub least : (t : ℕ) → R.Least t → S.Least t

module _ {R S : Rules} (says : Says R S) where
  begins_said : (start : Start) (w l : List ℕ) (r : Bool) → Begins R start w l r → Begins S start w l r
  begins_said First w l true b = says.earliest w l b
  begins_said First w l false b = (says.nothing b.0, b.1)
  begins_said Given w l true b = ((says.best w).0 b.0, b.1)
  begins_said Given w l false b = (λ s. b.0 ((says.best w).1 s), b.1)

  stepped_said : (n : ℕ) (w page v after : List ℕ) (k : ℕ) → SteppedOn R n w page v after k → SteppedOn S n w page v after k
  unfolding SteppedOn
  stepped_said n w page v after zero s = s
  stepped_said n w page v after (suc k) (u, half, s, next, here) = (u, half, stepped_said n w page u half k s, says.next u v next, here)

  turned_said : (n : ℕ) (w page v after : List ℕ) (k : ℕ) → Turned R n w page v after k → Turned S n w page v after k
  turned_said n w page v after k T = record {
    fit = T.fit;
    steps = stepped_said n w page v after k T.steps;
    all = ⊎_elim inl (λ l. inr (says.last v l)) T.all;
  }

  turns_said : (n : ℕ) (w page v after : List ℕ) (r : Option Walked) → Turns R n w page v after r → Turns S n w page v after r
  turns_said n w page v after (Some r) (T, l) = (turned_said n w page v after r.count T, says.least r.total l)
  turns_said n w page v after None T = T

  pub walks_said : (n : ℕ) (start : Start) (w page v after : List ℕ) (r : Option Walked) → Walks R n start w page v after r
      → Walks S n start w page v after r
  walks_said n start w page v after r W =
      record {
        from = W.from;
        begins = begins_said start w W.from (is_some r) W.begins;
        turns = turns_said n W.from page v after r W.turns;
        total = W.total;
        least = says.least W.total W.least;
      }
