-- What First, Next and Page make of a walk.
use mathlib.Core.Path.{◌≡◌, refl, sym, ◌∙◌}
use mathlib.Core.Logic.{⊎_elim}
use mathlib.Core.List.{List, ◌++◌}
use Prim.Native.Nat.{ℕ, zero, suc, ◌*◌, ◌≤◌, ◌<◌}
use native.Mathlib.Nat.{suc-mul}
use native.Mathlib.Omega.{arith}
use lib.ListN.{length, get_or, take}
use Rattle.std.proofs.lemmas.Grind.{common_steps}
use Rattle.std.specs.Prelude.{Some, None, Ok, Err}
use Rattle.paper.specs.Layouts.{Board, held, Untouching, Same}
use Rattle.paper.specs.Problem.{Problem, labeling}
use Rattle.paper.specs.Promises.{in_turn, Following}
use Rattle.paper.proofs.laws.Boards.{untouching_same}
use Rattle.paper.proofs.laws.Order.{Steady, best_same, next_of_same, last_of_same}
use Rattle.paper.proofs.laws.Trying.{labeling_steady}
use Rattle.paper.proofs.laws.Pages.{Paging, paging_none, paging_here, paging_more, page_full, page_ends, following_same}
use Rattle.walks.specs.declared.Start.TheVariants.{First, Given}
use Rattle.walks.specs.declared.Walked.{Walked}
use Rattle.walks.specs.Walks.{SteppedOn, Turned, Walks}
use Rattle.layouts.specs.declared.Unmet.TheVariants.{NoLayout, NotBest}
use Rattle.layouts.specs.Replies.{rules_of, StartOn, FirstOn, NextOn, PageOn}

module _ (p : Problem) (some : 0 < p.board.pads) (w page v after : List ℕ) where
  -- First: with room for none
  pub first_some : (r : Walked) → length page ≡ 0 → Walks (rules_of p) p.board.pads First w page v after (Some r) → FirstOn p w v (Ok r.total)
  unfolding SteppedOn
  first_some r room W = go r.count W.turns.0
    where
      go : (k : ℕ) → Turned (rules_of p) p.board.pads W.from page v after k → FirstOn p w v (Ok r.total)
      go zero T = let e = W.begins in rw T.steps.0 (e.0, W.turns.1 W.from e.0.best, e.1)
      go (suc k) T = absurd (omega (arith, T.fit, suc-mul k p.board.pads))

  pub first_none : Walks (rules_of p) p.board.pads First w page v after None → FirstOn p w v (Err NoLayout)
  first_none W = (W.begins.0, W.turns.0 ∙ W.begins.1)

  -- Next: with room for one
  module _ (r : Walked) (room : length page ≡ p.board.pads) (W : Walks (rules_of p) p.board.pads Given w page v after (Some r)) where
    pub next_last : r.count ≡ 0 → NextOn p w v (Ok None)
    unfolding SteppedOn
    next_last = go r.count W.turns.0
      where
        go : (k : ℕ) → Turned (rules_of p) p.board.pads W.from page v after k → k ≡ 0 → NextOn p w v (Ok None)
        go zero T e =
            let same : v ≡ w = T.steps.0 ∙ W.begins.1 in
            (W.begins.0, ⊎_elim (λ h. absurd (omega (arith, h))) (λ l. rw same at l) T.all, same)
        go (suc k) T e = absurd (omega arith)

    pub next_some : (r.count ≡ 0 → ⊥) → NextOn p w v (Ok (Some r.total))
    unfolding SteppedOn
    next_some = go r.count W.turns.0
      where
        go : (k : ℕ) → Turned (rules_of p) p.board.pads W.from page v after k → (k ≡ 0 → ⊥) → NextOn p w v (Ok (Some r.total))
        go zero T d = absurd (d refl)
        go (suc zero) T d = let (u, half, s, next, here) = T.steps in let n = rw (s.0 ∙ W.begins.1) at next in
            (W.begins.0, n.0, W.turns.1 v n.0.best, n.1)
        go (suc (suc k)) T d = absurd (omega (arith, T.fit, suc-mul (suc k) p.board.pads, suc-mul k p.board.pads))

  pub next_none : Walks (rules_of p) p.board.pads Given w page v after None → NextOn p w v (Err NotBest)
  next_none W = (W.begins.0, W.turns.0 ∙ W.begins.1)

-- Page: from a copy
module _ (p : Problem) (steady : Steady p) where
  -- Layouts that came on the page one after the other stand there in turn.
  paged : (w page v after : List ℕ) (k : ℕ) → k * p.board.pads ≤ length page → SteppedOn (rules_of p) p.board.pads w page v after k
      → Paging p w page k after × Same p.board (held v) (in_turn p.board.pads w after k)
  unfolding SteppedOn
  paged w page v after zero fit (e, f) = rw (e, f) (paging_none p w page, λ i h. refl)
  paged w page v after (suc k) fit (u, half, s, next, here) =
      let (P, reached) = paged w page u half k (omega (arith, suc-mul k p.board.pads)) s in (
        paging_more p w page k half P v after here steady fit (next_of_same p (held u) (in_turn p.board.pads w half k) (held v) reached next.0),
        λ i h. sym (paging_here p w page k half P v after here i h),
      )

  follows : (w page v after : List ℕ) (k : ℕ) → Turned (rules_of p) p.board.pads w page v after k → Following p w page k after
  follows w page v after k T =
      let (P, reached) = paged w page v after k T.fit T.steps in
      ⊎_elim (page_full p w page k after P) (λ l. page_ends p w page k after P (last_of_same p (held v) (in_turn p.board.pads w after k) reached l)) T.all

-- What follows a copied front does not count.
pub front_same : (n m : ℕ) (given rest ys : List ℕ) → m ≡ n → ys ≡ take m given → n ≤ length given → (i : ℕ) → i < n
    → get_or (ys ++ rest) i 0 ≡ get_or given i 0
front_same n m given rest ys same front few i h = grind (arith, common_steps)

pub front_long : (n m : ℕ) (given rest ys : List ℕ) → m ≡ n → ys ≡ take m given → n ≤ length given → n ≤ length (ys ++ rest)
front_long n m given rest ys same front few = grind (arith, common_steps)

module _ (b : Board) (cost : ℕ → ℕ → ℕ) where
  abbrev p : Problem
  p = labeling b cost

  steady : Steady p
  steady = labeling_steady b cost

  module _ (given w : List ℕ) (alike : Same b (held w) (held given)) where
    back : Same b (held given) (held w)
    back i h = sym (alike i h)

    pub copy_startable : b.pads ≤ length w → Untouching b (held given) → StartOn Given b w
    copy_startable h u = (h, untouching_same b (held given) (held w) back u)

    pub page_some : (page v after : List ℕ) (r : Walked) → Walks (rules_of p) b.pads Given w page v after (Some r) → PageOn p given page after (Ok r)
    page_some page v after r W =
        let best = best_same p steady (held w) (held given) alike W.begins.0 in (
          best,
          following_same p steady w given alike page r.count after (follows p steady w page v after r.count (rw W.begins.1 at W.turns.0)),
          W.turns.1 given best,
        )

    pub page_none : (page v after : List ℕ) → Walks (rules_of p) b.pads Given w page v after None → PageOn p given page after (Err NotBest)
    page_none page v after W = ((λ s. W.begins.0 (best_same p steady (held given) (held w) back s)), W.turns.1)
