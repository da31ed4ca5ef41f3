-- DEMAND 3, of all calls that are regular: First and then Next until the end gives every best layout, each exactly once, in order, and no other. It is shown
-- of the promises, so of every program that keeps to them.
--     demand_3 : for every list that First accepts;  next_ends : whoever asks on from any list that Next accepts comes to the end
use Rattle.std.specs.Prelude.{◌≡◌, refl, ◌⊎◌, List, [], ◌∷◌, ◌++◌, ℕ, zero, suc, ◌<◌, length, get_or, pos, negsuc, Some, None, Ok}
use Rattle.std.proofs.Common.{inl, inr, arith}
use Rattle.std.proofs.Math.Decide.{dec_lt}
use Rattle.numbers.proofs.Whole.{whole, eq_num}
use Rattle.paper.specs.Layouts.{Board, held, Same}
use Rattle.paper.specs.Problem.{Best, Before, FirstBest, NextBest}
use Rattle.paper.specs.Refusals.{Passed, Calls, entries}
use Rattle.paper.specs.Promises.{Kept, FirstReplies, NextReplies}
use Rattle.paper.specs.Runs.{NextRun, Run, NextSoFar, SoFar, Once, Demand3}
use Rattle.paper.proofs.laws.Order.{before_irrefl, before_trans, before-total, before_same}
use Rattle.paper.proofs.laws.Rank.{climbs}
use Rattle.paper.proofs.laws.Trying.{Searchable, best_inside}
use Rattle.paper.proofs.laws.Numbers.{total-told, next_total-told, end_told}
use Rattle.paper.proofs.laws.Kept.{kept_trans}
use Rattle.paper.proofs.laws.Determined.{first_determined, next_determined}
use Rattle.paper.proofs.laws.Regular.{Regular}
use Rattle.paper.proofs.laws.Met.{Steps, first_made, next_made}

-- ---- there is one run only, for each reply is determined

one_next : (c : Calls) (l : List ℕ) (ms ns : List (List ℕ)) → NextRun c l ms → NextRun c l ns → ms ≡ ns
one_next c l [] [] r s = refl
one_next c l [] (n ∷ ns) r (t, q, s) = absurd (omega (whole, eq_num (negsuc 0) (pos t) (next_determined c l (negsuc 0) (pos t) l n r q).0))
one_next c l (m ∷ ms) [] (t, p, r) s = absurd (omega (whole, eq_num (negsuc 0) (pos t) (next_determined c l (negsuc 0) (pos t) l m s p).0))
one_next c l (m ∷ ms) (n ∷ ns) (t, p, r) (u, q, s) =
    let e : m ≡ n = (next_determined c l (pos t) (pos u) m n p q).1 in
    λ i. e i ∷ one_next c m ms ns r (rw e s) i

one_run : (c : Calls) (lent : List ℕ) (ls ms : List (List ℕ)) → Run c lent ls → Run c lent ms → ls ≡ ms
one_run c lent [] ms r s = absurd r
one_run c lent (l ∷ ls) [] r s = absurd s
one_run c lent (l ∷ ls) (m ∷ ms) (t, p, r) (u, q, s) =
    let e : l ≡ m = (first_determined c lent (pos t) (pos u) l m p q).1 in
    λ i. e i ∷ one_next c l ls ms r (rw e s) i

module _ (c : Calls) (R : Regular c) (lent : List ℕ) (accepted : Passed (c.first (length lent))) where
  abbrev b : Board
  b = c.problem.board

  S : Searchable c.problem
  S = R.searchable (length lent) accepted

  -- A sheet: a list that holds a best layout and keeps the rest of the lent list.
  abbrev Good : List ℕ → Type 0
  Good l = Kept (entries c) lent l × Best c.problem (held l)

  abbrev at : List (List ℕ) → ℕ → ℕ → ℕ
  at ls k = held (get_or ls k [])

  -- The calls leave sheets, the first and the next.
  first_is : (l : List ℕ) (t : ℕ) → FirstReplies c lent (pos t) l → FirstBest c.problem (held l) × Good l
  first_is l t p = let f = total-told c R.numbered lent l t p in (f.1, (f.3, f.1.best))

  next_is : (l m : List ℕ) (t : ℕ) → Good l → NextReplies c l (pos t) m → NextBest c.problem (held l) (held m) × Good m
  next_is l m t g p = let n = next_total-told c R.numbered l m t p in (n.1, (kept_trans (entries c) lent l m g.0 n.3, n.1.best))

  -- ---- what a run holds, from a sheet on

  -- best layouts, each after the sheet,
  later : (l : List ℕ) (ls : List (List ℕ)) → Good l → NextRun c l ls → (k : ℕ) → k < length ls → Before b (held l) (at ls k) × Best c.problem (at ls k)
  later l [] g r k h = absurd (omega arith)
  later l (m ∷ ls) g (t, n, r) zero h = let s = next_is l m t g n in (s.0.later, s.0.best)
  later l (m ∷ ls) g (t, n, r) (suc k) h =
      let s = next_is l m t g n in
      let q = later m ls s.1 r k (omega arith) in
      (before_trans b S.differ (held l) (held m) (at ls k) s.0.later q.0, q.1)

  -- in order,
  rising : (l : List ℕ) (ls : List (List ℕ)) → Good l → NextRun c l ls → (j k : ℕ) → j < k → k < suc (length ls) → Before b (at (l ∷ ls) j) (at (l ∷ ls) k)
  rising l [] g r j k h i = absurd (omega arith)
  rising l (m ∷ ls) g (t, n, r) j zero h i = absurd (omega arith)
  rising l (m ∷ ls) g (t, n, r) zero (suc k) h i = (later l (m ∷ ls) g (t, n, r) k (omega arith)).0
  rising l (m ∷ ls) g (t, n, r) (suc j) (suc k) h i = rising m ls (next_is l m t g n).1 r j k (omega arith) (omega arith)

  -- and every best one that is not before the sheet.
  abbrev In : List (List ℕ) → (ℕ → ℕ) → Type 0
  In ls f = (k : ℕ) × (k < length ls) × Same b (at ls k) f

  here_or_later : (l : List ℕ) (ls : List (List ℕ)) (f : ℕ → ℕ) → ¬ Before b f (held l) → (Before b (held l) f → In ls f)
      → Before b (held l) f ⊎ Same b (held l) f ⊎ Before b f (held l) → In (l ∷ ls) f
  here_or_later l ls f low rest (inl h) = let q = rest h in (suc q.0, omega (arith, q.1), q.2)
  here_or_later l ls f low rest (inr (inl same)) = (0, omega arith, same)
  here_or_later l ls f low rest (inr (inr h)) = absurd (low h)

  every : (l : List ℕ) (ls : List (List ℕ)) → Good l → NextRun c l ls → (f : ℕ → ℕ) → Best c.problem f → ¬ Before b f (held l) → In (l ∷ ls) f
  every l [] g r f best low = here_or_later l [] f low (λ h. absurd ((end_told c R.numbered l l r).1 f best h)) (before-total b (held l) f)
  every l (m ∷ ls) g (t, n, r) f best low =
      let s = next_is l m t g n in
      here_or_later l (m ∷ ls) f low (λ h. every m ls s.1 r f best (s.0.earliest f best h)) (before-total b (held l) f)

  -- In an order that rises no layout stands twice.
  once : (ls : List (List ℕ)) → ((j k : ℕ) → j < k → k < length ls → Before b (at ls j) (at ls k)) → (f : ℕ → ℕ) → In ls f → Once b f ls
  once ls up f (p, l, here) = record { place = p; inside = l; here = here; nowhere_else = λ k h s. go k h s (dec_lt k p) (dec_lt p k) }
    where
      clash : (j k : ℕ) → j < k → k < length ls → Same b (at ls j) f → Same b (at ls k) f → ⊥
      clash j k h i s t = before_irrefl b f (before_same b (at ls j) (at ls k) f f s t (up j k h i))

      go : (k : ℕ) → k < length ls → Same b (at ls k) f → Dec (k < p) → Dec (p < k) → k ≡ p
      go k h s (yes d) e = absurd (clash k p d l s here)
      go k h s (no d) (yes e) = absurd (clash p k e h here s)
      go k h s (no d) (no e) = omega arith

  -- ---- the end comes, for a layout's rank rises and has a top

  asks_on : (l : List ℕ) → Good l → (ls : List (List ℕ)) × NextRun c l ls
  asks_on l g =
      climbs b S.differ {X = (m : List ℕ) × Good m} (λ x. held x.0) (λ x. best_inside c.problem S (held x.0) x.1.1)
      (λ x. (ls : List (List ℕ)) × NextRun c x.0 ls)
      (λ x rest. go x.0 x.1 rest (next_made c R x.0 ((R.next_is x.0).1 (rw x.1.0.long accepted, x.1.1)))) (l, g)
    where
      go : (l : List ℕ) → Good l → ((y : (m : List ℕ) × Good m) → Before b (held l) (held y.0) → (ls : List (List ℕ)) × NextRun c y.0 ls)
          → Steps c R l → (ls : List (List ℕ)) × NextRun c l ls
      go l g rest (inr n) = ([], (Ok None, n, refl))
      go l g rest (inl (t, m, n)) =
          let s = next_is l m t g (Ok (Some t), n, refl) in
          let r = rest (m, s.1) s.0.later in
          (m ∷ r.0, (t, (Ok (Some t), n, refl), r.1))

  goes_on : (l : List ℕ) (ls : List (List ℕ)) → Good l → NextSoFar c l ls → (ms : List (List ℕ)) × NextRun c l (ls ++ ms)
  goes_on l [] g s = asks_on l g
  goes_on l (m ∷ ls) g (t, n, s) = let r = goes_on m ls (next_is l m t g n).1 s in (r.0, (t, n, r.1))

  run_on : (ls : List (List ℕ)) → SoFar c lent ls → (ms : List (List ℕ)) × Run c lent (ls ++ ms)
  run_on [] s =
      let (t, l, f) = first_made c R lent accepted in
      let r = asks_on l (f.3, f.1.best) in
      (l ∷ r.0, (t, (Ok (Some t), f, refl), r.1))
  run_on (l ∷ ls) (t, f, s) = let r = goes_on l ls (first_is l t f).1 s in (r.0, (t, f, r.1))

  -- ---- the theorem

  in_order : (ls : List (List ℕ)) → Run c lent ls → (j k : ℕ) → j < k → k < length ls → Before b (at ls j) (at ls k)
  in_order [] r = absurd r
  in_order (l ∷ ls) (t, f, r) = rising l ls (first_is l t f).1 r

  all_best : (ls : List (List ℕ)) → Run c lent ls → (k : ℕ) → k < length ls → Best c.problem (at ls k)
  all_best [] r k h = absurd r
  all_best (l ∷ ls) (t, f, r) zero h = (first_is l t f).0.best
  all_best (l ∷ ls) (t, f, r) (suc k) h = (later l ls (first_is l t f).1 r k (omega arith)).1

  found : (ls : List (List ℕ)) → Run c lent ls → (f : ℕ → ℕ) → Best c.problem f → In ls f
  found [] r f best = absurd r
  found (l ∷ ls) (t, p, r) f best = let s = first_is l t p in every l ls s.1 r f best (s.0.earliest f best)

  pub demand_3 : Demand3 c lent
  demand_3 = record {
    ends = run_on [] tt;
    goes_on = run_on;
    one = one_run c lent;
    every = λ ls r f best. once ls (in_order ls r) f (found ls r f best);
    only = all_best;
    rising = in_order;
  }

pub next_ends : (c : Calls) → Regular c → (list : List ℕ) → Passed (c.next list) → (ls : List (List ℕ)) × NextRun c list ls
next_ends c R list p =
    let (accepted, best) = (R.next_is list).0 p in
    asks_on c R list accepted list (record { long = refl; rest = λ k h. refl }, best)
