-- A layout's rank: how many assignments come before it. It rises with 01's order and has a top, so that the order can be climbed only finitely often.
--     rank_rises, rank_top, climbs
use Rattle.std.specs.Prelude.{refl, Bool, true, false, ℕ, zero, suc, ◌+◌, ◌<◌, ◌≤◌, T, length}
use Rattle.std.proofs.Common.{sym}
use Rattle.std.proofs.Math.Logic.{⊎_elim}
use mathlib.Core.List.Memᴰ
use mathlib.Core.List.{List, [], ◌∷◌, Memᴰ}
use native.Mathlib.Omega.{arith}
use Rattle.paper.specs.Layouts.{Board, held, Differ}
use Rattle.paper.specs.Problem.{Before}
use Rattle.paper.proofs.laws.Order.{before_irrefl, before_trans, before_same}
use Rattle.paper.specs.laws.Trying.{words, row, before_test}
use Rattle.paper.proofs.laws.Trying.{words_all, row-at, before_iff}

-- How many members of ws pass: 1 for each.
abbrev pub tally : Bool → ℕ
tally true = 1
tally false = 0

unfoldable pub how_many : (List ℕ → Bool) → List (List ℕ) → ℕ
how_many t [] = 0
how_many t (w ∷ ws) = tally (t w) + how_many t ws

tally_le : (a c : Bool) → (T a → T c) → tally a ≤ tally c
tally_le true true h = omega arith
tally_le true false h = absurd (h tt)
tally_le false c h = omega arith

tally_lt : (a c : Bool) → ¬ T a → T c → tally a < tally c
tally_lt true c n h = absurd (n tt)
tally_lt false true n h = omega arith
tally_lt false false n h = absurd h

tally_top : (a : Bool) → tally a ≤ 1
tally_top true = omega arith
tally_top false = omega arith

most : (t : List ℕ → Bool) (ws : List (List ℕ)) → how_many t ws ≤ length ws
unfolding how_many
most t [] = omega arith
most t (w ∷ ws) = omega (arith, tally_top (t w), most t ws)

module _ (s t : List ℕ → Bool) (more : (w : List ℕ) → T (s w) → T (t w)) where
  more_le : (ws : List (List ℕ)) → how_many s ws ≤ how_many t ws
  unfolding how_many
  more_le [] = omega arith
  more_le (w ∷ ws) = omega (arith, tally_le (s w) (t w) (more w), more_le ws)

  more_lt : (ws : List (List ℕ)) (w : List ℕ) → Memᴰ w ws → ¬ T (s w) → T (t w) → how_many s ws < how_many t ws
  unfolding how_many
  more_lt [] w m n h = absurd (Memᴰ.not-nil m)
  more_lt (v ∷ ws) w m n h =
      ⊎_elim
      (λ e. omega (arith, tally_lt (s v) (t v) (rw e at n) (rw e at h), more_le ws))
      (λ k. omega (arith, tally_le (s v) (t v) (more v), more_lt ws w k n h))
      (Memᴰ.cases_cons m)

-- How many assignments come before f.
unfoldable pub rank : Board → (ℕ → ℕ) → ℕ
rank b f = how_many (λ w. before_test b (held w) f) (words b.pads b.ports)

-- THEOREM. It is at most the number of all assignments, and rises with the order.
pub rank_top : (b : Board) (f : ℕ → ℕ) → rank b f ≤ length (words b.pads b.ports)
unfolding rank
rank_top b f = most (λ w. before_test b (held w) f) (words b.pads b.ports)

pub rank_rises : (b : Board) → Differ b → (f g : ℕ → ℕ) → ((i : ℕ) → i < b.pads → f i < b.ports) → Before b f g → rank b f < rank b g
unfolding rank
rank_rises b differ f g inside h =
    more_lt (λ w. before_test b (held w) f) (λ w. before_test b (held w) g)
    (λ w e. (before_iff b (held w) g).1 (before_trans b differ (held w) f g ((before_iff b (held w) f).0 e) h))
    (words b.pads b.ports) r (words_all b.pads b.ports f inside)
    (λ e. before_irrefl b f (before_same b (held r) f f f (row-at b.pads f) (λ i l. refl) ((before_iff b (held r) f).0 e)))
    ((before_iff b (held r) g).1 (before_same b f g (held r) g (λ i l. sym (row-at b.pads f i l)) (λ i l. refl) h))
  where
    r : List ℕ
    r = row b.pads f

-- THEOREM. So what holds of x if it holds of all that come after x, holds of each.
module _ (b : Board) (differ : Differ b) {X : Type 0} (at : X → ℕ → ℕ) (inside : (x : X) (i : ℕ) → i < b.pads → at x i < b.ports) (P : X → Type 0)
    (step : (x : X) → ((y : X) → Before b (at x) (at y) → P y) → P x) where
  climb : (k : ℕ) (x : X) → length (words b.pads b.ports) < rank b (at x) + k → P x
  climb zero x h = absurd (omega (arith, rank_top b (at x)))
  climb (suc k) x h = step x (λ y l. climb k y (omega (arith, rank_rises b differ (at x) (at y) (inside x) l)))

  pub climbs : (x : X) → P x
  climbs x = climb (suc (length (words b.pads b.ports))) x (omega arith)
