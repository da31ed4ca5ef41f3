-- Tests that try every assignment: whether a layout is untouching, before another, best, first, next and last. That they tell is proofs/laws/Trying.
use Rattle.std.specs.Prelude.{false, not, ◌&&◌, ◌||◌, leb, ltb, eqb}
use Rattle.std.proofs.Math.Bool.{Bool}
use mathlib.Core.List.{List, [], ◌∷◌, ◌++◌, map}
use Prim.Native.Nat.{ℕ, zero, suc}
use Rattle.paper.specs.Layouts.{Board, held}
use Rattle.paper.specs.Problem.{Problem}
use Rattle.paper.specs.laws.Tests.{somewhere, with_earlier, records_touch}

-- ---- all assignments

-- All lists of n entries below p: those that begin with a number below p and go on with a list of n - 1.
unfoldable pub heads : ℕ → List (List ℕ) → List (List ℕ)
heads zero ws = []
heads (suc q) ws = heads q ws ++ map (λ w. q ∷ w) ws

unfoldable pub words : ℕ → ℕ → List (List ℕ)
words zero p = [] ∷ []
words (suc n) p = heads p (words n p)

-- The list of f 0 to f (n - 1), its length and its entries.
unfoldable pub row : ℕ → (ℕ → ℕ) → List ℕ
row zero f = []
row (suc n) f = f 0 ∷ row n (λ i. f (suc i))

-- ---- tests, and what they say

-- Some list of ws passes.
unfoldable pub any : (List ℕ → Bool) → List (List ℕ) → Bool
any t [] = false
any t (w ∷ ws) = t w || any t ws

-- ---- a test of layouts, tried on every assignment

-- Some assignment passes t.
unfoldable pub some_word : Board → ((ℕ → ℕ) → Bool) → Bool
some_word b t = any (λ w. t (held w)) (words b.pads b.ports)

-- f passes t, and no assignment that passes t is less.
unfoldable pub least_test : Board → ((ℕ → ℕ) → (ℕ → ℕ) → Bool) → ((ℕ → ℕ) → Bool) → (ℕ → ℕ) → Bool
least_test b less t f = t f && not (some_word b (λ g. less g f && t g))

-- ---- untouching, and before

-- Pad i's port is none of the board's, or record i touches an earlier one. (On one port two leaders touch: no pad's port is another's.)
unfoldable pub misled : Board → (ℕ → ℕ) → ℕ → Bool
misled b f i = leb b.ports (f i) || with_earlier (records_touch b f) i

-- No pad is misled.
unfoldable pub untouching_test : Board → (ℕ → ℕ) → Bool
untouching_test b f = not (somewhere (misled b f) b.pads)

-- At some pad f has the smaller port number, and at no pad to the right of it do f and g differ.
unfoldable pub differ_right : Board → (ℕ → ℕ) → (ℕ → ℕ) → ℕ → ℕ → Bool
differ_right b f g i j = ltb (b.x i) (b.x j) && not (eqb (f j) (g j))

unfoldable pub decided_at : Board → (ℕ → ℕ) → (ℕ → ℕ) → ℕ → Bool
decided_at b f g i = ltb (f i) (g i) && not (somewhere (differ_right b f g i) b.pads)

unfoldable pub before_test : Board → (ℕ → ℕ) → (ℕ → ℕ) → Bool
before_test b f g = somewhere (decided_at b f g) b.pads

-- ---- best, first, next and last

-- g's value is smaller than f's.
unfoldable pub cheaper : Problem → (ℕ → ℕ) → (ℕ → ℕ) → Bool
cheaper p g f = ltb (p.value g) (p.value f)

-- It counts and has the least value; it is the earliest such.
unfoldable pub best_test : Problem → ((ℕ → ℕ) → Bool) → (ℕ → ℕ) → Bool
best_test p counts = least_test p.board (cheaper p) counts

unfoldable pub first_test : Problem → ((ℕ → ℕ) → Bool) → (ℕ → ℕ) → Bool
first_test p counts = least_test p.board (before_test p.board) (best_test p counts)

-- Best and after l; the earliest such; there is none such.
unfoldable pub later_test : Problem → ((ℕ → ℕ) → Bool) → (ℕ → ℕ) → (ℕ → ℕ) → Bool
later_test p counts l f = before_test p.board l f && best_test p counts f

unfoldable pub next_test : Problem → ((ℕ → ℕ) → Bool) → (ℕ → ℕ) → (ℕ → ℕ) → Bool
next_test p counts l = least_test p.board (before_test p.board) (later_test p counts l)

unfoldable pub last_test : Problem → ((ℕ → ℕ) → Bool) → (ℕ → ℕ) → Bool
last_test p counts l = not (some_word p.board (later_test p counts l))
