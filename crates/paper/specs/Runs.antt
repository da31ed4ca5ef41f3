-- DEFINITIONS. Demand 3: "taking the first sheet and then asking for the next until the end is reported gives every sheet with untouching leaders
-- and least total, each exactly once, in the order that the specification fixes, and no other sheet." And a page by calls of Next. Said of any calls.
use Rattle.std.specs.Prelude.{◌≡◌, ◌⊎◌, List, [], ◌∷◌, ◌++◌, ℕ, zero, suc, ◌+◌, ◌*◌, ◌≤◌, ◌<◌, length, get_or, ℤ, pos, negsuc, neg_ℤ, ◌≤ℤ◌}
use Rattle.paper.specs.Layouts.{Board, held}
use Rattle.paper.specs.Problem.{Best, Before}
use Rattle.paper.specs.Refusals.{Calls, entries}
use Rattle.paper.specs.Promises.{Kept, in_turn, FirstReplies, NextReplies}

-- Asked for the next again and again, the call leaves these lists one after the other, and then answers end (-1).
abbrev pub NextRun : Calls → List ℕ → List (List ℕ) → Type 0
NextRun c list [] = NextReplies c list (negsuc 0) list
NextRun c list (l ∷ ls) = (t : ℕ) × NextReplies c list (pos t) l × NextRun c l ls

-- The first sheet, and then the next until the end is reported.
abbrev pub Run : Calls → List ℕ → List (List ℕ) → Type 0
Run c list [] = ⊥
Run c list (l ∷ ls) = (t : ℕ) × FirstReplies c list (pos t) l × NextRun c l ls

-- The same for a caller who has not come to the end yet.
abbrev pub NextSoFar : Calls → List ℕ → List (List ℕ) → Type 0
NextSoFar c list [] = Unit {0}
NextSoFar c list (l ∷ ls) = (t : ℕ) × NextReplies c list (pos t) l × NextSoFar c l ls

abbrev pub SoFar : Calls → List ℕ → List (List ℕ) → Type 0
SoFar c list [] = Unit {0}
SoFar c list (l ∷ ls) = (t : ℕ) × FirstReplies c list (pos t) l × NextSoFar c l ls

-- First, and then k times Next: the number that the last of these calls answers, and the list that it leaves.
abbrev pub AskedTo : Calls → List ℕ → ℕ → ℤ → List ℕ → Type 0
AskedTo c list zero m l = FirstReplies c list m l
AskedTo c list (suc k) m l = (t : ℕ) × (g : List ℕ) × AskedTo c list k (pos t) g × NextReplies c g m l

-- One of these lists holds the layout f, and no other does.
pub record Once (b : Board) (f : ℕ → ℕ) (ls : List (List ℕ)) : Type 0 where
  pub place : ℕ
  pub inside : place < length ls
  pub here : (i : ℕ) → i < b.pads → held (get_or ls place []) i ≡ f i
  pub nowhere_else : (k : ℕ) → k < length ls → ((i : ℕ) → i < b.pads → held (get_or ls k []) i ≡ f i) → k ≡ place

pub record Demand3 (c : Calls) (list : List ℕ) : Type 0 where
  -- The end comes, and it comes however far one has asked;
  pub ends : (ls : List (List ℕ)) × Run c list ls
  pub goes_on : (ls : List (List ℕ)) → SoFar c list ls → (ms : List (List ℕ)) × Run c list (ls ++ ms)
  -- there is one run only;
  pub one : (ls ms : List (List ℕ)) → Run c list ls → Run c list ms → ls ≡ ms
  -- it gives every best layout, each exactly once,
  pub every : (ls : List (List ℕ)) → Run c list ls → (f : ℕ → ℕ) → Best c.problem f → Once c.problem.board f ls
  -- no other,
  pub only : (ls : List (List ℕ)) → Run c list ls → (k : ℕ) → k < length ls → Best c.problem (held (get_or ls k []))
  -- and in order.
  pub rising : (ls : List (List ℕ)) → Run c list ls
      → (j k : ℕ) → j < k → k < length ls → Before c.problem.board (held (get_or ls j [])) (held (get_or ls k []))

-- ---- a page by calls of Next (02: "The result, and its refusals, are the same as from that many calls of Next")

-- Asked of this list, Next answers a total, or the end: it refuses nothing.
abbrev pub NotRefused : Calls → List ℕ → Type 0
NotRefused c list = ((t : ℕ) × (l : List ℕ) × NextReplies c list (pos t) l) ⊎ NextReplies c list (negsuc 0) list

pub record ByNext (c : Calls) (given before : List ℕ) (k : ℕ) (after : List ℕ) : Type 0 where
  -- Next refuses nothing of the given list. Asked k times it leaves these lists one after the other,
  pub accepted : NotRefused c given
  pub lists : List (List ℕ)
  pub asked : NextSoFar c given lists
  pub many : length lists ≡ k
  -- the page has the first n entries of each, and keeps the rest;
  pub fit : k * entries c ≤ length before
  pub copied : (j i : ℕ) → j < k → i < entries c → held after (j * entries c + i) ≡ held (get_or lists j []) i
  pub kept : Kept (k * entries c) before after
  -- and there is no room for one layout more, or Next, asked once more, answers end (-1).
  pub all : (length before < suc k * entries c) ⊎ NextReplies c (get_or (given ∷ lists) k []) (negsuc 0) (get_or (given ∷ lists) k [])

-- The number and the page that calls of Next would give; or Next's refusal of the given list (-65,536 or less), and the page as it was.
abbrev pub PageByNext : Calls → List ℕ → List ℕ → ℤ → List ℕ → Type 0
PageByNext c given before m after =
    ((k : ℕ) × (m ≡ pos k) × ByNext c given before k after)
    ⊎ ((m ≤ℤ neg_ℤ (pos 65536)) × NextReplies c given m given × (after ≡ before))

-- Next, asked on and on from the given list, leaves the lists ms. A page of k layouts and paging on:
pub record PagedOn (c : Calls) (given before : List ℕ) (ms : List (List ℕ)) (k : ℕ) (after : List ℕ) : Type 0 where
  -- the page has the layouts of the first k of these lists,
  pub within : k ≤ length ms
  pub copied : (j i : ℕ) → j < k → i < entries c → held after (j * entries c + i) ≡ held (get_or ms j []) i
  -- and is full, if there are more;
  pub full : k < length ms → length before < suc k * entries c
  -- asked on from any list that holds the last of them (for k = 0, the given one), Next gives the others, each once and in order.
  pub rest : (last : List ℕ) → entries c ≤ length last → ((i : ℕ) → i < entries c → held last i ≡ in_turn (entries c) given after k i)
      → (ns : List (List ℕ)) × NextRun c last ns × (k + length ns ≡ length ms)
      × ((j i : ℕ) → j < length ns → i < entries c → held (get_or ns j []) i ≡ held (get_or ms (k + j) []) i)
