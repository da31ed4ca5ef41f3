-- Laws of the whole board as a strip: its number is the count.
use mathlib.Core.Path.{◌≡◌, refl, ap, ◌∙◌}
use mathlib.Core.List.{List}
use Prim.Native.Nat.{ℕ, ◌+◌, ◌-◌, ◌≤◌, ◌<◌, zero-le}
use native.Mathlib.Omega.{arith}
use lib.ListN.{length, get_or}
use Rattle.strips.proofs.Lists.{keep_same}
use Rattle.strips.specs.Least.{Least, some}
use Rattle.strips.proofs.Least.{at_most_is}
use Rattle.strips.specs.Grid.{Grid, best}
use Rattle.strips.proofs.Strips.{sound}
use Rattle.strips.specs.Prefix.{lies}
use Rattle.strips.proofs.Prefix.{lies_yes}
use Rattle.strips.specs.FirstNext.{Listed}
use Rattle.ways.specs.Count.{many}
use Rattle.ways.proofs.Ranks.{count_is, count_one}
use Rattle.numbers.specs.Arrangement.{Arrangement}
use Rattle.pads.specs.Pads.{Pads, sides_of}
use Rattle.totals.specs.Strip.{grid}
use Rattle.pads.specs.declared.Lists.{Lists}
use Rattle.totals.specs.Cell.{corner_of}
use Rattle.counting.proofs.Buffers.{marked_same}
use Rattle.choices.specs.Lists.{distinct}
use Rattle.counting.specs.Counting.{limit, capped, costed, SetsOf, CountOf, Countable, Ready, Solvable, pads_from, Solved, StripCount, CountIs, Walkable, Placeable, WalkIs, FoundIs, PastIs, AboveIs}

-- A proper board is one that the theory of strips speaks of.
pub listed : {order lo hi : List ℕ} → Pads order lo hi (length order) → Arrangement (length order) order → (C : ℕ → ℕ → Least)
    → Listed (grid (sides_of lo hi) C) (length order) order
listed P A C = record { lawful = P.level; distinct = distinct A; lie = λ j m. record { low = zero-le; high = P.top j } }

module _ {B : Grid} {order : List ℕ} (L : Listed B (length order) order) (S : Solvable B order) where
  pub some_best : (u : ℕ) × (best B order 0 (length order) ≡ some u)
  some_best = let t = at_most_is (best B order 0 (length order)) (sound B L.lawful order 0 (length order) S.0 S.1) in (t.0, t.1)

  -- All pads lie among all ports.
  all_pads : pads_from B order 0 (length order) 0 ≡ order
  all_pads = keep_same (lies B 0 (length order)) order (λ j m. lies_yes B 0 (length order) j (L.lie j m))

  full : length (pads_from B order 0 (length order) 0) ≡ length order - 0
  full = let e = ap length all_pads in omega arith

  pub whole_solved : Solved B order 0 (length order)
  whole_solved = record {
    low = zero-le;
    high = omega arith;
    place = 0;
    inside = zero-le;
    full = full;
    total = some_best.0;
    least = ap (λ (js : List ℕ). best B js 0 (length order)) all_pads ∙ some_best.1;
  }

  -- The number of the whole strip, as the code tells it.
  pub whole_count : (c : ℕ) → StripCount B order 0 (length order) c → CountIs B order c
  whole_count c N = record {
    number = many B (length order) order 0 (length order);
    is = count_is B (length order) order L some_best.0 some_best.1;
    told = N.is 0 zero-le full ∙ ap (λ (js : List ℕ). capped (many B (length order) js 0 (length order))) all_pads;
  }

-- The front of a lent buffer that is ready has the board's sets: ..
pub ready_sets : {l : Lists} {C : ℕ → ℕ → Least} {bf ms : List ℕ} → Ready l C bf → length ms ≡ corner_of (length l.order.now + 1)
    → ((i : ℕ) → i < corner_of (length l.order.now + 1) → get_or ms i 0 ≡ get_or bf i 0) → SetsOf (costed l C) l.order.now ms
ready_sets R long same = record { long = long; marked = marked_same same R.marked }

-- .. the whole can be counted, and its number is the count.
module _ {l : Lists} {C : ℕ → ℕ → Least} {bf ms : List ℕ} (R : Ready l C bf) (S : SetsOf (costed l C) l.order.now ms) where
  all_solved : Solved (costed l C) l.order.now 0 (length l.order.now)
  all_solved = whole_solved R.marked.listed R.solvable

  pub ready_countable : Countable ms 0 (length l.order.now)
  ready_countable = record { board = _; order = l.order.now; sets = S; solved = all_solved }

  pub ready_count : (c : ℕ) → CountOf ms 0 (length l.order.now) c → CountIs (costed l C) l.order.now c
  ready_count c N = whole_count R.marked.listed R.solvable c (N (costed l C) l.order.now S all_solved)

-- ---- what is told of the count

module _ {B : Grid} {order : List ℕ} (c : ℕ) (N : CountIs B order c) where
  pub count_above : (w : List ℕ) → c ≡ limit + 1 → AboveIs B order w w
  count_above w e = record { number = N.number; is = N.is; above = omega (arith, N.told); same = refl }

  module _ (exact : c ≡ limit + 1 → ⊥) where
    count-number : c ≡ N.number
    count-number = omega (arith, N.told)

    pub count_past : (w : List ℕ) (k : ℕ) → c ≤ k → PastIs B order w k w
    count_past w k h = record { number = N.number; is = N.is; few = omega (arith, N.told); past = omega (arith, count-number); same = refl }

    pub count_walkable : (k : ℕ) → Listed B (length order) order → Solvable B order → k < c → Walkable B order c k
    count_walkable k L S h = record {
      number = let t = some_best L S in count-number ∙ count_one B (length order) order L t.0 t.1 N.number N.is;
      few = omega (arith, N.told);
      inside = h;
    }

    pub count_found : (w : List ℕ) (k : ℕ) (v : List ℕ) → k < c → WalkIs B order w k v → FoundIs B order w k v
    count_found w k v h W = record {
      number = N.number;
      is = N.is;
      few = omega (arith, N.told);
      inside = omega (arith, count-number);
      at = W.at;
      kept = W.kept;
    }

-- So there is a layout at each place below it.
pub count_placeable : {l : Lists} {C : ℕ → ℕ → Least} {bf ms : List ℕ} → Ready l C bf → SetsOf (costed l C) l.order.now ms → (c : ℕ)
    → CountIs (costed l C) l.order.now c → (c ≡ limit + 1 → ⊥) → (k : ℕ) → k < c → Placeable l C ms c k
count_placeable R S c N exact k h = record { sets = S; solvable = R.solvable; walkable = count_walkable c N exact k R.marked.listed R.solvable h }
