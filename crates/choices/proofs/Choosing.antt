-- Laws of the search for a port: the strip it looks in, and what `choose` finds there.
use mathlib.Core.Path.{◌≡◌, refl}
use mathlib.Core.Bool.{false}
use mathlib.Core.List.{List}
use Prim.Native.Nat.{ℕ, ◌≤◌, ◌<◌, max, zero-le}
use native.Mathlib.Omega.{arith}
use native.Mathlib.Decide.{dec_lt}
use lib.ListN.{length, get_or, take}
use Rattle.std.specs.Prelude.{Option, Some, None, MatchOption}
use Rattle.std.specs.Option.{IsSome, is_some}
use Rattle.strips.specs.Grid.{Grid}
use Rattle.strips.proofs.Prefix.{floor_most, ceil-least, ceil_le}
use Rattle.strips.specs.FirstNext.{At}
use Rattle.strips.proofs.FirstNext.{extends_choice, extends_full}
use Rattle.pads.specs.Pads.{Pads}
use Rattle.totals.specs.Cell.{Leads, NextPort}
use Rattle.places.specs.Places.{port_in}
use Rattle.choices.specs.Source.{Source, grid_on}
use Rattle.choices.specs.Choices.{ProperLists, Working, Ready, Begun, Chosen, Choice}
use Rattle.choices.specs.Memory.{first_port, end_port}
use Rattle.choices.specs.Lists.{listed}

-- Every pad lies above ports of the board only.
pub lows : {order lo hi : List ℕ} {p : ℕ} → Pads order lo hi p → (j : ℕ) → get_or lo j 0 ≤ p
lows P j = omega (arith, P.level j, P.top j)

-- The strip of the pad at place m is one to look in.
pub strip_ready : {order : List ℕ} {T : Source} {lo hi w : List ℕ} → Working order T lo hi w → (m : ℕ) → m < length order → Begun order T lo hi w m
    → Ready (grid_on order T lo hi) order T.ports m (first_port order lo w m) (end_port T.ports order hi w m)
strip_ready {order} {T} {lo} {hi} {w = w} W m inside E = record {
  ports = ceil_le (port_in w) (get_or hi (get_or order m 0) 0) (take m order) T.ports;
  listed = inside;
  here = record {
    low = floor_most (port_in w) (get_or lo (get_or order m 0) 0) (take m order) 0 (get_or lo (get_or order m 0) 0) zero-le (λ i n k. k);
    high = ceil-least (port_in w) (get_or hi (get_or order m 0) 0) (take m order) T.ports (get_or hi (get_or order m 0) 0)
        (W.proper.pads.top (get_or order m 0)) (λ i n k. k);
  };
  full = λ e. extends_full (grid_on order T lo hi) T.ports order (listed W.proper) m inside (port_in w) e E;
}

-- What `choose` finds in a strip a .. b - 1.
module _ (B : Grid) (order : List ℕ) (m a b from : ℕ) where
  pub choose_past : b ≤ max a from → Chosen (Leads B order m a b) from 128
  choose_past h = record {
    start = λ u. absurd (omega arith);
    found = λ u. absurd (omega arith);
    passed = λ i u v l. absurd (omega (arith, l.low, l.high));
  }

  module _ (q : ℕ) (N : NextPort (Leads B order m a b) (max a from) b q) where
    pub choose_none : b ≤ q → Chosen (Leads B order m a b) from 128
    choose_none h = record {
      start = λ u. absurd (omega arith);
      found = λ u. absurd (omega arith);
      passed = λ i u v l. N.passed i (omega (arith, l.low)) (omega (arith, l.high)) l;
    }

    pub choose_found : q < b → Chosen (Leads B order m a b) from q
    choose_found h = record {
      start = λ u. omega (arith, N.start);
      found = λ u. N.found h;
      passed = λ i u v l. N.passed i (omega (arith, l.low)) v l;
    }

  pub choose_next : b ≤ 128 → (r : Option ℕ)
      → MatchOption r (NextPort (Leads B order m a b) (max a from) b b) (λ q. NextPort (Leads B order m a b) (max a from) b q × (q < b))
      → Choice (Leads B order m a b) from r
  choose_next few None N = choose_none b N (omega arith)
  choose_next few (Some q) (N, h) = (choose_found q N h, omega arith)

-- An answer that is none.
pub choice_none : (Q : ℕ → Type 0) (from : ℕ) (r : Option ℕ) → is_some r ≡ false → Choice Q from r → Chosen Q from 128
choice_none Q from None e C = C
choice_none Q from (Some q) e C = cc

-- A port is below 128.
pub port_few : {order : List ℕ} {T : Source} {lo hi : List ℕ} (P : ProperLists order T lo hi) (w : List ℕ) (m r : ℕ)
    → At (grid_on order T lo hi) T.ports order (port_in w) m r → r < 128
port_few {order} {T} {lo} {hi} P w m r c =
    let u = ceil_le (port_in w) (get_or hi (get_or order m 0) 0) (take m order) T.ports in omega (arith, c.high, P.pads.ports)

-- A prefix of a best layout can go on.
pub chosen_some : {order : List ℕ} {T : Source} {lo hi : List ℕ} (w : List ℕ) (P : ProperLists order T lo hi) (m : ℕ) → m < length order
    → Begun order T lo hi w m → (q : ℕ) → Chosen (At (grid_on order T lo hi) T.ports order (port_in w) m) 0 q → q < 128
chosen_some {order} {T} {lo} {hi} w P m inside E q C = go (dec_lt q 128)
  where
    c : At (grid_on order T lo hi) T.ports order (port_in w) m (E.layout (get_or order m 0))
    c = extends_choice (grid_on order T lo hi) T.ports order (listed P) m inside (port_in w) E

    go : Dec (q < 128) → q < 128
    go (yes h) = h
    go (no h) = absurd (C.passed (E.layout (get_or order m 0)) zero-le (omega (arith, port_few P w m (E.layout (get_or order m 0)) c)) c)

pub choice_some : {order : List ℕ} {T : Source} {lo hi : List ℕ} (w : List ℕ) (P : ProperLists order T lo hi) (m : ℕ) → m < length order
    → Begun order T lo hi w m → (r : Option ℕ) → Choice (At (grid_on order T lo hi) T.ports order (port_in w) m) 0 r → IsSome r
choice_some w P m inside E None C = absurd (omega (arith, chosen_some w P m inside E 128 C))
choice_some w P m inside E (Some q) C = refl
