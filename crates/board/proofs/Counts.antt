-- The laws of the ports below a height, as they are counted by halving.
use mathlib.Core.Path.{◌≡◌, ap}
use mathlib.Core.Logic.{◌≢◌}
use Prim.Native.Nat.{ℕ, ◌+◌, ◌≤◌, ◌<◌}
use native.Mathlib.Decide.{dec_lt}
use native.Mathlib.Omega.{arith}
use lib.IntN.{ℤ}
use lib.Signed.{◌≤ℤ◌, ◌<ℤ◌}
use Rattle.numbers.specs.Whole.{up, dn}
use Rattle.numbers.proofs.Whole.{whole, num_lt, num_eq, nlt_num}
use Rattle.board.specs.Lists.{Rises, Under, Upto}

-- While they are counted: the ports before s are below h, those from t on are not.
pub record Halved (p : ℕ) (port : ℕ → ℤ) (h : ℤ) (s t : ℕ) : Type 0 where
  pub low : s ≤ t
  pub high : t ≤ p
  pub under : (q : ℕ) → q < s → port q <ℤ h
  pub over : (q : ℕ) → t ≤ q → q < p → h ≤ℤ port q

-- At first nothing is known;
pub halved_none : {p : ℕ} {port : ℕ → ℤ} {h : ℤ} → Halved p port h 0 p
halved_none = record { low = omega arith; high = omega arith; under = λ q l. absurd (omega arith); over = λ q l m. absurd (omega arith) }

-- with a port below h all before it are,
pub halved_up : {p : ℕ} {port : ℕ → ℤ} {h : ℤ} {s t : ℕ} (m : ℕ) → Rises p port → Halved p port h s t → m < t → port m <ℤ h → Halved p port h (m + 1) t
halved_up {p} {port} {h} m rising H l below = record { low = omega arith; high = H.high; under = λ q k. go q k (dec_lt q m); over = H.over }
  where
    go : (q : ℕ) → q < m + 1 → Dec (q < m) → port q <ℤ h
    go q k (yes d) = omega (whole, rising q m d (omega (arith, H.high)))
    go q k (no d) = let e : q ≡ m = omega arith in rw e below

-- with a port that is not below h none after it is,
pub halved_down : {p : ℕ} {port : ℕ → ℤ} {h : ℤ} {s t : ℕ} (m : ℕ) → Rises p port → Halved p port h s t → s ≤ m → m < t → h ≤ℤ port m → Halved p port h s m
halved_down {p} {port} {h} m rising H k l above =
    record { low = k; high = omega (arith, H.high); under = H.under; over = λ q i n. go q i n (dec_lt m q) }
  where
    go : (q : ℕ) → m ≤ q → q < p → Dec (m < q) → h ≤ℤ port q
    go q i n (yes d) = omega (whole, rising m q d n)
    go q i n (no d) = let e : q ≡ m = omega arith in rw e above

-- and when no port is left they are counted.
pub halved_done : {p : ℕ} {port : ℕ → ℤ} {h : ℤ} {s t : ℕ} → Halved p port h s t → t ≤ s → Under p port h s
halved_done {p} {port} {h} {s} H l = record { top = omega (arith, H.low, H.high); which = λ q m. (H.under q, λ k. go q m k (dec_lt q s)) }
  where
    go : (q : ℕ) → q < p → port q <ℤ h → Dec (q < s) → q < s
    go q m k (yes d) = d
    go q m k (no d) = absurd (omega (whole, H.over q (omega arith) m))

-- Where the next port is not at h, no more are at h or below;
pub upto_same : (p : ℕ) (port : ℕ → ℤ) (h : ℤ) (c : ℕ) → Rises p port → Under p port h c → (c < p → port c ≢ h) → Upto p port h c
upto_same p port h c rising U n = record { top = U.top; which = λ q l. ((λ k. omega (whole, (U.which q l).0 k)), (λ k. go q l k (dec_lt q c) (dec_lt c q))) }
  where
    above : c < p → h <ℤ port c
    above l = strict (dec_lt (up h + dn (port c)) (up (port c) + dn h))
      where
        strict : Dec (up h + dn (port c) < up (port c) + dn h) → h <ℤ port c
        strict (yes d) = num_lt h (port c) d
        strict (no d) = absurd (n l (num_eq (port c) h (omega (arith, nlt_num (port c) h (λ k. omega (arith, (U.which c l).1 k))))))

    go : (q : ℕ) → q < p → port q ≤ℤ h → Dec (q < c) → Dec (c < q) → q < c
    go q l k (yes d) e = d
    go q l k (no d) (yes e) = absurd (omega (whole, above (omega arith), rising c q e l))
    go q l k (no d) (no e) = let s : q ≡ c = omega arith in absurd (omega (whole, above (omega arith), ap port s))

-- and where it is, one more.
pub upto_more : (p : ℕ) (port : ℕ → ℤ) (h : ℤ) (c : ℕ) → Rises p port → Under p port h c → c < p → port c ≡ h → Upto p port h (c + 1)
upto_more p port h c rising U m e = record { top = omega arith; which = λ q l. ((λ k. low q l k (dec_lt q c)), (λ k. high q l k (dec_lt c q))) }
  where
    low : (q : ℕ) → q < p → q < c + 1 → Dec (q < c) → port q ≤ℤ h
    low q l k (yes d) = omega (whole, (U.which q l).0 d)
    low q l k (no d) = let s : q ≡ c = omega arith in omega (whole, ap port s)

    high : (q : ℕ) → q < p → port q ≤ℤ h → Dec (c < q) → q < c + 1
    high q l k (yes d) = absurd (omega (whole, rising c q d l))
    high q l k (no d) = omega arith
