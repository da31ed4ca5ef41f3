-- The laws of the bars: which ports a square bars for a pad; and the bars as they are worked out, square by square, and for each square pad by pad.
use mathlib.Core.Path.{◌≡◌, ◌∙◌}
use mathlib.Core.Logic.Iff
use mathlib.Core.Logic.{◌≢◌, inl, inr, ⊎_elim, ◌↔◌}
use mathlib.Core.Bool.{Bool, true, false, cond, ◌&&◌}
use mathlib.Core.List.{List}
use Prim.Native.Nat.{ℕ, ◌+◌, ◌*◌, ◌≤◌, ◌<◌}
use native.Mathlib.Nat.{mul-le-mul_right, suc-mul}
use native.Mathlib.Decide.{dec_lt, dec_le}
use native.Mathlib.Omega.{arith}
use lib.Dec.{T, leb}
use lib.ListN.{length, get_or}
use lib.IntN.{ℤ}
use lib.Signed.{le_z, ◌≤ℤ◌}
use Rattle.numbers.proofs.Whole.{whole, plus_num, minus_num, nlt_num}
use Rattle.numbers.proofs.Tests.{and_iff, le_iff, leb_iff}
use Rattle.numbers.proofs.Filled.{place_in}
use Rattle.pads.specs.Counts.{le_or_lt}
use Rattle.paper.specs.Leaders.{Meets}
use Rattle.paper.specs.Layouts.{Board, leader, square}
use Rattle.paper.specs.laws.Squares.{OpenTo, UpTo, UnderTop, OverBottom}
use Rattle.paper.proofs.laws.Squares.{meets_cases}
use Rattle.slots.specs.Slots.{Shut}
use Rattle.slots.specs.Marks.{mark_in, mark_out}
use Rattle.board.specs.declared.bars.Square.{Square}
use Rattle.board.specs.Bars.{BarsOf, BarsTo, Unbarred, Clear, SquareOf}

-- ---- the ports that a square bars for a pad

-- The square of pad j bars for pad i the ports a .. c - 1, and no other.
pub record Run (b : Board) (i j a c : ℕ) : Type 0 where
  pub low : a ≤ c
  pub high : c ≤ b.ports
  pub which : (q : ℕ) → q < b.ports → ((a ≤ q) × (q < c)) ↔ Meets (leader b i q) (square b j)

-- From port a on a leader of pad i has a height that is no lower than the square's bottom; before port c it has one that is no higher than its top.
record From (b : Board) (i j a : ℕ) : Type 0 where
  pub inside : a ≤ b.ports
  pub which : (q : ℕ) → q < b.ports → (a ≤ q) ↔ OverBottom (leader b i q) (square b j)

record Before (b : Board) (i j c : ℕ) : Type 0 where
  pub inside : c ≤ b.ports
  pub which : (q : ℕ) → q < b.ports → (q < c) ↔ UnderTop (leader b i q) (square b j)

module _ (b : Board) (i j : ℕ) (s : Square) (S : SquareOf b j s) where
  -- The hand of pad i is beside the square.
  abbrev Near : Type 0
  Near = b.x i ≤ b.x j + b.half j

  -- A height is no lower than the bottom; no higher than the top.
  over : (z : ℤ) → (s.bottom ≤ℤ z) ↔ UpTo (b.y j) z (b.half j)
  over z =
      let e = minus_num (b.y j) s.half in
      ((λ h. omega (whole, e, S.bottom_is, S.half_is)), (λ h. omega (whole, e, S.bottom_is, S.half_is)))

  under : (z : ℤ) → (z ≤ℤ s.top) ↔ UpTo z (b.y j) (b.half j)
  under z =
      let e = plus_num (b.y j) s.half in
      ((λ h. omega (whole, e, S.top_is, S.half_is)), (λ h. omega (whole, e, S.top_is, S.half_is)))

  from_is : (t : Bool) → T t ↔ (Near × (s.bottom ≤ℤ b.y i)) → From b i j (cond t 0 s.from)
  from_is true f =
      let u = f.0 tt in
      record { inside = omega arith; which = λ q l. ((λ h. inr (u.0, (over (b.y i)).0 u.1)), (λ h. omega arith)) }
  from_is false f = record { inside = S.below.top; which = λ q l. (there q l, λ o. back q l o (dec_le s.from q)) }
    where
      there : (q : ℕ) → q < b.ports → s.from ≤ q → OverBottom (leader b i q) (square b j)
      there q l h = inl ((over (b.port q)).0 (omega (whole, nlt_num (b.port q) s.bottom (λ t. absurd (omega (arith, (S.below.which q l).1 t))))))

      back : (q : ℕ) → q < b.ports → OverBottom (leader b i q) (square b j) → Dec (s.from ≤ q) → s.from ≤ q
      back q l o (yes h) = h
      back q l (inl u) (no h) = absurd (omega (whole, (S.below.which q l).0 (omega arith), (over (b.port q)).1 u))
      back q l (inr (e, u)) (no h) = absurd (f.1 (e, (over (b.y i)).1 u))

  before_is : (t : Bool) → T t ↔ (Near × (b.y i ≤ℤ s.top)) → Before b i j (cond t b.ports s.to)
  before_is true f =
      let u = f.0 tt in
      record { inside = omega arith; which = λ q l. ((λ h. inr (u.0, (under (b.y i)).0 u.1)), (λ h. l)) }
  before_is false f = record { inside = S.reached.top; which = λ q l. ((λ h. inl ((under (b.port q)).0 ((S.reached.which q l).0 h))), back q l) }
    where
      back : (q : ℕ) → q < b.ports → UnderTop (leader b i q) (square b j) → q < s.to
      back q l (inl u) = (S.reached.which q l).1 ((under (b.port q)).1 u)
      back q l (inr (e, u)) = absurd (f.1 (e, (under (b.y i)).1 u))

  -- No port is below the bottom and above the top.
  ordered : {a c : ℕ} → From b i j a → Before b i j c → a ≤ c
  ordered {a} {c} A C = go (dec_le a c)
    where
      go : Dec (a ≤ c) → a ≤ c
      go (yes h) = h
      go (no h) =
          let l : c < b.ports = omega (arith, A.inside) in
          let low : ¬ UpTo (b.y j) (b.port c) (b.half j) = λ u. absurd (omega (arith, (A.which c l).1 (inl u))) in
          let high : ¬ UpTo (b.port c) (b.y j) (b.half j) = λ u. absurd (omega (arith, (C.which c l).1 (inl u))) in
          absurd (omega arith)

  -- LAW. Where the leader of pad i comes as far right as the square, the square bars the ports from `from` to the one before `to`; where the hand is beside it, from port 0
  -- if the pad is no lower than its bottom, and to the last port if the pad is no higher than its top.
  pub run_is : (x : ℕ) (y : ℤ) (p : ℕ) {a c : ℕ} → x ≡ b.x i → y ≡ b.y i → p ≡ b.ports → s.x ≤ x + s.half
      → a ≡ cond (leb x (s.x + s.half) && le_z s.bottom y) 0 s.from → c ≡ cond (leb x (s.x + s.half) && le_z y s.top) p s.to → Run b i j a c
  run_is x y p {a} {c} x_is y_is p-is reach a-is c-is = record {
    low = ordered A C;
    high = C.inside;
    which = λ q l.
        let cases = meets_cases (leader b i q) (square b j) in (
          (λ (h, k). cases.1 (omega (arith, S.x_is, S.half_is), ((C.which q l).0 k, (A.which q l).0 h))),
          (λ m. let u = cases.0 m in ((A.which q l).1 u.1.1, (C.which q l).1 u.1.0)),
        );
  }
    where
      beside : T (leb x (s.x + s.half)) ↔ Near
      beside =
          let e = leb_iff x (s.x + s.half) in
          ((λ t. omega (arith, e.0 t, S.x_is, S.half_is)), (λ h. e.1 (omega (arith, S.x_is, S.half_is))))

      A : From b i j a
      A =
          let t = le_z s.bottom (b.y i) in
          rw (a-is, y_is) (from_is (leb x (s.x + s.half) && t) (and_iff (leb x (s.x + s.half)) t beside (le_iff s.bottom (b.y i))))

      C : Before b i j c
      C =
          let t = le_z (b.y i) s.top in
          rw (c-is, y_is, p-is) (before_is (leb x (s.x + s.half) && t) (and_iff (leb x (s.x + s.half)) t beside (le_iff (b.y i) s.top)))

-- ---- the bars as they are worked out

-- Of n rows of p places, row i and c of its places are in the list.
pub row_in : {n p i c : ℕ} → i < n → c ≤ p → i * p + c ≤ n * p
row_in {n} {p} {i} h l = omega (arith, mul-le-mul_right p h, suc-mul i p)

-- A square that the leader does not meet, or that does not count for it, leaves it as it is.
open_more : (b : Board) (k i q : ℕ) → (k ≢ i → 0 < b.half k → ¬ Meets (leader b i q) (square b k)) → OpenTo b k i q ↔ OpenTo b (k + 1) i q
open_more b k i q n = ((λ o j l. go o j l (dec_lt j k)), (λ o j l. o j (omega arith)))
  where
    go : OpenTo b k i q → (j : ℕ) → j < k + 1 → Dec (j < k) → j ≢ i → 0 < b.half j → ¬ Meets (leader b i q) (square b j)
    go o j l (yes d) = o j d
    go o j l (no d) = let e : j ≡ k = omega arith in rw e n

-- At first no square has been looked at;
pub bars_none : (b : Board) {bars : List ℕ} → length bars ≡ b.pads * b.ports → Clear bars → BarsTo b 0 0 bars
bars_none b e zeros = record {
  long = e;
  passed = λ i q h l m. absurd (omega arith);
  rest = λ i q h l m. ((λ z j n. absurd (omega arith)), (λ o. zeros (i * b.ports + q)));
}

module _ (b : Board) (k m : ℕ) {w : List ℕ} (B : BarsTo b k m w) where
  -- for a pad of which no leader meets the square nothing changes;
  pub bars_skip : ((q : ℕ) → q < b.ports → k ≢ m → 0 < b.half k → ¬ Meets (leader b m q) (square b k)) → BarsTo b k (m + 1) w
  bars_skip n = record { long = B.long; passed = λ i q h l t. go i q h l t (dec_lt i m); rest = λ i q h l t. B.rest i q h l (omega arith) }
    where
      go : (i q : ℕ) → i < b.pads → q < b.ports → i < m + 1 → Dec (i < m) → Unbarred b w i q ↔ OpenTo b (k + 1) i q
      go i q h l t (yes d) = B.passed i q h l d
      go i q h l t (no d) = let e : m ≡ i = omega arith in Iff.trans (B.rest i q h l (omega arith)) (open_more b k i q (rw e at (n q l)))

  -- for another the run of ports is marked that it bars;
  pub bars_pad : {a c : ℕ} {v : List ℕ} → m < b.pads → k ≢ m → 0 < b.half k → Run b m k a c → Shut (m * b.ports + a) (m * b.ports + c) w v → BarsTo b k (m + 1) v
  bars_pad {a} {c} {v} inside other large R M = record {
    long = M.long ∙ B.long;
    passed = λ i q h l t. go i q h l t (dec_lt i m);
    rest = λ i q h l t. rw (kept i q h l (λ e. omega arith)) (B.rest i q h l (omega arith));
  }
    where
      in_list : (i q : ℕ) → i < b.pads → q < b.ports → i * b.ports + q < length w
      in_list i q h l = omega (arith, place_in b.pads b.ports i q h l, B.long)

      -- the other rows are as they were;
      kept : (i q : ℕ) → i < b.pads → q < b.ports → i ≢ m → get_or v (i * b.ports + q) 0 ≡ get_or w (i * b.ports + q) 0
      kept i q h l n = mark_out M (i * b.ports + q) (in_list i q h l) (λ (s, t).
          ⊎_elim (λ (d : m ≤ i). let after : m < i = omega arith in absurd (omega (arith, row_in after R.high))) (λ (d : i < m). absurd (omega (arith, place_in m b.ports i q d l)))
          (le_or_lt m i))

      -- of pad m's own row a byte outside the run is as it was,
      free : (q : ℕ) → q < b.ports → ¬ ((a ≤ q) × (q < c)) → Unbarred b v m q ↔ OpenTo b (k + 1) m q
      free q l n =
          rw (mark_out M (m * b.ports + q) (in_list m q inside l) (λ (s, t). n (omega arith, omega arith)))
          (Iff.trans (B.rest m q inside l (omega arith)) (open_more b k m q (λ x y t. n ((R.which q l).1 t))))

      -- and one in the run is 1.
      own : (q : ℕ) → q < b.ports → Dec (a ≤ q) → Dec (q < c) → Unbarred b v m q ↔ OpenTo b (k + 1) m q
      own q l (yes s) (yes t) =
          let one = mark_in M (m * b.ports + q) (in_list m q inside l) (omega arith) (omega arith) in
          ((λ z. absurd (omega arith)), (λ o. absurd (o k (omega arith) other large ((R.which q l).0 (s, t)))))
      own q l (no s) t = free q l (λ (r, u). s r)
      own q l (yes s) (no t) = free q l (λ (r, u). t u)

      go : (i q : ℕ) → i < b.pads → q < b.ports → i < m + 1 → Dec (i < m) → Unbarred b v i q ↔ OpenTo b (k + 1) i q
      go i q h l t (yes d) = rw (kept i q h l (λ e. omega arith)) (B.passed i q h l d)
      go i q h l t (no d) = let e : i ≡ m = omega arith in rw e (own q l (dec_le a q) (dec_lt q c))

  -- and when no pad is left the square has been looked at.
  pub bars_square : b.pads ≤ m → BarsTo b (k + 1) 0 w
  bars_square all = record { long = B.long; passed = λ i q h l t. absurd (omega arith); rest = λ i q h l t. B.passed i q h l (omega arith) }

-- A square of half-side 0 bars nothing.
pub bars_point : (b : Board) (k : ℕ) {w : List ℕ} → b.half k ≡ 0 → BarsTo b k 0 w → BarsTo b (k + 1) 0 w
bars_point b k z B = record {
  long = B.long;
  passed = λ i q h l t. absurd (omega arith);
  rest = λ i q h l t. Iff.trans (B.rest i q h l t) (open_more b k i q (λ n large. absurd (omega arith)));
}

-- When no square is left these are the bars.
pub bars_done : (b : Board) (n : ℕ) {w : List ℕ} → n ≡ b.pads → BarsTo b n 0 w → BarsOf b w
bars_done b n e B = record { long = B.long; at = λ i q h l. rw e at (B.rest i q h l (omega arith)) }
