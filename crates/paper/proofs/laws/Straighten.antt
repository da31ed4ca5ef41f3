-- STRAIGHTENING, for any cost and any rule of touching that obey `Uncross`: a layout becomes one in which no leader touches another, at no greater total.
-- While a leader touches that of a pad further left, the two pads swap their ports. This ends: the left pad's cost falls, and the right one's rises by no
-- more; so the sum of the costs, each times a weight that is the larger the further left its pad is, falls.
--     straighten
use Rattle.std.specs.Prelude.{◌≡◌, ◌≢◌, ◌⊎◌, ℕ, zero, suc, ◌+◌, ◌*◌, ◌-◌, ◌≤◌, ◌<◌}
use Rattle.std.proofs.Common.{ap, inl, inr, ⊎_elim, mul-le-mul_left, le_of_lt, arith}
use Rattle.std.proofs.Math.Decide.{dec_lt}
use Rattle.numbers.specs.Trade.{trade}
use Rattle.numbers.proofs.Trade.{trade_left, trade_right, trade_other, trade_own, trade-below}
use Rattle.paper.specs.Layouts.{Board, Layout, sum, total}
use Rattle.paper.proofs.laws.Totals.{term_le, sum_but_two}
use Rattle.paper.proofs.laws.Boards.{own_pad}
use Rattle.paper.proofs.laws.Order.{below_suc}

-- No leader touches that of a pad further left. Clear q j r: a leader on port q does not touch that of pad j, further left, on port r.
abbrev pub Free : Board → (ℕ → ℕ → ℕ → Type 0) → (ℕ → ℕ) → Type 0
Free b Clear f = (i j : ℕ) → i < b.pads → j < b.pads → b.x j < b.x i → Clear (f i) j (f j)

-- A pad on port a swaps with pad j, which is on port q: j's cost falls, and that of the two together does not rise, whichever pad i it is.
abbrev pub Gain : (ℕ → ℕ → ℕ) → ℕ → ℕ → ℕ → Type 0
Gain cost a j q = (cost j a < cost j q) × ((i : ℕ) → cost i q + cost j a ≤ cost i a + cost j q)

-- The law that straightening needs: a leader on port a does not touch that of pad j, further left, on another port q, or there is something to gain.
abbrev pub Uncross : Board → (ℕ → ℕ → ℕ) → (ℕ → ℕ → ℕ → Type 0) → Type 0
Uncross b cost Clear = (a j q : ℕ) → a < b.ports → q < b.ports → a ≢ q → Clear a j q ⊎ Gain cost a j q

-- From a function with the property P one comes to one that has R too, if a number falls from each that lacks R to another with P.
pub descend : {P R : (ℕ → ℕ) → Type 0} (size : (ℕ → ℕ) → ℕ) → ((f : ℕ → ℕ) → P f → R f ⊎ ((g : ℕ → ℕ) × P g × (size g < size f)))
    → (f : ℕ → ℕ) → P f → (g : ℕ → ℕ) × P g × R g
descend {P} {R} size try f p = within (suc (size f)) f p (omega arith)
  where
    within : (k : ℕ) (f : ℕ → ℕ) → P f → size f < k → (g : ℕ → ℕ) × P g × R g
    within zero f p l = absurd (omega arith)
    within (suc k) f p l = ⊎_elim (λ r. (f, p, r)) (λ (g, q, h). within k g q (omega arith)) (try f p)

-- P holds of every number below n, or else Q holds.
each_or : {P : ℕ → Type 0} {Q : Type 0} (n : ℕ) → ((i : ℕ) → i < n → P i ⊎ Q) → ((i : ℕ) → i < n → P i) ⊎ Q
each_or zero h = inl (λ i l. absurd (omega arith))
each_or {P} {Q} (suc n) h = go (h n (omega arith)) (each_or n (λ i l. h i (omega arith)))
  where
    go : P n ⊎ Q → ((i : ℕ) → i < n → P i) ⊎ Q → ((i : ℕ) → i < suc n → P i) ⊎ Q
    go (inr q) r = inr q
    go (inl p) (inr q) = inr q
    go (inl p) (inl ps) = inl (below_suc n ps p)

-- ---- two pads swap their ports

-- Their new costs stand in place of their old ones.
sum-trade : (cost : ℕ → ℕ → ℕ) (n i j : ℕ) (f : ℕ → ℕ) → i < n → j < n → i ≢ j
    → sum n (λ k. cost k (f (trade i j k))) + cost i (f i) + cost j (f j) ≡ sum n (λ k. cost k (f k)) + cost i (f j) + cost j (f i)
sum-trade cost n i j f l m ne =
    omega (
      arith,
      sum_but_two n i j (λ k. cost k (f (trade i j k))) (λ k. cost k (f k)) l m ne (λ k o a b. ap (λ t. cost k (f t)) (trade_other i j k a b)),
      ap (λ t. cost i (f t)) (trade_left i j),
      ap (λ t. cost j (f t)) (trade_right i j),
    )

-- The pad of the larger weight v has its cost fall from q to p, and the other's goes from s to r.
weights : (u v p q r s : ℕ) → u < v → p < q → r + p ≤ s + q → u * r + v * p < u * s + v * q
weights u v p q r s l h k =
    let e : v ≡ u + suc (v - suc u) = omega arith in
    rw e (omega (arith, mul-le-mul_left u k, mul-le-mul_left (v - suc u) (le_of_lt h)))

module _ (b : Board) (cost : ℕ → ℕ → ℕ) (Clear : ℕ → ℕ → ℕ → Type 0) (uncross : Uncross b cost Clear) where
  abbrev n : ℕ
  n = b.pads

  abbrev weight : ℕ → ℕ
  weight i = sum n b.x - b.x i

  abbrev potential : (ℕ → ℕ) → ℕ
  potential f = sum n (λ i. weight i * cost i (f i))

  -- A layout that costs no more than t, and less by weight than f.
  abbrev Better : ℕ → (ℕ → ℕ) → Type 0
  Better t f = (g : ℕ → ℕ) × (Layout b g × (total b cost g ≤ t)) × (potential g < potential f)

  module _ (t : ℕ) (f : ℕ → ℕ) (s : Layout b f) (most : total b cost f ≤ t) where
    -- Pads i and j swap their ports.
    swap : (i j : ℕ) → i < n → j < n → b.x j < b.x i → i ≢ j → Gain cost (f i) j (f j) → Better t f
    swap i j k l right ne gain = (λ a. f (trade i j a), (layout, omega (arith, sum-trade cost n i j f k l ne, gain.1 i)), falls)
      where
        below : (a : ℕ) → a < n → trade i j a < n
        below = trade-below n i j k l

        layout : Layout b (λ a. f (trade i j a))
        layout = record {
          inside = λ a m. s.inside (trade i j a) (below a m);
          own = λ a c m o e. omega (arith, trade_own i j a c (own_pad b f s (trade i j a) (trade i j c) (below a o) (below c (omega arith)) e));
        }

        falls : potential (λ a. f (trade i j a)) < potential f
        falls =
            omega (
              arith,
              sum-trade (λ a q. weight a * cost a q) n i j f k l ne,
              weights (weight i) (weight j) (cost j (f i)) (cost j (f j)) (cost i (f j)) (cost i (f i))
                  (omega (arith, term_le n b.x i k)) gain.0 (gain.1 i),
            )

    -- No leader touches another, or a swap makes the layout better.
    step : Free b Clear f ⊎ Better t f
    step = ⊎_elim (λ h. inl (λ i j k l. h i k j l)) inr (each_or n (λ i k. each_or n (λ j l. go i j k l (dec_lt (b.x j) (b.x i)))))
      where
        go : (i j : ℕ) → i < n → j < n → Dec (b.x j < b.x i) → (b.x j < b.x i → Clear (f i) j (f j)) ⊎ Better t f
        go i j k l (no m) = inl (λ o. absurd (m o))
        go i j k l (yes m) =
            let ne : i ≢ j = λ e. omega (arith, ap b.x e) in
            ⊎_elim (λ c. inl (λ o. c)) (λ g. inr (swap i j k l m ne g))
            (uncross (f i) j (f j) (s.inside i k) (s.inside j l) (λ e. ne (own_pad b f s i j k l e)))

  -- THEOREM. For every layout there is one in which no leader touches another, and whose total is not greater.
  pub straighten : (f : ℕ → ℕ) → Layout b f → (g : ℕ → ℕ) × Layout b g × Free b Clear g × (total b cost g ≤ total b cost f)
  straighten f s =
      let r = descend {P = λ g. Layout b g × (total b cost g ≤ total b cost f)} potential (λ g p. step (total b cost f) g p.0 p.1) f (s, omega arith) in
      (r.0, r.1.0, r.2, r.1.1)
