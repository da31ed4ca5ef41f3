-- Two numbers that are traded for each other. Assumes nothing.
use Rattle.std.specs.Prelude.{◌≡◌, refl, ◌≢◌, ℕ, ◌<◌}
use Rattle.std.proofs.Common.{sym, ap, ◌∙◌, arith}
use Rattle.std.proofs.Math.Logic.{ite}
use Rattle.std.proofs.Math.Decide.{ℕ_discrete}
use Rattle.numbers.specs.Trade.{trade}

-- What holds of i with j, of j with i and of every other number with itself holds of every number with the one that it is traded for.
pub traded : (R : ℕ → ℕ → Type 0) (i j : ℕ) → R i j → R j i → ((k : ℕ) → k ≢ i → k ≢ j → R k k) → (k : ℕ) → R k (trade i j k)
unfolding trade
traded R i j a b c k = go (ℕ_discrete k i) (ℕ_discrete k j)
  where
    go : (d : Dec (k ≡ i)) (e : Dec (k ≡ j)) → R k (ite d j (ite e i k))
    go (yes d) e = rw d a
    go (no d) (yes e) = rw e b
    go (no d) (no e) = c k d e

pub trade_left : (i j : ℕ) → trade i j i ≡ j
trade_left i j = traded (λ k l. k ≡ i → l ≡ j) i j (omega arith) (omega arith) (omega arith) i refl

pub trade_right : (i j : ℕ) → trade i j j ≡ i
trade_right i j = traded (λ k l. k ≡ j → l ≡ i) i j (omega arith) (omega arith) (omega arith) j refl

pub trade_other : (i j k : ℕ) → k ≢ i → k ≢ j → trade i j k ≡ k
trade_other i j = traded (λ k l. k ≢ i → k ≢ j → l ≡ k) i j (omega arith) (omega arith) (omega arith)

-- Trading twice is nothing.
pub trade_twice : (i j k : ℕ) → trade i j (trade i j k) ≡ k
trade_twice i j = traded (λ k l. trade i j l ≡ k) i j (trade_right i j) (trade_left i j) (trade_other i j)

-- So no two numbers are traded for one,
pub trade_own : (i j k l : ℕ) → trade i j k ≡ trade i j l → k ≡ l
trade_own i j k l e = sym (trade_twice i j k) ∙ ap (trade i j) e ∙ trade_twice i j l

-- and numbers below n are traded for such.
pub trade-below : (n i j : ℕ) → i < n → j < n → (k : ℕ) → k < n → trade i j k < n
trade-below n i j h l = traded (λ a c. a < n → c < n) i j (omega arith) (omega arith) (omega arith)
