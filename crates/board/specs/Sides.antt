-- A pad among the ports: counted sides say which leaders do not touch.
use Rattle.std.specs.Prelude.{◌≡◌, ◌⊎◌, ◌↔◌, ℕ, ◌+◌, ◌≤◌, ◌<◌, ℤ, ◌<ℤ◌}
use Rattle.std.proofs.Common.{inl, inr, arith}
use Rattle.std.proofs.Math.Decide.{dec_lt, dec_le}
use Rattle.numbers.proofs.Whole.{whole, nlt_num}
use Rattle.paper.specs.Leaders.{Between}
use Rattle.paper.proofs.laws.Touching.{between_end}
use Rattle.board.specs.Lists.{Rises, Under, Upto}

-- A pad of the height y with l ports strictly below it and u at its height or below.
module _ (p : ℕ) (port : ℕ → ℤ) (rising : Rises p port) {y : ℤ} {l u : ℕ}
    (L : Under p port y l) (U : Upto p port y u) where
  -- No port is both below it and above it.
  pub low_high : l ≤ u
  low_high = go (dec_le l u)
    where
      go : Dec (l ≤ u) → l ≤ u
      go (yes h) = h
      go (no h) =
          let k : u < p = omega (arith, L.top) in
          let t : port u <ℤ y = (L.which u k).0 (omega arith) in
          absurd (omega (arith, (U.which u k).1 (omega whole)))

  -- One port at most is at its height.
  pub narrow : u ≤ l + 1
  narrow = go (dec_le u (l + 1))
    where
      go : Dec (u ≤ l + 1) → u ≤ l + 1
      go (yes h) = h
      go (no h) =
          let k : l + 1 < p = omega (arith, U.top) in
          let at : ¬ (port l <ℤ y) = λ t. absurd (omega (arith, (L.which l (omega arith)).1 t)) in
          absurd (omega (whole, (U.which (l + 1) k).0 (omega arith), nlt_num (port l) y at, rising l (l + 1) (omega arith) k))

  -- The height of port q is not between the pad's and that of port r exactly if port q is below both or above both.
  pub clear_iff : (q r : ℕ) → q < p → r < p
      → (((q < l) × (q < r)) ⊎ ((u ≤ q) × (r < q))) ↔ (¬ Between (port q) y (port r))
  clear_iff q r k m = (apart, λ n. pick n (dec_lt q r) (dec_lt r q))
    where
      apart : ((q < l) × (q < r)) ⊎ ((u ≤ q) × (r < q)) → ¬ Between (port q) y (port r)
      apart (inl (c, d)) (inl (s, t)) = absurd (omega (whole, (L.which q k).0 c))
      apart (inl (c, d)) (inr (s, t)) = absurd (omega (whole, rising q r d m))
      apart (inr (c, d)) (inl (s, t)) = absurd (omega (whole, rising r q d k))
      apart (inr (c, d)) (inr (s, t)) = absurd (omega (arith, (U.which q k).1 t))

      pick : (¬ Between (port q) y (port r)) → Dec (q < r) → Dec (r < q) → ((q < l) × (q < r)) ⊎ ((u ≤ q) × (r < q))
      pick n (yes d) e = inl (under (dec_lt q l), d)
        where
          under : Dec (q < l) → q < l
          under (yes h) = h
          under (no h) = absurd (n (inl (omega (whole, nlt_num (port q) y (λ t. h ((L.which q k).1 t))), omega (whole, rising q r d m))))
      pick n (no d) (yes e) = inr (over (dec_le u q), e)
        where
          over : Dec (u ≤ q) → u ≤ q
          over (yes h) = h
          over (no h) = absurd (n (inr (omega (whole, rising r q e k), (U.which q k).0 (omega arith))))
      pick n (no d) (no e) = let e : q ≡ r = omega arith in absurd (n (rw e (between_end y (port r))))
