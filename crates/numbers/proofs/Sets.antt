-- A set of small numbers as one number: its binary digit q says whether q is in it. And how code goes through such a set, from its least number on. Assumes nothing.
use Rattle.std.specs.Prelude.{◌≡◌, ◌⊎◌, Bool, true, false}
use Rattle.std.proofs.Math.Path.{refl, ap}
use Rattle.std.proofs.Common.{sym, ◌∙◌, inl, inr, ⊎_elim, add-one, mul_assoc, mul_comm, mul-add, pow_pos, pow-add}
use Rattle.std.proofs.Math.Bool.{cond}
use Prim.Native.Nat.{ℕ, zero, suc, ◌+◌, ◌-◌, ◌*◌, ◌/◌, ◌%◌, ◌^◌, ◌≤◌, ◌<◌}
use native.Mathlib.Omega.{arith}
use Rattle.std.proofs.Math.Nat.{pow-suc, mod_self, add-zero}
use Rattle.std.proofs.Math.Decide.{dec_lt}
use Rattle.std.proofs.Math.Pow.{pow-lt}
use Rattle.std.specs.Int.Bits.{bit_and, and_self}
use Rattle.std.proofs.lemmas.Nat.{and_block, and_mask}
use Rattle.std.specs.Int.Count.{count_trailing_zeros, under}
use Rattle.numbers.specs.Sets.{set_of, NextIn}

module _ (p : ℕ → Bool) where
  pub set_end : (b : ℕ) → set_of p (b + 1) ≡ set_of p b + cond (p b) (2 ^ b) 0
  unfolding set_of
  set_end b = ap (set_of p) (add-one b)

  pub set_with : (b : ℕ) → p b ≡ true → set_of p (b + 1) ≡ set_of p b + 2 ^ b
  set_with b e = set_end b ∙ ap (λ (x : Bool). set_of p b + cond x (2 ^ b) 0) e

  pub set_without : (b : ℕ) → p b ≡ false → set_of p (b + 1) ≡ set_of p b
  set_without b e = set_end b ∙ ap (λ (x : Bool). set_of p b + cond x (2 ^ b) 0) e ∙ add-zero (set_of p b)

  digit_small : (x : Bool) (b : ℕ) → cond x (2 ^ b) 0 ≤ 2 ^ b
  digit_small true b = omega arith
  digit_small false b = omega arith

  pub set_small : (b : ℕ) → set_of p b < 2 ^ b
  unfolding set_of
  set_small zero = omega arith
  set_small (suc b) = let s = set_small b in let d = digit_small (p b) b in let e = pow-suc 2 b in omega arith

  pub set_none : (b : ℕ) → ((q : ℕ) → q < b → p q ≡ false) → set_of p b ≡ 0
  unfolding set_of
  set_none zero h = refl
  set_none (suc b) h = ap (λ (x : Bool). set_of p b + cond x (2 ^ b) 0) (h b (omega arith)) ∙ add-zero (set_of p b) ∙ set_none b (λ q u. h q (omega arith))

  -- from k on, d numbers of which p says no
  set-skip : (k d : ℕ) → ((q : ℕ) → k ≤ q → q < k + d → p q ≡ false) → set_of p (k + d) ≡ set_of p k
  set-skip k zero h = ap (set_of p) (add-zero k)
  set-skip k (suc d) h =
      let e : k + suc d ≡ k + d + 1 = omega arith in
      ap (set_of p) e ∙ set_without (k + d) (h (k + d) (omega arith) (omega arith)) ∙ set-skip k d (λ q u v. h q u (omega arith))

  -- the digits from k on are a multiple of 2 ^ k
  part : (x : Bool) (k d : ℕ) → cond x (2 ^ (k + d)) 0 ≡ 2 ^ k * cond x (2 ^ d) 0
  part true k d = pow-add 2 k d
  part false k d = let z : 2 ^ k * 0 ≡ 0 = omega arith in sym z

  set_high : (k d : ℕ) → (m : ℕ) × (set_of p (k + d) ≡ set_of p k + 2 ^ k * m)
  set_high k zero = (0, ap (set_of p) (add-zero k) ∙ (let z : 2 ^ k * 0 ≡ 0 = omega arith in omega arith))
  set_high k (suc d) =
      let ih = set_high k d in
      let e : k + suc d ≡ k + d + 1 = omega arith in
      let t = ap (set_of p) e ∙ set_end (k + d) in
      let u = part (p (k + d)) k d in
      let v = mul-add (2 ^ k) ih.0 (cond (p (k + d)) (2 ^ d) 0) in
      let w = ih.1 in
      (ih.0 + cond (p (k + d)) (2 ^ d) 0, omega arith)

pub set_same : (p p' : ℕ → Bool) (b : ℕ) → ((q : ℕ) → q < b → p q ≡ p' q) → set_of p b ≡ set_of p' b
unfolding set_of
set_same p p' zero h = refl
set_same p p' (suc b) h = λ i. set_same p p' b (λ q u. h q (omega arith)) i + cond (h b (omega arith) i) (2 ^ b) 0

search_from : (p : ℕ → Bool) (k d : ℕ) → ((q : ℕ) × NextIn p k (k + d) q) ⊎ ((i : ℕ) → k ≤ i → i < k + d → p i ≡ false)
search_from p k zero = inr (λ i u v. absurd (omega arith))
search_from p k (suc d) = go (p k) refl (search_from p (k + 1) d)
  where
    e : k + 1 + d ≡ k + suc d
    e = omega arith

    at_k : (x : Bool) → p k ≡ x → (i : ℕ) → k ≡ i → p i ≡ x
    at_k x f i s = ap p (sym s) ∙ f

    rest : p k ≡ false → ((q : ℕ) × NextIn p (k + 1) (k + 1 + d) q) ⊎ ((i : ℕ) → k + 1 ≤ i → i < k + 1 + d → p i ≡ false)
        → ((q : ℕ) × NextIn p k (k + suc d) q) ⊎ ((i : ℕ) → k ≤ i → i < k + suc d → p i ≡ false)
    rest f (inl s) = let L = s.1 in inl (
      s.0,
      record {
        from = let u = L.from in omega arith;
        below = let u = L.below in omega arith;
        picked = L.picked;
        passed = λ i u v. ⊎_elim (λ (w : k ≡ i). at_k false f i w) (λ (w : k + 1 ≤ i). L.passed i w v) (apart i u);
      },
    )
      where
        apart : (i : ℕ) → k ≤ i → (k ≡ i) ⊎ (k + 1 ≤ i)
        apart i u = by (dec_lt k i)
          where
            by : Dec (k < i) → (k ≡ i) ⊎ (k + 1 ≤ i)
            by (yes w) = inr (omega arith)
            by (no w) = inl (omega arith)
    rest f (inr n) = inr (λ i u v. by i u v (dec_lt k i))
      where
        by : (i : ℕ) → k ≤ i → i < k + suc d → Dec (k < i) → p i ≡ false
        by i u v (yes w) = n i (omega arith) (omega arith)
        by i u v (no w) = at_k false f i (omega arith)

    go : (x : Bool) → p k ≡ x → ((q : ℕ) × NextIn p (k + 1) (k + 1 + d) q) ⊎ ((i : ℕ) → k + 1 ≤ i → i < k + 1 + d → p i ≡ false)
        → ((q : ℕ) × NextIn p k (k + suc d) q) ⊎ ((i : ℕ) → k ≤ i → i < k + suc d → p i ≡ false)
    go true f later = inl (k, record { from = omega arith; below = omega arith; picked = f; passed = λ i u v. absurd (omega arith) })
    go false f later = rest f later

-- the zeros below a digit, and nothing but a multiple above it
trailing_at : (k q m : ℕ) → q < k → count_trailing_zeros k (2 ^ q + 2 ^ (q + 1) * m) ≡ q
unfolding count_trailing_zeros
trailing_at zero q m h = absurd (omega arith)
trailing_at (suc k) zero m h =
    let n : (1 + 2 * m) % 2 ≡ 1 = omega arith in
    ap (λ (d : ℕ). under d (count_trailing_zeros k ((1 + 2 * m) / 2))) n
trailing_at (suc k) (suc q) m h =
    let a = pow-suc 2 q in
    let b : 2 ^ (suc q + 1) ≡ 2 * 2 ^ (q + 1) = omega (arith, ap (2 ^◌) (add-one (suc q)), pow-suc 2 (suc q), ap (2 ^◌) (add-one q)) in
    let t : 2 ^ suc q + 2 ^ (suc q + 1) * m ≡ 2 * (2 ^ q + 2 ^ (q + 1) * m) = omega (arith, a, ap (λ (x : ℕ). x * m) b, mul_assoc 2 (2 ^ (q + 1)) m) in
    let even : (2 * (2 ^ q + 2 ^ (q + 1) * m)) % 2 ≡ 0 = omega arith in
    let half : (2 * (2 ^ q + 2 ^ (q + 1) * m)) / 2 ≡ 2 ^ q + 2 ^ (q + 1) * m = omega arith in
    ap (λ (x : ℕ). under (x % 2) (count_trailing_zeros k (x / 2))) t
    ∙ ap (λ (d : ℕ). under d (count_trailing_zeros k (2 * (2 ^ q + 2 ^ (q + 1) * m) / 2))) even
    ∙ ap (λ (x : ℕ). suc (count_trailing_zeros k x)) half ∙ ap suc (trailing_at k q m (omega arith))

-- `x & (x - 1)` has one digit less, the least
and_less : (q m : ℕ) → bit_and (2 ^ q + 2 ^ (q + 1) * m) (2 ^ q + 2 ^ (q + 1) * m - 1) ≡ 2 ^ (q + 1) * m
and_less q m =
    let z = pow_pos q in
    let c = mul_comm (2 ^ (q + 1)) m in
    let a : 2 ^ q + 2 ^ (q + 1) * m ≡ m * 2 ^ (q + 1) + 2 ^ q = omega arith in
    let b : 2 ^ q + 2 ^ (q + 1) * m - 1 ≡ m * 2 ^ (q + 1) + (2 ^ q - 1) = omega arith in
    let l = pow-lt {i = q} {j = q + 1} (omega arith) in
    let d = and_mask (2 ^ q) q ∙ mod_self (2 ^ q) in
    (λ i. bit_and (a i) (b i)) ∙ and_block (q + 1) m m (2 ^ q) (2 ^ q - 1) l (omega arith)
    ∙ (λ i. and_self m i * 2 ^ (q + 1) + d i) ∙ add-zero (m * 2 ^ (q + 1)) ∙ sym c

-- A set of numbers below b, of which those below k are gone: the next one, by code, and what is left without it.
module _ (p : ℕ → Bool) (k b rest : ℕ) (low : k ≤ b) (few : b ≤ 64) (is : rest + set_of p k ≡ set_of p b) where
  -- none is left
  pub set_gone : rest ≡ 0 → (i : ℕ) → k ≤ i → i < b → p i ≡ false
  set_gone z i u v = by (p i) refl
    where
      by : (x : Bool) → p i ≡ x → x ≡ false
      by true e =
          let d : k + (i - k) ≡ i = omega arith in let f : i + 1 + (b - (i + 1)) ≡ b = omega arith in
          let s = set_high p k (i - k) in let t = set_high p (i + 1) (b - (i + 1)) in
          let w = set_with p i e in let y = pow_pos i in
          let s' = rw d at s.1 in let t' = rw f at t.1 in absurd (omega arith)
      by false e = refl

  next_at : (q : ℕ) → NextIn p k b q → (m : ℕ) × (rest ≡ 2 ^ q + 2 ^ (q + 1) * m) × (2 ^ (q + 1) * m + set_of p (q + 1) ≡ set_of p b)
  next_at q L =
      let d : k + (q - k) ≡ q = let u = L.from in omega arith in
      let f : q + 1 + (b - (q + 1)) ≡ b = let u = L.below in omega arith in
      let s = rw d at (set-skip p k (q - k) (λ i u v. L.passed i u (omega arith))) in
      let t = set_high p (q + 1) (b - (q + 1)) in let t' = rw f at t.1 in
      let w = set_with p q L.picked in
      (t.0, omega arith, omega arith)

  pub set_next : (rest ≡ 0 → ⊥) → NextIn p k b (count_trailing_zeros 64 rest) × (bit_and rest (rest - 1) + set_of p (count_trailing_zeros 64 rest + 1) ≡ set_of p b)
  set_next some = by (search_from p k (b - k))
    where
      d : k + (b - k) ≡ b
      d = omega arith

      by : ((q : ℕ) × NextIn p k (k + (b - k)) q) ⊎ ((i : ℕ) → k ≤ i → i < k + (b - k) → p i ≡ false)
          → NextIn p k b (count_trailing_zeros 64 rest) × (bit_and rest (rest - 1) + set_of p (count_trailing_zeros 64 rest + 1) ≡ set_of p b)
      by (inl s) =
          let L : NextIn p k b s.0 = rw d at s.1 in
          let n = next_at s.0 L in
          let e = ap (count_trailing_zeros 64) n.1 ∙ trailing_at 64 s.0 n.0 (let u = L.below in omega arith) in
          let a = ap (λ (x : ℕ). bit_and x (x - 1)) n.1 ∙ and_less s.0 n.0 in
          rw e (L, ap (λ (x : ℕ). x + set_of p (s.0 + 1)) a ∙ n.2)
      by (inr n) = let s = rw d at (set-skip p k (b - k) n) in absurd (some (omega arith))
