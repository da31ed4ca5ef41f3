-- Sums of costs, and the total of a layout as 01 says it.
--     total_is: in 01's words;  bends_iff;  total_bound
use Rattle.std.specs.Prelude.{◌≡◌, refl, ◌≢◌, ◌↔◌, Bool, true, false, cond, ℕ, zero, suc, ◌+◌, ◌*◌, ◌≤◌, ◌<◌, T, eqb, nat_abs}
use Rattle.std.proofs.Common.{sym, ap, add-one, arith, eqb→eq}
use Rattle.std.proofs.Math.Logic.{ite, if_pos, if_neg}
use Rattle.std.proofs.Math.Decide.{ℕ_discrete}
use Rattle.std.proofs.Math.Nat.{mul-le-mul}
use Rattle.numbers.proofs.Whole.{whole, abs_num, apart_num}
use Rattle.paper.specs.Leaders.{Leader, distance, length_of, bends_of}
use Rattle.paper.specs.Layouts.{Board, leader, sum, weighted, total}

-- ---- sums

-- A loop that adds up c starts at 0
pub sum_none : (c : ℕ → ℕ) → 0 ≡ sum 0 c
unfolding sum
sum_none c = refl

-- and adds the next term.
pub sum_more : (c : ℕ → ℕ) (i s x : ℕ) → s ≡ sum i c → x ≡ c i → s + x ≡ sum (i + 1) c
unfolding sum
sum_more c i s x e d = rw (add-one, e, d)

-- Sums of the same terms are the same.
pub sum_same : (n : ℕ) (c d : ℕ → ℕ) → ((i : ℕ) → i < n → c i ≡ d i) → sum n c ≡ sum n d
unfolding sum
sum_same zero c d h = refl
sum_same (suc n) c d h = omega (arith, sum_same n c d (λ i l. h i (omega arith)), h n (omega arith))

-- Sums of the same terms but at i; but at i and j.
sum_but : (n i : ℕ) (c d : ℕ → ℕ) → i < n → ((k : ℕ) → k < n → k ≢ i → c k ≡ d k) → sum n c + d i ≡ sum n d + c i
unfolding sum
sum_but zero i c d l h = absurd (omega arith)
sum_but (suc n) i c d l h = go (ℕ_discrete i n) (sum_but n i c d)
  where
    go : Dec (i ≡ n) → (i < n → ((k : ℕ) → k < n → k ≢ i → c k ≡ d k) → sum n c + d i ≡ sum n d + c i) → sum n c + c n + d i ≡ sum n d + d n + c i
    go (yes e) ih = omega (arith, sum_same n c d (λ k m. h k (omega arith) (omega arith)), ap c e, ap d e)
    go (no e) ih = omega (arith, ih (omega arith) (λ k m. h k (omega arith)), h n (omega arith) (omega arith))

pub sum_but_two : (n i j : ℕ) (c d : ℕ → ℕ) → i < n → j < n → i ≢ j → ((k : ℕ) → k < n → k ≢ i → k ≢ j → c k ≡ d k)
    → sum n c + d i + d j ≡ sum n d + c i + c j
sum_but_two n i j c d l m ne h =
    omega (
      arith,
      sum_but n i c half l (λ k o p. sym (if_neg (ℕ_discrete k i) p (d k) (c k))),
      sum_but n j half d m (λ k o p. rest k o p (ℕ_discrete k i)),
      if_pos (ℕ_discrete i i) refl (d i) (c i),
      if_neg (ℕ_discrete j i) (λ e. ne (sym e)) (d j) (c j),
    )
  where
    half : ℕ → ℕ
    half k = ite (ℕ_discrete k i) (d k) (c k)

    rest : (k : ℕ) → k < n → k ≢ j → (t : Dec (k ≡ i)) → ite t (d k) (c k) ≡ d k
    rest k o p (yes e) = refl
    rest k o p (no e) = h k o e p

-- No term is larger than the sum.
pub term_le : (n : ℕ) (c : ℕ → ℕ) (i : ℕ) → i < n → c i ≤ sum n c
term_le n c i l =
    let but = sum_but n i c (λ k. ite (ℕ_discrete k i) 0 (c k)) l (λ k o p. sym (if_neg (ℕ_discrete k i) p 0 (c k))) in
    omega (arith, but, if_pos (ℕ_discrete i i) refl 0 (c i))

-- n terms of at most k each come to at most n * k.
pub sum-at_most : (n k : ℕ) (c : ℕ → ℕ) → ((i : ℕ) → i < n → c i ≤ k) → sum n c ≤ n * k
unfolding sum
sum-at_most zero k c h = omega arith
sum-at_most (suc n) k c h = omega (arith, sum-at_most n k c (λ i l. h i (omega arith)), h n (omega arith))

-- u times one cost and v times another.
sum-weighted : (n u v : ℕ) (c d : ℕ → ℕ) → sum n (λ i. u * c i + v * d i) ≡ u * sum n c + v * sum n d
unfolding sum
sum-weighted zero u v c d = omega arith
sum-weighted (suc n) u v c d = omega (arith, sum-weighted n u v c d)

-- ---- the total

-- THEOREM: the total of a layout is (length weight × sum of lengths) + (bend weight × sum of bends).
pub total_is : (b : Board) (lw bw : ℕ) (f : ℕ → ℕ)
    → total b (weighted b lw bw) f ≡ lw * sum b.pads (λ i. length_of (leader b i (f i))) + bw * sum b.pads (λ i. bends_of (leader b i (f i)))
unfolding weighted
total_is b lw bw f = sum-weighted b.pads lw bw (λ i. length_of (leader b i (f i))) (λ i. bends_of (leader b i (f i)))

-- A leader has no bend exactly if its pad is at its port's height.
pub bends_iff : (l : Leader) → (bends_of l ≡ 0) ↔ (l.y ≡ l.port)
unfolding bends_of
bends_iff l = (go (eqb (distance l.y l.port) 0) (eqb→eq (distance l.y l.port) 0), straight)
  where
    go : (t : Bool) → (T t → distance l.y l.port ≡ 0) → ◌≡◌ {A = ℕ} (cond t 0 1) 0 → l.y ≡ l.port
    go true f e = omega (whole, f tt, apart_num l.y l.port)
    go false f e = absurd (omega arith)

    straight : l.y ≡ l.port → bends_of l ≡ 0
    straight e = let d : distance l.y l.port ≡ 0 = omega (whole, apart_num l.y l.port) in rw d

-- ---- bounds

-- No leader has more than one bend.
bends_bound : (l : Leader) → bends_of l ≤ 1
unfolding bends_of
bends_bound l = go (eqb (distance l.y l.port) 0)
  where
    go : (t : Bool) → cond t 0 1 ≤ 1
    go true = omega arith
    go false = omega arith

-- The longest leader that fields in their ranges give.
pub length_bound : (l : Leader) → l.x ≤ 1000000 → nat_abs l.y ≤ 1000000 → nat_abs l.port ≤ 1000000 → length_of l ≤ 3000000
unfolding length_of
length_bound l a b c = omega (arith, apart_num l.y l.port, abs_num l.y, abs_num l.port)

-- On a board of an accepted job, with weights that are not refused:
module _ (b : Board) (lw bw : ℕ) (lengths : lw ≤ 1000) (bends : bw ≤ 1000)
    (width : (i : ℕ) → i < b.pads → b.x i ≤ 1000000)
    (pad : (i : ℕ) → i < b.pads → nat_abs (b.y i) ≤ 1000000)
    (port : (q : ℕ) → q < b.ports → nat_abs (b.port q) ≤ 1000000) where
  -- what one leader costs at most;
  pub weighted_bound : (i q : ℕ) → i < b.pads → q < b.ports → weighted b lw bw i q ≤ 3000001000
  unfolding weighted
  weighted_bound i q h k =
      let l = leader b i q in
      omega (arith, mul-le-mul lengths (length_bound l (width i h) (pad i h) (port q k)), mul-le-mul bends (bends_bound l))

  -- THEOREM: a total is at most 192,000,064,000.
  pub total_bound : (f : ℕ → ℕ) → b.pads ≤ 64 → ((i : ℕ) → i < b.pads → f i < b.ports) → total b (weighted b lw bw) f ≤ 192000064000
  total_bound f few inside =
      omega (arith, sum-at_most b.pads 3000001000 (λ i. weighted b lw bw i (f i)) (λ i l. weighted_bound i (f i) l (inside i l)))
