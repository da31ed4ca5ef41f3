-- Layouts on a board: which ports count, 01's criterion for all pairs of pads, and each pad's own port.
--     layout_iff: each port number stands once;  leaders_apart_iff: the criterion;  untouching_of: own ports come by themselves;  equal_costs, zero_weights
use Rattle.std.specs.Prelude.{◌≡◌, refl, ◌≢◌, ◌⊎◌, ◌↔◌, ℕ, zero, suc, ◌<◌}
use Rattle.std.proofs.Common.{sym, ap, ◌∙◌, inl, inr, ⊎_elim, arith}
use Rattle.std.proofs.Math.Decide.{dec_lt, ℕ_discrete}
use Rattle.paper.specs.Leaders.{Between}
use Rattle.paper.specs.Layouts.{Board, leader, LeadersTouch, Touching, Layout, StandsOnce, EachOnce, Untouching, weighted, total, Differ, Same}
use Rattle.paper.specs.Problem.{Best, labeling}
use Rattle.paper.proofs.laws.Touching.{touch_sym, touch_iff}
use Rattle.paper.proofs.laws.Totals.{sum_same}

-- ---- only the ports of the board's pads count

module _ (b : Board) (f g : ℕ → ℕ) (same : Same b f g) where
  -- Being a layout depends only on the pads' ports,
  pub layout_same : Layout b f → Layout b g
  layout_same s = record {
    inside = λ i l. omega (arith, s.inside i l, same i l);
    own = λ i j l k. omega (arith, s.own i j l k, same i k, same j (omega arith));
  }

  -- and being untouching.
  pub untouching_same : Untouching b f → Untouching b g
  untouching_same u = record {
    layout = layout_same u.layout;
    apart = λ i j l k t. u.apart i j l k (rw (same i k, same j (omega arith)) t);
  }

-- The total depends only on the pads' ports.
pub total_same : (b : Board) (cost : ℕ → ℕ → ℕ) (f g : ℕ → ℕ) → Same b f g → total b cost f ≡ total b cost g
total_same b cost f g same = sum_same b.pads (λ i. cost i (f i)) (λ i. cost i (g i)) (λ i l. rw (same i l))

-- ---- 01's criterion

-- THEOREM: no two leaders touch exactly if no pad's port height lies between the own height and the port height of a pad to its left.
pub leaders_apart_iff : (b : Board) (f : ℕ → ℕ) → Differ b
    → ((i j : ℕ) → j < i → i < b.pads → ¬ LeadersTouch b f i j)
    ↔ ((i j : ℕ) → i < b.pads → j < b.pads → b.x j < b.x i → ¬ Between (b.port (f i)) (b.y j) (b.port (f j)))
leaders_apart_iff b f differ = ((λ n i j k m l t. there n i j k m ((criterion i j l).1 t) (ℕ_discrete i j) l), back)
  where
    criterion : (i j : ℕ) → b.x j < b.x i → LeadersTouch b f i j ↔ Between (b.port (f i)) (b.y j) (b.port (f j))
    criterion i j l = touch_iff (leader b i (f i)) (leader b j (f j)) l

    other : (i j : ℕ) → LeadersTouch b f i j → LeadersTouch b f j i
    other i j t = touch_sym (leader b i (f i)) (leader b j (f j)) t

    there : ((i j : ℕ) → j < i → i < b.pads → ¬ LeadersTouch b f i j)
        → (i j : ℕ) → i < b.pads → j < b.pads → LeadersTouch b f i j → Dec (i ≡ j) → b.x j < b.x i → ⊥
    there n i j k m t (yes e) l = omega (arith, ap b.x e)
    there n i j k m t (no e) l = go (dec_lt j i)
      where
        go : Dec (j < i) → ⊥
        go (yes d) = n i j d k t
        go (no d) = n j i (omega arith) m (other i j t)

    back : ((i j : ℕ) → i < b.pads → j < b.pads → b.x j < b.x i → ¬ Between (b.port (f i)) (b.y j) (b.port (f j)))
        → (i j : ℕ) → j < i → i < b.pads → ¬ LeadersTouch b f i j
    back h i j l k t = go (dec_lt (b.x j) (b.x i))
      where
        go : Dec (b.x j < b.x i) → ⊥
        go (yes m) = h i j k (omega arith) m ((criterion i j m).0 t)
        go (no m) =
            let r : b.x i < b.x j = omega (arith, differ i j l k) in
            h j i (omega arith) k r ((criterion j i r).0 (other i j t))

-- ---- each pad's own port

-- Leaders to one port touch, at the port.
own_port : (b : Board) (f : ℕ → ℕ) (i j : ℕ) → f i ≡ f j → LeadersTouch b f i j
own_port b f i j e = (record { x = 0; y = b.port (f i) }, inr (refl, omega arith), inr (ap b.port e, omega arith))

-- So ports inside the board and no touching pair are all there is to an untouching layout.
pub untouching_of : (b : Board) (f : ℕ → ℕ)
    → ((i : ℕ) → i < b.pads → f i < b.ports) → ((i j : ℕ) → j < i → i < b.pads → ¬ Touching b f i j) → Untouching b f
untouching_of b f inside apart = record {
  layout = record { inside = inside; own = λ i j l k e. apart i j l k (inl (own_port b f i j e)) };
  apart = apart;
}

-- Of n different numbers each stands in one place.
pub own_number : (n : ℕ) (f : ℕ → ℕ) → ((i j : ℕ) → j < i → i < n → f i ≢ f j) → (i j : ℕ) → i < n → j < n → f i ≡ f j → i ≡ j
own_number n f own i j k l e = go (dec_lt j i) (dec_lt i j)
  where
    go : Dec (j < i) → Dec (i < j) → i ≡ j
    go (yes h) d = absurd (own i j h k e)
    go (no h) (yes d) = absurd (own j i d l (sym e))
    go (no h) (no d) = omega arith

-- In a layout only one pad has a given port.
pub own_pad : (b : Board) (f : ℕ → ℕ) → Layout b f → (i j : ℕ) → i < b.pads → j < b.pads → f i ≡ f j → i ≡ j
own_pad b f s = own_number b.pads f s.own

-- f, with n changed to f n
pick : {A : Type 0} → Dec A → ℕ → ℕ → ℕ
pick (yes e) a b = a
pick (no e) a b = b

without : ℕ → (ℕ → ℕ) → ℕ → ℕ
without n f i = pick (ℕ_discrete (f i) n) (f n) (f i)

without_is : (n : ℕ) (f : ℕ → ℕ) (i : ℕ) → ((f i ≡ n) × (without n f i ≡ f n)) ⊎ ((f i ≢ n) × (without n f i ≡ f i))
unfolding without pick
without_is n f i = go (ℕ_discrete (f i) n)
  where
    go : (d : Dec (f i ≡ n)) → ((f i ≡ n) × (pick d (f n) (f i) ≡ f n)) ⊎ ((f i ≢ n) × (pick d (f n) (f i) ≡ f i))
    go (yes e) = inl (e, refl)
    go (no e) = inr (e, refl)

-- n different numbers below n are all the numbers below n
fills : (n : ℕ) (f : ℕ → ℕ) → ((i : ℕ) → i < n → f i < n) → ((i j : ℕ) → j < i → i < n → f i ≢ f j) → (q : ℕ) → q < n → (i : ℕ) × (i < n) × (f i ≡ q)
fills zero f below own q h = absurd (omega arith)
fills (suc n) f below own q h = go (fills n (without n f) below_n own_n) (ℕ_discrete (f n) q) (ℕ_discrete q n)
  where
    below_n : (i : ℕ) → i < n → without n f i < n
    below_n i l =
        ⊎_elim
        (λ c. omega (arith, below n (omega arith), own n i l (omega arith)))
        (λ c. omega (arith, below i (omega arith)))
        (without_is n f i)

    own_n : (i j : ℕ) → j < i → i < n → without n f i ≢ without n f j
    own_n i j l k =
        let a = own i j l (omega arith) in
        let b = own n i k (omega arith) in
        let c = own n j (omega arith) (omega arith) in
        ⊎_elim
        (λ d. ⊎_elim (λ e. omega arith) (λ e. omega arith) (without_is n f j))
        (λ d. ⊎_elim (λ e. omega arith) (λ e. omega arith) (without_is n f j))
        (without_is n f i)

    go : ((r : ℕ) → r < n → (i : ℕ) × (i < n) × (without n f i ≡ r)) → Dec (f n ≡ q) → Dec (q ≡ n) → (i : ℕ) × (i < suc n) × (f i ≡ q)
    go rest (yes e) d = (n, omega arith, e)
    go rest (no e) (yes d) =
        let (i, l, s) = rest (f n) (omega (arith, below n (omega arith))) in
        let a = own n i l (omega arith) in
        (i, omega arith, ⊎_elim (λ c. omega arith) (λ c. omega arith) (without_is n f i))
    go rest (no e) (no d) =
        let (i, l, s) = rest q (omega arith) in
        (i, omega arith, ⊎_elim (λ c. omega arith) (λ c. omega arith) (without_is n f i))

-- THEOREM: with as many ports as pads, each port number stands exactly once in a layout, and where each does, that is a layout.
module _ (b : Board) (f : ℕ → ℕ) (same : b.ports ≡ b.pads) where
  each_once : Layout b f → EachOnce b f
  each_once s q h = go (fills b.pads f (λ i l. omega (arith, s.inside i l)) s.own q (omega arith))
    where
      go : (i : ℕ) × (i < b.pads) × (f i ≡ q) → StandsOnce b f q
      go (i, l, d) = (i, l, d, λ j k c. own_pad b f s j i k l (omega arith))

  -- The place of port q; n places of n ports are all the places, so that every entry is a port number.
  once_layout : EachOnce b f → Layout b f
  once_layout once = record { inside = inside; own = λ i j l k e. own (once (f i) (inside i k)) i j l k refl e }
    where
      at : (q : ℕ) → Dec (q < b.ports) → ℕ
      at q (yes h) = (once q h).0
      at q (no h) = 0

      stands : (q : ℕ) → q < b.pads → (d : Dec (q < b.ports)) → (at q d < b.pads) × (f (at q d) ≡ q)
      stands q h (yes l) = ((once q l).1, (once q l).2)
      stands q h (no l) = absurd (omega arith)

      place : ℕ → ℕ
      place q = at q (dec_lt q b.ports)

      found : (q : ℕ) → q < b.pads → (place q < b.pads) × (f (place q) ≡ q)
      found q h = stands q h (dec_lt q b.ports)

      inside : (i : ℕ) → i < b.pads → f i < b.ports
      inside i h =
          let (q, l, e) = fills b.pads place (λ q l. (found q l).0)
          (λ q r k l e. omega (arith, (found q l).1, (found r (omega arith)).1, ap f e)) i h in
          omega (arith, (found q l).1, ap f e)

      own : {q : ℕ} → StandsOnce b f q → (i j : ℕ) → j < i → i < b.pads → f i ≡ q → f i ≡ f j → ⊥
      own (m, h, s, u) i j l k c d = omega (arith, u i k c, u j (omega arith) (omega arith))

  pub layout_iff : Layout b f ↔ EachOnce b f
  layout_iff = (each_once, once_layout)

-- THEOREM: where all leaders cost the same every untouching layout is best; so with both weights 0.
pub equal_costs : (b : Board) (cost : ℕ → ℕ → ℕ) (c : ℕ) → ((i q : ℕ) → i < b.pads → q < b.ports → cost i q ≡ c) → (f : ℕ → ℕ) → Untouching b f
    → Best (labeling b cost) f
equal_costs b cost c all f u = record { counts = u; least = λ g v. omega (arith, same g v) }
  where
    same : (g : ℕ → ℕ) → Untouching b g → total b cost f ≡ total b cost g
    same g v = sum_same b.pads (λ i. cost i (f i)) (λ i. cost i (g i)) (λ i l. all i (f i) l (u.layout.inside i l) ∙ sym (all i (g i) l (v.layout.inside i l)))

pub zero_weights : (b : Board) (f : ℕ → ℕ) → Untouching b f → Best (labeling b (weighted b 0 0)) f
unfolding weighted
zero_weights b = equal_costs b (weighted b 0 0) 0 (λ i q h k. omega arith)
