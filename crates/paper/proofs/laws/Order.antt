-- 01's order is a strict total order on layouts, so that each call has one best layout to answer.
--     before_irrefl, before_trans, before-total;  first_best_one, next_best_one, next_not_last: at most one such layout;  *-same: only the pads' ports count
use Rattle.std.specs.Prelude.{◌≡◌, refl, ◌≢◌, ◌⊎◌, ℕ, zero, suc, ◌<◌, [], ◌∷◌}
use Rattle.std.proofs.Common.{sym, ◌∙◌, inl, inr, arith}
use Rattle.std.proofs.Math.Decide.{dec_lt, ℕ_discrete}
use Rattle.paper.specs.Job.{records, x_of}
use Rattle.paper.specs.Layouts.{Board, board_of, held, Differ, Same}
use Rattle.paper.specs.Problem.{Problem, Best, Before, FirstBest, NextBest, LastBest}
use Rattle.paper.specs.Sheets.{J3}
use Rattle.paper.proofs.laws.Boards.{own_number}

-- Of two layouts the one with the smaller port number at the rightmost pad where they differ comes first: on the board of J3, [1, 0] before [0, 1].
right_first : Before (board_of (records J3)) (held (1 ∷ 0 ∷ [])) (held (0 ∷ 1 ∷ []))
unfolding x_of
right_first = record { pad = 1; inside = omega arith; smaller = omega arith; alike = λ j l k. absurd (none j l k) }
  where
    none : (j : ℕ) → j < 2 → 20 < x_of J3 j → ⊥
    none zero l k = omega arith
    none (suc zero) l k = omega arith
    none (suc (suc j)) l k = omega arith

-- No layout comes before itself.
pub before_irrefl : (b : Board) (f : ℕ → ℕ) → ¬ Before b f f
before_irrefl b f h = omega arith

-- Only the ports of the board's pads count.
pub before_same : (b : Board) (f g f' g' : ℕ → ℕ) → Same b f f' → Same b g g' → Before b f g → Before b f' g'
before_same b f g f' g' d e h =
    record {
      pad = h.pad;
      inside = h.inside;
      smaller = omega (arith, d h.pad h.inside, e h.pad h.inside);
      alike = λ j l k. sym (d j l) ∙ h.alike j l k ∙ e j l;
    }

module _ (b : Board) (differ : Differ b) where
  -- pads of one x are one pad
  one_pad_lem : (i j : ℕ) → i < b.pads → j < b.pads → b.x i ≡ b.x j → i ≡ j
  one_pad_lem = own_number b.pads b.x differ

  -- What comes before a layout comes before all that this one is before.
  pub before_trans : (f g h : ℕ → ℕ) → Before b f g → Before b g h → Before b f h
  before_trans f g h s t = go (dec_lt (b.x s.pad) (b.x t.pad)) (dec_lt (b.x t.pad) (b.x s.pad))
    where
      go : Dec (b.x s.pad < b.x t.pad) → Dec (b.x t.pad < b.x s.pad) → Before b f h
      go (yes l) d =
          record {
            pad = t.pad;
            inside = t.inside;
            smaller = omega (arith, s.alike t.pad t.inside l);
            alike = λ j k m. s.alike j k (omega arith) ∙ t.alike j k m;
          }
      go (no l) (yes d) =
          record {
            pad = s.pad;
            inside = s.inside;
            smaller = omega (arith, t.alike s.pad s.inside d);
            alike = λ j k m. s.alike j k m ∙ t.alike j k (omega arith);
          }
      go (no l) (no d) =
          let e : s.pad ≡ t.pad = one_pad_lem s.pad t.pad s.inside t.inside (omega arith) in
          let u : f t.pad < g t.pad = rw e at s.smaller in
          record {
            pad = t.pad;
            inside = t.inside;
            smaller = omega arith;
            alike = λ j k m. s.alike j k (omega arith) ∙ t.alike j k m;
          }

-- The rightmost of the first n pads at which two layouts differ; or they differ at none.
record Rightmost (x f g : ℕ → ℕ) (n : ℕ) : Type 0 where
  pad : ℕ
  inside : pad < n
  differ : f pad ≢ g pad
  alike : (j : ℕ) → j < n → x pad < x j → f j ≡ g j

-- What holds of all numbers below n and of n holds of all below n + 1.
pub below_suc : {P : ℕ → Type 0} (n : ℕ) → ((i : ℕ) → i < n → P i) → P n → (i : ℕ) → i < suc n → P i
below_suc {P} n h k i l = go (dec_lt i n)
  where
    go : Dec (i < n) → P i
    go (yes d) = h i d
    go (no d) = let e : i ≡ n = omega arith in rw e k

rightmost : (x f g : ℕ → ℕ) (n : ℕ) → Rightmost x f g n ⊎ ((i : ℕ) → i < n → f i ≡ g i)
rightmost x f g zero = inr (λ i h. absurd (omega arith))
rightmost x f g (suc n) = go (ℕ_discrete (f n) (g n)) (rightmost x f g n)
  where
    go : Dec (f n ≡ g n) → Rightmost x f g n ⊎ ((i : ℕ) → i < n → f i ≡ g i) → Rightmost x f g (suc n) ⊎ ((i : ℕ) → i < suc n → f i ≡ g i)
    go (yes e) (inr h) = inr (below_suc n h e)
    go (no d) (inr h) = inl (record { pad = n; inside = omega arith; differ = d; alike = below_suc n (λ j l k. h j l) (λ k. absurd (omega arith)) })
    go (yes e) (inl r) = inl (record { pad = r.pad; inside = omega arith; differ = r.differ; alike = below_suc n r.alike (λ k. e) })
    go (no d) (inl r) = side (dec_lt (x r.pad) (x n))
      where
        side : Dec (x r.pad < x n) → Rightmost x f g (suc n) ⊎ ((i : ℕ) → i < suc n → f i ≡ g i)
        side (yes l) = inl (record { pad = n; inside = omega arith; differ = d; alike = below_suc n (λ j k m. r.alike j k (omega arith)) (λ k. absurd (omega arith)) })
        side (no l) = inl (record { pad = r.pad; inside = omega arith; differ = r.differ; alike = below_suc n r.alike (λ k. absurd (omega arith)) })

-- Of two layouts one comes before the other, or they are the same.
pub before-total : (b : Board) (f g : ℕ → ℕ) → Before b f g ⊎ Same b f g ⊎ Before b g f
before-total b f g = go (rightmost b.x f g b.pads)
  where
    go : Rightmost b.x f g b.pads ⊎ Same b f g → Before b f g ⊎ Same b f g ⊎ Before b g f
    go (inr h) = inr (inl h)
    go (inl r) = order (dec_lt (f r.pad) (g r.pad))
      where
        order : Dec (f r.pad < g r.pad) → Before b f g ⊎ Same b f g ⊎ Before b g f
        order (yes l) = inl (record { pad = r.pad; inside = r.inside; smaller = l; alike = r.alike })
        order (no l) = inr (inr (record { pad = r.pad; inside = r.inside; smaller = omega arith; alike = λ j u k. sym (r.alike j u k) }))

-- Layouts of which neither comes before the other are the same.
pub neither_before : (b : Board) (f g : ℕ → ℕ) → ¬ Before b f g → ¬ Before b g f → Same b f g
neither_before b f g m n = go (before-total b f g)
  where
    go : Before b f g ⊎ Same b f g ⊎ Before b g f → Same b f g
    go (inl h) = absurd (m h)
    go (inr (inl h)) = h
    go (inr (inr h)) = absurd (n h)

-- ---- the earliest, the next and the last of a problem's best layouts

-- Whether a layout counts, and its value, depend only on the pads' ports.
pub record Steady (p : Problem) : Type 0 where
  pub counts_same : (f g : ℕ → ℕ) → Same p.board f g → p.Counts f → p.Counts g
  pub value_same : (f g : ℕ → ℕ) → Same p.board f g → p.value f ≡ p.value g

module _ (p : Problem) where
  -- There is one earliest best layout,
  pub first_best_one : (f g : ℕ → ℕ) → FirstBest p f → FirstBest p g → Same p.board f g
  first_best_one f g s t = neither_before p.board f g (t.earliest f s.best) (s.earliest g t.best)

  -- one earliest best layout after a given one,
  pub next_best_one : (l f g : ℕ → ℕ) → NextBest p l f → NextBest p l g → Same p.board f g
  next_best_one l f g s t = neither_before p.board f g (t.earliest f s.best s.later) (s.earliest g t.best t.later)

  -- and none after the last.
  pub next_not_last : (l f : ℕ → ℕ) → NextBest p l f → LastBest p l → ⊥
  next_not_last l f s last = last f s.best s.later

  pub last_of_same : (l m : ℕ → ℕ) → Same p.board l m → LastBest p l → LastBest p m
  last_of_same l m same s g t k = s g t (before_same p.board m g l g (λ i h. sym (same i h)) (λ i h. refl) k)

  -- The next of the same layout is the same.
  pub next_of_same : (l m f : ℕ → ℕ) → Same p.board l m → NextBest p l f → NextBest p m f
  next_of_same l m f same s = record {
    best = s.best;
    later = before_same p.board l f m f same (λ i k. refl) s.later;
    earliest = λ h t u. s.earliest h t (before_same p.board m h l h (λ i k. sym (same i k)) (λ i k. refl) u);
  }

  module _ (steady : Steady p) where
    -- Being best, the earliest or the next depends only on the pads' ports.
    pub best_same : (f g : ℕ → ℕ) → Same p.board f g → Best p f → Best p g
    best_same f g same s = record {
      counts = steady.counts_same f g same s.counts;
      least = λ h u. omega (arith, s.least h u, steady.value_same f g same);
    }

    pub first_best_same : (f g : ℕ → ℕ) → Same p.board f g → FirstBest p f → FirstBest p g
    first_best_same f g same s = record {
      best = best_same f g same s.best;
      earliest = λ h t k. s.earliest h t (before_same p.board h g h f (λ i l. refl) (λ i l. sym (same i l)) k);
    }

    pub next_best_same : (l f g : ℕ → ℕ) → Same p.board f g → NextBest p l f → NextBest p l g
    next_best_same l f g same s = record {
      best = best_same f g same s.best;
      later = before_same p.board l f l g (λ i k. refl) same s.later;
      earliest = λ h t u k. s.earliest h t u (before_same p.board h g h f (λ i l. refl) (λ i l. sym (same i l)) k);
    }

    -- Both at once: the layout before and the next.
    pub next_same : (l m f g : ℕ → ℕ) → Same p.board l m → Same p.board f g → NextBest p l f → NextBest p m g
    next_same l m f g s t n = next_of_same l m g s (next_best_same l f g t n)
