-- The listing of the best layouts in their order: what First, Next and the end have to find.
-- Assumes nothing.
use Prim.Native.Nat.{ℕ, zero, suc, ◌≤◌, ◌<◌}
use mathlib.Core.List.Memᴰ
use mathlib.Core.List.{List, [], ◌∷◌, ◌++◌, append_assoc, append-nil}
use Rattle.std.specs.Prelude.{◌⊎◌, ◌≡◌, length, take, drop, get_or}
use Rattle.std.proofs.Math.Logic.{inl}
use Rattle.std.proofs.Common.{inr, ◌∙◌, arith}
use Rattle.std.proofs.Math.Path.{sym}
use Rattle.std.proofs.Math.Decide.{dec_lt}
use Rattle.strips.specs.Lists.{All, Distinct}
use Rattle.strips.proofs.Lists.{nil_all, cons_all}
use Rattle.strips.specs.Least.{some}
use Rattle.strips.specs.Grid.{Grid, Lawful, best, BestIn}
use Rattle.strips.proofs.Strips.{has_best, best_cong}
use Rattle.strips.specs.Prefix.{Lies, Choice}
use Rattle.strips.proofs.Prefix.{choice_cong, chosen, pick}
use Rattle.strips.specs.Order.{SameOn, EarlierOn, EarliestOn}
use Rattle.strips.proofs.Order.{same_snoc, same_append, earlier_left, earlier_right, earlier_cases, earlier_cong}
use Rattle.strips.specs.Following.{EachPad, EachBest, EachSmallest, EachLargest, Follows, After}

-- The same by the pads' places in the list, for loops.
module _ (P : List ℕ → ℕ → List ℕ → Type 0) where
  pub each_of_index : (done js : List ℕ) → ((i : ℕ) → i < length js → P (done ++ take i js) (get_or js i zero) (drop (suc i) js)) → EachPad P done js
  unfolding EachPad
  each_of_index done [] h = tt
  each_of_index done (j ∷ js) h = (
    rw (append-nil done) at (h zero (omega arith)),
    each_of_index (done ++ (j ∷ [])) js (λ i l. rw (append_assoc done (j ∷ []) (take i js)) (h (suc i) (omega arith))),
  )

module _ (B : Grid) (lawful : Lawful B) (a b : ℕ) where
  shift : (done : List ℕ) (j : ℕ) (todo : List ℕ) (f : ℕ → ℕ) → BestIn B (done ++ (j ∷ todo)) a b f → BestIn B ((done ++ (j ∷ [])) ++ todo) a b f
  shift done j todo f s = rw (append_assoc done (j ∷ []) todo) s

  unshift : (done : List ℕ) (j : ℕ) (todo : List ℕ) (f : ℕ → ℕ) → BestIn B ((done ++ (j ∷ [])) ++ todo) a b f → BestIn B (done ++ (j ∷ todo)) a b f
  unshift done j todo f s = rw (append_assoc done (j ∷ []) todo) at s

  tails : (j : ℕ) (todo : List ℕ) → All (Lies B a b) (j ∷ todo) → All (Lies B a b) todo
  tails j todo h k m = h k (Memᴰ.tail m)

  -- Where a prefix extends to a best layout, the next pad has a locally best port.
  pub choice_exists : (done : List ℕ) (j : ℕ) (todo : List ℕ) (f g : ℕ → ℕ) → All (Lies B a b) todo → BestIn B (done ++ (j ∷ todo)) a b g → SameOn done g f
      → Choice B f done j todo a b (g j)
  choice_exists done j todo f g h s e = choice_cong B g f done j todo a b (g j) e (chosen B lawful done j todo a b g h s)

  -- A prefix that extends to a best layout, filled on with locally best ports, is a best layout.
  pub filled_best : (done todo : List ℕ) (f g : ℕ → ℕ) → Distinct (done ++ todo) → All (Lies B a b) todo → BestIn B (done ++ todo) a b g → SameOn done g f
      → EachBest B a b f done todo → BestIn B (done ++ todo) a b f
  unfolding EachPad
  filled_best done [] f g d h s e c = best_cong B lawful (done ++ []) a b g f (rw (append-nil done) e) s
  filled_best done (j ∷ todo) f g d h s e c =
      let t = pick B lawful done j todo a b g (f j) d (tails j todo h) s (choice_cong B f g done j todo a b (f j) (λ i m. sym (e i m)) c.0) in
      unshift done j todo f
      (filled_best (done ++ (j ∷ [])) todo f t.0 (rw (append_assoc done (j ∷ []) todo) d) (tails j todo h) (shift done j todo t.0 t.1)
      (same_snoc t.0 f done j (λ i m. t.2 i m ∙ e i m) t.3) c.1)

  -- With the smallest ones it is the earliest of those with that prefix.
  smallest_earliest : (done todo : List ℕ) (f g : ℕ → ℕ) → All (Lies B a b) todo → BestIn B (done ++ todo) a b g → SameOn done g f → EachSmallest B a b f done todo
      → SameOn todo f g ⊎ EarlierOn todo f g
  unfolding EachPad EarlierOn
  smallest_earliest done [] f g h s e c = inl (nil_all (λ i. f i ≡ g i))
  smallest_earliest done (j ∷ todo) f g h s e c = go (dec_lt (f j) (g j))
      (λ k. smallest_earliest (done ++ (j ∷ [])) todo f g (tails j todo h) (shift done j todo g s) (same_snoc g f done j e (sym k)) c.1)
    where
      least : f j ≤ g j
      least = c.0 (g j) (choice_exists done j todo f g (tails j todo h) s e)

      go : Dec (f j < g j) → (f j ≡ g j → SameOn todo f g ⊎ EarlierOn todo f g) → SameOn (j ∷ todo) f g ⊎ ((f j < g j) ⊎ ((f j ≡ g j) × EarlierOn todo f g))
      go (yes l) ih = inr (inl l)
      go (no l) ih = rest (ih same)
        where
          same : f j ≡ g j
          same = omega (arith, least)

          rest : SameOn todo f g ⊎ EarlierOn todo f g → SameOn (j ∷ todo) f g ⊎ ((f j < g j) ⊎ ((f j ≡ g j) × EarlierOn todo f g))
          rest (inl k) = inl (cons_all (λ i. f i ≡ g i) same k)
          rest (inr k) = inr (inr (same, k))

  -- With the largest ones it is the last of those with that prefix.
  largest_last : (done todo : List ℕ) (f g : ℕ → ℕ) → All (Lies B a b) todo → BestIn B (done ++ todo) a b g → SameOn done g f → EachLargest B a b f done todo
      → EarlierOn todo f g → ⊥
  unfolding EachPad EarlierOn
  largest_last done [] f g h s e c k = k
  largest_last done (j ∷ todo) f g h s e c (inl k) = omega (arith, c.0 (g j) (choice_exists done j todo f g (tails j todo h) s e))
  largest_last done (j ∷ todo) f g h s e c (inr k) = largest_last (done ++ (j ∷ [])) todo f g (tails j todo h) (shift done j todo g s)
      (same_snoc g f done j e (sym k.0)) c.1 k.1

  -- FIRST: the smallest locally best port at each pad gives the earliest best layout.
  pub first-earliest : (js : List ℕ) (v : ℕ) (f : ℕ → ℕ) → Distinct js → All (Lies B a b) js → best B js a b ≡ some v → EachBest B a b f [] js
      → EachSmallest B a b f [] js → EarliestOn js (BestIn B js a b) f
  first-earliest js v f d h e c l =
      let t = has_best B lawful js a b v d e in
      record {
        has = filled_best [] js f t.0 d h t.1 (nil_all (λ i. t.0 i ≡ f i)) c;
        first = λ g s. smallest_earliest [] js f g h s (nil_all (λ i. g i ≡ f i)) l;
      }

  -- NEXT: what follows a best layout l is the earliest best layout after it.
  pub next_earliest : (done : List ℕ) (j : ℕ) (todo : List ℕ) (l f : ℕ → ℕ) → Distinct (done ++ (j ∷ todo)) → All (Lies B a b) todo → BestIn B (done ++ (j ∷ todo)) a b l
      → Follows B a b done j todo l f → EarliestOn (done ++ (j ∷ todo)) (After B a b (done ++ (j ∷ todo)) l) f
  unfolding EarlierOn
  next_earliest done j todo l f d h s n = record {
    has = record { best = whole; later = earlier_right l f done (j ∷ todo) n.before (inl n.larger) };
    first = λ g t. go g
        t.best (earlier_cases l g done (j ∷ todo) t.later);
  }
    where
      js : List ℕ
      js = done ++ (j ∷ todo)

      t : (g : ℕ → ℕ) × BestIn B (done ++ (j ∷ todo)) a b g × SameOn done g l × (g j ≡ f j)
      t = pick B lawful done j todo a b l (f j) d h s n.choice

      whole : BestIn B js a b f
      whole = unshift done j todo f
          (filled_best (done ++ (j ∷ [])) todo f t.0 (rw (append_assoc done (j ∷ []) todo) d) h (shift done j todo t.0 t.1)
          (same_snoc t.0 f done j (λ i m. t.2 i m ∙ n.before i m) t.3) n.filled)

      go : (g : ℕ → ℕ) → BestIn B js a b g → EarlierOn done l g ⊎ (SameOn done l g × ((l j < g j) ⊎ ((l j ≡ g j) × EarlierOn todo l g)))
          → SameOn js f g ⊎ EarlierOn js f g
      go g k (inl e) = inr (earlier_left f g done (j ∷ todo) (earlier_cong done l f g n.before e))
      go g k (inr (e, inl x)) = near (dec_lt (f j) (g j))
        where
          same : SameOn done f g
          same i m = sym (n.before i m) ∙ e i m

          least : f j ≤ g j
          least = n.next (g j) (choice_exists done j todo l g h k (λ i m. sym (e i m))) x

          near : Dec (f j < g j) → SameOn js f g ⊎ EarlierOn js f g
          near (yes y) = inr (earlier_right f g done (j ∷ todo) same (inl y))
          near (no y) = rest (smallest_earliest (done ++ (j ∷ [])) todo f g h (shift done j todo g k) (same_snoc g f done j (λ i m. sym (same i m)) (sym equal))
              n.smallest)
            where
              equal : f j ≡ g j
              equal = omega (arith, least)

              rest : SameOn todo f g ⊎ EarlierOn todo f g → SameOn js f g ⊎ EarlierOn js f g
              rest (inl z) = inl (same_append f g done (j ∷ todo) same (cons_all (λ i. f i ≡ g i) equal z))
              rest (inr z) = inr (earlier_right f g done (j ∷ todo) same (inr (equal, z)))
      go g k (inr (e, inr x)) = absurd (largest_last (done ++ (j ∷ [])) todo l g h (shift done j todo g k) (same_snoc g l done j (λ i m. sym (e i m)) (sym x.0))
          n.last x.1)

  -- END: a best layout with the largest locally best port at each pad is the last.
  pub end_last : (js : List ℕ) (l g : ℕ → ℕ) → All (Lies B a b) js → EachLargest B a b l [] js → After B a b js l g → ⊥
  end_last js l g h c t = largest_last [] js l g h t.best (nil_all (λ i. g i ≡ l i)) c t.later
