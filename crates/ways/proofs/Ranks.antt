-- A best layout's rank, the number of best layouts before it, is its place; and there are as many places as best layouts.
-- Assumes nothing.
use Rattle.std.specs.Prelude.{◌≡◌, List, [], ◌⊎◌}
use Rattle.std.proofs.Common.{◌∙◌, inl, inr, arith}
use Prim.Native.Nat.{ℕ, zero, suc, ◌+◌, ◌-◌, ◌≤◌, ◌<◌}
use Rattle.std.proofs.Math.Decide.{dec_lt}
use Rattle.strips.proofs.Lists.{nil_all}
use Rattle.strips.specs.Least.{some}
use Rattle.strips.specs.Grid.{Grid, best}
use Rattle.strips.proofs.Strips.{has_best}
use Rattle.strips.specs.Order.{SameOn, EarlierOn, EarliestOn}
use Rattle.strips.specs.FirstNext.{Optimal, Later, Listed}
use Rattle.strips.proofs.FirstNext.{best_optimal, optimal_best}
use Rattle.ways.proofs.Compare.{compare_layouts}
use Rattle.ways.specs.Tree.{Passes, ways, rank}
use Rattle.ways.proofs.Tree.{ways_cong, rank_small, rank_rises, rank_cong, placed}
use Rattle.ways.specs.Count.{may_take, many}
use Rattle.ways.proofs.Count.{looks, counted_best, best_counted}
use Rattle.ways.specs.Place.{AtPlace, HowMany}

module _ (B : Grid) (p : ℕ) (order : List ℕ) (L : Listed B p order) (v : ℕ) (solved : best B order 0 p ≡ some v) where
  -- The place of f, and the number of them.
  abbrev place_of : (ℕ → ℕ) → ℕ
  place_of f = rank p (may_take B 0 p) f [] order

  abbrev number : ℕ
  number = many B p order 0 p

  passes : (f : ℕ → ℕ) → Optimal B order p f → Passes p (may_take B 0 p) f [] order
  passes f o = best_counted B L.lawful p order 0 p f (omega arith) L.lie (optimal_best B p order L f o)

  optimal : (f : ℕ → ℕ) → Passes p (may_take B 0 p) f [] order → Optimal B order p f
  optimal f s = best_optimal B p order L f (counted_best B L.lawful p order 0 p v f L.distinct L.lie solved s)

  rises : (f g : ℕ → ℕ) → Optimal B order p f → EarlierOn order f g → place_of f < place_of g
  rises f g o e = rank_rises p (may_take B 0 p) (looks B 0 p) f g [] order (nil_all (λ i. f i ≡ g i)) (passes f o) e

  alike : (f g : ℕ → ℕ) → SameOn order f g → place_of f ≡ place_of g
  alike f g s = rank_cong p (may_take B 0 p) (looks B 0 p) f g [] order (nil_all (λ i. f i ≡ g i)) s

  -- The number from any layout to start with: no pad has its port yet.
  any : (f : ℕ → ℕ) → ways p (may_take B 0 p) f [] order ≡ number
  any f = ways_cong p (may_take B 0 p) (looks B 0 p) f (λ k. zero) [] order (nil_all (λ i. f i ≡ zero))

  below : (f : ℕ → ℕ) → Optimal B order p f → place_of f < number
  below f o = omega (arith, rank_small p (may_take B 0 p) (looks B 0 p) f [] order (passes f o), any f)

  -- Each place below the number is taken.
  has : (k : ℕ) → k < number → (f : ℕ → ℕ) × Optimal B order p f × (place_of f ≡ k)
  has k h = let t = placed p (may_take B 0 p) (looks B 0 p) (λ i. zero) [] order k L.distinct h in (t.layout, optimal t.layout t.passes, t.place)

  not_later : (f g : ℕ → ℕ) → Optimal B order p g → place_of f ≤ place_of g → SameOn order f g ⊎ EarlierOn order f g
  not_later f g o h = go (compare_layouts f g order)
    where
      go : SameOn order f g ⊎ (EarlierOn order f g ⊎ EarlierOn order g f) → SameOn order f g ⊎ EarlierOn order f g
      go (inl s) = inl s
      go (inr (inl e)) = inr e
      go (inr (inr e)) = absurd (omega (arith, rises g f o e))

  later : (f g : ℕ → ℕ) → Optimal B order p g → place_of f < place_of g → EarlierOn order f g
  later f g o h = go (not_later f g o (omega arith))
    where
      go : SameOn order f g ⊎ EarlierOn order f g → EarlierOn order f g
      go (inl s) = absurd (omega (arith, alike f g s))
      go (inr e) = e

  -- THEOREM. The layout of rank k is at place k: First followed by k calls of Next.
  pub rank-place : (k : ℕ) (f : ℕ → ℕ) → Optimal B order p f → place_of f ≡ k → AtPlace B order p k f
  unfolding AtPlace
  rank-place zero f o e = record { has = o; first = λ g s. not_later f g s (omega arith) }
  rank-place (suc k) f o e = go (has k (omega (arith, below f o))) (rank-place k)
    where
      go : (g : ℕ → ℕ) × Optimal B order p g × (place_of g ≡ k) → ((g : ℕ → ℕ) → Optimal B order p g → place_of g ≡ k → AtPlace B order p k g)
          → (g : ℕ → ℕ) × AtPlace B order p k g × EarliestOn order (Later B order p g) f
      go t ih = (
        t.0,
        ih t.0 t.1 t.2,
        record {
          has = record { best = o; later = later t.0 f o (omega (arith, t.2)) };
          first = λ h s. not_later f h s.best (omega (arith, t.2, rises t.0 h t.1 s.later));
        },
      )

  -- .. and no other is.
  pub place-rank : (k : ℕ) (f : ℕ → ℕ) → AtPlace B order p k f → Optimal B order p f × (place_of f ≡ k)
  unfolding AtPlace
  place-rank zero f t = (t.has, first (has 0 (omega (arith, below f t.has))))
    where
      first : (g : ℕ → ℕ) × Optimal B order p g × (place_of g ≡ 0) → place_of f ≡ 0
      first g = go (t.first g.0 g.1)
        where
          go : SameOn order f g.0 ⊎ EarlierOn order f g.0 → place_of f ≡ 0
          go (inl s) = alike f g.0 s ∙ g.2
          go (inr e) = absurd (omega (arith, g.2, rises f g.0 t.has e))
  place-rank (suc k) f (g, t, n) = (n.has.best, next (place-rank k g t))
    where
      next : Optimal B order p g × (place_of g ≡ k) → place_of f ≡ suc k
      next (o, e) = go (has (suc k) (omega (arith, up, below f n.has.best)))
        where
          up : place_of g < place_of f
          up = rises g f o n.has.later

          go : (h : ℕ → ℕ) × Optimal B order p h × (place_of h ≡ suc k) → place_of f ≡ suc k
          go h = at (n.first h.0 (record { best = h.1; later = later g h.0 h.1 (omega (arith, h.2)) }))
            where
              at : SameOn order f h.0 ⊎ EarlierOn order f h.0 → place_of f ≡ suc k
              at (inl s) = alike f h.0 s ∙ h.2
              at (inr l) = absurd (omega (arith, up, h.2, rises f h.0 n.has.best l))

  -- THEOREM. The count is the number of best layouts ..
  pub count_is : HowMany B order p number
  count_is = go (has (number - 1) (omega (arith, some_one)))
    where
      some_one : 0 < number
      some_one = let t = has_best B L.lawful order 0 p v L.distinct solved in
          omega (arith, below t.0 (best_optimal B p order L t.0 t.1))

      go : (f : ℕ → ℕ) × Optimal B order p f × (place_of f ≡ number - 1) → HowMany B order p number
      go t = record {
        last = number - 1;
        layout = t.0;
        at = rank-place (number - 1) t.0 t.1 t.2;
        end = λ g s. omega (arith, some_one, t.2, rises t.0 g t.1 s.later, below g s.best);
        more = omega (arith, some_one);
      }

  -- .. and nothing else is.
  pub count_one : (c : ℕ) → HowMany B order p c → c ≡ number
  count_one c n = go (place-rank n.last n.layout n.at) (dec_lt (n.last + 1) number)
    where
      go : Optimal B order p n.layout × (place_of n.layout ≡ n.last) → Dec (n.last + 1 < number) → c ≡ number
      go (o, e) (no h) = omega (arith, n.more, e, below n.layout o)
      go (o, e) (yes h) = let t = has (n.last + 1) h in absurd (n.end t.0 (record {
        best = t.1;
        later = later n.layout t.0 t.1 (omega
            (arith, e, t.2));
      }))
