-- The paper's board is a board of strips, in which a pad may not use the ports that squares bar: untouching layouts, totals, best layouts and their order are those of its lists.
use Rattle.std.specs.Prelude.{◌≡◌, refl, ◌⊎◌, ◌↔◌, true, ℕ, zero, suc, ◌+◌, ◌≤◌, ◌<◌, length, get_or}
use Rattle.std.proofs.Common.{sym, ap, ◌∙◌, subst, inl, inr, true≢false, zero-le, arith}
use mathlib.Core.List.{List, Memᴰ}
use Rattle.std.proofs.Math.Decide.{dec_lt, ℕ_discrete}
use Rattle.std.proofs.Math.ListN.{get_or-eq_default}
use Rattle.strips.specs.Least.{none, some}
use Rattle.strips.specs.Grid.{Grid, Sol, Misses}
use Rattle.strips.specs.Grid as strips
use Rattle.strips.specs.Order.{SameOn, EarlierOn, EarliestOn}
use Rattle.strips.proofs.Order.{earlier_not_same, earlier_asym}
use Rattle.strips.specs.FirstNext.{Optimal, Later}
use Rattle.strips.specs.ByPlace.{sum_to}
use Rattle.strips.proofs.ByPlace.{mem_at, place_mem, free_places, places_free, earlier_differ, differ_earlier, sum_order}
use Rattle.numbers.specs.Arrangement.{Arrangement}
use Rattle.pads.specs.Pads.{Pads}
use Rattle.totals.specs.Strip.{given, value}
use Rattle.choices.specs.Source.{Source, figures_on, grid_on}
use Rattle.choices.specs.Choices as choices
use Rattle.choices.specs.Lists.{distinct}
use Rattle.paper.specs.Leaders.{Between}
use Rattle.paper.specs.Layouts.{Board, Untouching, sum, total}
use Rattle.paper.specs.Problem.{Best, Before, FirstBest, NextBest, LastBest, labeling}
use Rattle.paper.proofs.laws.Totals.{sum_same}
use Rattle.paper.proofs.laws.Boards.{leaders_apart_iff, untouching_of}
use Rattle.paper.specs.laws.Squares.{Open}
use Rattle.paper.proofs.laws.Squares.{open_iff}
use Rattle.board.specs.Lists.{ListsOf, CostsOn}
use Rattle.board.specs.Sides.{low_high, narrow, clear_iff}

-- ---- sums

sum_to_lem : (c : ℕ → ℕ) (n : ℕ) → sum_to c n ≡ sum n c
unfolding sum_to sum
sum_to_lem c zero = refl
sum_to_lem c (suc n) = omega (arith, sum_to_lem c n)

-- ---- the lists of a board are what a table asks for

module _ {b : Board} {order lo hi : List ℕ} (W : ListsOf b order lo hi) where
  same_n : length order ≡ b.pads
  same_n = W.listed.arranged.long

  default : (l : List ℕ) → length l ≡ b.pads → (j : ℕ) → ¬ (j < b.pads) → get_or l j 0 ≡ 0
  default l e j h = get_or-eq_default l 0 {n = j} (omega arith)

  level : (j : ℕ) → get_or lo j 0 ≤ get_or hi j 0
  level j = go (dec_lt j b.pads)
    where
      go : Dec (j < b.pads) → get_or lo j 0 ≤ get_or hi j 0
      go (yes h) = low_high b.ports b.port W.proper.rising (W.sides.low.at j h) (W.sides.high.at j h)
      go (no h) = omega (arith, default lo W.sides.low.long j h)

  thin : (j : ℕ) → get_or hi j 0 ≤ get_or lo j 0 + 1
  thin j = go (dec_lt j b.pads)
    where
      go : Dec (j < b.pads) → get_or hi j 0 ≤ get_or lo j 0 + 1
      go (yes h) = narrow b.ports b.port W.proper.rising (W.sides.low.at j h) (W.sides.high.at j h)
      go (no h) = omega (arith, default hi W.sides.high.long j h)

  top : (j : ℕ) → get_or hi j 0 ≤ b.ports
  top j = go (dec_lt j b.pads)
    where
      go : Dec (j < b.pads) → get_or hi j 0 ≤ b.ports
      go (yes h) = (W.sides.high.at j h).top
      go (no h) = omega (arith, default hi W.sides.high.long j h)

  lows : length lo ≡ length order
  lows = W.sides.low.long ∙ sym same_n

  highs : length hi ≡ length order
  highs = W.sides.high.long ∙ sym same_n

  inside : (k : ℕ) → k < length order → get_or order k 0 < length order
  inside k h = omega (arith, W.listed.arranged.inside k h, same_n)

  arranged : Arrangement (length order) order
  arranged = rw same_n W.listed.arranged

  pub pads : Pads order lo hi b.ports
  pads = record {
    few = omega (arith, W.few, same_n);
    ports = W.slots_few;
    lows = lows;
    highs = highs;
    listed = inside;
    level = level;
    narrow = thin;
    top = top;
  }

  -- As many ports as pads.
  pub even_pads : b.ports ≡ b.pads → Pads order lo hi (length order)
  even_pads even = subst (Pads order lo hi) (even ∙ sym same_n) pads

module _ {b : Board} {order lo hi : List ℕ} {T : Source} {cost : ℕ → ℕ → ℕ} (W : ListsOf b order lo hi) (C : CostsOn b cost T) where
  -- ---- the search's board is proper, and it has the board's costs

  abbrev G : Grid
  G = grid_on order T lo hi

  pub proper : choices.ProperLists order T lo hi
  proper = record {
    pads = subst (Pads order lo hi) (sym C.ports) (pads W);
    arranged = arranged W;
  }

  figure-at : (j q : ℕ) → j < b.pads → q < b.ports → Open b j q → figures_on T (length order) j q ≡ some (cost j q)
  figure-at j q h k o = rw (same_n W) (C.at j q h k o)

  -- Where there is a figure the leader is open: to be open says of no square that it is met.
  given_open : (j q : ℕ) → j < b.pads → q < b.ports → given (figures_on T (length order) j q) ≡ true → Open b j q
  given_open j q h k e i l ne s m =
      let none : figures_on T (length order) j q ≡ none = rw (same_n W) (C.shut j q h k (λ o. o i l ne s m)) in
      absurd (true≢false (sym e ∙ ap given none))

  -- ---- touching

  at : (p : ℕ) → p < b.pads → get_or order p 0 < b.pads
  at p h = W.listed.arranged.inside p (omega (arith, same_n W))

  clear_at : (q j r : ℕ) → j < b.pads → q < b.ports → r < b.ports → Misses G q j r ↔ (¬ Between (b.port q) (b.y j) (b.port r))
  clear_at q j r h l m = clear_iff b.ports b.port W.proper.rising (W.sides.low.at j h) (W.sides.high.at j h) q r l m

  -- of two pads the right one stands first
  earlier_place : (p q : ℕ) → p < b.pads → q < b.pads → b.x (get_or order q 0) < b.x (get_or order p 0) → p < q
  earlier_place p q h l r = go (dec_lt p q) (ℕ_discrete p q)
    where
      go : Dec (p < q) → Dec (p ≡ q) → p < q
      go (yes d) e = d
      go (no d) (yes e) = let z : b.x (get_or order q 0) ≡ b.x (get_or order p 0) = rw e refl in absurd (omega arith)
      go (no d) (no e) = absurd (omega (arith, W.listed.falls q p (omega arith) h))

  member : (j : ℕ) → j < b.pads → Memᴰ j order
  member j h = let t = W.listed.arranged.covers j h in subst (λ (i : ℕ). Memᴰ i order) t.2 (place_mem order t.0 (omega (arith, t.1, same_n W)))

  below : (j : ℕ) → Memᴰ j order → j < b.pads
  below j m = let t = mem_at order j m in subst (λ (i : ℕ). i < b.pads) t.2 (at t.0 (omega (arith, t.1, same_n W)))

  -- What the search calls a layout is untouching,
  pub sol_untouching : (f : ℕ → ℕ) → Sol G order 0 T.ports f → Untouching b f
  sol_untouching f s = untouching_of b f port ((open_iff b f).1 ((leaders_apart_iff b f W.proper.differ).1 apart, λ i h. given_open i (f i) h (port i h) (s.inside i (member i h)).allowed))
    where
      port : (j : ℕ) → j < b.pads → f j < b.ports
      port j h = omega (arith, (s.inside j (member j h)).high, C.ports)

      apart : (i j : ℕ) → i < b.pads → j < b.pads → b.x j < b.x i → ¬ Between (b.port (f i)) (b.y j) (b.port (f j))
      apart i j h l r =
          let a = W.listed.arranged.covers i h in
          let c = W.listed.arranged.covers j l in
          let k = earlier_place a.0 c.0 a.1 c.1 (rw (a.2, c.2) r) in
          let d = free_places G f order s.free a.0 c.0 k (omega (arith, c.1, same_n W)) in
          (clear_at (f i) j (f j) l (port i h) (port j l)).0 (rw (a.2, c.2) at d)

  -- and every untouching layout is one.
  pub untouching_sol : (f : ℕ → ℕ) → Untouching b f → Sol G order 0 T.ports f
  untouching_sol f u = record {
    free = places_free G f order (λ p q h l.
        let k : q < b.pads = omega (arith, same_n W) in
        let i = at p (omega arith) in
        let j = at q k in
        (clear_at (f (get_or order p 0)) (get_or order q 0) (f (get_or order q 0)) j (port (get_or order p 0) i) (port (get_or order q 0) j)).1
        ((leaders_apart_iff b f W.proper.differ).0 ((open_iff b f).0 u.apart).0 (get_or order p 0) (get_or order q 0) i j (W.listed.falls p q h k)));
    inside = λ j m. let l = below j m in
        record { low = zero-le; high = omega (arith, port j l, C.ports); allowed = ap given (figure-at j (f j) l (port j l) (((open_iff b f).0 u.apart).1 j l)) };
  }
    where
      port : (j : ℕ) → j < b.pads → f j < b.ports
      port j h = u.layout.inside j h

  -- ---- totals

  -- The search's sum is the total.
  pub sum-total : (f : ℕ → ℕ) → Untouching b f → strips.cost_sum G.cost order f ≡ total b cost f
  sum-total f u =
      sum_order G.cost f b.pads order (distinct (arranged W)) below member
      ∙ sum_to_lem (λ j. G.cost j (f j)) b.pads
      ∙ sum_same b.pads (λ j. G.cost j (f j)) (λ j. cost j (f j)) (λ j h. ap value (figure-at j (f j) h (u.layout.inside j h) (((open_iff b f).0 u.apart).1 j h)))

  -- ---- best layouts and their order

  -- The search's best layouts are the best layouts,
  pub optimal_is_best : (f : ℕ → ℕ) → Optimal G order T.ports f → Best (labeling b cost) f
  optimal_is_best f o = let u = sol_untouching f o.layout in record {
    counts = u;
    least = λ g v. rw (← sum-total f u, ← sum-total g v) (o.least g (untouching_sol g v));
  }

  pub best_is_optimal : (f : ℕ → ℕ) → Best (labeling b cost) f → Optimal G order T.ports f
  best_is_optimal f s = record {
    layout = untouching_sol f s.counts;
    least = λ g t. rw (sum-total f s.counts, sum-total g (sol_untouching g t)) (s.least g (sol_untouching g t));
  }

  -- its order is the order of layouts,
  earlier_before : (f g : ℕ → ℕ) → EarlierOn order f g → Before b f g
  earlier_before f g e = let d = earlier_differ f g order e in let k : d.place < b.pads = omega (arith, d.inside, same_n W) in record {
    pad = get_or order d.place 0;
    inside = at d.place k;
    smaller = d.less;
    alike = λ i h r. let a = W.listed.arranged.covers i h in rw a.2 at (d.alike a.0 (earlier_place a.0 d.place a.1 k (rw a.2 r)));
  }

  before_earlier : (f g : ℕ → ℕ) → Before b f g → EarlierOn order f g
  before_earlier f g s =
      let a = W.listed.arranged.covers s.pad s.inside in
      differ_earlier f g order a.0 (omega (arith, a.1, same_n W)) (rw a.2 s.smaller)
      (λ p h. let l : p < b.pads = omega (arith, a.1) in s.alike (get_or order p 0) (at p l) (rw a.2 at (W.listed.falls p a.0 h a.1)))

  last : (f g : ℕ → ℕ) → SameOn order f g ⊎ EarlierOn order f g → ¬ Before b g f
  last f g (inl s) c = earlier_not_same g f order (before_earlier g f c) (λ i m. sym (s i m))
  last f g (inr e) c = earlier_asym f g order e (before_earlier g f c)

  -- THEOREMS: the search's first, next and last best layouts are those of the paper.
  pub first_best : (f : ℕ → ℕ) → EarliestOn order (Optimal G order T.ports) f → FirstBest (labeling b cost) f
  first_best f e = record { best = optimal_is_best f e.has; earliest = λ g s. last f g (e.first g (best_is_optimal g s)) }

  pub next_best : (l f : ℕ → ℕ) → EarliestOn order (Later G order T.ports l) f → NextBest (labeling b cost) l f
  next_best l f e = record {
    best = optimal_is_best f e.has.best;
    later = earlier_before l f e.has.later;
    earliest = λ g s k. last f g (e.first g (record { best = best_is_optimal g s; later = before_earlier l g k }));
  }

  pub last_best : (l : ℕ → ℕ) → ((g : ℕ → ℕ) → ¬ Later G order T.ports l g) → LastBest (labeling b cost) l
  last_best l e g s k = e g (record { best = best_is_optimal g s; later = before_earlier l g k })
