-- Laws of a layer: its strips from those of the layer after it.
use mathlib.Core.Path.{◌≡◌, sym, ap, ap₂, ◌∙◌, subst}
use mathlib.Core.Logic.{⊎_elim}
use mathlib.Core.Bool.{Bool, true, false, cond}
use mathlib.Core.List.{List}
use Prim.Native.Nat.{ℕ, suc, ◌+◌, ◌-◌, ◌*◌, ◌^◌, ◌≤◌, ◌<◌, min, zero-le}
use native.Mathlib.Omega.{arith}
use lib.ListN.{length, get_or, drop, length-drop}
use lib.Seq.{drop-length}
use Rattle.numbers.specs.Kept.{KeptFrom}
use Rattle.numbers.proofs.Kept.{kept_later, kept_twice}
use Rattle.strips.specs.Least.{Least, none}
use Rattle.strips.proofs.Lists.{keep_same}
use Rattle.strips.specs.Grid as strip
use Rattle.pads.specs.Pads.{Sides, fits, pads_in, sides_of}
use Rattle.totals.specs.Strip.{grid, best_within, local_within}
use Rattle.pads.specs.Counts.{le_or_lt, drop_at, spans_by, spans_not_lo, spans_not_hi}
use Rattle.totals.specs.Masks.{add, best_within_nil, best_in, best_out}
use Rattle.totals.specs.Totals.{Capped, most_mono, most_plus, most_best, local_most, coded_none}
use Rattle.slots.specs.Slots.{no_sum, stored, layer_of, cell_at, opens_at, figures_at, figures_in, barred, open_figure, port_sum, lowest, follows, Written, Opens, Layer, LayerTo, Sums, Summed, Fillable, FilledStrips, figures_same}
use native.Mathlib.Nat.{mul-le-mul_right}
use Rattle.slots.proofs.Spots.{cell_in, layer_fits}
use Rattle.slots.proofs.Values.{stored_most, stored-plus, lowest_is, count-length, local_open}

-- what is kept is right as before
pub layer_kept : (S : Sides) (C : ℕ → ℕ → Least) (js : List ℕ) (p : ℕ) {w v : List ℕ} {m : ℕ} (next : ℕ) → KeptFrom m w v → m ≤ next → Layer S C js p w next → Layer S C js p v next
layer_kept S C js p next A h L a b ab bp = A.rest (cell_at p next a b) (omega arith) ∙ L a b ab bp

pub opens_kept : (S : Sides) (C : ℕ → ℕ → Least) (order : List ℕ) (p : ℕ) {w v : List ℕ} {m : ℕ} → KeptFrom m w v → m ≤ opens_at (length order) p → Opens S C order p w
    → Opens S C order p v
opens_kept S C order p A h O k q u k' = A.rest (opens_at (length order) p + (k * p + q)) (omega arith) ∙ O k q u k'

-- no pads: zeros
pub layer_last : (S : Sides) (C : ℕ → ℕ → Least) (order : List ℕ) (p : ℕ) (w v : List ℕ) (here : ℕ) → Written w v here (layer_of p) (λ _. 0) (layer_of p)
    → Layer S C (drop (length order) order) p v here
layer_last S C order p w v here W a b ab bp =
    W.run (b * (p + 2) + a) (cell_in p a b (omega arith) bp) ∙ sym (ap stored (ap (λ (js : List ℕ). best_within S C js a b) (drop-length order) ∙ best_within_nil S C a b))

module _ (S : Sides) (C : ℕ → ℕ → Least) (sided : (j : ℕ) → S.lo j ≤ S.hi j) (narrow : (j : ℕ) → S.hi j ≤ S.lo j + 1) (cheap : (j q : ℕ) → Capped (2 ^ 32) (C j q))
    (order : List ℕ) (few : length order ≤ 64) (p : ℕ) where
  pub best_small : (k a b : ℕ) → Capped (2 ^ 60) (best_within S C (drop k order) a b)
  best_small k a b =
      let t = count-length S a b (drop k order) in
      let u = length-drop k order in
      most_mono (pads_in S a b (drop k order) * 2 ^ 32) (2 ^ 60) (best_within S C (drop k order) a b) (omega arith) (most_best S C sided cheap (drop k order) a b)

  pub local_small : (k a b q : ℕ) → a ≤ q → q < b → Capped (2 ^ 60) (local_within S C (get_or order k 0) (drop (k + 1) order) a b q)
  local_small k a b q aq qb =
      let t = count-length S a b (drop (k + 1) order) in
      let u = length-drop (k + 1) order in
      most_mono ((1 + pads_in S a b (drop (k + 1) order)) * 2 ^ 32) (2 ^ 60) (local_within S C (get_or order k 0) (drop (k + 1) order) a b q) (omega arith)
      (local_most S C sided cheap (get_or order k 0) (drop (k + 1) order) a b q aq qb)

  open_small : (k q : ℕ) → Capped (2 ^ 32) (open_figure S C order k q)
  open_small k q = go (barred S q (drop (k + 1) order))
    where
      go : (t : Bool) → Capped (2 ^ 32) (cond t none (C (get_or order k 0) q))
      go true = tt
      go false = cheap (get_or order k 0) q

  pub stored_best : (k a b : ℕ) → stored (best_within S C (drop k order) a b) ≤ no_sum
  stored_best k a b = stored_most (best_within S C (drop k order) a b) (most_mono (2 ^ 60) (2 ^ 61) (best_within S C (drop k order) a b) (omega arith) (best_small k a b))

  stored_open : (k q : ℕ) → stored (open_figure S C order k q) ≤ no_sum
  stored_open k q = stored_most (open_figure S C order k q) (most_mono (2 ^ 32) (2 ^ 61) (open_figure S C order k q) (omega arith) (open_small k q))

  -- ---- the pad at place k, on the ports of strips that start at a

  module _ (k : ℕ) (w : List ℕ) (row next : ℕ) (er : row ≡ opens_at (length order) p + k * p) (kn : k < length order) (O : Opens S C order p w)
      (L : Layer S C (drop (k + 1) order) p w next) where
    open_at : (q : ℕ) → q < p → get_or w (row + q) 0 ≡ stored (open_figure S C order k q)
    open_at q h = let e : row + q ≡ opens_at (length order) p + (k * p + q) = omega arith in ap (λ (i : ℕ). get_or w i 0) e ∙ O k q kn h

    -- a port's total with the part below it only
    pub lower_is : (a q : ℕ) → a ≤ q → q < p → min no_sum (get_or w (row + q) 0 + get_or w (cell_at p next a q) 0)
        ≡ stored (add (open_figure S C order k q) (best_within S C (drop (k + 1) order) a q))
    lower_is a q aq qp =
        ap₂ (λ (s t : ℕ). min no_sum (s + t)) (open_at q qp) (L a q aq (omega arith))
        ∙ stored-plus (open_figure S C order k q) (best_within S C (drop (k + 1) order) a q)
        (most_mono (2 ^ 32) (2 ^ 60) (open_figure S C order k q) (omega arith) (open_small k q)) (best_small (k + 1) a q)

    lower_small : (a q : ℕ) → Capped (2 ^ 40) (add (open_figure S C order k q) (best_within S C (drop (k + 1) order) a q))
    lower_small a q =
        let t = count-length S a q (drop (k + 1) order) in
        let u = length-drop (k + 1) order in
        most_mono (2 ^ 32 + pads_in S a q (drop (k + 1) order) * 2 ^ 32) (2 ^ 40) (add (open_figure S C order k q) (best_within S C (drop (k + 1) order) a q)) (omega arith)
        (most_plus (2 ^ 32) (pads_in S a q (drop (k + 1) order) * 2 ^ 32) (open_figure S C order k q) (best_within S C (drop (k + 1) order) a q) (open_small k q)
        (most_best S C sided cheap (drop (k + 1) order) a q))

    -- a port's total, from the sum below it and the part above it
    pub port_is : (a b q s : ℕ) → a ≤ q → q < b → b ≤ p → s ≡ stored (add (open_figure S C order k q) (best_within S C (drop (k + 1) order) a q))
        → min no_sum (s + get_or w (cell_at p next 1 b + q) 0) ≡ stored (local_within S C (get_or order k 0) (drop (k + 1) order) a b q)
    port_is a b q s aq qb bp e =
        let at : cell_at p next 1 b + q ≡ cell_at p next (q + 1) b = omega arith in
        ap₂ (λ (s t : ℕ). min no_sum (s + t)) e (ap (λ (i : ℕ). get_or w i 0) at ∙ L (q + 1) b (omega arith) bp)
        ∙ stored-plus (add (open_figure S C order k q) (best_within S C (drop (k + 1) order) a q)) (best_within S C (drop (k + 1) order) (q + 1) b)
        (most_mono (2 ^ 40) (2 ^ 60) (add (open_figure S C order k q) (best_within S C (drop (k + 1) order) a q)) (omega arith) (lower_small a q)) (best_small (k + 1) (q + 1) b)
        ∙ ap stored (sym (local_open S sided narrow a b q aq qb C (get_or order k 0) (drop (k + 1) order)))

    -- what `sum_row` and `fill_strips` ask
    pub summed : (a : ℕ) → a ≤ p → p ≤ 128 → row + p ≤ length w → next + layer_of p ≤ length w → Summed w row next p a
    summed a ap' ports rows layers = record {
      ports = ports;
      start = ap';
      figures = rows;
      layer = layers;
      small_figures = λ q h. rw (open_at q h) (stored_open k q);
      small_totals = λ q u h. rw (L a q u (omega arith)) (stored_best (k + 1) a q);
    }

    pub fillable : (r : List ℕ) (here a h : ℕ) → next ≡ here + layer_of p → a ≤ h → h ≤ p → p ≤ 128 → next + layer_of p ≤ length w → Sums r w row next p a
        → Fillable r w here p a h
    fillable r here a h en ah hp ports layers R = record {
      ports = ports;
      start = ah;
      end = hp;
      sums = R.long;
      layers = omega arith;
      small_row = λ q u v. let t = R.sum q u v in omega arith;
      small_column = λ q b u v t. rw (← en) (rw (L (q + 1) b (omega arith) t) (stored_best (k + 1) (q + 1) b));
    }

    pub strip_is : (r : List ℕ) (a b : ℕ) → Sums r w row next p a → a ≤ b → b ≤ p → fits S a b (get_or order k 0) ≡ true
        → lowest (port_sum r w (cell_at p next 1 b)) a (b - a) ≡ stored (best_within S C (drop k order) a b)
    strip_is r a b R ab bp f =
        lowest_is (local_within S C (get_or order k 0) (drop (k + 1) order) a b) (port_sum r w (cell_at p next 1 b)) a (b - a)
        (λ q u v. port_is a b q (get_or r q 0) u (omega arith) bp (R.sum q u (omega arith) ∙ lower_is a q u (omega arith)))
        (λ q u v. most_mono (2 ^ 60) (2 ^ 61) (local_within S C (get_or order k 0) (drop (k + 1) order) a b q) (omega arith) (local_small k a b q u (omega arith)))
        ∙ ap stored (sym (best_in S C (get_or order k 0) (drop (k + 1) order) a b f) ∙ ap (λ (js : List ℕ). best_within S C js a b) (sym (drop_at order k kn)))

  -- ---- a layer while it is filled

  pub to_none : (k : ℕ) (w v : List ℕ) (here : ℕ) → k < length order → Written w v here (layer_of p) (follows w (here + layer_of p)) (layer_of p)
      → Layer S C (drop (k + 1) order) p w (here + layer_of p) → LayerTo S C order p k w v here 0
  to_none k w v here kn W L = record {
    kept = W.kept;
    cells = λ a b ab bp n. W.run (b * (p + 2) + a) (cell_in p a b (omega arith) bp) ∙ L a b ab bp
        ∙ ap stored (sym (best_out S C (get_or order k 0) (drop (k + 1) order) a b (out a b n)) ∙ ap (λ (js : List ℕ). best_within S C js a b) (sym (drop_at order k kn)));
  }
    where
      out : (a b : ℕ) → (0 ≤ a → a ≤ S.lo (get_or order k 0) → S.hi (get_or order k 0) ≤ b → ⊥) → fits S a b (get_or order k 0) ≡ false
      out a b n =
          ⊎_elim
          (λ (u : a ≤ S.lo (get_or order k 0)). ⊎_elim
          (λ (t : S.hi (get_or order k 0) ≤ b). absurd (n zero-le u t))
          (λ (t : b < S.hi (get_or order k 0)). spans_not_hi a b (S.lo (get_or order k 0)) (S.hi (get_or order k 0)) u t)
          (le_or_lt (S.hi (get_or order k 0)) b))
          (λ (u : S.lo (get_or order k 0) < a). spans_not_lo a b (S.lo (get_or order k 0)) (S.hi (get_or order k 0)) u)
          (le_or_lt a (S.lo (get_or order k 0)))

  pub to_more : (k : ℕ) (w v u r : List ℕ) (here row a : ℕ) → row ≡ opens_at (length order) p + k * p → k < length order → Opens S C order p v
      → Layer S C (drop (k + 1) order) p v (here + layer_of p) → Sums r v row (here + layer_of p) p a → a ≤ S.lo (get_or order k 0)
      → FilledStrips r v u here p a (S.hi (get_or order k 0)) (p + 1) → LayerTo S C order p k w v here a → LayerTo S C order p k w u here (a + 1)
  to_more k w v u r here row a er kn O L R al F T = record {
    kept = kept_twice T.kept F.kept;
    cells = λ a' b' ab bp n. ⊎_elim
        (λ (x : a' ≤ a). ⊎_elim
        (λ (y : a ≤ a'). let e : a ≡ a' = omega arith in ⊎_elim
        (λ (z : S.hi (get_or order k 0) ≤ b').
        subst (λ (i : ℕ). get_or u (cell_at p here i b') 0 ≡ stored (best_within S C (drop k order) i b')) e
        (F.filled b' z (omega arith) bp
        ∙ strip_is k v row (here + layer_of p) er kn O L r a b' R (omega arith) bp (spans_by a b' (S.lo (get_or order k 0)) (S.hi (get_or order k 0)) al z)))
        (λ (z : b' < S.hi (get_or order k 0)). F.others a' b' ab bp (λ s t i. absurd (omega arith)) ∙ T.cells a' b' ab bp (λ s t i. absurd (omega arith)))
        (le_or_lt (S.hi (get_or order k 0)) b'))
        (λ (y : a' < a). F.others a' b' ab bp (λ s t i. absurd (omega arith)) ∙ T.cells a' b' ab bp (λ s t i. absurd (omega arith)))
        (le_or_lt a a'))
        (λ (x : a < a'). F.others a' b' ab bp (λ s t i. absurd (omega arith)) ∙ T.cells a' b' ab bp (λ s t i. n (omega arith) t i))
        (le_or_lt a' a);
  }

  pub to_all : (k : ℕ) (w v : List ℕ) (here a : ℕ) → S.lo (get_or order k 0) < a → LayerTo S C order p k w v here a → Layer S C (drop k order) p v here
  to_all k w v here a h T a' b' ab bp = T.cells a' b' ab bp (λ s t i. absurd (omega arith))

-- ---- all layers

-- the layers from that of place k on are right
pub record LayersFrom (S : Sides) (C : ℕ → ℕ → Least) (order : List ℕ) (p : ℕ) (w : List ℕ) (k : ℕ) : Type 0 where
  pub opens : Opens S C order p w
  pub right : (i : ℕ) → k ≤ i → i ≤ length order → Layer S C (drop i order) p w (i * layer_of p)

pub from_last : (S : Sides) (order : List ℕ) (p : ℕ) (u w v : List ℕ) (here : ℕ) → here ≡ length order * layer_of p
    → KeptFrom (figures_at (length order) p) u w → Opens S (figures_in u (length order) p) order p w → Written w v here (layer_of p) (λ _. 0) (layer_of p)
    → LayersFrom S (figures_in v (length order) p) order p v (length order)
from_last S order p u w v here eh A O W =
    let n = length order in
    let last = layer_fits n p n (omega arith) in
    let f = figures_same n p {w = u} {v = v} (kept_twice A (kept_later (figures_at n p) (omega arith) W.kept)) in
    record {
      opens = subst (λ (D : ℕ → ℕ → Least). Opens S D order p v) (sym f) (opens_kept S (figures_in u n p) order p W.kept (omega arith) O);
      right = λ i h k. let e : length order ≡ i = omega arith in
          subst (λ (m : ℕ). Layer S (figures_in v n p) (drop m order) p v (m * layer_of p)) e (rw (← eh) (layer_last S (figures_in v n p) order p w v here W));
    }

pub from_more : (S : Sides) (order : List ℕ) (p : ℕ) (u w v : List ℕ) (k : ℕ) → k < length order → KeptFrom (figures_at (length order) p) u w
    → LayersFrom S (figures_in u (length order) p) order p w (k + 1) → KeptFrom (k * layer_of p + layer_of p) w v
    → Layer S (figures_in w (length order) p) (drop k order) p v (k * layer_of p) → LayersFrom S (figures_in u (length order) p) order p v k
from_more S order p u w v k kn A L D here =
    let n = length order in
    let fits = layer_fits n p k (omega arith) in
    let f = figures_same n p {w = u} {v = w} A in
    record {
      opens = opens_kept S (figures_in u n p) order p D fits L.opens;
      right = λ i h l. ⊎_elim
          (λ (x : i ≤ k). let e : k ≡ i = omega arith in
          subst (λ (m : ℕ). Layer S (figures_in u n p) (drop m order) p v (m * layer_of p)) e
          (subst (λ (E : ℕ → ℕ → Least). Layer S E (drop k order) p v (k * layer_of p)) f here))
          (λ (x : k < i). layer_kept S (figures_in u n p) (drop i order) p (i * layer_of p) D
          (let t = mul-le-mul_right {m = suc k} {n = i} (layer_of p) x in omega arith) (L.right i (omega arith) l))
          (le_or_lt i k);
    }

-- the first layer's strip of all ports has the least total of all pads
pub whole_is : (lo hi order : List ℕ) (C : ℕ → ℕ → Least) (p : ℕ) (w : List ℕ) → ((j : ℕ) → get_or hi j 0 ≤ p) → LayersFrom (sides_of lo hi) C order p w 0
    → get_or w (p * (p + 2)) 0 ≡ stored (strip.best (grid (sides_of lo hi) C) order 0 p)
unfolding best_within
whole_is lo hi order C p w top L =
    let e : p * (p + 2) ≡ cell_at p (0 * layer_of p) 0 p = omega arith in
    ap (λ (i : ℕ). get_or w i 0) e ∙ L.right 0 zero-le zero-le 0 p zero-le (omega arith)
    ∙ ap (λ (l : List ℕ). stored (strip.best (grid (sides_of lo hi) C) l 0 p))
    (keep_same (fits (sides_of lo hi) 0 p) order (λ j m. spans_by 0 p (get_or lo j 0) (get_or hi j 0) zero-le (top j)))

pub whole_none : (lo hi order : List ℕ) (C : ℕ → ℕ → Least) (p v : ℕ) → ((j : ℕ) → get_or lo j 0 ≤ get_or hi j 0) → ((j : ℕ) → get_or hi j 0 ≤ get_or lo j 0 + 1)
    → ((j q : ℕ) → Capped (2 ^ 32) (C j q)) → length order ≤ 64 → ((j : ℕ) → get_or hi j 0 ≤ p) → v ≡ stored (strip.best (grid (sides_of lo hi) C) order 0 p) → no_sum ≤ v
    → strip.best (grid (sides_of lo hi) C) order 0 p ≡ none
unfolding best_within
whole_none lo hi order C p v sided narrow cheap few top e h =
    let k = keep_same (fits (sides_of lo hi) 0 p) order (λ j m. spans_by 0 p (get_or lo j 0) (get_or hi j 0) zero-le (top j)) in
    let small = best_small (sides_of lo hi) C sided narrow cheap order few p 0 0 p in
    let all = strip.best (grid (sides_of lo hi) C) order 0 p in
    let few-all = subst (λ (l : List ℕ). Capped (2 ^ 60) (strip.best (grid (sides_of lo hi) C) l 0 p)) k small in
    let most = stored_most all (most_mono (2 ^ 60) (2 ^ 61) all (omega arith) few-all) in
    coded_none no_sum (2 ^ 60) all few-all (omega arith) (omega arith)
