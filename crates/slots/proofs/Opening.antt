-- Laws of the open figures, from the last place to the first.
use mathlib.Core.Path.{◌≡◌, refl, sym, ap, ◌∙◌, subst}
use mathlib.Core.Logic.{⊎_elim}
use mathlib.Core.Bool.{Bool, false, ◌&&◌, ◌||◌}
use mathlib.Core.List.{List}
use Prim.Native.Nat.{ℕ, suc, ◌+◌, ◌*◌, ◌≤◌, ◌<◌}
use native.Mathlib.Omega.{arith}
use native.Mathlib.Nat.{mul-le-mul_right}
use lib.Dec.{leb, ltb}
use lib.ListN.{length, get_or, drop, replicate, get_or-replicate}
use lib.Seq.{drop-length}
use Rattle.numbers.specs.Kept.{KeptFrom}
use Rattle.numbers.proofs.Kept.{kept_all, kept_later, kept_twice}
use Rattle.strips.specs.Least.{Least}
use Rattle.pads.specs.Pads.{Sides}
use Rattle.pads.specs.Counts.{le_or_lt, drop_at}
use Rattle.slots.specs.Slots.{stored, opens_at, figures_at, figures_in, level, barred, open_figure, opened_of, opened_from, Written, Shuts, Opens}
use Rattle.slots.proofs.Spots.{row_in}

-- the marks say which ports are at the height of a pad from place k on
pub record Marked (S : Sides) (order : List ℕ) (shut : List Bool) (p k : ℕ) : Type 0 where
  pub long : length shut ≡ 128
  pub mark : (q : ℕ) → q < p → get_or shut q false ≡ barred S q (drop k order)

-- the open figures are done from place k on
pub record OpenFrom (S : Sides) (C : ℕ → ℕ → Least) (order : List ℕ) (p : ℕ) (w v : List ℕ) (k : ℕ) : Type 0 where
  pub kept : KeptFrom (figures_at (length order) p) w v
  pub opens : (i q : ℕ) → k ≤ i → i < length order → q < p → get_or v (opens_at (length order) p + (i * p + q)) 0 ≡ stored (open_figure S C order i q)

pub marked_none : (S : Sides) (order : List ℕ) (p : ℕ) → p ≤ 128 → Marked S order (replicate {A = Bool} 128 false) p (length order)
unfolding barred
marked_none S order p h = record {
  long = refl;
  mark = λ q u. get_or-replicate {A = Bool} 128 q false false (omega arith) ∙ ap (λ (js : List ℕ). barred S q js) (sym (drop-length order));
}

pub open_none : (S : Sides) (C : ℕ → ℕ → Least) (order : List ℕ) (p : ℕ) (w : List ℕ) → OpenFrom S C order p w w (length order)
open_none S C order p w = record { kept = kept_all (figures_at (length order) p) w; opens = λ i q u v k. absurd (omega arith) }

pub marked_more : (S : Sides) (order : List ℕ) (shut shut' : List Bool) (p k : ℕ) → p ≤ 128 → k < length order
    → Shuts (S.lo (get_or order k 0)) (S.hi (get_or order k 0)) shut shut' → Marked S order shut p (k + 1) → Marked S order shut' p k
unfolding barred level
marked_more S order shut shut' p k few inside T M = record {
  long = T.long ∙ M.long;
  mark = λ q u. T.marks q (omega (arith, M.long))
      ∙ ap (λ (x : Bool). (leb (S.lo (get_or order k 0)) q && ltb q (S.hi (get_or order k 0))) || x) (M.mark q u)
      ∙ ap (λ (js : List ℕ). barred S q js) (sym (drop_at order k inside));
}

module _ (S : Sides) (order : List ℕ) (p : ℕ) (w : List ℕ) where
  pub open_more : (shut : List Bool) (v u : List ℕ) (k : ℕ) → k < length order → get_or order k 0 < length order
      → Marked S order shut p (k + 1) → OpenFrom S (figures_in w (length order) p) order p w v (k + 1)
      → (to from : ℕ) → to ≡ opens_at (length order) p + k * p → from ≡ figures_at (length order) p + get_or order k 0 * p → Written v u to p (opened_from shut v from) p
      → OpenFrom S (figures_in w (length order) p) order p w u k
  open_more shut v u k inside listed M O to from et ef W' = record {
    kept = kept_twice O.kept (kept_later (figures_at (length order) p) (let t = row_in (length order) p k inside in omega arith) W.kept);
    opens = λ i q ki il qp. ⊎_elim
        (λ (s : i ≤ k). let e : k ≡ i = omega arith in
        subst (λ (m : ℕ). get_or u (opens_at (length order) p + (m * p + q)) 0 ≡ stored (open_figure S (figures_in w (length order) p) order m q)) e (here q qp))
        (λ (s : k < i). W.kept.rest (opens_at (length order) p + (i * p + q)) (let t = mul-le-mul_right {m = suc k} {n = i} p s in omega arith)
        ∙ O.opens i q (omega arith) il qp)
        (le_or_lt i k);
  }
    where
      W : Written v u (opens_at (length order) p + k * p) p (opened_from shut v (figures_at (length order) p + get_or order k 0 * p)) p
      W = rw (et, ef) at W'

      here : (q : ℕ) → q < p → get_or u (opens_at (length order) p + (k * p + q)) 0 ≡ stored (open_figure S (figures_in w (length order) p) order k q)
      here q qp =
          let e : opens_at (length order) p + (k * p + q) ≡ opens_at (length order) p + k * p + q = omega arith in
          let f : figures_at (length order) p + get_or order k 0 * p + q ≡ figures_at (length order) p + (get_or order k 0 * p + q) = omega arith in
          ap (λ (i : ℕ). get_or u i 0) e ∙ W.run q qp
          ∙ ap (opened_of (get_or shut q false)) (O.kept.rest (figures_at (length order) p + get_or order k 0 * p + q) (omega arith) ∙ ap (λ (i : ℕ). get_or w i 0) f)
          ∙ ap (λ (x : Bool). opened_of x (get_or w (figures_at (length order) p + (get_or order k 0 * p + q)) 0)) (M.mark q qp)

  pub open_all : (v : List ℕ) → OpenFrom S (figures_in w (length order) p) order p w v 0 → Opens S (figures_in w (length order) p) order p v
  open_all v O k q h u = O.opens k q (omega arith) h u
