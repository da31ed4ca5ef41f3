-- Laws of a row of sums, and of the strips that are filled from it.
use mathlib.Core.Path.{◌≡◌, refl, ap, ◌∙◌, subst}
use mathlib.Core.Logic.{⊎_elim}
use mathlib.Core.List.{List}
use Prim.Native.Nat.{ℕ, ◌+◌, ◌-◌, ◌≤◌, ◌<◌, min}
use native.Mathlib.Omega.{arith}
use lib.ListN.{length, get_or, set, length-set}
use lib.Seq.{get_or-set_same, get_or-set_other}
use Rattle.numbers.specs.Kept.{KeptFrom}
use Rattle.numbers.proofs.Kept.{kept_all, kept_set}
use Rattle.pads.specs.Counts.{le_or_lt}
use Rattle.slots.specs.Slots.{no_sum, layer_of, cell_at, port_sum, lowest, Sums, Readable, Fillable, FilledStrips}
use Rattle.slots.proofs.Spots.{cell_in, cell_apart}

-- what serves a strip serves a part of it
pub readable_part : {r w : List ℕ} {above a b : ℕ} → Readable r w above a b → (c d : ℕ) → a ≤ c → c ≤ d → d ≤ b → Readable r w above c d
readable_part R c d ac cd db = record {
  start = cd;
  sums = omega (arith, R.sums);
  column = omega (arith, R.column);
  small_row = λ q u v. R.small_row q (omega arith) (omega arith);
  small_column = λ q u v. R.small_column q (omega arith) (omega arith);
}

-- the ports a .. c - 1 are done
pub record SumsTo (r w : List ℕ) (row next p a c : ℕ) : Type 0 where
  pub long : length r ≡ 128
  pub sum : (q : ℕ) → a ≤ q → q < c → get_or r q 0 ≡ min no_sum (get_or w (row + q) 0 + get_or w (cell_at p next a q) 0)

pub sums_none : (r w : List ℕ) (row next p a : ℕ) → length r ≡ 128 → SumsTo r w row next p a a
sums_none r w row next p a h = record { long = h; sum = λ q u v. absurd (omega arith) }

pub sums_more : (r w : List ℕ) (row next p a c : ℕ) → p ≤ 128 → a ≤ c → c < p → (x : ℕ) → x ≡ min no_sum (get_or w (row + c) 0 + get_or w (cell_at p next a c) 0)
    → SumsTo r w row next p a c → SumsTo (set r c x) w row next p a (c + 1)
sums_more r w row next p a c few ac cp x e R = record {
  long = length-set r c x ∙ R.long;
  sum = λ q u v. ⊎_elim
      (λ (s : c ≤ q). let same : c ≡ q = omega arith in
      subst (λ (n : ℕ). get_or (set r c x) n 0 ≡ min no_sum (get_or w (row + n) 0 + get_or w (cell_at p next a n) 0)) same
      (get_or-set_same r c x 0 (omega (arith, R.long)) ∙ e))
      (λ (s : q < c). get_or-set_other r c q x 0 (λ n. absurd (omega arith)) ∙ R.sum q u s)
      (le_or_lt c q);
}

pub sums_all : (r w : List ℕ) (row next p a c : ℕ) → p ≤ c → SumsTo r w row next p a c → Sums r w row next p a
sums_all r w row next p a c h R = record { long = R.long; sum = λ q u v. R.sum q u (omega arith) }

-- ---- the strips of a row

module _ (r w : List ℕ) (here p a h : ℕ) (F : Fillable r w here p a h) where
  pub strips_none : FilledStrips r w w here p a h h
  strips_none = record { kept = kept_all (here + layer_of p) w; filled = λ b u v k. absurd (omega arith); others = λ a' b' u k n. refl }

  -- what `least_total` asks
  pub strips_read : (v : List ℕ) (b above : ℕ) → above ≡ cell_at p (here + layer_of p) 1 b → h ≤ b → b ≤ p → FilledStrips r w v here p a h b → Readable r v above a b
  strips_read v b above e hb bp R = rw e (record {
    start = omega (arith, F.start);
    sums = omega (arith, F.sums, F.ports);
    column = omega (arith, cell_in p (p + 1) b (omega arith) bp, F.layers, R.kept.long);
    small_row = λ q u k. F.small_row q u (omega arith);
    small_column = λ q u k. let e : cell_at p (here + layer_of p) (q + 1) b ≡ cell_at p (here + layer_of p) 1 b + q = omega arith in
        rw (R.kept.rest (cell_at p (here + layer_of p) 1 b + q) (omega arith), ← e) (F.small_column q b u k bp);
  })

  -- the columns of the layer after are as they were, so the sums are
  sums_same : (v : List ℕ) (b : ℕ) → KeptFrom (here + layer_of p) w v
      → lowest (port_sum r v (cell_at p (here + layer_of p) 1 b)) a (b - a) ≡ lowest (port_sum r w (cell_at p (here + layer_of p) 1 b)) a (b - a)
  sums_same v b A = λ i. lowest (λ q. get_or r q 0 + A.rest (cell_at p (here + layer_of p) 1 b + q) (omega arith) i) a (b - a)

  pub strips_more : (v : List ℕ) (b x at above : ℕ) → at ≡ cell_at p here a b → above ≡ cell_at p (here + layer_of p) 1 b → h ≤ b → b ≤ p → x ≡ lowest (port_sum r v above) a (b - a)
      → FilledStrips r w v here p a h b → FilledStrips r w (set v at x) here p a h (b + 1)
  strips_more v b x at above ea eb hb bp e R = rw ea (record {
    kept = kept_set (here + layer_of p) w v (cell_at p here a b) x (omega (arith, cell_in p a b (omega (arith, F.start)) bp)) R.kept;
    filled = λ b' u k t. ⊎_elim
        (λ (s : b ≤ b'). let same : b ≡ b' = omega arith in
        subst (λ (n : ℕ). get_or (set v (cell_at p here a b) x) (cell_at p here a n) 0 ≡ lowest (port_sum r w (cell_at p (here + layer_of p) 1 n)) a (n - a)) same
        (get_or-set_same v (cell_at p here a b) x 0 (omega (arith, cell_in p a b (omega (arith, F.start)) bp, F.layers, R.kept.long)) ∙ e ∙ ap (λ (i : ℕ). lowest (port_sum r v i) a (b - a)) eb ∙ sums_same v b R.kept))
        (λ (s : b' < b). get_or-set_other v (cell_at p here a b) (cell_at p here a b') x 0
        (λ n. let d = cell_apart p a b' a b (omega (arith, F.start)) (omega (arith, F.start)) (omega arith) in absurd (omega (arith, d.1))) ∙ R.filled b' u s t)
        (le_or_lt b b');
    others = λ a' b' u k n. get_or-set_other v (cell_at p here a b) (cell_at p here a' b') x 0
        (λ z. let d = cell_apart p a' b' a b (omega arith) (omega (arith, F.start)) (omega arith) in n d.0 (omega (arith, d.1)) (omega (arith, d.1)))
        ∙ R.others a' b' u k (λ s t y. n s t (omega arith));
  })

  pub strips_all : (v : List ℕ) (b : ℕ) → p < b → b ≤ p + 1 → FilledStrips r w v here p a h b → FilledStrips r w v here p a h (p + 1)
  strips_all v b k l R = let e : b ≡ p + 1 = omega arith in rw e at R
