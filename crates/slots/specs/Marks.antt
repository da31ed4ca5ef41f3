-- Laws of marks that are set one after the other: none at first, one more by a store; and of what is marked and what is not.
use Rattle.std.specs.Prelude.{◌≡◌, refl, cond, ◌&&◌, List, ℕ, ◌+◌, ◌≤◌, ◌<◌, leb, ltb, length, get_or, set}
use Rattle.std.proofs.Common.{◌∙◌, ⊎_elim, arith, length-set, get_or-set_same, get_or-set_other, le-leb, lt-ltb, le-ltb}
use Rattle.std.proofs.Math.Decide.{dec_lt}
use Rattle.std.proofs.lemmas.Bool.{lt-leb}
use Rattle.pads.specs.Counts.{le_or_lt}
use Rattle.slots.specs.Slots.{Shut}

pub mark_none : (w : List ℕ) (l h : ℕ) → h ≤ l → Shut l h w w
mark_none w l h le = record {
  long = refl;
  marks = λ q u. ⊎_elim
      (λ (s : l ≤ q). rw (le-leb l q s, le-ltb q h (omega arith)))
      (λ (s : q < l). rw (lt-leb l q s))
      (le_or_lt l q);
}

module _ {l h : ℕ} {w v : List ℕ} (M : Shut l h w v) (q : ℕ) (inside : q < length w) where
  pub mark_in : l ≤ q → q < h → get_or v q 0 ≡ 1
  mark_in s t = rw (le-leb l q s, lt-ltb q h t) at (M.marks q inside)

  pub mark_out : ¬ ((l ≤ q) × (q < h)) → get_or v q 0 ≡ get_or w q 0
  mark_out n = ⊎_elim
      (λ (s : l ≤ q). ⊎_elim (λ (t : h ≤ q). rw (le-leb l q s, le-ltb q h t) at (M.marks q inside)) (λ (t : q < h). absurd (n (s, t))) (le_or_lt h q))
      (λ (s : q < l). rw (lt-leb l q s) at (M.marks q inside))
      (le_or_lt l q)

pub mark_more : (w v : List ℕ) (l h x : ℕ) → x ≡ 1 → l ≤ h → h < length w → Shut l h w v → Shut l (h + 1) w (set v h x)
mark_more w v l h x one le room M = record { long = length-set v h x ∙ M.long; marks = λ q u. go q u (dec_lt q h) (dec_lt h q) }
  where
    go : (q : ℕ) → q < length w → Dec (q < h) → Dec (h < q) → get_or (set v h x) q 0 ≡ cond (leb l q && ltb q (h + 1)) 1 (get_or w q 0)
    go q u (yes d) e = rw (lt-ltb q (h + 1) (omega arith)) (get_or-set_other v h q x 0 (λ n. omega arith) ∙ (rw (lt-ltb q h d) at (M.marks q u)))
    go q u (no d) (yes e) = rw (le-leb l q (omega arith), le-ltb q (h + 1) (omega arith)) (get_or-set_other v h q x 0 (λ n. omega arith) ∙ mark_out M q u (λ (s, t). d t))
    go q u (no d) (no e) =
        let same : q ≡ h = omega arith in
        rw (same, le-leb l h le, lt-ltb h (h + 1) (omega arith)) (get_or-set_same v h x 0 (omega (arith, M.long)) ∙ one)
