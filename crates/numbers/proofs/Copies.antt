-- A list with a part that is copied from another.
use Rattle.std.specs.Prelude.{◌≡◌, refl, ◌≢◌, List, ℕ, zero, suc, ◌+◌, ◌≤◌, ◌<◌, length, get_or, set}
use Rattle.std.proofs.Common.{◌∙◌, arith, length-set, get_or-set_same, get_or-set_other}
use Rattle.std.proofs.Math.Decide.{dec_lt}
use Rattle.numbers.specs.Copies.{Copied}

pub copied_none : (at : ℕ) (w before : List ℕ) → Copied 0 at w before before
copied_none at w before = record { long = refl; here = λ i h. absurd (omega arith); early = λ i h. refl; late = λ i h. refl }

-- One entry more.
pub copied_more : (n at : ℕ) (w before page : List ℕ) → at + n < length before → Copied n at w before page
    → Copied (suc n) at w before (set page (at + n) (get_or w n 0))
copied_more n at w before page l C = record {
  long = length-set page (at + n) (get_or w n 0) ∙ C.long;
  here = λ i h. go i h (dec_lt i n);
  early = λ i h. other i (omega arith) ∙ C.early i h;
  late = λ i h. other i (omega arith) ∙ C.late i (omega arith);
}
  where
    other : (i : ℕ) → i ≢ at + n → get_or (set page (at + n) (get_or w n 0)) i 0 ≡ get_or page i 0
    other i d = get_or-set_other page (at + n) i (get_or w n 0) 0 d

    go : (i : ℕ) → i < suc n → Dec (i < n) → get_or (set page (at + n) (get_or w n 0)) (at + i) 0 ≡ get_or w i 0
    go i h (yes d) = other (at + i) (omega arith) ∙ C.here i d
    go i h (no d) = let e : i ≡ n = omega arith in rw e (get_or-set_same page (at + n) (get_or w n 0) 0 (omega (arith, C.long)))

-- There is such a list.
pub copied : (n at : ℕ) (w before : List ℕ) → at + n ≤ length before → (after : List ℕ) × Copied n at w before after
copied zero at w before l = (before, copied_none at w before)
copied (suc n) at w before l =
    let r = copied n at w before (omega arith) in
    (set r.0 (at + n) (get_or w n 0), copied_more n at w before r.0 (omega arith) r.1)
