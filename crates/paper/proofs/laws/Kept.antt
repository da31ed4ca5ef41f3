-- Lists that keep their entries from n on.
--     kept_one: two lists that keep the same and begin alike are one;  kept_trans, kept_both;  listed: a list that holds a layout and keeps the rest
use Rattle.std.specs.Prelude.{◌≡◌, List, ◌++◌, ℕ, ◌+◌, ◌-◌, ◌≤◌, ◌<◌, length, get_or, drop}
use Rattle.std.proofs.Common.{sym, ap, ◌∙◌, arith, length-append, length-drop, ext_get_or, get_or-append-add, get_or-drop}
use Rattle.std.proofs.Math.Decide.{dec_lt}
use Rattle.std.proofs.Math.ListN.{get_or-append}
use Rattle.paper.specs.Promises.{Kept}
use Rattle.paper.specs.laws.Trying.{row}
use Rattle.paper.proofs.laws.Trying.{row-length, row-at}

pub kept_trans : (n : ℕ) (l m o : List ℕ) → Kept n l m → Kept n m o → Kept n l o
kept_trans n l m o a b = record { long = b.long ∙ a.long; rest = λ k h. b.rest k h ∙ a.rest k h }

pub kept_both : (n : ℕ) (l m o : List ℕ) → Kept n l m → Kept n l o → Kept n m o
kept_both n l m o a b = record { long = b.long ∙ sym a.long; rest = λ k h. b.rest k h ∙ sym (a.rest k h) }

-- Two lists that keep the same and have the same first n entries are one.
pub kept_one : (n : ℕ) (l m o : List ℕ) → Kept n l m → Kept n l o → ((k : ℕ) → k < n → get_or m k 0 ≡ get_or o k 0) → m ≡ o
kept_one n l m o a b same = ext_get_or 0 m o (a.long ∙ sym b.long) (λ k _. at k (dec_lt k n))
  where
    at : (k : ℕ) → Dec (k < n) → get_or m k 0 ≡ get_or o k 0
    at k (yes h) = same k h
    at k (no h) = a.rest k (omega arith) ∙ sym (b.rest k (omega arith))

-- A list that holds f in its first n entries and keeps the rest.
pub listed : (n : ℕ) (f : ℕ → ℕ) (before : List ℕ) → n ≤ length before → (after : List ℕ) × ((i : ℕ) → i < n → get_or after i 0 ≡ f i) × Kept n before after
listed n f before l = (row n f ++ drop n before, entry, record { long = long; rest = rest })
  where
    entry : (i : ℕ) → i < n → get_or (row n f ++ drop n before) i 0 ≡ f i
    entry i h = get_or-append (row n f) (drop n before) 0 i (omega (arith, row-length n f)) ∙ row-at n f i h

    long : length (row n f ++ drop n before) ≡ length before
    long = omega (arith, length-append (row n f) (drop n before), row-length n f, length-drop n before)

    rest : (k : ℕ) → n ≤ k → get_or (row n f ++ drop n before) k 0 ≡ get_or before k 0
    rest k h =
        let e : k ≡ length (row n f) + (k - n) = omega (arith, row-length n f) in
        let d : n + (k - n) ≡ k = omega arith in
        ap (λ (m : ℕ). get_or (row n f ++ drop n before) m 0) e ∙ get_or-append-add (row n f) (drop n before) (k - n) 0
        ∙ get_or-drop n before (k - n) 0 ∙ ap (λ (m : ℕ). get_or before m 0) d
