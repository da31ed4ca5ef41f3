-- One text written after another.
use Rattle.std.specs.Prelude.{◌≡◌, refl, List, [], ◌∷◌, ◌++◌, ℕ, suc, ◌+◌, ◌/◌, ◌%◌, ◌≤◌, ◌<◌, length, take, drop, set, get_or}
use Rattle.std.proofs.Common.{ap, sym, ◌∙◌, add-one, zero-add, add-zero, add-suc, suc-add, arith, length-append, take_at, take-suc, take_all, length-take-le}
use Rattle.std.proofs.lemmas.List.Edits.{sets, sets-eq}
use Rattle.std.proofs.Math.Seq.{length-sets}
use Rattle.text.specs.Text.{decimal, joined, Writes}
use Rattle.text.specs.Digits.{decimal_one, decimal_more}

sets_append : (l : List ℕ) (at : ℕ) (s t : List ℕ) → sets l at (s ++ t) ≡ sets (sets l at s) (at + length s) t
sets_append l at [] t = rw add-zero
sets_append l at (a ∷ s) t = rw (add-suc, ← suc-add) (sets_append (set l at a) (suc at) s t)

-- Nothing is written;
pub writes_none : (b : List ℕ) (at : ℕ) → Writes b at [] at b
writes_none b at = record { stop = omega arith; stored = refl }

-- t after s;
pub writes_then : {b m a s t : List ℕ} {at r q : ℕ} → Writes b at s r m → Writes m r t q a → Writes b at (s ++ t) q a
writes_then {b} {m} {a} {s} {t} {at} {r} {q} f g =
    record { stop = simp length-append (omega arith); stored = g.stored ∙ rw (f.stored, f.stop) (sym (sets_append b at s t)) }

-- one byte.
pub writes_byte : (b : List ℕ) (at d : ℕ) → Writes b at (d ∷ []) (at + 1) (set b at d)
writes_byte b at d = record { stop = refl; stored = refl }

-- The list keeps its length,
pub writes_length : {b a s : List ℕ} {at r : ℕ} → Writes b at s r a → length a ≡ length b
writes_length {b} {a} {s} {at} w = ap length w.stored ∙ length-sets b at s

-- and what is written from place 0 on is what stands before r.
pub writes_whole : {b a s : List ℕ} {r : ℕ} → Writes b 0 s r a → length s ≤ length b → take r a ≡ s
writes_whole {b} {a} {s} {r} w h = rw (w.stored, sets-eq s b 0 (omega arith)) (take_at s (drop (0 + length s) b) r (omega arith))

-- The bytes after them are kept.
pub writes_over : {b a s : List ℕ} {r : ℕ} → Writes b 0 s r a → length s ≤ length b → a ≡ s ++ drop (length s) b
writes_over {b} {a} {s} w h = w.stored ∙ sets-eq s b 0 (omega arith) ∙ ap (λ (k : ℕ). s ++ drop k b) (zero-add (length s))

-- A loop that writes s byte by byte: the next byte, and after the last one all of s.
pub writes_next : (b m s : List ℕ) (at k : ℕ) → k < length s → Writes b at (take k s) (at + k) m
    → Writes b at (take (k + 1) s) (at + (k + 1)) (set m (at + k) (get_or s k 0))
writes_next b m s at k h w =
    let e = writes_then w (writes_byte m (at + k) (get_or s k 0)) in
    let t = take-suc s k 0 h in
    record { stop = omega (arith, length-take-le (k + 1) s (omega arith)); stored = e.stored ∙ rw (add-one, t) }

pub writes_all : {b a s : List ℕ} {at r : ℕ} (k : ℕ) → length s ≤ k → Writes b at (take k s) r a → Writes b at s r a
writes_all {s = s} k h w = rw (take_all k s h) at w

-- A loop that writes texts: the next text.
pub writes_joined : (texts : ℕ → List ℕ) (i : ℕ) {b m a : List ℕ} {at r q : ℕ} → Writes b at (joined texts i) r m → Writes m r (texts i) q a
    → Writes b at (joined texts (i + 1)) q a
writes_joined texts i f g = rw add-one (writes_then f g)

-- A number: the only digit, or those of its tenth and then the last one.
pub writes_one : (b : List ℕ) (at n : ℕ) → n < 10 → Writes b at (decimal n) (at + 1) (set b at (48 + n))
writes_one b at n h = rw (decimal_one n h) (writes_byte b at (48 + n))

pub writes_last : {b m : List ℕ} {at r : ℕ} (n : ℕ) → 10 ≤ n → Writes b at (decimal (n / 10)) r m → Writes b at (decimal n) (r + 1) (set m r (48 + n % 10))
writes_last {m = m} {r = r} n h w = rw (decimal_more n h) (writes_then w (writes_byte m r (48 + n % 10)))
