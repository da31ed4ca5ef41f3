-- WHAT THE CODE READS OF A LINE IS WHAT THE LINE SAYS: numbers, fields and lines, from the front of a text.
--     Exact: a reader reads what it should, and all of it;  natural_exact, signed_exact, word_exact
--     pad_sound, pad_complete, head_sound, head_complete: a line and its end;  pad_unbroken, head_unbroken;  pad_decided, head_decided
use Rattle.std.specs.Prelude.{◌≡◌, ◌≢◌, ◌⊎◌, Bool, true, false, cond, ◌&&◌, ◌||◌, ℕ, zero, suc, ◌+◌, ◌*◌, ◌-◌, ◌/◌, ◌%◌, ◌≤◌, ◌<◌, eqb, leb, ℤ, pos, negsuc}
use Rattle.std.proofs.Math.Path.{refl, sym, ap, subst}
use Rattle.std.proofs.Common.{◌∙◌, true≢false, arith, lt-ltb, le-ltb, le-leb, leb-true, eqb-true, eq-eqb, ne_eqb}
use Rattle.std.proofs.Math.Logic.{inl, inr}
use Rattle.std.proofs.lemmas.Bool.{false≢true, eqb-false}
use mathlib.Core.List.{List, [], ◌∷◌, ◌++◌, append-nil, append_assoc}
use Rattle.std.proofs.Math.Decide.{dec_lt}
use Rattle.std.proofs.Math.Seq.{append_snoc}
use Rattle.text.specs.Text.{bytes, digits, decimal, with_minus, read_digits}
use Rattle.text.specs.Digits.{digits_one, digits_more, decimal_one, decimal_more, decimal_reads, free, free-append, decimal-free, decimal-first}
use Rattle.paper.specs.Csv.{Pad, crlf, Unbroken, Plain, doubled, Field, Fields, Header, Lists}
use Rattle.paper.specs.laws.Parsing.{Front, got, none, onto, skip, word_front, is_digit, cap, digits_front, natural_front, below, after_minus, signed_front}
use Rattle.paper.specs.laws.Parsing.{quoted_front, field_front, end_front, Row, line_front, head_front, pad_front}

-- ---- steps

onto_got : {A B : Type 0} (x : Front A) (k : A → List ℕ → Front B) (b : B) (r : List ℕ) → onto x k ≡ got b r
    → (a : A) × (t : List ℕ) × (x ≡ got a t) × (k a t ≡ got b r)
onto_got (got a t) k b r e = (a, t, refl, e)
onto_got none k b r e = absurd (let z : ◌≡◌ {A = ℕ} 0 1 = cc in omega arith)

skip_got : (b : ℕ) (s : List ℕ) (u : Unit {0}) (t : List ℕ) → skip b s ≡ got u t → s ≡ b ∷ t
skip_got b [] u t e = absurd (let z : ◌≡◌ {A = ℕ} 0 1 = cc in omega arith)
skip_got b (c ∷ s) u t e = go (eqb c b) refl e
  where
    go : (q : Bool) → eqb c b ≡ q → cond q (got tt s) none ≡ got u t → c ∷ s ≡ b ∷ t
    go true h e = let same : c ≡ b = eqb-true c b h in let rest : s ≡ t = cc in cc
    go false h e = absurd (let z : ◌≡◌ {A = ℕ} 0 1 = cc in omega arith)

skip_here : (b : ℕ) (s : List ℕ) → skip b (b ∷ s) ≡ got tt s
skip_here b s = rw (eq-eqb b b refl)

-- ---- numbers up to 1,000,000, and others

pub cap_small : (n : ℕ) → n ≤ 1000001 → cap n ≡ n
unfolding cap
cap_small n h = rw (le-ltb 1000001 n h)

pub cap_large : (n : ℕ) → 1000001 < n → cap n ≡ 1000001
unfolding cap
cap_large n h = rw (lt-ltb 1000001 n h)

-- A digit more: it does not matter that the number before it was capped.
cap_grow : (v d : ℕ) → cap (10 * cap v + d) ≡ cap (10 * v + d)
cap_grow v d = go (dec_lt 1000001 v)
  where
    go : Dec (1000001 < v) → cap (10 * cap v + d) ≡ cap (10 * v + d)
    go (yes h) = rw (cap_large v h, cap_large (10 * 1000001 + d) (omega arith), cap_large (10 * v + d) (omega arith))
    go (no h) = rw (cap_small v (omega arith))

-- ---- digits

and_true : (a b : Bool) → (a && b) ≡ true → (a ≡ true) × (b ≡ true)
and_true true b e = (refl, e)
and_true false b e = absurd (false≢true e)

pub digit_range : (c : ℕ) → is_digit c ≡ true → (48 ≤ c) × (c ≤ 57)
digit_range c e = let (a, b) = and_true (leb 48 c) (leb c 57) e in (leb-true 48 c a, leb-true c 57 b)

digit_is : (d : ℕ) → d < 10 → is_digit (48 + d) ≡ true
digit_is d h = rw (le-leb 48 (48 + d) (omega arith), le-leb (48 + d) 57 (omega arith))

abbrev Digits : List ℕ → Type 0
Digits [] = Unit {0}
Digits (c ∷ s) = (is_digit c ≡ true) × Digits s

digits_append : (s t : List ℕ) → Digits s → Digits t → Digits (s ++ t)
digits_append [] t a b = b
digits_append (c ∷ s) t (h, a) b = (h, digits_append s t a b)

-- A text that does not begin with a digit.
abbrev pub Off : List ℕ → Type 0
Off [] = Unit {0}
Off (c ∷ s) = is_digit c ≡ false

digits_sound : (v : ℕ) (s : List ℕ) (n : ℕ) (rest : List ℕ) → digits_front (cap v) s ≡ got n rest
    → (ds : List ℕ) × Digits ds × (s ≡ ds ++ rest) × (n ≡ cap (read_digits v ds))
unfolding digits_front
digits_sound v [] n rest e = ([], tt, cc, cc)
digits_sound v (c ∷ s) n rest e = go (is_digit c) refl e (digits_sound (10 * v + (c - 48)) s n rest)
  where
    go : (q : Bool) → is_digit c ≡ q → cond q (digits_front (cap (10 * cap v + (c - 48))) s) (got (cap v) (c ∷ s)) ≡ got n rest
        → (digits_front (cap (10 * v + (c - 48))) s ≡ got n rest → (ds : List ℕ) × Digits ds × (s ≡ ds ++ rest) × (n ≡ cap (read_digits (10 * v + (c - 48)) ds)))
        → (ds : List ℕ) × Digits ds × (c ∷ s ≡ ds ++ rest) × (n ≡ cap (read_digits v ds))
    go true h e f =
        let (ds, d, a, b) = f (rw (cap_grow v (c - 48)) at e) in
        (c ∷ ds, (h, d), ap (λ (t : List ℕ). c ∷ t) a, b)
    go false h e f = ([], tt, cc, cc)

digits_complete : (v : ℕ) (ds rest : List ℕ) → Digits ds → Off rest → digits_front (cap v) (ds ++ rest) ≡ got (cap (read_digits v ds)) rest
unfolding digits_front
digits_complete v [] [] d o = refl
digits_complete v [] (c ∷ rest) d o = rw o
digits_complete v (c ∷ ds) rest (h, d) o = rw (h, cap_grow v (c - 48)) (digits_complete (10 * v + (c - 48)) ds rest d o)

-- Digits after a number that is not 0 are those of a larger one.
decimal_grow : (v : ℕ) (ds : List ℕ) → 1 ≤ v → Digits ds → decimal v ++ ds ≡ decimal (read_digits v ds)
decimal_grow v [] h d = append-nil (decimal v)
decimal_grow v (c ∷ ds) h (e, d) =
    let (low, high) = digit_range c e in
    let w = 10 * v + (c - 48) in
    let tenth : w / 10 ≡ v = omega arith in
    let last : 48 + w % 10 ≡ c = omega arith in
    let more : decimal w ≡ decimal v ++ (c ∷ []) = decimal_more w (omega arith) ∙ rw (tenth, last) in
    sym (append_assoc (decimal v) (c ∷ []) ds) ∙ ap (λ (t : List ℕ). t ++ ds) (sym more) ∙ decimal_grow w ds (omega arith) d

-- A number that is not 0 begins with another digit.
lead : (k n : ℕ) → 1 ≤ n → n < k → (d : ℕ) × (ds : List ℕ) × (1 ≤ d) × (d < 10) × Digits ds × (digits k n ≡ (48 + d) ∷ ds)
lead zero n h l = absurd (omega arith)
lead (suc k) n h l = go (λ g. lead k (n / 10) (omega arith) (omega arith)) (dec_lt n 10)
  where
    go : (10 ≤ n → (d : ℕ) × (ds : List ℕ) × (1 ≤ d) × (d < 10) × Digits ds × (digits k (n / 10) ≡ (48 + d) ∷ ds)) → Dec (n < 10)
        → (d : ℕ) × (ds : List ℕ) × (1 ≤ d) × (d < 10) × Digits ds × (digits (suc k) n ≡ (48 + d) ∷ ds)
    go f (yes s) = (n, [], h, s, tt, digits_one k n s)
    go f (no w) =
        let (d, ds, a, b, c, e) = f (omega arith) in
        (d, ds ++ ((48 + n % 10) ∷ []), a, b, digits_append ds ((48 + n % 10) ∷ []) c (digit_is (n % 10) (omega arith), tt), digits_more k n (omega arith) ∙ rw e)

-- ---- what a reader is to read

-- A text without a CR, a quote or a comma.
abbrev special : ℕ → Bool
special c = eqb c 13 || (eqb c 34 || eqb c 44)

abbrev pub Clear : List ℕ → Type 0
Clear s = free special s ≡ true

-- f reads just the texts of which Is says what they come to, and all of such a text if no digit follows.
pub record Exact (f : List ℕ → Front ℕ) (Is : List ℕ → ℕ → Type 0) : Type 0 where
  pub sound : (s : List ℕ) (n : ℕ) (rest : List ℕ) → f s ≡ got n rest → (v : List ℕ) × Is v n × (s ≡ v ++ rest)
  pub complete : (v : List ℕ) (n : ℕ) (rest : List ℕ) → Is v n → Off rest → f (v ++ rest) ≡ got n rest
  pub clear : (v : List ℕ) (n : ℕ) → Is v n → Clear v
  pub some : (v : List ℕ) (n : ℕ) → Is v n → (c : ℕ) × (t : List ℕ) × (v ≡ c ∷ t)

-- ---- numbers without a sign

abbrev pub NaturalIs : List ℕ → ℕ → Type 0
NaturalIs v n = (m : ℕ) × (v ≡ decimal m) × (n ≡ cap m)

natural_sound : (s : List ℕ) (n : ℕ) (rest : List ℕ) → natural_front s ≡ got n rest → (v : List ℕ) × NaturalIs v n × (s ≡ v ++ rest)
unfolding natural_front
natural_sound [] n rest e = absurd (let z : ◌≡◌ {A = ℕ} 0 1 = cc in omega arith)
natural_sound (c ∷ s) n rest e = go (eqb c 48) refl (is_digit c) refl e
  where
    go : (p : Bool) → eqb c 48 ≡ p → (q : Bool) → is_digit c ≡ q → cond p (got 0 s) (cond q (digits_front (c - 48) s) none) ≡ got n rest
        → (v : List ℕ) × NaturalIs v n × (c ∷ s ≡ v ++ rest)
    go true h q k e =
        let zero_is : c ≡ 48 = eqb-true c 48 h in
        let value : n ≡ 0 = cc in
        let after : s ≡ rest = cc in
        (48 ∷ [], (0, sym (decimal_one 0 (omega arith)), value ∙ sym (cap_small 0 (omega arith))), rw (zero_is, after))
    go false h true k e =
        let (low, high) = digit_range c k in
        let some : 1 ≤ c - 48 = omega (arith, eqb-false c 48 h) in
        let small = cap_small (c - 48) (omega arith) in
        let (ds, d, a, b) = digits_sound (c - 48) s n rest (rw small e) in
        let first : decimal (c - 48) ≡ c ∷ [] = decimal_one (c - 48) (omega arith) ∙ (let back : 48 + (c - 48) ≡ c = omega arith in rw back) in
        (c ∷ ds, (read_digits (c - 48) ds, ap (λ (t : List ℕ). t ++ ds) (sym first) ∙ decimal_grow (c - 48) ds some d, b), ap (λ (t : List ℕ). c ∷ t) a)
    go false h false k e = absurd (let z : ◌≡◌ {A = ℕ} 0 1 = cc in omega arith)

natural_lead : (n d : ℕ) (ds rest : List ℕ) → 1 ≤ d → d < 10 → Digits ds → Off rest → read_digits 0 ((48 + d) ∷ ds) ≡ n
    → natural_front ((48 + d) ∷ (ds ++ rest)) ≡ got (cap n) rest
unfolding natural_front
natural_lead n d ds rest some small c o e =
    let back : 48 + d - 48 ≡ d = omega arith in
    let first : 10 * 0 + (48 + d - 48) ≡ d = omega arith in
    let value : read_digits d ds ≡ n = ap (λ (k : ℕ). read_digits k ds) (sym first) ∙ e in
    let read = digits_complete d ds rest c o in
    rw (ne_eqb (48 + d) 48 (λ z. omega arith), digit_is d small, ap (λ (k : ℕ). digits_front k (ds ++ rest)) (back ∙ sym (cap_small d (omega arith)))) (read ∙ ap (λ (k : ℕ). got (cap k) rest) value)

natural_complete : (m : ℕ) (rest : List ℕ) → Off rest → natural_front (decimal m ++ rest) ≡ got (cap m) rest
unfolding decimal
natural_complete zero rest o = unfold natural_front digits cap in refl
natural_complete (suc m) rest o =
    let (d, ds, some, small, c, e) = lead (suc (suc m)) (suc m) (omega arith) (omega arith) in
    rw e (natural_lead (suc m) d ds rest some small c o (ap (read_digits 0) (sym e) ∙ decimal_reads (suc m)))

decimal_clear : (m : ℕ) → Clear (decimal m)
decimal_clear = decimal-free special (λ d h. rw (ne_eqb (48 + d) 13 (λ e. omega arith), ne_eqb (48 + d) 34 (λ e. omega arith), ne_eqb (48 + d) 44 (λ e. omega arith)))

pub natural_exact : Exact natural_front NaturalIs
natural_exact = record {
  sound = natural_sound;
  complete = λ v n rest (m, e, k) o. rw (e, k) (natural_complete m rest o);
  clear = λ v n (m, e, k). rw e (decimal_clear m);
  some = λ v n (m, e, k). let (d, s, l, f) = decimal-first m in (48 + d, s, e ∙ f);
}

-- ---- numbers with a sign

-- What is below 0 is read in 32 bits.
abbrev pub cap_bits : ℤ → ℕ
cap_bits (pos n) = cap n
cap_bits (negsuc n) = 4294967296 - cap (suc n)

abbrev pub SignedIs : List ℕ → ℕ → Type 0
SignedIs v n = (z : ℤ) × (v ≡ with_minus decimal z) × (n ≡ cap_bits z)

cap_some : (n : ℕ) → cap (suc n) ≢ 0
cap_some n e = go (dec_lt 1000001 (suc n))
  where
    go : Dec (1000001 < suc n) → ⊥
    go (yes h) = omega (arith, cap_large (suc n) h)
    go (no h) = omega (arith, cap_small (suc n) (omega arith))

below_got : (m : ℕ) (w : List ℕ) (n : ℕ) (t : List ℕ) → below m w ≡ got n t → (m ≢ 0) × (n ≡ 4294967296 - m) × (w ≡ t)
below_got m w n t e = go (eqb m 0) refl e
  where
    go : (q : Bool) → eqb m 0 ≡ q → cond q none (got (4294967296 - m) w) ≡ got n t → (m ≢ 0) × (n ≡ 4294967296 - m) × (w ≡ t)
    go true h e = absurd (let z : ◌≡◌ {A = ℕ} 0 1 = cc in omega arith)
    go false h e = (eqb-false m 0 h, (cc), (cc))

signed_sound : (s : List ℕ) (n : ℕ) (rest : List ℕ) → signed_front s ≡ got n rest → (v : List ℕ) × SignedIs v n × (s ≡ v ++ rest)
unfolding signed_front
signed_sound s n rest e = go (skip 45 s) refl e
  where
    minus : (t : List ℕ) → s ≡ 45 ∷ t → (m : ℕ) (w : List ℕ) → natural_front t ≡ got m w → below m w ≡ got n rest → (v : List ℕ) × SignedIs v n × (s ≡ v ++ rest)
    minus t is m w read b =
        let (some, value, same) = below_got m w n rest b in
        let (v, (k, v-is, m-is), t-is) = natural_sound t m w read in
        below_0 v k v-is m-is some value (t-is ∙ ap (λ (r : List ℕ). v ++ r) same)
      where
        below_0 : (v : List ℕ) (k : ℕ) → v ≡ decimal k → m ≡ cap k → m ≢ 0 → n ≡ 4294967296 - m → t ≡ v ++ rest → (v : List ℕ) × SignedIs v n × (s ≡ v ++ rest)
        below_0 v zero v-is m-is some value t-is = absurd (some (m-is ∙ cap_small 0 (omega arith)))
        below_0 v (suc k) v-is m-is some value t-is =
            (45 ∷ v, (negsuc k, ap (λ (r : List ℕ). 45 ∷ r) v-is, value ∙ rw m-is), is ∙ ap (λ (r : List ℕ). 45 ∷ r) t-is)

    go : (x : Front (Unit {0})) → skip 45 s ≡ x → after_minus x s ≡ got n rest → (v : List ℕ) × SignedIs v n × (s ≡ v ++ rest)
    go (got u t) h e = let (m, w, read, b) = onto_got (natural_front t) below n rest e in minus t (skip_got 45 s u t h) m w read b
    go none h e = let (v, (k, v-is, n-is), s-is) = natural_sound s n rest e in (v, (pos k, v-is, n-is), s-is)

skip_other : (b c : ℕ) (s : List ℕ) → c ≢ b → skip b (c ∷ s) ≡ none
skip_other b c s n = rw (ne_eqb c b n)

signed_complete : (z : ℤ) (rest : List ℕ) → Off rest → signed_front (with_minus decimal z ++ rest) ≡ got (cap_bits z) rest
unfolding signed_front
signed_complete (pos m) rest o =
    let (d, s, l, f) = decimal-first m in
    let begins : skip 45 (decimal m ++ rest) ≡ none = rw f (skip_other 45 (48 + d) (s ++ rest) (λ e. omega arith)) in
    rw begins (natural_complete m rest o)
signed_complete (negsuc m) rest o = rw (natural_complete (suc m) rest o, ne_eqb (cap (suc m)) 0 (cap_some m))

pub signed_exact : Exact signed_front SignedIs
signed_exact = record {
  sound = signed_sound;
  complete = λ v n rest (z, e, k) o. rw (e, k) (signed_complete z rest o);
  clear = λ v n (z, e, k). rw e (clear z);
  some = λ v n (z, e, k). let (c, t, f) = some z in (c, t, e ∙ f);
}
  where
    clear : (z : ℤ) → Clear (with_minus decimal z)
    clear (pos m) = decimal_clear m
    clear (negsuc m) = decimal_clear (suc m)

    some : (z : ℤ) → (c : ℕ) × (t : List ℕ) × (with_minus decimal z ≡ c ∷ t)
    some (pos m) = let (d, s, l, f) = decimal-first m in (48 + d, s, f)
    some (negsuc m) = (45, decimal (suc m), refl)

-- ---- words

abbrev pub WordIs : List ℕ → List ℕ → ℕ → Type 0
WordIs w v n = (v ≡ w) × (n ≡ 0)

word_sound : (w s : List ℕ) (n : ℕ) (rest : List ℕ) → word_front w s ≡ got n rest → (n ≡ 0) × (s ≡ w ++ rest)
unfolding word_front
word_sound [] s n rest e = ((cc), (cc))
word_sound (b ∷ w) s n rest e =
    let (u, t, h, f) = onto_got (skip b s) (λ _ t. word_front w t) n rest e in
    let (k, g) = word_sound w t n rest f in
    (k, skip_got b s u t h ∙ ap (λ (r : List ℕ). b ∷ r) g)

word_complete : (w rest : List ℕ) → word_front w (w ++ rest) ≡ got 0 rest
unfolding word_front
word_complete [] rest = refl
word_complete (b ∷ w) rest = rw (eq-eqb b b refl) (word_complete w rest)

pub word_exact : (b : ℕ) (w : List ℕ) → Clear (b ∷ w) → Exact (word_front (b ∷ w)) (WordIs (b ∷ w))
word_exact b w c = record {
  sound = λ s n rest e. let (k, g) = word_sound (b ∷ w) s n rest e in (b ∷ w, (refl, k), g);
  complete = λ v n rest (e, k) o. rw (e, k) (word_complete (b ∷ w) rest);
  clear = λ v n (e, k). rw e c;
  some = λ v n (e, k). (b, w, e);
}

-- ---- fields

free_cons : (at : ℕ → Bool) (c : ℕ) (s : List ℕ) → free at (c ∷ s) ≡ true → (at c ≡ false) × (free at s ≡ true)
free_cons at c s h = go (at c) refl h
  where
    go : (q : Bool) → at c ≡ q → cond q false (free at s) ≡ true → (at c ≡ false) × (free at s ≡ true)
    go true e h = absurd (false≢true h)
    go false e h = (e, h)

special_not : (c : ℕ) → special c ≡ false → (c ≢ 13) × (c ≢ 34) × (c ≢ 44)
special_not c h =
    let (a, b) = or_false (eqb c 13) (eqb c 34 || eqb c 44) h in
    let (d, e) = or_false (eqb c 34) (eqb c 44) b in
    (eqb-false c 13 a, eqb-false c 34 d, eqb-false c 44 e)
  where
    or_false : (a b : Bool) → (a || b) ≡ false → (a ≡ false) × (b ≡ false)
    or_false true b e = absurd (true≢false e)
    or_false false b e = (refl, e)

pub clear_plain : (v : List ℕ) → Clear v → Plain v
clear_plain [] h = tt
clear_plain (c ∷ v) h = let (a, b) = free_cons special c v h in let (_, quote, comma) = special_not c a in (quote, comma, clear_plain v b)

clear_doubled : (v : List ℕ) → Clear v → doubled v ≡ v
clear_doubled [] h = refl
clear_doubled (c ∷ v) h = let (a, b) = free_cons special c v h in rw (ne_eqb c 34 (special_not c a).1, clear_doubled v b)

clear_line : (v : List ℕ) → Clear v → free (eqb 13) v ≡ true
clear_line [] h = refl
clear_line (c ∷ v) h = let (a, b) = free_cons special c v h in rw (ne_eqb 13 c (λ e. (special_not c a).0 (sym e)), clear_line v b)

-- After a quote: what stands between it and the next, and what follows.
closed_is : (v rest : List ℕ) → Clear v → doubled v ++ bytes "\"" ++ rest ≡ v ++ 34 ∷ rest
closed_is v rest h = rw (clear_doubled v h) (append_snoc v 34 rest)

module _ {f : List ℕ → Front ℕ} {Is : List ℕ → ℕ → Type 0} (E : Exact f Is) where
  field_sound : (s : List ℕ) (n : ℕ) (rest : List ℕ) → field_front f s ≡ got n rest → (r v : List ℕ) × Field r v × Is v n × (s ≡ r ++ rest)
  unfolding field_front
  field_sound s n rest e = go (skip 34 s) refl e
    where
      go : (x : Front (Unit {0})) → skip 34 s ≡ x → quoted_front f x s ≡ got n rest → (r v : List ℕ) × Field r v × Is v n × (s ≡ r ++ rest)
      go (got u t) h e =
          let (m, w, read, k) = onto_got (f t) (λ v w. onto (skip 34 w) (λ _ r. got v r)) n rest e in
          let (u', t', closes, last) = onto_got (skip 34 w) (λ _ r. got m r) n rest k in
          let value : m ≡ n = cc in
          let same : t' ≡ rest = cc in
          let (v, is, t-is) = E.sound t m w read in
          let inside : t ≡ v ++ 34 ∷ rest = t-is ∙ ap (λ (q : List ℕ). v ++ q) (skip_got 34 w u' t' closes ∙ ap (λ (q : List ℕ). 34 ∷ q) same) in (
            bytes "\"" ++ doubled v ++ bytes "\"",
            v,
            inr refl,
            subst (λ (k : ℕ). Is v k) value is,
            skip_got 34 s u t h ∙ ap (λ (q : List ℕ). 34 ∷ q) (inside ∙ sym (closed_is v rest (E.clear v m is))),
          )
      go none h e = let (v, is, s-is) = E.sound s n rest e in (v, v, inl (clear_plain v (E.clear v n is), refl), is, s-is)

  -- A field and a comma.
  comma_sound : {B : Type 0} (s : List ℕ) (k : ℕ → List ℕ → Front B) (b : B) (t : List ℕ) → onto (field_front f s) (λ n w. onto (skip 44 w) (λ _ u. k n u)) ≡ got b t
      → (n : ℕ) × (r v u : List ℕ) × Field r v × Is v n × (s ≡ r ++ 44 ∷ u) × (k n u ≡ got b t)
  comma_sound s k b t e =
      let (n, w, read, after) = onto_got (field_front f s) (λ n w. onto (skip 44 w) (λ _ u. k n u)) b t e in
      let (o, u, comma, on) = onto_got (skip 44 w) (λ _ u. k n u) b t after in
      let (r, v, field, is, here) = field_sound s n w read in
      (n, r, v, u, field, is, here ∙ ap (λ (q : List ℕ). r ++ q) (skip_got 44 w o u comma), on)

  field_complete : (r v : List ℕ) (n : ℕ) (rest : List ℕ) → Field r v → Is v n → Off rest → field_front f (r ++ rest) ≡ got n rest
  unfolding field_front
  field_complete r v n rest (inl (p, e)) is o =
      let (c, t, f-is) = E.some v n is in
      let plain : Plain (c ∷ t) = rw f-is at p in
      let open-not : skip 34 (v ++ rest) ≡ none = rw f-is (skip_other 34 c (t ++ rest) plain.0) in
      rw (e, open-not) (E.complete v n rest is o)
  field_complete r v n rest (inr e) is o =
      rw (e, closed_is v rest (E.clear v n is), E.complete v n (34 ∷ rest) is refl)

  field_unbroken : (r v : List ℕ) (n : ℕ) → Field r v → Is v n → free (eqb 13) r ≡ true
  field_unbroken r v n (inl (p, e)) is = rw e (clear_line v (E.clear v n is))
  field_unbroken r v n (inr e) is =
      rw (e, clear_doubled v (E.clear v n is)) (free-append (eqb 13) v (34 ∷ []) (clear_line v (E.clear v n is)) refl)

-- ---- lines

-- s is the line and no more; or the line, its end, and t.
abbrev pub Ended : List ℕ → List ℕ → List ℕ → Type 0
Ended s line t = ((s ≡ line) × (t ≡ [])) ⊎ (s ≡ line ++ crlf ++ t)

end_sound : (z : List ℕ) (u : Unit {0}) (t : List ℕ) → end_front z ≡ got u t → ((z ≡ []) × (t ≡ [])) ⊎ (z ≡ crlf ++ t)
end_sound [] u t e = inl (refl, (cc))
end_sound (c ∷ z) u t e =
    let (u', w, cr, f) = onto_got (skip 13 (c ∷ z)) (λ _ t. skip 10 t) u t e in
    inr (skip_got 13 (c ∷ z) u' w cr ∙ ap (λ (q : List ℕ). 13 ∷ q) (skip_got 10 w u t f))

-- Three fields, and what follows them.
fields_then : (r s t z : List ℕ) → r ++ bytes "," ++ s ++ bytes "," ++ t ++ z ≡ r ++ 44 ∷ (s ++ 44 ∷ (t ++ z))
fields_then r s t z = simp append_assoc

-- They were read one after the other.
fields_from : (s p q r t u z : List ℕ) → s ≡ p ++ 44 ∷ t → t ≡ q ++ 44 ∷ u → u ≡ r ++ z → s ≡ p ++ bytes "," ++ q ++ bytes "," ++ r ++ z
fields_from s p q r t u z a b c = a ∙ rw (b, c) (sym (fields_then p q r z))

ended_is : (s line z t : List ℕ) → s ≡ line ++ z → ((z ≡ []) × (t ≡ [])) ⊎ (z ≡ crlf ++ t) → Ended s line t
ended_is s line z t e (inl (a, b)) = inl (e ∙ ap (λ (q : List ℕ). line ++ q) a ∙ append-nil line, b)
ended_is s line z t e (inr a) = inr (e ∙ ap (λ (q : List ℕ). line ++ q) a ∙ sym (append_assoc line crlf t))

-- What follows a line is its end, or nothing.
ended_then : (s line t : List ℕ) → Ended s line t → (z : List ℕ) × (s ≡ line ++ z) × (end_front z ≡ got tt t) × Off z
ended_then s line t (inl (a, b)) = ([], a ∙ sym (append-nil line), ap (got tt) (sym b), tt)
ended_then s line t (inr a) = (crlf ++ t, a ∙ append_assoc line crlf t, refl, refl)

free_mid : (at : ℕ → Bool) (a : List ℕ) (c : ℕ) (b : List ℕ) → at c ≡ true → free at (a ++ c ∷ b) ≡ false
free_mid at [] c b e = rw e
free_mid at (d ∷ a) c b e = go (at d) (free_mid at a c b e)
  where
    go : (q : Bool) → free at (a ++ c ∷ b) ≡ false → cond q false (free at (a ++ c ∷ b)) ≡ false
    go true h = refl
    go false h = h

free_unbroken : (s : List ℕ) → free (eqb 13) s ≡ true → Unbroken s
free_unbroken s h a b e =
    false≢true (sym (free_mid (eqb 13) a 13 (10 ∷ b) refl) ∙ ap (free (eqb 13)) (sym (append_assoc a crlf b) ∙ sym e) ∙ h)

module _ {f g h : List ℕ → Front ℕ} {A B C : List ℕ → ℕ → Type 0} (F : Exact f A) (G : Exact g B) (H : Exact h C) where
  -- A line of three fields that come to the numbers of a row.
  abbrev pub RowIs : List ℕ → Row → Type 0
  RowIs line row = (a b c : List ℕ) × Fields line a b c × A a row.name × B b row.x × C c row.y

  line_sound : (s : List ℕ) (row : Row) (t : List ℕ) → line_front f g h s ≡ got row t → (line : List ℕ) × RowIs line row × Ended s line t
  unfolding line_front
  line_sound s row t e =
      let (name, p, a, u, field-a, is-a, s-is, f1) = comma_sound F s _ row t e in
      let (x, q, b, w, field-b, is_b, u-is, f2) = comma_sound G u _ row t f1 in
      let (y, z, e3, f3) = onto_got (field_front h w) _ row t f2 in
      let (o, v, e4, f4) = onto_got (end_front z) _ row t f3 in
      let (r, c, field-c, is_c, w-is) = field_sound H w y z e3 in
      made name x y p q r a b c u w z v (field-a, field-b, field-c) (is-a, is_b, is_c) (s-is, u-is, w-is) (end_sound z o v e4) f4
    where
      made : (name x y : ℕ) (p q r a b c u w z v : List ℕ) → Field p a × Field q b × Field r c → A a name × B b x × C c y
          → (s ≡ p ++ 44 ∷ u) × (u ≡ q ++ 44 ∷ w) × (w ≡ r ++ z) → ((z ≡ []) × (v ≡ [])) ⊎ (z ≡ crlf ++ v) → got (record { name = name; x = x; y = y }) v ≡ got row t
          → (line : List ℕ) × RowIs line row × Ended s line t
      made name x y p q r a b c u w z v fields is (s-is, u-is, w-is) ends e =
          let row_is : record { name = name; x = x; y = y } ≡ row = cc in
          let rest : v ≡ t = cc in
          let line = p ++ bytes "," ++ q ++ bytes "," ++ r in
          let numbers = subst (λ (o : Row). A a o.name × B b o.x × C c o.y) row_is is in
          let ended = ended_is s line z v (fields_from s p q r u w z s-is u-is w-is) ends in (
            line,
            (a, b, c, (p, q, r, fields.0, fields.1, fields.2, refl), numbers.0, numbers.1, numbers.2),
            subst (λ (o : List ℕ). Ended s line o) rest ended,
          )

  line_complete : (s line : List ℕ) (row : Row) (t : List ℕ) → RowIs line row → Ended s line t → line_front f g h s ≡ got row t
  unfolding line_front
  line_complete s line row t (a, b, c, (p, q, r, field-a, field-b, field-c, e), is-a, is_b, is_c) ended =
      let (z, s-is, stops, o) = ended_then s line t ended in
      let whole : s ≡ p ++ 44 ∷ (q ++ 44 ∷ (r ++ z)) = s-is ∙ ap (λ (l : List ℕ). l ++ z) e ∙ fields_then p q r z in
      rw (
        whole,
        field_complete F p a row.name (44 ∷ (q ++ 44 ∷ (r ++ z))) field-a is-a refl,
        field_complete G q b row.x (44 ∷ (r ++ z)) field-b is_b refl,
        field_complete H r c row.y z field-c is_c o,
        stops,
      )

  line_unbroken : (line : List ℕ) (row : Row) → RowIs line row → Unbroken line
  line_unbroken line row (a, b, c, (p, q, r, field-a, field-b, field-c, e), is-a, is_b, is_c) = free_unbroken line (rw e (
      free-append (eqb 13) (p ++ bytes "," ++ q ++ bytes ",") r (
      free-append (eqb 13) (p ++ bytes "," ++ q) (bytes ",") (
      free-append (eqb 13) (p ++ bytes ",") q (free-append (eqb 13) p (bytes ",") (field_unbroken F p a row.name field-a is-a) refl) (field_unbroken G q b row.x field-b is_b)
      ) refl
      ) (field_unbroken H r c row.y field-c is_c)
      ))

-- ---- the lines of a list

-- The row of a pad.
abbrev pub row_of : Pad → Row
row_of p = record { name = cap p.name; x = cap p.x; y = cap_bits p.y }

pub pad_sound : (s : List ℕ) (row : Row) (t : List ℕ) → pad_front s ≡ got row t → (line : List ℕ) × (p : Pad) × Lists line p × Ended s line t × (row ≡ row_of p)
pad_sound s row t e =
    let (line, (a, b, c, fields, (m, a-is, m-is), (n, b-is, n-is), (z, c-is, z-is)), ended) = line_sound natural_exact natural_exact signed_exact s row t e in
    (line, record { name = m; x = n; y = z }, rw (a-is, b-is, c-is) at fields, ended, λ i. record { name = m-is i; x = n-is i; y = z-is i })

row_is : (line : List ℕ) (p : Pad) → Lists line p → RowIs natural_exact natural_exact signed_exact line (row_of p)
row_is line p l = (decimal p.name, decimal p.x, with_minus decimal p.y, l, (p.name, refl, refl), (p.x, refl, refl), (p.y, refl, refl))

pub pad_complete : (s line : List ℕ) (p : Pad) (t : List ℕ) → Lists line p → Ended s line t → pad_front s ≡ got (row_of p) t
pad_complete s line p t l = line_complete natural_exact natural_exact signed_exact s line (row_of p) t (row_is line p l)

pub pad_unbroken : (line : List ℕ) (p : Pad) → Lists line p → Unbroken line
pad_unbroken line p l = line_unbroken natural_exact natural_exact signed_exact line (row_of p) (row_is line p l)

-- The first line, whose words come to 0.
pub name_exact : Exact (word_front (bytes "name")) (WordIs (bytes "name"))
name_exact = word_exact 110 (bytes "ame") refl

pub x_exact : Exact (word_front (bytes "x")) (WordIs (bytes "x"))
x_exact = word_exact 120 [] refl

pub y_exact : Exact (word_front (bytes "y")) (WordIs (bytes "y"))
y_exact = word_exact 121 [] refl

abbrev words : Row
words = record { name = 0; x = 0; y = 0 }

pub head_sound : (s : List ℕ) (row : Row) (t : List ℕ) → head_front s ≡ got row t → (line : List ℕ) × Header line × Ended s line t
head_sound s row t e =
    let (line, (a, b, c, fields, (a-is, _), (b-is, _), (c-is, _)), ended) = line_sound name_exact x_exact y_exact s row t e in
    (line, rw (a-is, b-is, c-is) at fields, ended)

words_are : (line : List ℕ) → Header line → RowIs name_exact x_exact y_exact line words
words_are line h = (bytes "name", bytes "x", bytes "y", h, (refl, refl), (refl, refl), (refl, refl))

pub head_complete : (s line t : List ℕ) → Header line → Ended s line t → head_front s ≡ got words t
head_complete s line t h = line_complete name_exact x_exact y_exact s line words t (words_are line h)

pub head_unbroken : (line : List ℕ) → Header line → Unbroken line
head_unbroken line h = line_unbroken name_exact x_exact y_exact line words (words_are line h)

-- THEOREM. So it is decided whether a line lists a pad, and whether it is a first line.
pub pad_decided : (l : List ℕ) → Dec ((p : Pad) × Lists l p)
pad_decided l = go (pad_front l) refl
  where
    go : (x : Front Row) → pad_front l ≡ x → Dec ((p : Pad) × Lists l p)
    go none e = no (λ (p, h). let z : ◌≡◌ {A = ℕ} 0 1 = cc (pad_complete l l p [] h (inl (refl, refl))) in omega arith)
    go (got row t) e = let (line, p, h, ended, _) = pad_sound l row t e in whole line p h ended
      where
        whole : (line : List ℕ) (p : Pad) → Lists line p → Ended l line t → Dec ((p : Pad) × Lists l p)
        whole line p h (inl (same, _)) = yes (p, subst (λ (s : List ℕ). Lists s p) (sym same) h)
        whole line p h (inr broken) = no (λ (q, k). pad_unbroken l q k line t broken)

pub head_decided : (l : List ℕ) → Dec (Header l)
head_decided l = go (head_front l) refl
  where
    go : (x : Front Row) → head_front l ≡ x → Dec (Header l)
    go none e = no (λ h. let z : ◌≡◌ {A = ℕ} 0 1 = cc (head_complete l l [] h (inl (refl, refl))) in omega arith)
    go (got row t) e = let (line, h, ended) = head_sound l row t e in whole line h ended
      where
        whole : (line : List ℕ) → Header line → Ended l line t → Dec (Header l)
        whole line h (inl (same, _)) = yes (subst Header (sym same) h)
        whole line h (inr broken) = no (λ k. head_unbroken l k line t broken)
