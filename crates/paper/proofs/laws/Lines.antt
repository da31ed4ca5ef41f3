-- A text says one list of pads: it has one division into lines, a line one reading, and where lines are decided it reads as some pads exactly if no line is bad.
--     break_one, lines_one, lines_exist, lines_few;  fields_one;  decimal_injective, signed_injective;  lists_one, reads_one;  reads_good, bad_among, none_bad_reads
use Rattle.std.specs.Prelude.{◌≡◌, refl, ◌≢◌, ◌⊎◌, Bool, true, false, cond, ℕ, zero, suc, ◌+◌, ◌≤◌, ◌<◌, eqb, length, get_or, ℤ, pos, negsuc}
use Rattle.std.proofs.Common.{sym, ap, ◌∙◌, subst, inl, inr, arith, ne_eqb, length-append}
use Rattle.std.proofs.Math.Logic.Dec
use mathlib.Core.List.{List, [], ◌∷◌, ◌++◌, tail, append_assoc, append-nil, nil≢cons, cons≢nil, head-eq_of_cons-eq, tail-eq_of_cons-eq}
use Rattle.std.proofs.Math.Nat.{suc_inj}
use Rattle.std.proofs.Math.Decide.{ℕ_discrete}
use Rattle.std.proofs.Math.Seq.{append_snoc}
use Rattle.text.specs.Text.{decimal, with_minus, read_digits}
use Rattle.text.specs.Digits.{decimal_reads, decimal-first}
use Rattle.paper.specs.Csv.{Pad, crlf, Unbroken, Lines, Plain, doubled, Field, Fields, Header, Lists, ListEach, ReadsAs, GoodLine, BadLine}

-- ---- lines

-- Nothing but the empty text stands before an end of a line with which a text begins; so the first end is where a text is cut.
at_start : (s t t' : List ℕ) → Unbroken s → crlf ++ t ≡ s ++ crlf ++ t' → s ≡ []
at_start [] t t' u e = refl
at_start (c ∷ []) t t' u e = absurd (let z : ◌≡◌ {A = ℕ} 10 13 = cc in omega arith)
at_start (c ∷ d ∷ s) t t' u e = absurd (u [] s (cc))

shorter : {c : ℕ} {s : List ℕ} → Unbroken (c ∷ s) → Unbroken s
shorter {c} u a b e = u (c ∷ a) b (ap (λ (t : List ℕ). c ∷ t) e)

pub break_one : (s s' t t' : List ℕ) → Unbroken s → Unbroken s' → s ++ crlf ++ t ≡ s' ++ crlf ++ t' → (s ≡ s') × (t ≡ t')
break_one [] [] t t' u v e = (refl, (cc))
break_one [] (d ∷ s') t t' u v e = absurd (cons≢nil (at_start (d ∷ s') t t' v e))
break_one (c ∷ s) [] t t' u v e = absurd (cons≢nil (at_start (c ∷ s) t' t u (sym e)))
break_one (c ∷ s) (d ∷ s') t t' u v e =
    let (f, g) = break_one s s' t t' (shorter u) (shorter v) (tail-eq_of_cons-eq e) in
    ((cc), g)

-- A last line is one line, with its end or without, and nothing follows it.
with_end : {text : List ℕ} (s : List ℕ) → text ≡ s ++ crlf → text ≡ s ++ crlf ++ []
with_end s e = e ∙ sym (append-nil (s ++ crlf))

last_one : {text : List ℕ} (s s' : List ℕ) → Lines text (s ∷ []) → Lines text (s' ∷ []) → s ≡ s'
last_one s s' (u, inl e) (v, inl f) = sym e ∙ f
last_one s s' (u, inl e) (v, inr f) = absurd (u s' [] (sym e ∙ with_end s' f))
last_one s s' (u, inr e) (v, inl f) = absurd (v s [] (sym f ∙ with_end s e))
last_one s s' (u, inr e) (v, inr f) = (break_one s s' [] [] u v (sym (with_end s e) ∙ with_end s' f)).0

last_or_more : {text : List ℕ} (s s' m : List ℕ) (ms : List (List ℕ)) → Lines text (s ∷ []) → Lines text (s' ∷ m ∷ ms) → ⊥
last_or_more s s' m ms (u, inl e) (v, (t, some, f, _)) = u s' t (sym e ∙ f)
last_or_more s s' m ms (u, inr e) (v, (t, some, f, _)) = some (sym (break_one s s' [] t u v (sym (with_end s e) ∙ f)).1)

-- THEOREM. A text has no other lines.
pub lines_one : (text : List ℕ) (ls ms : List (List ℕ)) → Lines text ls → Lines text ms → ls ≡ ms
lines_one text [] ms p q = absurd p
lines_one text (s ∷ []) [] p q = absurd q
lines_one text (s ∷ l ∷ ls) [] p q = absurd q
lines_one text (s ∷ []) (s' ∷ []) p q = ap (λ (r : List ℕ). r ∷ []) (last_one s s' p q)
lines_one text (s ∷ []) (s' ∷ m ∷ ms) p q = absurd (last_or_more s s' m ms p q)
lines_one text (s ∷ l ∷ ls) (s' ∷ []) p q = absurd (last_or_more s' s l ls q p)
lines_one text (s ∷ l ∷ ls) (s' ∷ m ∷ ms) (u, (t, _, e, p)) (v, (t', _, f, q)) =
    let (same, rest) = break_one s s' t t' u v (sym e ∙ f) in
    let more = lines_one t (l ∷ ls) (m ∷ ms) p (subst (λ (r : List ℕ). Lines r (m ∷ ms)) (sym rest) q) in
    λ i. same i ∷ more i

-- Whether a text begins with an end is decided; where it does not, it has none if the text after its first byte has none.
abbrev EndsFirst : List ℕ → Type 0
EndsFirst s = (b : List ℕ) × (s ≡ crlf ++ b)

ends_first : (s : List ℕ) → Dec (EndsFirst s)
ends_first [] = no (λ (b, e). nil≢cons e)
ends_first (c ∷ []) = no (λ (b, e). nil≢cons (tail-eq_of_cons-eq e))
ends_first (c ∷ d ∷ s) = go (ℕ_discrete c 13) (ℕ_discrete d 10)
  where
    go : Dec (c ≡ 13) → Dec (d ≡ 10) → Dec (EndsFirst (c ∷ d ∷ s))
    go (yes e) (yes f) = yes (s, cc)
    go (yes e) (no n) = no (λ (b, f). n (cc))
    go (no n) f = no (λ (b, e). n (cc))

longer : (c : ℕ) (s : List ℕ) → ¬ EndsFirst (c ∷ s) → Unbroken s → Unbroken (c ∷ s)
longer c s n u [] b e = n (b, e)
longer c s n u (d ∷ a) b e = u a b (tail-eq_of_cons-eq e)

-- So a text is without an end, or it is cut at the first.
abbrev Cut : List ℕ → Type 0
Cut s = Unbroken s ⊎ ((a b : List ℕ) × Unbroken a × (s ≡ a ++ crlf ++ b))

unbroken_nil : Unbroken []
unbroken_nil [] b e = nil≢cons e
unbroken_nil (c ∷ a) b e = nil≢cons e

cut-first : (s : List ℕ) → Cut s
cut-first [] = inl unbroken_nil
cut-first (c ∷ s) = go (cut-first s) (ends_first (c ∷ s))
  where
    go : Cut s → Dec (EndsFirst (c ∷ s)) → Cut (c ∷ s)
    go h (yes (b, e)) = inr ([], b, unbroken_nil, e)
    go (inl u) (no n) = inl (longer c s n u)
    go (inr (a, b, u, e)) (no n) =
        let here : c ∷ s ≡ c ∷ a ++ crlf ++ b = ap (λ (t : List ℕ). c ∷ t) e in
        inr (c ∷ a, b, longer c a (λ (d, f). n (d ++ crlf ++ b, here ∙ ap (λ (t : List ℕ). t ++ crlf ++ b) f)) u, here)

-- A line with its end has at least two bytes, so what follows it is shorter.
abbrev SomeLines : List ℕ → Type 0
SomeLines text = (l : List ℕ) × (ls : List (List ℕ)) × Lines text (l ∷ ls)

lines_within : (n : ℕ) (text : List ℕ) → length text < n → SomeLines text
lines_within zero text h = absurd (omega arith)
lines_within (suc n) text h = go (lines_within n) (cut-first text)
  where
    go : ((t : List ℕ) → length t < n → SomeLines t) → Cut text → SomeLines text
    go f (inl u) = (text, [], (u, inl refl))
    go f (inr (s, [], u, e)) = (s, [], (u, inr (e ∙ append-nil (s ++ crlf))))
    go f (inr (s, c ∷ t, u, e)) =
        let (l, ls, more) = f (c ∷ t) (omega (arith, simp length-append at (ap (λ (r : List ℕ). length r) e))) in
        (s, l ∷ ls, (u, (c ∷ t, cons≢nil, e, more)))

-- THEOREM. So every text has lines, and few.
pub lines_exist : (text : List ℕ) → (l : List ℕ) × (ls : List (List ℕ)) × Lines text (l ∷ ls)
lines_exist text = lines_within (suc (length text)) text (omega arith)

pub lines_few : (text : List ℕ) (ls : List (List ℕ)) → Lines text ls → length ls ≤ length text + 1
lines_few text [] p = omega arith
lines_few text (s ∷ []) p = omega arith
lines_few text (s ∷ l ∷ ls) (u, (t, _, e, p)) =
    omega (arith, lines_few t (l ∷ ls) p, simp length-append at (ap (λ (r : List ℕ). length r) e))

-- ---- fields

-- What a reader has of the first field of a text: its value, and the text after it. A quote ends a quoted one unless another follows it; a comma ends any other.
abbrev put : ℕ → List ℕ × List ℕ → List ℕ × List ℕ
put c p = (c ∷ p.0, p.1)

abbrev quoted : Bool → List ℕ → List ℕ × List ℕ
quoted ends [] = ([], [])
quoted false (c ∷ s) = cond (eqb c 34) (quoted true s) (put c (quoted false s))
quoted true (c ∷ s) = cond (eqb c 34) (put 34 (quoted false s)) ([], c ∷ s)

abbrev unquoted : List ℕ → List ℕ × List ℕ
unquoted [] = ([], [])
unquoted (c ∷ s) = cond (eqb c 44) ([], c ∷ s) (put c (unquoted s))

abbrev read : List ℕ → List ℕ × List ℕ
read [] = ([], [])
read (c ∷ s) = cond (eqb c 34) (quoted false s) (unquoted (c ∷ s))

-- Nothing follows a field, or a comma does: then its value is read.
abbrev After : List ℕ → Type 0
After x = (x ≡ []) ⊎ ((y : List ℕ) × (x ≡ 44 ∷ y))

unquoted-read : (v x : List ℕ) → Plain v → After x → unquoted (v ++ x) ≡ (v, x)
unquoted-read [] x p (inl e) = rw e
unquoted-read [] x p (inr (y, e)) = rw e
unquoted-read (c ∷ v) x (_, n, p) a = rw (ne_eqb c 44 n, unquoted-read v x p a)

quoted-read : (v x : List ℕ) → After x → quoted false (doubled v ++ 34 ∷ x) ≡ (v, x)
quoted-read [] x (inl e) = rw e
quoted-read [] x (inr (y, e)) = rw e
quoted-read (c ∷ v) x a = go (quoted-read v x a) (ℕ_discrete c 34)
  where
    go : quoted false (doubled v ++ 34 ∷ x) ≡ (v, x) → Dec (c ≡ 34) → quoted false (doubled (c ∷ v) ++ 34 ∷ x) ≡ (c ∷ v, x)
    go f (yes e) = rw (e, f)
    go f (no n) = simp (ne_eqb c 34 n, f)

field-read : (r v x : List ℕ) → Field r v → After x → read (r ++ x) ≡ (v, x)
field-read r [] x (inl (p, e)) (inl f) = rw (e, f)
field-read r [] x (inl (p, e)) (inr (y, f)) = rw (e, f)
field-read r (c ∷ v) x (inl (p, e)) a = rw (e, ne_eqb c 34 p.0) (unquoted-read (c ∷ v) x p a)
field-read r v x (inr e) a = rw (e, append_snoc (doubled v) 34 x) (quoted-read v x a)

-- The three values of a line.
three : List ℕ → List ℕ × List ℕ × List ℕ
three line =
    let (a, s) = read line in
    let (b, t) = read (tail s) in
    (a, b, (read (tail t)).0)

fields_read : (line a b c : List ℕ) → Fields line a b c → three line ≡ (a, b, c)
unfolding three
fields_read line a b c (r, s, t, f, g, h, e) =
    let last : read t ≡ (c, []) = rw append-nil at (field-read t c [] h (inl refl)) in
    rw e (simp append_assoc (rw (field-read r a (44 ∷ (s ++ 44 ∷ t)) f (inr (s ++ 44 ∷ t, refl)), field-read s b (44 ∷ t) g (inr (t, refl)), last)))

-- THEOREM. A line says no other values.
pub fields_one : (line a b c a' b' c' : List ℕ) → Fields line a b c → Fields line a' b' c' → (a ≡ a') × (b ≡ b') × (c ≡ c')
fields_one line a b c a' b' c' p q =
    let same : ◌≡◌ {A = List ℕ × List ℕ × List ℕ} (a, b, c) (a', b', c') = sym (fields_read line a b c p) ∙ fields_read line a' b' c' q in
    ((λ i. (same i).0), (λ i. (same i).1), λ i. (same i).2)

-- ---- numbers

-- The text of a number is of no other.
pub decimal_injective : (m n : ℕ) → decimal m ≡ decimal n → m ≡ n
decimal_injective m n e = sym (decimal_reads m) ∙ ap (read_digits 0) e ∙ decimal_reads n

-- No number begins with a minus.
unsigned : (n : ℕ) (s : List ℕ) → decimal n ≢ 45 ∷ s
unsigned n s e = let (d, r, l, f) = decimal-first n in omega (arith, head-eq_of_cons-eq (sym f ∙ e))

pub signed_injective : (v w : ℤ) → with_minus decimal v ≡ with_minus decimal w → v ≡ w
signed_injective (pos n) (pos m) e = ap pos (decimal_injective n m e)
signed_injective (pos n) (negsuc m) e = absurd (unsigned n (decimal (suc m)) e)
signed_injective (negsuc n) (pos m) e = absurd (unsigned m (decimal (suc n)) (sym e))
signed_injective (negsuc n) (negsuc m) e = ap negsuc (suc_inj (decimal_injective (suc n) (suc m) (tail-eq_of_cons-eq e)))

-- ---- the list

-- THEOREM. A line lists no other pad, and a text reads as no others.
pub lists_one : (line : List ℕ) (p q : Pad) → Lists line p → Lists line q → p ≡ q
lists_one line p q l m =
    let (e, f, g) = fields_one line _ _ _ _ _ _ l m in
    λ i. record { name = decimal_injective p.name q.name e i; x = decimal_injective p.x q.x f i; y = signed_injective p.y q.y g i }

each_one : (ls : List (List ℕ)) (ps qs : List Pad) → ListEach ls ps → ListEach ls qs → ps ≡ qs
each_one [] [] [] l m = refl
each_one [] [] (q ∷ qs) l m = absurd m
each_one [] (p ∷ ps) qs l m = absurd l
each_one (s ∷ ls) [] qs l m = absurd l
each_one (s ∷ ls) (p ∷ ps) [] l m = absurd m
each_one (s ∷ ls) (p ∷ ps) (q ∷ qs) (l, ll) (m, mm) = λ i. lists_one s p q l m i ∷ each_one ls ps qs ll mm i

pub reads_one : (text : List ℕ) (ps qs : List Pad) → ReadsAs text ps → ReadsAs text qs → ps ≡ qs
reads_one text ps qs (first, rest, l, _, each) (first', rest', l', _, each') =
    let same = tail-eq_of_cons-eq (lines_one text (first ∷ rest) (first' ∷ rest') l l') in
    each_one rest ps qs each (subst (λ (ls : List (List ℕ)). ListEach ls qs) (sym same) each')

-- Each line of a text that reads as some pads is good; it has no other lines, so none is bad.
each_good : (ls : List (List ℕ)) (ps : List Pad) (k : ℕ) → ListEach ls ps → k < length ls → GoodLine (suc k) (get_or ls k [])
each_good [] ps k e h = absurd (omega arith)
each_good (l ∷ ls) [] k e h = absurd e
each_good (l ∷ ls) (p ∷ ps) zero (e, _) h = (p, e)
each_good (l ∷ ls) (p ∷ ps) (suc k) (_, e) h = each_good ls ps k e (omega arith)

good : (first : List ℕ) (rest : List (List ℕ)) (ps : List Pad) (k : ℕ) → Header first → ListEach rest ps → k < length (first ∷ rest) → GoodLine k (get_or (first ∷ rest) k [])
good first rest ps zero h e l = h
good first rest ps (suc k) h e l = each_good rest ps k e (omega arith)

pub reads_good : (text : List ℕ) (pads : List Pad) → ReadsAs text pads → (i : ℕ) → ¬ BadLine text i
reads_good text pads (first, rest, l, header, each) i (ls, k, m, _, h, bad) =
    let same = lines_one text ls (first ∷ rest) m l in
    bad (rw same (good first rest pads k header each (rw same at h)))

-- A bad line is one of the text's.
pub bad_among : (text : List ℕ) (i : ℕ) → BadLine text i → i < length text + 2
bad_among text i (ls, k, l, e, h, _) = omega (arith, lines_few text ls l)

-- Lines none of which is bad list pads.
each_lists : (ls : List (List ℕ)) → ((l : List ℕ) → Dec ((p : Pad) × Lists l p)) → ((k : ℕ) → k < length ls → ¬ ¬ GoodLine (suc k) (get_or ls k []))
    → (ps : List Pad) × ListEach ls ps
each_lists [] d fine = ([], tt)
each_lists (l ∷ ls) d fine =
    let (p, here) = (Dec.not-not (d l)).0 (fine 0 (omega arith)) in
    let (ps, after) = each_lists ls d (λ k h. fine (suc k) (omega arith)) in
    (p ∷ ps, (here, after))

-- THEOREM. A text without a bad line reads as some pads.
pub none_bad_reads : (text : List ℕ) → ((l : List ℕ) → Dec ((p : Pad) × Lists l p)) → ((l : List ℕ) → Dec (Header l)) → ((i : ℕ) → ¬ BadLine text i)
    → (pads : List Pad) × ReadsAs text pads
none_bad_reads text d h none =
    let (first, rest, l) = lines_exist text in
    let fine : (k : ℕ) → k < length (first ∷ rest) → ¬ ¬ GoodLine k (get_or (first ∷ rest) k []) = λ k m bad. none (suc k) (first ∷ rest, k, l, refl, m, bad) in
    let (pads, each) = each_lists rest d (λ k m. fine (suc k) (omega arith)) in
    (pads, (first, rest, l, (Dec.not-not (h first)).0 (fine 0 (omega arith)), each))
