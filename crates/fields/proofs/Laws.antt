-- What a step of laws/Parsing comes to at a place of a text, which stands for what follows it there. An answer may be such a place, as it may be the rest.
use Rattle.std.specs.Prelude.{◌≡◌, ◌↔◌, Bool, true, false, cond, List, [], ◌∷◌, ℕ, ◌+◌, ◌*◌, ◌-◌, ◌≤◌, ◌<◌, eqb, length, get_or, drop, Option, Some, None, IfSome}
use Rattle.std.specs.Borrow.{Bor}
use Rattle.std.proofs.Common.{◌∙◌, refl, sym, add-one, arith, drop_of_length-le, drop-cons, length-drop}
use Rattle.std.proofs.lemmas.List.{drop-drop}
use borrow.Author.Tests.{eq-eqb, ne_eqb}
use Rattle.paper.specs.laws.Parsing.{Front, got, none, skip, word_front, is_digit, cap, digits_front, natural_front, below, after_minus, signed_front, quoted_front, field_front, end_front, onto}
use Rattle.fields.specs.declared.Kind.{Kind}
use Rattle.fields.specs.declared.Kind.TheVariants.{Name, X, Y, Natural, Signed}
use Rattle.fields.specs.Fronts.{content_of, rest_front, Reads}

-- ---- what an answer stands for: no value, or a number, and the place after it

abbrev pub step_front : List ℕ → Option ℕ → Front (Unit {0})
step_front text (Some k) = got tt (drop k text)
step_front text None = none

abbrev pub placed_front : List ℕ → Option (ℕ × ℕ) → Front ℕ
placed_front text (Some (v, k)) = got v (drop k text)
placed_front text None = none

-- ---- where it lies: from `low` on, and in the text

abbrev pub StepIn : List ℕ → ℕ → Option ℕ → Type 0
StepIn text low (Some k) = (low ≤ k) × (k ≤ length text)
StepIn text low None = Unit {0}

abbrev pub NumberIn : List ℕ → ℕ → Option (ℕ × ℕ) → Type 0
NumberIn text low (Some (v, k)) = (low ≤ k) × (k ≤ length text)
NumberIn text low None = Unit {0}

-- ---- the answer is that

pub record Steps (text : List ℕ) (low : ℕ) (front : Front (Unit {0})) (r : Option ℕ) : Type 0 where
  pub is : front ≡ step_front text r
  pub inside : StepIn text low r

pub record Numbers (text : List ℕ) (low : ℕ) (front : Front ℕ) (r : Option (ℕ × ℕ)) : Type 0 where
  pub is : front ≡ placed_front text r
  pub inside : NumberIn text low r

-- ---- a step at a place

-- What follows a place in the text: the byte there, and what follows that.
pub from_here : (text : List ℕ) (at : ℕ) → at < length text → drop at text ≡ get_or text at 0 ∷ drop (at + 1) text
from_here text at h = rw (add-one, drop-cons text at 0)

-- One byte: it is there; another is; none is.
pub skip_here : (b : ℕ) (text : List ℕ) (at : ℕ) → at < length text → get_or text at 0 ≡ b → skip b (drop at text) ≡ got tt (drop (at + 1) text)
skip_here b text at h e = rw (from_here text at h, eq-eqb (get_or text at 0) b e)

pub skip_other : (b : ℕ) (text : List ℕ) (at : ℕ) → at < length text → (get_or text at 0 ≡ b → ⊥) → skip b (drop at text) ≡ none
skip_other b text at h e = rw (from_here text at h, ne_eqb (get_or text at 0) b e)

pub skip_end : (b : ℕ) (text : List ℕ) (at : ℕ) → length text ≤ at → skip b (drop at text) ≡ none
skip_end b text at h = rw (drop_of_length-le text h)

-- A word, of which k bytes were there: the next one is; it is not; there is none.
module _ (w text : List ℕ) (k place : ℕ) where
  pub word_next : (next : ℕ) → k < length w → skip (get_or w k 0) (drop place text) ≡ got tt (drop next text)
      → word_front (drop k w) (drop place text) ≡ word_front (drop (k + 1) w) (drop next text)
  unfolding word_front
  word_next next h e = rw (from_here w k h, e)

  pub word_other : k < length w → skip (get_or w k 0) (drop place text) ≡ none → word_front (drop k w) (drop place text) ≡ none
  unfolding word_front
  word_other h e = rw (from_here w k h, e)

  pub word_all : length w ≤ k → word_front (drop k w) (drop place text) ≡ got 0 (drop place text)
  unfolding word_front
  word_all h = rw (drop_of_length-le w h)

-- The digits after those that came to v: another one; another byte; the end.
module _ (text : List ℕ) (place v : ℕ) where
  pub digits_next : place < length text → is_digit (get_or text place 0) ≡ true
      → digits_front v (drop place text) ≡ digits_front (cap (10 * v + (get_or text place 0 - 48))) (drop (place + 1) text)
  unfolding digits_front
  digits_next h e = rw (from_here text place h, e)

  pub digits_other : place < length text → is_digit (get_or text place 0) ≡ false → digits_front v (drop place text) ≡ got v (drop place text)
  unfolding digits_front
  digits_other h e = rw (from_here text place h, e)

  pub digits_end : length text ≤ place → digits_front v (drop place text) ≡ got v (drop place text)
  unfolding digits_front
  digits_end h = rw (drop_of_length-le text h)

-- A number without a sign: 0; another digit; another byte; the end.
module _ (text : List ℕ) (at : ℕ) where
  pub natural_zero : at < length text → get_or text at 0 ≡ 48 → natural_front (drop at text) ≡ got 0 (drop (at + 1) text)
  unfolding natural_front
  natural_zero h e = rw (from_here text at h, eq-eqb (get_or text at 0) 48 e)

  pub natural_digits : at < length text → (get_or text at 0 ≡ 48 → ⊥) → is_digit (get_or text at 0) ≡ true
      → natural_front (drop at text) ≡ digits_front (get_or text at 0 - 48) (drop (at + 1) text)
  unfolding natural_front
  natural_digits h n e = rw (from_here text at h, ne_eqb (get_or text at 0) 48 n, e)

  pub natural_other : at < length text → (get_or text at 0 ≡ 48 → ⊥) → is_digit (get_or text at 0) ≡ false → natural_front (drop at text) ≡ none
  unfolding natural_front
  natural_other h n e = rw (from_here text at h, ne_eqb (get_or text at 0) 48 n, e)

  pub natural_end : length text ≤ at → natural_front (drop at text) ≡ none
  unfolding natural_front
  natural_end h = rw (drop_of_length-le text h)

-- ---- the answer of a later step, from a later place on, as that of the whole

number_from : (text : List ℕ) (low high : ℕ) (r : Option (ℕ × ℕ)) → low ≤ high → NumberIn text high r → NumberIn text low r
number_from text low high (Some (v, k)) h i = (omega (arith, i.0), i.1)
number_from text low high None h i = tt

pub numbers_from : {text : List ℕ} {low high : ℕ} {f g : Front ℕ} {r : Option (ℕ × ℕ)} → low ≤ high → g ≡ f → Numbers text high f r → Numbers text low g r
numbers_from {text} {low} {high} {r = r} h e n = record { is = e ∙ n.is; inside = number_from text low high r h n.inside }

step_from : (text : List ℕ) (low high : ℕ) (r : Option ℕ) → low ≤ high → StepIn text high r → StepIn text low r
step_from text low high (Some k) h i = (omega (arith, i.0), i.1)
step_from text low high None h i = tt

pub steps_from : {text : List ℕ} {low high : ℕ} {f g : Front (Unit {0})} {r : Option ℕ} → low ≤ high → g ≡ f → Steps text high f r → Steps text low g r
steps_from {text} {low} {high} {r = r} h e n = record { is = e ∙ n.is; inside = step_from text low high r h n.inside }

-- The end of a line: that of the text, or two bytes.
pub end_here : (text : List ℕ) (at : ℕ) → at ≡ length text → end_front (drop at text) ≡ got tt (drop at text)
end_here text at h = rw (drop_of_length-le text {i = at} (omega arith))

pub end_more : (text : List ℕ) (at : ℕ) → at < length text → end_front (drop at text) ≡ onto (skip 13 (drop at text)) (λ _ t. skip 10 t)
end_more text at h = rw (from_here text at h)

-- ---- the rest as a place

-- The place p is that of the rest r.
abbrev pub RestAt : List ℕ → Option ℕ → Option (Bor (List ℕ)) → Type 0
RestAt text (Some k) (Some rest) = (k ≤ length text) × (drop k text ≡ rest.now)
RestAt text None None = Unit {0}
RestAt text p r = ⊥

-- The same of a number with each.
abbrev pub NumberAt : List ℕ → Option (ℕ × ℕ) → Option (ℕ × Bor (List ℕ)) → Type 0
NumberAt text (Some (v, k)) (Some said) = (v ≡ said.0) × (k ≤ length text) × (drop k text ≡ said.1.now)
NumberAt text None None = Unit {0}
NumberAt text p r = ⊥

-- To answer the rest, with so many bytes fewer, is to answer its place, so far on.
pub steps_placed : (front : Front (Unit {0})) (text : List ℕ) (at fewer : ℕ) (p : Option ℕ) (r : Option (Bor (List ℕ))) → at ≤ length text → RestAt text p r
    → ((front ≡ rest_front r) × IfSome r (λ rest. length rest.now + fewer ≤ length (drop at text))) ↔ Steps text (at + fewer) front p
steps_placed front text at fewer (Some k) (Some rest) h w = (
  (λ a.
      let shorter : length (drop k text) + fewer ≤ length (drop at text) = rw w.1 a.1 in
      record { is = rw w.1 a.0; inside = (omega (arith, shorter, length-drop k text, length-drop at text), w.0) }),
  (λ n. (rw (← w.1) n.is, rw (← w.1) (simp length-drop (omega (arith, n.inside.0))))),
)
steps_placed front text at fewer None None h w = ((λ a. record { is = a.0; inside = tt }), (λ n. (n.is, tt)))
steps_placed front text at fewer (Some k) None h w = absurd w
steps_placed front text at fewer None (Some rest) h w = absurd w

pub reads_placed : (front : List ℕ → Front ℕ) (text : List ℕ) (at : ℕ) (p : Option (ℕ × ℕ)) (r : Option (ℕ × Bor (List ℕ))) → at ≤ length text → NumberAt text p r
    → Reads front (drop at text) r ↔ Numbers text at (front (drop at text)) p
reads_placed front text at (Some (v, k)) (Some said) h w = (
  (λ a.
      let shorter : length (drop k text) ≤ length (drop at text) = rw w.2 a.shorter in
      record { is = rw (w.0, w.2) a.front; inside = (omega (arith, shorter, length-drop k text, length-drop at text), w.1) }),
  (λ n. record { front = rw (← w.0, ← w.2) n.is; shorter = rw (← w.2) (simp length-drop (omega (arith, n.inside.0))) }),
)
reads_placed front text at None None h w = ((λ a. record { is = a.front; inside = tt }), (λ n. record { front = n.is; shorter = tt }))
reads_placed front text at (Some p) None h w = absurd w
reads_placed front text at None (Some r) h w = absurd w

-- ---- what a step leaves is the text from a place on

abbrev pub LeftOf : List ℕ → List ℕ → Type 0
LeftOf s r = (j : ℕ) × (j ≤ length s) × (r ≡ drop j s)

abbrev pub Leaves : {A : Type 0} → List ℕ → Front A → Type 0
Leaves s (got a r) = LeftOf s r
Leaves s none = Unit {0}

left_all : (s : List ℕ) → LeftOf s s
left_all s = (0, omega arith, refl)

left_then : (s t r : List ℕ) → LeftOf s t → LeftOf t r → LeftOf s r
left_then s t r (j, h, e) (i, k, f) = (
  j + i,
  omega (arith, length-drop j s, (rw e at k)),
  f ∙ rw e (drop-drop i j s),
)

left_more : (c : ℕ) (s : List ℕ) → LeftOf (c ∷ s) s
left_more c s = (1, omega arith, refl)

leaves_then : {A : Type 0} (s t : List ℕ) (f : Front A) → LeftOf s t → Leaves t f → Leaves s f
leaves_then s t (got a r) l m = left_then s t r l m
leaves_then s t none l m = tt

onto_leaves : {A B : Type 0} (s : List ℕ) (f : Front A) (g : A → List ℕ → Front B) → Leaves s f → ((a : A) (t : List ℕ) → Leaves t (g a t)) → Leaves s (onto f g)
onto_leaves s (got a t) g l k = leaves_then s t (g a t) l (k a t)
onto_leaves s none g l k = tt

pub skip_leaves : (b : ℕ) (s : List ℕ) → Leaves s (skip b s)
skip_leaves b [] = tt
skip_leaves b (c ∷ s) = go (eqb c b)
  where
    go : (x : Bool) → Leaves {A = Unit {0}} (c ∷ s) (cond x (got tt s) none)
    go true = left_more c s
    go false = tt

pub word_leaves : (w s : List ℕ) → Leaves s (word_front w s)
unfolding word_front
word_leaves [] s = left_all s
word_leaves (b ∷ w) s = onto_leaves s (skip b s) (λ u t. word_front w t) (skip_leaves b s) (λ u t. word_leaves w t)

pub digits_leaves : (v : ℕ) (s : List ℕ) → Leaves s (digits_front v s)
unfolding digits_front
digits_leaves v [] = left_all []
digits_leaves v (c ∷ s) = go (is_digit c) (digits_leaves (cap (10 * v + (c - 48))) s)
  where
    go : (x : Bool) → Leaves s (digits_front (cap (10 * v + (c - 48))) s) → Leaves (c ∷ s) (cond x (digits_front (cap (10 * v + (c - 48))) s) (got v (c ∷ s)))
    go true l = leaves_then (c ∷ s) s (digits_front (cap (10 * v + (c - 48))) s) (left_more c s) l
    go false l = left_all (c ∷ s)

pub natural_leaves : (s : List ℕ) → Leaves s (natural_front s)
unfolding natural_front
natural_leaves [] = tt
natural_leaves (c ∷ s) = go (eqb c 48) (is_digit c)
  where
    go : (x y : Bool) → Leaves (c ∷ s) (cond x (got 0 s) (cond y (digits_front (c - 48) s) none))
    go true y = left_more c s
    go false true = leaves_then (c ∷ s) s (digits_front (c - 48) s) (left_more c s) (digits_leaves (c - 48) s)
    go false false = tt

below_leaves : (n : ℕ) (s : List ℕ) → Leaves s (below n s)
below_leaves n s = go (eqb n 0)
  where
    go : (x : Bool) → Leaves s (cond x none (got (4294967296 - n) s))
    go true = tt
    go false = left_all s

pub signed_leaves : (s : List ℕ) → Leaves s (signed_front s)
unfolding signed_front
signed_leaves s = go (skip 45 s) (skip_leaves 45 s)
  where
    go : (f : Front (Unit {0})) → Leaves s f → Leaves s (after_minus f s)
    go (got u t) l = leaves_then s t (onto (natural_front t) below) l (onto_leaves t (natural_front t) below (natural_leaves t) below_leaves)
    go none l = natural_leaves s

pub content_leaves : (kind : Kind) (s : List ℕ) → Leaves s (content_of kind s)
content_leaves Name s = word_leaves _ s
content_leaves X s = word_leaves _ s
content_leaves Y s = word_leaves _ s
content_leaves Natural s = natural_leaves s
content_leaves Signed s = signed_leaves s

pub field_leaves : (f : List ℕ → Front ℕ) → ((s : List ℕ) → Leaves s (f s)) → (s : List ℕ) → Leaves s (field_front f s)
unfolding field_front
field_leaves f k s = go (skip 34 s) (skip_leaves 34 s)
  where
    go : (o : Front (Unit {0})) → Leaves s o → Leaves s (quoted_front f o s)
    go (got u t) l = leaves_then s t (onto (f t) (λ v w. onto (skip 34 w) (λ _ r. got v r))) l
        (onto_leaves t (f t) (λ v w. onto (skip 34 w) (λ _ r. got v r)) (k t)
        (λ v w. onto_leaves w (skip 34 w) (λ _ r. got v r) (skip_leaves 34 w) (λ _ r. left_all r)))
    go none l = k s

pub end_leaves : (s : List ℕ) → Leaves s (end_front s)
end_leaves [] = left_all []
end_leaves (c ∷ s) = onto_leaves (c ∷ s) (skip 13 (c ∷ s)) (λ u t. skip 10 t) (skip_leaves 13 (c ∷ s)) (λ u t. skip_leaves 10 t)

-- ---- so a clause on the rest is one on a place

left_at : (text : List ℕ) (at : ℕ) (r : List ℕ) → at ≤ length text → LeftOf (drop at text) r → (k : ℕ) × (k ≤ length text) × (drop k text ≡ r)
left_at text at r h (j, k, e) = (at + j, omega (arith, length-drop at text, k), sym (e ∙ drop-drop j at text))

pub rest_placed : (front : Front (Unit {0})) (text : List ℕ) (at : ℕ) (r : Option (Bor (List ℕ))) → at ≤ length text → Leaves (drop at text) front
    → front ≡ rest_front r → (p : Option ℕ) × RestAt text p r
rest_placed front text at (Some rest) h l e = let (k, inside, is) = left_at text at rest.now h (rw e at l) in (Some k, (inside, is))
rest_placed front text at None h l e = (None, tt)

pub number_placed : (front : List ℕ → Front ℕ) (text : List ℕ) (at : ℕ) (r : Option (ℕ × Bor (List ℕ))) → at ≤ length text → Leaves (drop at text) (front (drop at text))
    → Reads front (drop at text) r → (p : Option (ℕ × ℕ)) × NumberAt text p r
number_placed front text at (Some said) h l e = let (k, inside, is) = left_at text at said.1.now h (rw e.front at l) in (Some (said.0, k), (refl, inside, is))
number_placed front text at None h l e = (None, tt)

-- A byte, a field and the end of a line, from a place on.
pub byte_at : (b : ℕ) (text : List ℕ) (at : ℕ) (r : Option (Bor (List ℕ))) → at ≤ length text → skip b (drop at text) ≡ rest_front r
    → IfSome r (λ rest. length rest.now + 1 ≤ length (drop at text)) → (p : Option ℕ) × RestAt text p r × Steps text (at + 1) (skip b (drop at text)) p
byte_at b text at r h e s =
    let (p, w) = rest_placed (skip b (drop at text)) text at r h (skip_leaves b (drop at text)) e in
    (p, w, (steps_placed (skip b (drop at text)) text at 1 p r h w).0 (e, s))

pub numbers_at : (front : List ℕ → Front ℕ) → ((s : List ℕ) → Leaves s (front s)) → (text : List ℕ) (at : ℕ) (r : Option (ℕ × Bor (List ℕ))) → at ≤ length text
    → Reads front (drop at text) r → (p : Option (ℕ × ℕ)) × NumberAt text p r × Numbers text at (front (drop at text)) p
numbers_at front leaves text at r h e =
    let (p, w) = number_placed front text at r h (leaves (drop at text)) e in (p, w, (reads_placed front text at p r h w).0 e)

pub field_at : (kind : Kind) (text : List ℕ) (at : ℕ) (r : Option (ℕ × Bor (List ℕ))) → at ≤ length text → Reads (field_front (content_of kind)) (drop at text) r
    → (p : Option (ℕ × ℕ)) × NumberAt text p r × Numbers text at (field_front (content_of kind) (drop at text)) p
field_at kind = numbers_at (field_front (content_of kind)) (field_leaves (content_of kind) (content_leaves kind))

pub end_at : (text : List ℕ) (at : ℕ) (r : Option (Bor (List ℕ))) → at ≤ length text → end_front (drop at text) ≡ rest_front r
    → IfSome r (λ rest. length rest.now ≤ length (drop at text)) → (p : Option ℕ) × RestAt text p r × Steps text at (end_front (drop at text)) p
end_at text at r h e s =
    let (p, w) = rest_placed (end_front (drop at text)) text at r h (end_leaves (drop at text)) e in
    (p, w, whole p w)
  where
    shorter : (r : Option (Bor (List ℕ))) → IfSome r (λ rest. length rest.now ≤ length (drop at text)) → IfSome r (λ rest. length rest.now + 0 ≤ length (drop at text))
    shorter (Some rest) l = omega arith
    shorter None l = tt

    whole : (p : Option ℕ) → RestAt text p r → Steps text at (end_front (drop at text)) p
    whole p w = let n = (steps_placed (end_front (drop at text)) text at 0 p r h w).0 (e, shorter r s) in steps_from (omega arith) refl n
