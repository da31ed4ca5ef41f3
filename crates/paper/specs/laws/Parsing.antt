-- A list as the code reads it: from the front of a text, byte by byte, to the first line that is bad. What it comes to is laws/Parsed.
use Rattle.std.specs.Prelude.{Bool, cond, ◌&&◌, List, [], ◌∷◌, ◌++◌, ℕ, zero, suc, ◌+◌, ◌*◌, ◌-◌, eqb, leb, ltb, length}
use Rattle.text.specs.Text.{bytes}
use Rattle.paper.specs.Job.{square_and_port}

-- A text begins with a value, and what follows it; or it does not.
pub data Front (A : Type 0) : Type 0 where
  got : A → List ℕ → Front A
  none : Front A

-- And then what follows is read on.
abbrev pub onto : {A B : Type 0} → Front A → (A → List ℕ → Front B) → Front B
onto (got a s) f = f a s
onto none f = none

-- One byte.
abbrev pub skip : ℕ → List ℕ → Front (Unit {0})
skip b [] = none
skip b (c ∷ s) = cond (eqb c b) (got tt s) none

-- ---- what a field says: a word, whose value is 0, or a number

unfoldable pub word_front : List ℕ → List ℕ → Front ℕ
word_front [] s = got 0 s
word_front (b ∷ w) s = onto (skip b s) (λ _ t. word_front w t)

-- 48 to 57 are the bytes of digits, 45 that of a minus.
abbrev pub is_digit : ℕ → Bool
is_digit c = leb 48 c && leb c 57

-- What is above 1,000,000 is as good as 1,000,001.
unfoldable pub cap : ℕ → ℕ
cap n = cond (ltb 1000001 n) 1000001 n

unfoldable pub digits_front : ℕ → List ℕ → Front ℕ
digits_front v [] = got v []
digits_front v (c ∷ s) = cond (is_digit c) (digits_front (cap (10 * v + (c - 48))) s) (got v (c ∷ s))

-- After a 0 no digit is read.
unfoldable pub natural_front : List ℕ → Front ℕ
natural_front [] = none
natural_front (c ∷ s) = cond (eqb c 48) (got 0 s) (cond (is_digit c) (digits_front (c - 48) s) none)

-- The same below 0, as 32 bits: 0 is not.
abbrev pub below : ℕ → List ℕ → Front ℕ
below n s = cond (eqb n 0) none (got (4294967296 - n) s)

abbrev pub after_minus : Front (Unit {0}) → List ℕ → Front ℕ
after_minus (got u t) s = onto (natural_front t) below
after_minus none s = natural_front s

unfoldable pub signed_front : List ℕ → Front ℕ
signed_front s = after_minus (skip 45 s) s

-- ---- a field, read by f, between quotes or without

abbrev pub quoted_front : (List ℕ → Front ℕ) → Front (Unit {0}) → List ℕ → Front ℕ
quoted_front f (got u t) s = onto (f t) (λ v w. onto (skip 34 w) (λ _ r. got v r))
quoted_front f none s = f s

unfoldable pub field_front : (List ℕ → Front ℕ) → List ℕ → Front ℕ
field_front f s = quoted_front f (skip 34 s) s

-- ---- a line: three fields, and its end or the text's

abbrev pub end_front : List ℕ → Front (Unit {0})
end_front [] = got tt []
end_front (c ∷ s) = onto (skip 13 (c ∷ s)) (λ _ t. skip 10 t)

pub record Row : Type 0 where
  pub name : ℕ
  pub x : ℕ
  pub y : ℕ

unfoldable pub line_front : (List ℕ → Front ℕ) → (List ℕ → Front ℕ) → (List ℕ → Front ℕ) → List ℕ → Front Row
line_front f g h s =
    onto (field_front f s) (λ name t.
    onto (skip 44 t) (λ _ u.
    onto (field_front g u) (λ x v.
    onto (skip 44 v) (λ _ w.
    onto (field_front h w) (λ y z.
    onto (end_front z) (λ _ r. got (record { name = name; x = x; y = y }) r))))))

abbrev pub head_front : List ℕ → Front Row
head_front = line_front (word_front (bytes "name")) (word_front (bytes "x")) (word_front (bytes "y"))

abbrev pub pad_front : List ℕ → Front Row
pad_front = line_front natural_front natural_front signed_front

-- ---- all lines

-- The rows of the lines; or the first bad line, counted from 0.
pub data Listed : Type 0 where
  good : List Row → Listed
  bad : ℕ → Listed

abbrev pub before : Row → Listed → Listed
before r (good rs) = good (r ∷ rs)
before r (bad k) = bad (suc k)

abbrev pub go_on : Front Row → (List ℕ → Listed) → Listed
go_on (got r t) f = before r (f t)
go_on none f = bad 0

-- Of a text with fewer bytes than `fuel`.
unfoldable pub list_from : ℕ → List ℕ → Listed
list_from zero [] = good []
list_from zero (c ∷ s) = bad 0
list_from (suc fuel) [] = good []
list_from (suc fuel) (c ∷ s) = go_on (pad_front (c ∷ s)) (list_from fuel)

-- The same a line later.
abbrev pub later : Listed → Listed
later (good rs) = good rs
later (bad k) = bad (suc k)

abbrev pub headed : Front Row → (List ℕ → Listed) → Listed
headed (got r t) f = later (f t)
headed none f = bad 0

unfoldable pub listed : List ℕ → Listed
listed text = headed (head_front text) (list_from (length text))

-- ---- rows as bytes: a name that does not fit its 2 bytes is 0, which is refused like it

unfoldable pub fitting : ℕ → ℕ
fitting name = cond (ltb 65535 name) 0 name

abbrev pub row_bytes : Row → List ℕ
row_bytes r = square_and_port (fitting r.name) 0 r.x r.y 0

abbrev pub rows_bytes : List Row → List ℕ
rows_bytes [] = []
rows_bytes (r ∷ rs) = row_bytes r ++ rows_bytes rs
