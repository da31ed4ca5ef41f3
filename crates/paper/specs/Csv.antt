-- DEFINITIONS. 02, No. 12: a list of pads as comma-separated values, by RFC 4180: what a text says. Text is bytes: `bytes`, `decimal` and `with_minus` of crates/text.
use Rattle.std.specs.Prelude.{◌≡◌, ◌≢◌, ◌⊎◌, cond, List, [], ◌∷◌, ◌++◌, map, ℕ, zero, suc, ◌<◌, eqb, length, get_or, ℤ, pos}
use Rattle.text.specs.Text.{bytes, decimal, with_minus}
use Rattle.paper.specs.Job.{count, name_of, x_of, y_of, square_and_port, bits}

-- A pad of a list. Its numbers may be outside the ranges of a record: 4 says which are.
pub record Pad : Type 0 where
  pub name : ℕ
  pub x : ℕ
  pub y : ℤ

-- ---- lines

-- The end of a line, CR and LF; and a text in which none stands.
abbrev pub crlf : List ℕ
crlf = 13 ∷ 10 ∷ []

abbrev pub Unbroken : List ℕ → Type 0
Unbroken s = (a b : List ℕ) → s ≢ a ++ crlf ++ b

-- The lines of a text: one line, with its end or without; or a line, its end, and the lines of what follows, if anything does.
abbrev pub Lines : List ℕ → List (List ℕ) → Type 0
Lines text [] = ⊥
Lines text (s ∷ []) = Unbroken s × ((text ≡ s) ⊎ (text ≡ s ++ crlf))
Lines text (s ∷ l ∷ ls) = Unbroken s × ((t : List ℕ) × (t ≢ []) × (text ≡ s ++ crlf ++ t) × Lines t (l ∷ ls))

-- A text of these lines, each with its end.
abbrev pub ended : List (List ℕ) → List ℕ
ended [] = []
ended (l ∷ ls) = l ++ crlf ++ ended ls

-- ---- fields: 34 is the byte of a quote, 44 of a comma

-- A text without either; and one in which each quote is doubled.
abbrev pub Plain : List ℕ → Type 0
Plain [] = Unit {0}
Plain (c ∷ s) = (c ≢ 34) × (c ≢ 44) × Plain s

abbrev pub doubled : List ℕ → List ℕ
doubled [] = []
doubled (c ∷ s) = cond (eqb c 34) (34 ∷ 34 ∷ doubled s) (c ∷ doubled s)

-- The field s says v: it is v, without a quote or a comma; or it is v between quotes, those in v doubled.
abbrev pub Field : List ℕ → List ℕ → Type 0
Field s v = (Plain v × (s ≡ v)) ⊎ (s ≡ bytes "\"" ++ doubled v ++ bytes "\"")

-- A line of three fields that say a, b and c, with commas between them.
abbrev pub Fields : List ℕ → List ℕ → List ℕ → List ℕ → Type 0
Fields line a b c = (r s t : List ℕ) × Field r a × Field s b × Field t c × (line ≡ r ++ bytes "," ++ s ++ bytes "," ++ t)

-- ---- the list

-- The first line; and a line that lists a pad: numbers in decimal, y with a minus where it is below 0.
abbrev pub Header : List ℕ → Type 0
Header line = Fields line (bytes "name") (bytes "x") (bytes "y")

abbrev pub Lists : List ℕ → Pad → Type 0
Lists line p = Fields line (decimal p.name) (decimal p.x) (with_minus decimal p.y)

abbrev pub ListEach : List (List ℕ) → List Pad → Type 0
ListEach [] [] = Unit {0}
ListEach [] (p ∷ ps) = ⊥
ListEach (l ∷ ls) [] = ⊥
ListEach (l ∷ ls) (p ∷ ps) = Lists l p × ListEach ls ps

-- The text reads as these pads: its first line is the header, and each line after it lists one.
abbrev pub ReadsAs : List ℕ → List Pad → Type 0
ReadsAs text pads = (first : List ℕ) × (rest : List (List ℕ)) × Lines text (first ∷ rest) × Header first × ListEach rest pads

-- What it reads as has P.
abbrev pub ReadWith : List ℕ → (List Pad → Type 0) → Type 0
ReadWith text P = (pads : List Pad) × ReadsAs text pads × P pads

-- Line k, counted from 0, is as it should be; and line i of a text, counted from 1, is bad.
abbrev pub GoodLine : ℕ → List ℕ → Type 0
GoodLine zero line = Header line
GoodLine (suc k) line = (p : Pad) × Lists line p

abbrev pub BadLine : List ℕ → ℕ → Type 0
BadLine text i = (ls : List (List ℕ)) × (k : ℕ) × Lines text ls × (i ≡ suc k) × (k < length ls) × ¬ GoodLine k (get_or ls k [])

-- ---- pads as records, and as text

abbrev pub pad_at : List Pad → ℕ → Pad
pad_at pads i = get_or pads i (record { name = 0; x = 0; y = pos 0 })

-- "pad records of No. 7's form with half-side 0": the last field is 0.
abbrev pub record_of : Pad → List ℕ
record_of p = square_and_port p.name 0 p.x (bits p.y) 0

abbrev pub records_of : List Pad → List ℕ
records_of [] = []
records_of (p ∷ ps) = record_of p ++ records_of ps

-- The pads of a list's first n records, and of all.
abbrev pub first_pads : List ℕ → ℕ → List Pad
first_pads records zero = []
first_pads records (suc n) = first_pads records n ++ (record { name = name_of records n; x = x_of records n; y = y_of records n } ∷ [])

abbrev pub pads_in : List ℕ → List Pad
pads_in records = first_pads records (count records)

-- "a list written by the plain unquoted rule": every line with its end.
abbrev pub plain_line : Pad → List ℕ
plain_line p = decimal p.name ++ bytes "," ++ decimal p.x ++ bytes "," ++ with_minus decimal p.y

unfoldable pub plain_text : List Pad → List ℕ
plain_text pads = ended (bytes "name,x,y" ∷ map plain_line pads)
