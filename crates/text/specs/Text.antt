-- DEFINITIONS. Text as a list of bytes.
use Rattle.std.specs.Prelude.{◌≡◌, cond, List, [], ◌∷◌, ◌++◌, ℕ, zero, suc, ◌+◌, ◌*◌, ◌-◌, ◌/◌, ◌%◌, ◌<◌, ltb, length, ℤ, pos, negsuc}
use Prim.Native.Char.{code}
use Prim.Native.String.{String, [] as none, ◌∷◌ as ◌then◌}
use Rattle.std.proofs.lemmas.List.Edits.{sets}

-- A word of plain characters, a byte each.
abbrev pub bytes : String → List ℕ
bytes none = []
bytes (c then s) = code c ∷ bytes s

-- The last k digits of n, and no more than it has. 48 is the byte of the digit 0.
unfoldable pub digits : ℕ → ℕ → List ℕ
digits zero n = []
digits (suc k) n = cond (ltb n 10) ((48 + n) ∷ []) (digits k (n / 10) ++ ((48 + n % 10) ∷ []))

-- n in decimal: it has no more than n + 1 digits.
unfoldable pub decimal : ℕ → List ℕ
decimal n = digits (suc n) n

-- v in writing, where n is written so: a minus where v is below 0, so never before 0.
abbrev pub with_minus : (ℕ → List ℕ) → ℤ → List ℕ
with_minus write (pos n) = write n
with_minus write (negsuc n) = bytes "-" ++ write (suc n)

-- A text that begins with a digit.
abbrev pub Begins : List ℕ → Type 0
Begins t = (d : ℕ) × (s : List ℕ) × (d < 10) × (t ≡ (48 + d) ∷ s)

-- Texts 0 to n - 1, one after the other.
abbrev pub joined : (ℕ → List ℕ) → ℕ → List ℕ
joined texts zero = []
joined texts (suc n) = joined texts n ++ texts n

-- Digits read as a number, after those that came to v. (Those of `decimal n` come to n: `decimal_reads`.)
abbrev pub read_digits : ℕ → List ℕ → ℕ
read_digits v [] = v
read_digits v (d ∷ s) = read_digits (10 * v + (d - 48)) s

-- `text` is written from place `at` on, r is the place after it, and every other byte is kept. (`sets` of the kit: one store for each byte.)
pub record Writes (before : List ℕ) (at : ℕ) (text : List ℕ) (r : ℕ) (after : List ℕ) : Type 0 where
  pub stop : r ≡ at + length text
  pub stored : after ≡ sets before at text
