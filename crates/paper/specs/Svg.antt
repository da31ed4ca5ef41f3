-- DEFINITIONS. 02, No. 11: a sheet as text, one line of SVG for each leader, over the numbers that Draw gives. Text is bytes: `bytes` and `decimal` of crates/text.
use Rattle.std.specs.Prelude.{◌≡◌, Bool, true, false, cond, ◌||◌, List, [], ◌∷◌, ◌++◌, map, ℕ, zero, suc, ◌^◌, ◌/◌, ◌%◌, ◌<◌, eqb, length, get_or, ℤ, Float, Ok, Err}
use Rattle.std.specs.Float.{binary32}
use Rattle.std.specs.Float.Ieee.{round}
use Rattle.text.specs.Text.{bytes, decimal, with_minus, joined, read_digits}
use Rattle.paper.specs.declared.Point.{Point}
use Rattle.paper.specs.declared.Polyline.TheVariants.{Straight, Bent}
use Rattle.paper.specs.Answers.{Drawn}
use Rattle.paper.specs.Layouts.{Board, leader}
use Rattle.paper.specs.Canvas.{FourTimesIs, Draws}

-- ---- numbers

-- What stands after the digits of the whole part, by the quarters left over: no zero ends it, and of a whole number nothing stands there.
abbrev pub fraction : ℕ → List ℕ
fraction zero = []
fraction (suc zero) = bytes ".25"
fraction (suc (suc zero)) = bytes ".5"
fraction (suc (suc (suc k))) = bytes ".75"

-- n quarters in decimal: a digit stands before any point.
unfoldable pub quarters : ℕ → List ℕ
quarters n = decimal (n / 4) ++ fraction (n % 4)

-- v quarters.
unfoldable pub numeral : ℤ → List ℕ
numeral = with_minus quarters

-- The float a is written s: it is some number of quarters, and s is their numeral.
abbrev pub Written : Float → List ℕ → Type 0
Written a s = (v : ℤ) × FourTimesIs a v × (s ≡ numeral v)

-- ---- a line, and the text

-- A point: x, a comma, y.
abbrev pub PointWritten : Point → List ℕ → Type 0
PointWritten p s = (x y : List ℕ) × Written p.x x × Written p.y y × (s ≡ x ++ bytes "," ++ y)

-- The line around the text of a leader's points.
abbrev pub line : List ℕ → List ℕ
line points = bytes "<polyline points=\"" ++ points ++ bytes "\"/>"

-- What Draw answers, written s: the pad's point first, the port's last, a blank between two.
abbrev pub LineWritten : Drawn → List ℕ → Type 0
LineWritten (Ok (Straight p q)) s = (pad port : List ℕ) × PointWritten p pad × PointWritten q port × (s ≡ line (pad ++ bytes " " ++ port))
LineWritten (Ok (Bent p m q)) s =
    (pad bend port : List ℕ) × PointWritten p pad × PointWritten m bend × PointWritten q port
    × (s ≡ line (pad ++ bytes " " ++ bend ++ bytes " " ++ port))
LineWritten (Err r) s = ⊥

-- The text s of a layout: for each record in file order the line of what Draw answers for its leader, and a newline.
pub record SheetWritten (b : Board) (f : ℕ → ℕ) (s : List ℕ) : Type 0 where
  pub drawn : ℕ → Drawn
  pub lines : ℕ → List ℕ
  pub draws : (i : ℕ) → i < b.pads → Draws (leader b i (f i)) (drawn i)
  pub written : (i : ℕ) → i < b.pads → LineWritten (drawn i) (lines i)
  pub text : s ≡ joined (λ i. lines i ++ bytes "\n") b.pads

-- ---- reading such a text

-- A byte put before the first of some pieces.
abbrev pub to_first : ℕ → List (List ℕ) → List (List ℕ)
to_first c [] = []
to_first c (s ∷ ss) = (c ∷ s) ∷ ss

-- A text in pieces, cut at each byte of which `at` says so; these bytes are left out.
abbrev pub cut : (ℕ → Bool) → List ℕ → List (List ℕ)
cut at [] = [] ∷ []
cut at (c ∷ s) = cond (at c) ([] ∷ cut at s) (to_first c (cut at s))

-- A number with that sign, cut at its point: the nearest 32-bit float.
abbrev pub nearest : Bool → List (List ℕ) → Float
nearest minus [] = round binary32 minus 0 1
nearest minus (whole ∷ []) = round binary32 minus (read_digits 0 whole) 1
nearest minus (whole ∷ part ∷ more) = round binary32 minus (read_digits 0 (whole ++ part)) (10 ^ length part)

-- 45 is the byte of a minus, 46 of a point, 44 of a comma, 32 of a blank, 34 of a quote, 10 of a newline.
abbrev pub read_number : List ℕ → Float
read_number [] = nearest false []
read_number (c ∷ s) = cond (eqb c 45) (nearest true (cut (eqb 46) s)) (nearest false (cut (eqb 46) (c ∷ s)))

-- The numbers between the quotes of a line; and line i of a text.
unfoldable pub read_line : List ℕ → List Float
read_line s = map read_number (cut (λ c. eqb 44 c || eqb 32 c) (get_or (cut (eqb 34) s) 1 []))

unfoldable pub line_at : List ℕ → ℕ → List ℕ
line_at text i = get_or (cut (eqb 10) text) i []
