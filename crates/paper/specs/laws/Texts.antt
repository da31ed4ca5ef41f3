-- What is written of a leader, and of a sheet. That it satisfies the words of Svg, and nothing else does, is proofs/laws/Texts.
use Rattle.std.specs.Prelude.{List, ◌++◌, ℕ, ◌<◌, ℤ, pos, neg_ℤ}
use Rattle.text.specs.Text.{bytes, joined}
use Rattle.paper.specs.Leaders.{Leader}
use Rattle.paper.specs.Layouts.{Board, leader}
use Rattle.paper.specs.Svg.{numeral, line}
use Rattle.paper.specs.laws.Drawn.{OnSheet, by_bend}

-- ---- a point

-- The text of the point (x, y) of the sheet.
unfoldable pub point_text : ℕ → ℤ → List ℕ
point_text x y = numeral (pos x) ++ bytes "," ++ numeral (neg_ℤ y)

-- ---- a line

-- The text of a leader: straight where the heights are equal, else bent.
abbrev pub straight_text : Leader → List ℕ
straight_text l = line (point_text l.x l.y ++ bytes " " ++ point_text 0 l.port)

abbrev pub bent_text : Leader → List ℕ
bent_text l = line (point_text l.x l.y ++ bytes " " ++ point_text l.x l.port ++ bytes " " ++ point_text 0 l.port)

unfoldable pub line_text : Leader → List ℕ
line_text l = by_bend l (straight_text l) (bent_text l)

-- ---- a sheet

-- The text of the first n records.
abbrev pub lines_text : Board → (ℕ → ℕ) → ℕ → List ℕ
lines_text b f = joined (λ i. line_text (leader b i (f i)) ++ bytes "\n")

abbrev pub sheet_text : Board → (ℕ → ℕ) → List ℕ
sheet_text b f = lines_text b f b.pads

-- Every leader is within the ranges of the job.
abbrev pub AllOnSheet : Board → (ℕ → ℕ) → Type 0
AllOnSheet b f = (i : ℕ) → i < b.pads → OnSheet (leader b i (f i))
