-- What is written of a leader, and of a sheet: `line_text` and `sheet_text` satisfy the paper's words, and nothing else does.
--     line_is, line_only;  sheet_is, sheet_only, sheet_one;  line_short, lines_short: how long they are
use Rattle.std.specs.Prelude.{◌≡◌, refl, Bool, List, ◌++◌, ℕ, zero, suc, ◌*◌, ◌/◌, ◌%◌, ◌≤◌, ◌<◌, length, ℤ, pos, negsuc, neg_ℤ, nat_abs, Float, Ok, Err}
use Rattle.std.proofs.Common.{sym, ap, ◌∙◌, true≢false, le_trans, le_of_eq, arith, length-append}
use Rattle.std.proofs.lemmas.Bool.{false≢true}
use Rattle.std.proofs.Math.Nat.{suc_inj, eq_of_mul-eq-mul_right}
use Rattle.std.proofs.Math.IntN.{ℤ_discrete}
use Rattle.std.specs.Float.{fin}
use lib.Ieee.{nan, inf}
use Rattle.std.specs.Float.Ieee.{down}
use Rattle.std.specs.Float.Ieee.Exact.{HasValue}
use Rattle.std.specs.Float.Ieee.Fits.{down_pos}
use Rattle.numbers.proofs.Signs.{nat_abs_neg}
use Rattle.text.specs.Text.{bytes, joined}
use Rattle.text.specs.Digits.{decimal_few}
use Rattle.paper.specs.declared.Polyline.TheVariants.{Straight, Bent}
use Rattle.paper.specs.declared.Point.{Point}
use Rattle.paper.specs.Answers.{Drawn}
use Rattle.paper.specs.Leaders.{Leader}
use Rattle.paper.specs.Layouts.{Board, leader}
use Rattle.paper.specs.Canvas.{negative, FourTimesIs, StandsFor, Draws}
use Rattle.paper.specs.Svg.{fraction, quarters, numeral, PointWritten, line, LineWritten, SheetWritten}
use Rattle.paper.specs.laws.Drawn.{OnSheet, leader_drawn}
use Rattle.paper.proofs.laws.Drawn.{by_level, by_bend_lem, drawn_is}
use Rattle.paper.specs.laws.Texts.{point_text, straight_text, bent_text, line_text, lines_text, sheet_text, AllOnSheet}

-- ---- a number

-- A float is one number of quarters.
same_size : (a : Float) (s t : Bool) (n m : ℕ) → HasValue a s n 4 → HasValue a t m 4 → (s ≡ t) × (n ≡ m)
same_size (fin u k e) s t n m p q =
    (sym p.0 ∙ q.0, eq_of_mul-eq-mul_right (down e) (down_pos e) n m (sym p.1 ∙ q.1))
same_size nan s t n m p q = elim p [ ]
same_size (inf _) s t n m p q = elim p [ ]

whole_same : (v w : ℤ) → negative v ≡ negative w → nat_abs v ≡ nat_abs w → v ≡ w
whole_same (pos n) (pos m) s e = ap pos e
whole_same (pos n) (negsuc m) s e = absurd (false≢true s)
whole_same (negsuc n) (pos m) s e = absurd (true≢false s)
whole_same (negsuc n) (negsuc m) s e = ap negsuc (suc_inj e)

quarters_one : {a : Float} (v w : ℤ) → FourTimesIs a v → FourTimesIs a w → v ≡ w
quarters_one {a} v w p q = let (s, e) = same_size a (negative v) (negative w) (nat_abs v) (nat_abs w) p.exact q.exact in whole_same v w s e

-- ---- a point

point_is : {p : Point} (x : ℕ) (y : ℤ) → StandsFor p x y → PointWritten p (point_text x y)
unfolding point_text
point_is x y d = (numeral (pos x), numeral (neg_ℤ y), (pos x, d.across, refl), (neg_ℤ y, d.down, refl), refl)

point_only : {p : Point} {s : List ℕ} (x : ℕ) (y : ℤ) → StandsFor p x y → PointWritten p s → s ≡ point_text x y
unfolding point_text
point_only x y d (a, c, (v, v-is, a-is), (w, w-is, c-is), e) =
    let across = a-is ∙ ap numeral (quarters_one v (pos x) v-is d.across) in
    let down = c-is ∙ ap numeral (quarters_one w (neg_ℤ y) w-is d.down) in
    e ∙ (λ i. across i ++ bytes "," ++ down i)

-- ---- a line

pub level_text : (l : Leader) → l.y ≡ l.port → line_text l ≡ straight_text l
unfolding line_text
level_text l = by_level l (straight_text l) (bent_text l)

pub bend_text : (l : Leader) → (l.y ≡ l.port → ⊥) → line_text l ≡ bent_text l
unfolding line_text
bend_text l = by_bend_lem l (straight_text l) (bent_text l)

-- What draws a leader is written so, and in no other way.
pub line_is : (l : Leader) (d : Drawn) → Draws l d → LineWritten d (line_text l)
line_is l (Ok (Straight p q)) w =
    rw (level_text l w.level) (point_text l.x l.y, point_text 0 l.port, point_is l.x l.y w.pad, point_is 0 l.port w.port, refl)
line_is l (Ok (Bent p m q)) w =
    rw (bend_text l w.bends) (
      point_text l.x l.y,
      point_text l.x l.port,
      point_text 0 l.port,
      point_is l.x l.y w.pad,
      point_is l.x l.port w.bend,
      point_is 0 l.port w.port,
      refl,
    )
line_is l (Err r) w = absurd w

pub line_only : (l : Leader) (d : Drawn) (s : List ℕ) → Draws l d → LineWritten d s → s ≡ line_text l
line_only l (Ok (Straight p q)) s w (a, c, pad-is, port_is, e) =
    let pad = point_only l.x l.y w.pad pad-is in
    let port = point_only 0 l.port w.port port_is in
    e ∙ (λ i. line (pad i ++ bytes " " ++ port i)) ∙ sym (level_text l w.level)
line_only l (Ok (Bent p m q)) s w (a, b, c, pad-is, bend-is, port_is, e) =
    let pad = point_only l.x l.y w.pad pad-is in
    let bend = point_only l.x l.port w.bend bend-is in
    let port = point_only 0 l.port w.port port_is in
    e ∙ (λ i. line (pad i ++ bytes " " ++ bend i ++ bytes " " ++ port i)) ∙ sym (bend_text l w.bends)
line_only l (Err r) s w x = absurd w

-- ---- a sheet

pub sheet_is : (b : Board) (f : ℕ → ℕ) → AllOnSheet b f → SheetWritten b f (sheet_text b f)
sheet_is b f on = record {
  drawn = λ i. leader_drawn (leader b i (f i));
  lines = λ i. line_text (leader b i (f i));
  draws = λ i h. drawn_is (leader b i (f i)) (on i h);
  written = λ i h. line_is (leader b i (f i)) (leader_drawn (leader b i (f i))) (drawn_is (leader b i (f i)) (on i h));
  text = refl;
}

same_lines : (k m : ℕ → List ℕ) (n : ℕ) → ((i : ℕ) → i < n → k i ≡ m i) → joined (λ i. k i ++ bytes "\n") n ≡ joined (λ i. m i ++ bytes "\n") n
same_lines k m zero e = refl
same_lines k m (suc n) e =
    let before = same_lines k m n (λ i h. e i (omega arith)) in
    let here = e n (omega arith) in
    λ i. before i ++ (here i ++ bytes "\n")

pub sheet_only : (b : Board) (f : ℕ → ℕ) (s : List ℕ) → SheetWritten b f s → s ≡ sheet_text b f
sheet_only b f s w =
    w.text ∙ same_lines w.lines (λ i. line_text (leader b i (f i))) b.pads (λ i h. line_only (leader b i (f i)) (w.drawn i) (w.lines i) (w.draws i h) (w.written i h))

pub sheet_one : (b : Board) (f : ℕ → ℕ) (s t : List ℕ) → SheetWritten b f s → SheetWritten b f t → s ≡ t
sheet_one b f s t w v = sheet_only b f s w ∙ sym (sheet_only b f t v)

-- ---- how long they are

fraction_short : (k : ℕ) → length (fraction k) ≤ 3
fraction_short zero = omega arith
fraction_short (suc zero) = omega arith
fraction_short (suc (suc zero)) = omega arith
fraction_short (suc (suc (suc k))) = omega arith

pub quarters_short : (n : ℕ) → n ≤ 1000000 → length (quarters n) ≤ 9
unfolding quarters
quarters_short n h = simp length-append (omega (arith, decimal_few 5 (n / 4) (omega arith), fraction_short (n % 4)))

pub numeral_short : (v : ℤ) → nat_abs v ≤ 1000000 → length (numeral v) ≤ 10
unfolding numeral
numeral_short (pos n) h = omega (arith, quarters_short n h)
numeral_short (negsuc n) h = omega (arith, quarters_short (suc n) h)

-- of x and y, and of 0 and y
point_short : (x : ℕ) (y : ℤ) → x ≤ 1000000 → nat_abs y ≤ 1000000 → length (point_text x y) ≤ 20
unfolding point_text numeral
point_short x y h k = simp length-append (omega (arith, quarters_short x h, numeral_short (neg_ℤ y) (le_trans (le_of_eq (nat_abs_neg y)) k)))

port_short : (y : ℤ) → nat_abs y ≤ 1000000 → length (point_text 0 y) ≤ 12
unfolding point_text numeral quarters
port_short y k = simp length-append (omega (arith, decimal_few 0 0 (omega arith), numeral_short (neg_ℤ y) (le_trans (le_of_eq (nat_abs_neg y)) k)))

-- A leader's line has at most 75 bytes, and with its newline 76.
pub line_short : (l : Leader) → OnSheet l → length (line_text l) ≤ 75
line_short l h = go (ℤ_discrete l.y l.port)
  where
    go : Dec (l.y ≡ l.port) → length (line_text l) ≤ 75
    go (yes e) =
        rw (level_text l e) (simp length-append (omega (arith, point_short l.x l.y h.right h.pad, port_short l.port h.port)))
    go (no n) =
        rw (bend_text l n) (simp length-append
        (omega (arith, point_short l.x l.y h.right h.pad, point_short l.x l.port h.right h.port, port_short l.port h.port)))

pub lines_short : (b : Board) (f : ℕ → ℕ) → AllOnSheet b f → (n : ℕ) → n ≤ b.pads → length (lines_text b f n) ≤ 76 * n
lines_short b f on zero h = omega arith
lines_short b f on (suc n) h =
    simp length-append (omega (arith, lines_short b f on n (omega arith), line_short (leader b n (f n)) (on n (omega arith))))
