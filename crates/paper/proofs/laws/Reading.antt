-- The text of a sheet says what was drawn, and a reader has it back exactly.
--     number_read, line_read, sheet_reads;  line_one: no other points have that line;  lines_many: a line for each record;  svg_reads: Draw's answer
--     numerals: examples;  digit_first, minus_below, no_point, ends_well, no_minus_zero: 02's rules of a number
use Rattle.std.specs.Prelude.{◌≡◌, refl, ◌≢◌, ◌⊎◌, Bool, true, false, cond, ◌||◌, List, [], ◌∷◌, ◌++◌, map, ℕ, zero, suc, ◌+◌, ◌*◌, ◌^◌, ◌/◌, ◌%◌, ◌≤◌, ◌<◌, eqb, length, get_or, take, drop, ℤ, pos, negsuc, nat_abs, Float, None, Ok, Err}
use Rattle.std.proofs.Common.{sym, ap, ◌∙◌, ⊎_elim, append_assoc, append-nil, zero-lt-suc, arith, ne_eqb, lit<, length-append, take_at}
use Rattle.std.proofs.lemmas.Bool.{false≢true}
use Rattle.std.proofs.Math.Decide.{dec_lt}
use Rattle.std.proofs.lemmas.List.{get_or_at}
use Rattle.std.specs.Float.{binary32}
use Rattle.std.specs.Float.Ieee.{round}
use Rattle.std.specs.Float.Ieee.Scale.{round_same}
use Rattle.numbers.proofs.Floats.{round_back}
use Rattle.text.specs.Text.{bytes, digits, decimal, joined, Begins, read_digits}
use Rattle.text.specs.Digits.{read-append, decimal_reads, decimal-digits, free, free-append, decimal-free, begins_append, decimal-first}
use Rattle.paper.specs.declared.Polyline.TheVariants.{Straight, Bent}
use Rattle.paper.specs.declared.Point.{Point}
use Rattle.paper.specs.Answers.{Drawn}
use Rattle.paper.specs.Job.{records, count}
use Rattle.paper.specs.Leaders.{Leader}
use Rattle.paper.specs.Layouts.{Board, board_of, held, leader, by_weights}
use Rattle.paper.specs.Refusals.{Passed, measure_trials, draw_trials, job_trials, number_trial}
use Rattle.paper.specs.Promises.{drawn_number, overwritten, DrawPromise, SvgAnswers}
use Rattle.paper.specs.Canvas.{negative, Draws, coordinates}
use Rattle.paper.specs.Svg.{fraction, quarters, numeral, Written, PointWritten, line, LineWritten, SheetWritten}
use Rattle.paper.specs.Svg.{to_first, cut, nearest, read_number, read_line, line_at}
use Rattle.paper.proofs.laws.Trials.{passed_append}
use Rattle.paper.proofs.laws.Decided.{sound_parts}
use Rattle.paper.proofs.laws.Accepted.{measure_accepted, measure_entries}
use Rattle.paper.proofs.laws.Drawn.{draw_answers}
use Rattle.paper.proofs.laws.Exported.{svg_measured}
use Rattle.paper.proofs.laws.Determined.{draw_answer}

-- ---- a text cut

-- A text without a byte to cut at is one piece; one before such a byte is the first piece.
pub cut-free : (at : ℕ → Bool) (s : List ℕ) → free at s ≡ true → cut at s ≡ s ∷ []
cut-free at [] h = refl
cut-free at (c ∷ s) h = go (at c) (cut-free at s) h
  where
    go : (b : Bool) → (free at s ≡ true → cut at s ≡ s ∷ []) → cond b false (free at s) ≡ true → cond b ([] ∷ cut at s) (to_first c (cut at s)) ≡ (c ∷ s) ∷ []
    go true f g = absurd (false≢true g)
    go false f g = rw (f g)

pub cut_at : (at : ℕ → Bool) (s : List ℕ) (c : ℕ) (t : List ℕ) → free at s ≡ true → at c ≡ true → cut at (s ++ c ∷ t) ≡ s ∷ cut at t
cut_at at [] c t h e = rw e
cut_at at (d ∷ s) c t h e = go (at d) (λ g. cut_at at s c t g e) h
  where
    go : (b : Bool) → (free at s ≡ true → cut at (s ++ c ∷ t) ≡ s ∷ cut at t) → cond b false (free at s) ≡ true
        → cond b ([] ∷ cut at (s ++ c ∷ t)) (to_first d (cut at (s ++ c ∷ t))) ≡ (d ∷ s) ∷ cut at t
    go true f g = absurd (false≢true g)
    go false f g = rw (f g)

-- ---- a number read

-- Of a whole number in decimal no byte is a point.
whole : (n : ℕ) → free (eqb 46) (decimal n) ≡ true
whole = decimal-free (eqb 46) (λ d h. ne_eqb 46 (48 + d) (λ e. omega arith))

-- The quarters left over are 0, 1, 2 or 3.
by_rest : (P : ℕ → Type 0) (n : ℕ) → (n % 4 ≡ 0 → P 0) → (n % 4 ≡ 1 → P 1) → (n % 4 ≡ 2 → P 2) → (n % 4 ≡ 3 → P 3) → P (n % 4)
by_rest P n a b c d = go (n % 4) refl
  where
    go : (k : ℕ) → n % 4 ≡ k → P k
    go zero e = a e
    go (suc zero) e = b e
    go (suc (suc zero)) e = c e
    go (suc (suc (suc zero))) e = d e
    go (suc (suc (suc (suc k)))) e = absurd (omega arith)

-- The text of n quarters is read as n / 4, rounded.
quarters-read : (minus : Bool) (n : ℕ) → nearest minus (cut (eqb 46) (quarters n)) ≡ round binary32 minus n 4
unfolding quarters
quarters-read minus n =
    by_rest (λ k. nearest minus (cut (eqb 46) (decimal (n / 4) ++ fraction k)) ≡ round binary32 minus n 4) n none
    (λ e. some (bytes "25") refl (omega arith) (lit< tt))
    (λ e. some (bytes "5") refl (omega arith) (lit< tt))
    (λ e. some (bytes "75") refl (omega arith) (lit< tt))
  where
    none : n % 4 ≡ 0 → nearest minus (cut (eqb 46) (decimal (n / 4) ++ [])) ≡ round binary32 minus n 4
    none e =
        rw (append-nil (decimal (n / 4)), cut-free (eqb 46) (decimal (n / 4)) (whole (n / 4)), decimal_reads (n / 4))
        (round_same binary32 minus (n / 4) 1 n 4 (zero-lt-suc 0) (zero-lt-suc 3) (omega arith))

    some : (part : List ℕ) → free (eqb 46) part ≡ true → read_digits (n / 4) part * 4 ≡ n * 10 ^ length part → 0 < 10 ^ length part
        → nearest minus (cut (eqb 46) (decimal (n / 4) ++ 46 ∷ part)) ≡ round binary32 minus n 4
    some part h e p =
        rw (cut_at (eqb 46) (decimal (n / 4)) 46 part (whole (n / 4)) refl, cut-free (eqb 46) part h, read-append 0 (decimal (n / 4)) part, decimal_reads (n / 4))
        (round_same binary32 minus (read_digits (n / 4) part) (10 ^ length part) n 4 p (zero-lt-suc 3) e)

-- `at` is false of each byte that a numeral can have: a minus, a point, the digits.
pub record Apart (at : ℕ → Bool) : Type 0 where
  pub minus : at 45 ≡ false
  pub point : at 46 ≡ false
  pub digit : (d : ℕ) → d < 10 → at (48 + d) ≡ false

-- Then a numeral is free of it.
quarters-free : (at : ℕ → Bool) → at 46 ≡ false → ((d : ℕ) → d < 10 → at (48 + d) ≡ false) → (n : ℕ) → free at (quarters n) ≡ true
unfolding quarters
quarters-free at p d n =
    free-append at (decimal (n / 4)) (fraction (n % 4)) (decimal-free at d (n / 4)) (by_rest (λ k. free at (fraction k) ≡ true) n (λ e. refl) one two three)
  where
    one : n % 4 ≡ 1 → free at (bytes ".25") ≡ true
    one e = rw (p, d 2 (lit< tt), d 5 (lit< tt))

    two : n % 4 ≡ 2 → free at (bytes ".5") ≡ true
    two e = rw (p, d 5 (lit< tt))

    three : n % 4 ≡ 3 → free at (bytes ".75") ≡ true
    three e = rw (p, d 7 (lit< tt), d 5 (lit< tt))

pub numeral-free : {at : ℕ → Bool} → Apart at → (v : ℤ) → free at (numeral v) ≡ true
unfolding numeral
numeral-free {at} h (pos n) = quarters-free at h.point h.digit n
numeral-free {at} h (negsuc n) = rw h.minus (quarters-free at h.point h.digit (suc n))

-- A text without a minus is read as it stands.
unsigned : (s : List ℕ) → free (λ c. eqb c 45) s ≡ true → read_number s ≡ nearest false (cut (eqb 46) s)
unsigned [] h = refl
unsigned (c ∷ s) h = go (eqb c 45) h
  where
    go : (b : Bool) → cond b false (free (λ c. eqb c 45) s) ≡ true
        → cond b (nearest true (cut (eqb 46) s)) (nearest false (cut (eqb 46) (c ∷ s))) ≡ nearest false (cut (eqb 46) (c ∷ s))
    go true g = absurd (false≢true g)
    go false g = refl

-- The numeral of v is read as v / 4, rounded.
numeral-read : (v : ℤ) → read_number (numeral v) ≡ round binary32 (negative v) (nat_abs v) 4
unfolding numeral
numeral-read (pos n) =
    unsigned (quarters n) (quarters-free (λ c. eqb c 45) refl (λ d h. ne_eqb (48 + d) 45 (λ e. omega arith)) n) ∙ quarters-read false n
numeral-read (negsuc n) = quarters-read true (suc n)

-- THEOREM. A number is read as the float that was written.
pub number_read : (a : Float) (s : List ℕ) → Written a s → read_number s ≡ a
number_read a s (v, p, e) = rw e (numeral-read v ∙ round_back binary32 a (negative v) (nat_abs v) 4 (zero-lt-suc 3) p.single p.exact)

-- ---- a line read

-- Where a line's numbers are cut: at a comma and at a blank.
abbrev mark : ℕ → Bool
mark c = eqb 44 c || eqb 32 c

-- No numeral has a byte below 45, so none has a mark.
apart_eqb : (c : ℕ) → c < 45 → Apart (eqb c)
apart_eqb c h = record {
  minus = ne_eqb c 45 (λ e. omega arith);
  point = ne_eqb c 46 (λ e. omega arith);
  digit = λ d l. ne_eqb c (48 + d) (λ e. omega arith);
}

apart-mark : Apart mark
apart-mark = record { minus = refl; point = refl; digit = λ d l. rw ((apart_eqb 44 (lit< tt)).digit d l, (apart_eqb 32 (lit< tt)).digit d l) }

-- A written number is free of what no numeral has,
written_free : {at : ℕ → Bool} → Apart at → {a : Float} {s : List ℕ} → Written a s → free at s ≡ true
written_free h (v, p, e) = rw e (numeral-free h v)

-- and so is a written point, with its comma.
point_free : {at : ℕ → Bool} → Apart at → at 44 ≡ false → {p : Point} {s : List ℕ} → PointWritten p s → free at s ≡ true
point_free {at} h c (x, y, f, g, e) = rw e (free-append at (x ++ bytes ",") y (free-append at x (bytes ",") (written_free h f) (rw c)) (written_free h g))

-- A point's numbers are read, at the end of the points and before a blank.
point_last : (p : Point) (s : List ℕ) → PointWritten p s → map read_number (cut mark s) ≡ p.x ∷ p.y ∷ []
point_last p s (x, y, f, g, e) =
    rw (e, append_assoc x (bytes ",") y, cut_at mark x 44 y (written_free apart-mark f) refl, cut-free mark y (written_free apart-mark g))
    (rw (number_read p.x x f, number_read p.y y g))

point_then : (p : Point) (s t : List ℕ) → PointWritten p s → map read_number (cut mark (s ++ 32 ∷ t)) ≡ p.x ∷ p.y ∷ map read_number (cut mark t)
point_then p s t (x, y, f, g, e) =
    rw e
    (simp append_assoc
    (rw (cut_at mark x 44 (y ++ 32 ∷ t) (written_free apart-mark f) refl, cut_at mark y 32 t (written_free apart-mark g) refl)
    (rw (number_read p.x x f, number_read p.y y g))))

-- What stands between the quotes of a line: its numbers are the coordinates, and it is free of what no point and no blank is.
record Between (d : Drawn) (s : List ℕ) : Type 0 where
  points : List ℕ
  quoted : s ≡ line points
  reads : map read_number (cut mark points) ≡ coordinates d
  apart : (at : ℕ → Bool) → Apart at → at 44 ≡ false → at 32 ≡ false → free at points ≡ true

between : (d : Drawn) (s : List ℕ) → LineWritten d s → Between d s
between (Ok (Straight p q)) s (pad, port, f, g, e) = record {
  points = pad ++ bytes " " ++ port;
  quoted = e;
  reads = rw append_assoc (rw (point_then p pad port f, point_last q port g));
  apart = λ at h c b.
      rw append_assoc (free-append at pad (bytes " " ++ port) (point_free h c f) (rw b (point_free h c g)));
}
between (Ok (Bent p m q)) s (pad, bend, port, f, h, g, e) = record {
  points = pad ++ bytes " " ++ bend ++ bytes " " ++ port;
  quoted = e;
  reads =
      simp append_assoc
      (rw (point_then p pad (bend ++ 32 ∷ port) f, point_then m bend port h, point_last q port g));
  apart = λ at k c b.
      simp append_assoc
      (free-append at pad (bytes " " ++ (bend ++ (bytes " " ++ port))) (point_free k c f)
      (rw b (free-append at bend (bytes " " ++ port) (point_free k c h) (rw b (point_free k c g)))));
}
between (Err _) s w = elim w [ ]

-- A line's points are what stands between its quotes.
quoted-read : (points : List ℕ) → free (eqb 34) points ≡ true → read_line (line points) ≡ map read_number (cut mark points)
unfolding read_line
quoted-read points h = rw (cut_at (eqb 34) points 34 (bytes "/>") h refl)

-- THEOREM. A line is read as the coordinates of what it draws.
pub line_read : (d : Drawn) (s : List ℕ) → LineWritten d s → read_line s ≡ coordinates d
line_read d s w =
    let b = between d s w in
    ap read_line b.quoted ∙ quoted-read b.points (b.apart (eqb 34) (apart_eqb 34 (lit< tt)) refl refl) ∙ b.reads

-- Coordinates tell the points,
point_told : {p q : Point} → p.x ≡ q.x → p.y ≡ q.y → p ≡ q
point_told e f = λ i. record { x = e i; y = f i }

straight_told : {a c d f : Point} → coordinates (Ok (Straight a c)) ≡ coordinates (Ok (Straight d f)) → ◌≡◌ {A = Drawn} (Ok (Straight a c)) (Ok (Straight d f))
straight_told {a} {c} {d} {f} h =
    let pad : a ≡ d = point_told (cc) (cc) in
    let port : c ≡ f = point_told (cc) (cc) in
    λ i. Ok (Straight (pad i) (port i))

bent_told : {a b c d e f : Point} → coordinates (Ok (Bent a b c)) ≡ coordinates (Ok (Bent d e f)) → ◌≡◌ {A = Drawn} (Ok (Bent a b c)) (Ok (Bent d e f))
bent_told {a} {b} {c} {d} {e} {f} h =
    let pad : a ≡ d = point_told (cc) (cc) in
    let bend : b ≡ e = point_told (cc) (cc) in
    let port : c ≡ f = point_told (cc) (cc) in
    λ i. Ok (Bent (pad i) (bend i) (port i))

-- and how many there are.
told : (d e : Drawn) (s t : List ℕ) → LineWritten d s → LineWritten e t → coordinates d ≡ coordinates e → d ≡ e
told (Ok (Straight a c)) (Ok (Straight d f)) s t v w h = straight_told h
told (Ok (Straight a c)) (Ok (Bent d e f)) s t v w h = absurd (omega (arith, ap length h))
told (Ok (Bent a b c)) (Ok (Straight d f)) s t v w h = absurd (omega (arith, ap length h))
told (Ok (Bent a b c)) (Ok (Bent d e f)) s t v w h = bent_told h
told (Ok (Straight a c)) (Err _) s t v w h = elim w [ ]
told (Ok (Bent a b c)) (Err _) s t v w h = elim w [ ]
told (Err _) e s t v w h = elim v [ ]

-- THEOREM. No other points have that line.
pub line_one : (d e : Drawn) (s : List ℕ) → LineWritten d s → LineWritten e s → d ≡ e
line_one d e s v w = told d e s s v w (sym (line_read d s v) ∙ line_read e s w)

-- No byte of a line is a newline.
pub line-free : (d : Drawn) (s : List ℕ) → LineWritten d s → free (eqb 10) s ≡ true
line-free d s w =
    let b = between d s w in
    rw b.quoted (free-append (eqb 10) b.points (bytes "\"/>") (b.apart (eqb 10) (apart_eqb 10 (lit< tt)) refl refl) refl)

-- ---- the text read

-- The lines 0 to n - 1 as a list.
abbrev firsts : (ℕ → List ℕ) → ℕ → List (List ℕ)
firsts lines zero = []
firsts lines (suc n) = firsts lines n ++ (lines n ∷ [])

length-firsts : (lines : ℕ → List ℕ) (n : ℕ) → length (firsts lines n) ≡ n
length-firsts lines zero = refl
length-firsts lines (suc n) = length-append (firsts lines n) (lines n ∷ []) ∙ omega (arith, length-firsts lines n)

nth_first : (lines : ℕ → List ℕ) (n i : ℕ) (ss : List (List ℕ)) → i < n → get_or (firsts lines n ++ ss) i [] ≡ lines i
nth_first lines zero i ss h = absurd (omega arith)
nth_first lines (suc n) i ss h = rw append_assoc (go (nth_first lines n i (lines n ∷ ss)) (dec_lt i n))
  where
    go : (i < n → get_or (firsts lines n ++ lines n ∷ ss) i [] ≡ lines i) → Dec (i < n) → get_or (firsts lines n ++ lines n ∷ ss) i [] ≡ lines i
    go f (yes l) = f l
    go f (no w) =
        let e : n ≡ i = omega arith in
        get_or_at (firsts lines n) (lines n) ss [] i (length-firsts lines n ∙ e) ∙ ap lines e

-- Lines without a newline, a newline after each, are cut into the same lines.
lines_cut : (lines : ℕ → List ℕ) (n : ℕ) (t : List ℕ) → ((i : ℕ) → i < n → free (eqb 10) (lines i) ≡ true)
    → cut (eqb 10) (joined (λ i. lines i ++ bytes "\n") n ++ t) ≡ firsts lines n ++ cut (eqb 10) t
lines_cut lines zero t h = refl
lines_cut lines (suc n) t h =
    simp append_assoc
    (lines_cut lines n (lines n ++ 10 ∷ t) (λ i l. h i (omega arith)) ∙ rw (cut_at (eqb 10) (lines n) 10 t (h n (omega arith)) refl))

-- The text of a layout is its lines, and nothing after the last newline.
sheet-cut : (b : Board) (f : ℕ → ℕ) (s : List ℕ) (w : SheetWritten b f s) → cut (eqb 10) s ≡ firsts w.lines b.pads ++ ([] ∷ [])
sheet-cut b f s w =
    ap (cut (eqb 10)) (w.text ∙ sym (append-nil (joined (λ i. w.lines i ++ bytes "\n") b.pads)))
    ∙ lines_cut w.lines b.pads [] (λ i h. line-free (w.drawn i) (w.lines i) (w.written i h))

-- THEOREM. Line i of the text is the line of record i,
pub sheet-read : (b : Board) (f : ℕ → ℕ) (s : List ℕ) (w : SheetWritten b f s) (i : ℕ) → i < b.pads → line_at s i ≡ w.lines i
unfolding line_at
sheet-read b f s w i h = rw (sheet-cut b f s w) (nth_first w.lines b.pads i ([] ∷ []) h)

-- and reads as the coordinates of what Draw answers for it;
pub sheet_reads : (b : Board) (f : ℕ → ℕ) (s : List ℕ) (w : SheetWritten b f s) (i : ℕ) → i < b.pads → read_line (line_at s i) ≡ coordinates (w.drawn i)
sheet_reads b f s w i h = ap read_line (sheet-read b f s w i h) ∙ line_read (w.drawn i) (w.lines i) (w.written i h)

-- there are as many lines as records, and the newline of the last ends the text.
pub lines_many : (b : Board) (f : ℕ → ℕ) (s : List ℕ) → SheetWritten b f s → length (cut (eqb 10) s) ≡ suc b.pads
lines_many b f s w =
    ap length (sheet-cut b f s w) ∙ length-append (firsts w.lines b.pads) ([] ∷ []) ∙ omega (arith, length-firsts w.lines b.pads)

-- ---- numerals

-- Some small ones,
small_numerals : (numeral (pos 0) ≡ bytes "0") × (numeral (pos 1) ≡ bytes "0.25") × (numeral (pos 2) ≡ bytes "0.5") × (numeral (pos 3) ≡ bytes "0.75")
    × (numeral (pos 30) ≡ bytes "7.5") × (numeral (negsuc 29) ≡ bytes "-7.5") × (numeral (pos 40) ≡ bytes "10")
unfolding numeral quarters decimal digits
small_numerals = (refl, refl, refl, refl, refl, refl, refl)

-- and the ends of the range: six digits are enough for their whole part.
large_numerals : (numeral (negsuc 999998) ≡ bytes "-249999.75") × (numeral (pos 1000000) ≡ bytes "250000")
unfolding numeral quarters digits
large_numerals = (rw (decimal-digits 5 249999 (lit< tt)), rw (decimal-digits 5 250000 (lit< tt)))

-- Examples.
pub numerals : (numeral (pos 0) ≡ bytes "0") × (numeral (pos 1) ≡ bytes "0.25") × (numeral (pos 2) ≡ bytes "0.5") × (numeral (pos 3) ≡ bytes "0.75")
    × (numeral (pos 30) ≡ bytes "7.5") × (numeral (negsuc 29) ≡ bytes "-7.5") × (numeral (pos 40) ≡ bytes "10")
    × (numeral (negsuc 999998) ≡ bytes "-249999.75") × (numeral (pos 1000000) ≡ bytes "250000")
numerals =
    let (a, b, c, d, e, f, g) = small_numerals in
    let (h, i) = large_numerals in
    (a, b, c, d, e, f, g, h, i)

-- A digit stands first, after the minus where there is one.
quarters-first : (n : ℕ) → Begins (quarters n)
unfolding quarters
quarters-first n = begins_append (decimal (n / 4)) (fraction (n % 4)) (decimal-first (n / 4))

pub digit_first : ((n : ℕ) → Begins (numeral (pos n))) × ((n : ℕ) → (s : List ℕ) × (numeral (negsuc n) ≡ bytes "-" ++ s) × Begins s)
unfolding numeral
digit_first = (quarters-first, λ n. (quarters (suc n), refl, quarters-first (suc n)))

-- A minus stands only where v is below 0.
pub minus_below : (v : ℤ) (s : List ℕ) → numeral v ≡ bytes "-" ++ s → negative v ≡ true
unfolding numeral
minus_below (pos n) s e = go (quarters-first n)
  where
    go : Begins (quarters n) → false ≡ true
    go (d, r, l, f) = absurd (omega (arith, ap (λ (t : List ℕ). get_or t 0 0) (sym f ∙ e)))
minus_below (negsuc n) s e = refl

-- A multiple of 4 is written without a point,
has_point : (s t : List ℕ) → free (eqb 46) (s ++ bytes "." ++ t) ≡ true → ⊥
has_point [] t h = false≢true h
has_point (c ∷ s) t h = go (eqb 46 c) (has_point s t) h
  where
    go : (b : Bool) → (free (eqb 46) (s ++ bytes "." ++ t) ≡ true → ⊥) → cond b false (free (eqb 46) (s ++ bytes "." ++ t)) ≡ true → ⊥
    go true f g = false≢true g
    go false f g = f g

quarters_whole : (n : ℕ) → n % 4 ≡ 0 → quarters n ≡ decimal (n / 4)
unfolding quarters
quarters_whole n e = rw (e, append-nil (decimal (n / 4)))

numeral_whole : (v : ℤ) → nat_abs v % 4 ≡ 0 → free (eqb 46) (numeral v) ≡ true
unfolding numeral
numeral_whole (pos n) e = rw (quarters_whole n e) (whole (n / 4))
numeral_whole (negsuc n) e = rw (quarters_whole (suc n) e) (whole (suc n / 4))

pub no_point : (v : ℤ) (s t : List ℕ) → nat_abs v % 4 ≡ 0 → numeral v ≢ s ++ bytes "." ++ t
no_point v s t e p = has_point s t (rw p at (numeral_whole v e))

-- and one with a point does not end in 0: it ends in 5.
abbrev last : ℕ → List ℕ → ℕ
last d [] = d
last d (c ∷ s) = last c s

last-append : (d : ℕ) (s : List ℕ) (c : ℕ) (t : List ℕ) → last d (s ++ c ∷ t) ≡ last c t
last-append d [] c t = refl
last-append d (e ∷ s) c t = last-append e s c t

quarters-last : (d n k : ℕ) → n % 4 ≡ suc k → last d (quarters n) ≡ 53
unfolding quarters
quarters-last d n k e =
    by_rest (λ r. last d (decimal (n / 4) ++ fraction r) ≡ 53) n (λ z. absurd (omega arith)) (λ z. last-append d (decimal (n / 4)) 46 (bytes "25"))
    (λ z. last-append d (decimal (n / 4)) 46 (bytes "5"))
    (λ z. last-append d (decimal (n / 4)) 46 (bytes "75"))

numeral-last : (d : ℕ) (v : ℤ) (k : ℕ) → nat_abs v % 4 ≡ suc k → last d (numeral v) ≡ 53
unfolding numeral
numeral-last d (pos n) k e = quarters-last d n k e
numeral-last d (negsuc n) k e = quarters-last 45 (suc n) k e

pub ends_well : (v : ℤ) (s t r : List ℕ) → numeral v ≡ s ++ bytes "." ++ t → numeral v ≢ r ++ bytes "0"
ends_well v s t r p z = go (nat_abs v % 4) refl
  where
    go : (k : ℕ) → nat_abs v % 4 ≡ k → ⊥
    go zero e = no_point v s t e p
    go (suc k) e = absurd (omega (arith, sym (numeral-last 0 v k e) ∙ ap (last 0) z ∙ last-append 0 r 48 []))

-- No minus stands before 0.
not_nought : (n : ℕ) → quarters (suc n) ≢ bytes "0"
not_nought n z = go (suc n % 4) refl
  where
    go : (k : ℕ) → suc n % 4 ≡ k → ⊥
    go zero e = absurd (omega (arith, sym (decimal_reads (suc n / 4)) ∙ ap (read_digits 0) (sym (quarters_whole (suc n) e) ∙ z)))
    go (suc k) e = absurd (omega (arith, sym (quarters-last 0 (suc n) k e) ∙ ap (last 0) z))

pub no_minus_zero : (v : ℤ) → numeral v ≢ bytes "-0"
unfolding numeral
no_minus_zero (pos n) e = false≢true (minus_below (pos n) (bytes "0") e)
no_minus_zero (negsuc n) e = not_nought n (cc)

-- ---- Draw's answer read back

-- Measure's trials are passed: so are Draw's, of a record to its port.
draw_passed : (job list : List ℕ) → Passed (measure_trials (records job) (by_weights 0 0) None list) → (i room : ℕ) → i < count job → 6 ≤ room
    → Passed (draw_trials job i (held list i) room)
draw_passed job list p i room h six =
    let (sizes, _, _, passed) = (sound_parts (records job) (by_weights 0 0) None (length list)).0 (measure_accepted (records job) (by_weights 0 0) None list p).0 in
    let inside = measure_entries (records job) (by_weights 0 0) None list p i h in
    let number : ¬ ((count job ≤ i) ⊎ (count job ≤ held list i)) = ⊎_elim (λ l. omega arith) (λ l. omega arith) in
    (sizes.0, ((λ j l r. omega arith), passed_append (job_trials (records job)) (number_trial job i (held list i) ∷ []) passed ((λ j l r. number r), tt)))

-- A drawn leader has two numbers a point.
points_of : (l : Leader) (d : Drawn) → Draws l d → drawn_number d ≡ pos (length (coordinates d) / 2)
points_of l (Ok (Straight p q)) w = refl
points_of l (Ok (Bent p m q)) w = refl
points_of l (Err _) w = elim w [ ]

-- THEOREM. A line of what Svg wrote, read back, is what Draw answers for that record and its port: how many points, and their coordinates.
pub svg_reads : (job list before : List ℕ) (k : ℕ) (after : List ℕ) → SvgAnswers job list before (Ok k) after → (i : ℕ) → i < count job
    → (room : List Float) (m : ℤ) (points : List Float) → 6 ≤ length room → DrawPromise job i (held list i) room m points
    → let read = read_line (line_at (take k after) i) in (m ≡ pos (length read / 2)) × (points ≡ overwritten read room)
svg_reads job list before k after (p, (s, (w, long), e)) i h room m points six (d, drawn, number) =
    let l = leader (board_of (records job)) i (held list i) in
    let measured = (svg_measured job list (length before) p).0 in
    let made = draw_answers job i (held list i) room (w.drawn i) (draw_passed job list measured i (length room) h six) (w.draws i h) in
    let (same, there) = draw_answer job i (held list i) room d (w.drawn i) points _ drawn made in
    let text : take k after ≡ s = rw (e, long) (take_at s (drop (length s) before) (length s) refl) in
    let read : read_line (line_at (take k after) i) ≡ coordinates (w.drawn i) = ap (λ (t : List ℕ). read_line (line_at t i)) text ∙ sheet_reads (board_of (records job)) (held list) s w i h in (
      number ∙ ap drawn_number same ∙ points_of l (w.drawn i) (w.draws i h) ∙ ap (λ (cs : List Float). pos (length cs / 2)) (sym read),
      there ∙ ap (λ (cs : List Float). overwritten cs room) (sym read),
    )
