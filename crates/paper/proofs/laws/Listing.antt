-- WHAT THE CODE READS IS WHAT THE TEXT SAYS: the rows of its pads, or its first bad line.
--     listed_good, listed_bad
use Rattle.std.specs.Prelude.{◌≡◌, refl, ℕ, zero, suc, ◌≤◌, ◌<◌, length, get_or}
use Rattle.std.proofs.Common.{sym, ap, subst, ◌∙◌, inl, inr, arith, length-append}
use mathlib.Core.List.{List, [], ◌∷◌, ◌++◌, map, append-nil, cons≢nil}
use Rattle.paper.specs.Csv.{Pad, crlf, Unbroken, Lines, Header, Lists, ListEach, ReadsAs, GoodLine, BadLine}
use Rattle.paper.proofs.laws.Lines.{lines_one, lines_exist}
use Rattle.paper.specs.laws.Parsing.{Front, got, none, Row, head_front, pad_front, Listed, good, bad, before, go_on, list_from, later, headed, listed}
use Rattle.paper.proofs.laws.Parsed.{Ended, row_of, pad_sound, pad_complete, pad_unbroken, head_sound, head_complete, head_unbroken}

list_none : (fuel : ℕ) → list_from fuel [] ≡ good []
unfolding list_from
list_none zero = refl
list_none (suc fuel) = refl

-- The first line of a text, and what follows it.
first_ended : (text l : List ℕ) (ls : List (List ℕ)) → Lines text (l ∷ ls) → (t : List ℕ) × Ended text l t
first_ended text l [] (u, inl e) = ([], inl (e, refl))
first_ended text l [] (u, inr e) = ([], inr (e ∙ sym (append-nil (l ++ crlf))))
first_ended text l (m ∷ ls) (u, (t, _, e, _)) = (t, inr e)

-- A line after which nothing follows is the last; after any other come those of what follows.
last_line : (text line : List ℕ) → Unbroken line → Ended text line [] → Lines text (line ∷ [])
last_line text line u (inl (e, _)) = (u, inl e)
last_line text line u (inr e) = (u, inr (e ∙ append-nil (line ++ crlf)))

more_lines : (text line : List ℕ) (d : ℕ) (t l : List ℕ) (ls : List (List ℕ)) → Unbroken line → Ended text line (d ∷ t) → Lines (d ∷ t) (l ∷ ls)
    → Lines text (line ∷ l ∷ ls)
more_lines text line d t l ls u (inl (_, e)) more = absurd (cons≢nil e)
more_lines text line d t l ls u (inr e) more = (u, (d ∷ t, cons≢nil, e, more))

-- What follows a line is no longer, and shorter where anything does.
ended_shorter : (text line : List ℕ) (d : ℕ) (t : List ℕ) → Ended text line (d ∷ t) → length (d ∷ t) < length text
ended_shorter text line d t (inl (_, e)) = absurd (cons≢nil e)
ended_shorter text line d t (inr e) = omega (arith, simp length-append at (ap (λ (s : List ℕ). length s) e))

-- ---- lines after the first

abbrev PadLines : List ℕ → List Row → Type 0
PadLines text rows = (l : List ℕ) × (ls : List (List ℕ)) × (pads : List Pad) × Lines text (l ∷ ls) × ListEach (l ∷ ls) pads × (rows ≡ map row_of pads)

good_same : {rs qs : List Row} → good rs ≡ good qs → rs ≡ qs
good_same e = cc

list_good : (fuel : ℕ) (c : ℕ) (s : List ℕ) (rows : List Row) → list_from fuel (c ∷ s) ≡ good rows → PadLines (c ∷ s) rows
unfolding list_from
list_good zero c s rows e = absurd (let z : ◌≡◌ {A = ℕ} 0 1 = cc in omega arith)
list_good (suc fuel) c s rows e = go (pad_front (c ∷ s)) refl e (list_good fuel)
  where
    on : (row : Row) (t : List ℕ) (line : List ℕ) (p : Pad) → Lists line p → Ended (c ∷ s) line t → row ≡ row_of p → (o : Listed) → list_from fuel t ≡ o
        → before row o ≡ good rows → ((d : ℕ) (t : List ℕ) (rs : List Row) → list_from fuel (d ∷ t) ≡ good rs → PadLines (d ∷ t) rs) → PadLines (c ∷ s) rows
    on row t line p h ended is (bad k) f e more = absurd (let z : ◌≡◌ {A = ℕ} 0 1 = cc in omega arith)
    on row [] line p h ended is (good rs) f e more =
        let none_left : rs ≡ [] = good_same (sym f ∙ list_none fuel) in
        (line, [], p ∷ [], last_line (c ∷ s) line (pad_unbroken line p h) ended, (h, tt), sym (good_same e) ∙ (λ i. is i ∷ none_left i))
    on row (d ∷ t) line p h ended is (good rs) f e more =
        let (l, ls, pads, lines, each, rest) = more d t rs f in
        (line, l ∷ ls, p ∷ pads, more_lines (c ∷ s) line d t l ls (pad_unbroken line p h) ended lines, (h, each), sym (good_same e) ∙ (λ i. is i ∷ rest i))

    go : (x : Front Row) → pad_front (c ∷ s) ≡ x → go_on x (list_from fuel) ≡ good rows
        → ((d : ℕ) (t : List ℕ) (rs : List Row) → list_from fuel (d ∷ t) ≡ good rs → PadLines (d ∷ t) rs) → PadLines (c ∷ s) rows
    go (got row t) h e more = let (line, p, l, ended, is) = pad_sound (c ∷ s) row t h in on row t line p l ended is (list_from fuel t) refl e more
    go none h e more = absurd (let z : ◌≡◌ {A = ℕ} 0 1 = cc in omega arith)

-- Line k is bad, and those before it are good, where P says what a good one is.
pub record FirstBad (P : ℕ → List ℕ → Type 0) (text : List ℕ) (k : ℕ) : Type 0 where
  pub first : List ℕ
  pub rest : List (List ℕ)
  pub lines : Lines text (first ∷ rest)
  pub inside : k < length (first ∷ rest)
  pub wrong : ¬ P k (get_or (first ∷ rest) k [])
  pub right : (j : ℕ) → j < k → P j (get_or (first ∷ rest) j [])

-- The same after a good line.
bad_later : (P Q : ℕ → List ℕ → Type 0) → ((j : ℕ) (l : List ℕ) → P j l → Q (suc j) l) → ((j : ℕ) (l : List ℕ) → Q (suc j) l → P j l)
    → (text line : List ℕ) (d : ℕ) (t : List ℕ) (k : ℕ) → Unbroken line → Q 0 line → Ended text line (d ∷ t) → FirstBad P (d ∷ t) k → FirstBad Q text (suc k)
bad_later P Q up down text line d t k u q ended b = record {
  first = line;
  rest = b.first ∷ b.rest;
  lines = more_lines text line d t b.first b.rest u ended b.lines;
  inside = omega (arith, b.inside);
  wrong = λ x. b.wrong (down k (get_or (b.first ∷ b.rest) k []) x);
  right = right;
}
  where
    right : (j : ℕ) → j < suc k → Q j (get_or (line ∷ b.first ∷ b.rest) j [])
    right zero h = q
    right (suc j) h = up j (get_or (b.first ∷ b.rest) j []) (b.right j (omega arith))

-- The first line is bad.
bad_here : (P : ℕ → List ℕ → Type 0) (text : List ℕ) → ((line t : List ℕ) → Ended text line t → ¬ P 0 line) → FirstBad P text 0
bad_here P text wrong =
    let (l, ls, lines) = lines_exist text in
    let (t, ended) = first_ended text l ls lines in
    record { first = l; rest = ls; lines = lines; inside = omega arith; wrong = wrong l t ended; right = λ j h. absurd (omega arith) }

abbrev ListsAny : ℕ → List ℕ → Type 0
ListsAny k line = (p : Pad) × Lists line p

list_bad : (fuel : ℕ) (c : ℕ) (s : List ℕ) (k : ℕ) → length (c ∷ s) ≤ fuel → list_from fuel (c ∷ s) ≡ bad k → FirstBad ListsAny (c ∷ s) k
unfolding list_from
list_bad zero c s k l e = absurd (omega arith)
list_bad (suc fuel) c s k l e = go (pad_front (c ∷ s)) refl e (list_bad fuel)
  where
    on : (row : Row) (t : List ℕ) (line : List ℕ) (p : Pad) → Lists line p → Ended (c ∷ s) line t → (o : Listed) → list_from fuel t ≡ o
        → before row o ≡ bad k → ((d : ℕ) (t : List ℕ) (k : ℕ) → length (d ∷ t) ≤ fuel → list_from fuel (d ∷ t) ≡ bad k → FirstBad ListsAny (d ∷ t) k)
        → FirstBad ListsAny (c ∷ s) k
    on row t line p h ended (good rs) f e more = absurd (let z : ◌≡◌ {A = ℕ} 0 1 = cc in omega arith)
    on row [] line p h ended (bad j) f e more = absurd (let z : ◌≡◌ {A = ℕ} 0 1 = cc (list_none fuel) in omega arith)
    on row (d ∷ t) line p h ended (bad j) f e more =
        let is : suc j ≡ k = cc in
        let b = more d t j (omega (arith, ended_shorter (c ∷ s) line d t ended)) f in
        subst (FirstBad ListsAny (c ∷ s)) is (bad_later ListsAny ListsAny (λ i m x. x) (λ i m x. x) (c ∷ s) line d t j (pad_unbroken line p h) (p, h) ended b)

    go : (x : Front Row) → pad_front (c ∷ s) ≡ x → go_on x (list_from fuel) ≡ bad k
        → ((d : ℕ) (t : List ℕ) (k : ℕ) → length (d ∷ t) ≤ fuel → list_from fuel (d ∷ t) ≡ bad k → FirstBad ListsAny (d ∷ t) k) → FirstBad ListsAny (c ∷ s) k
    go (got row t) h e more = let (line, p, m, ended, is) = pad_sound (c ∷ s) row t h in on row t line p m ended (list_from fuel t) refl e more
    go none h e more =
        let is : 0 ≡ k = cc in
        subst (FirstBad ListsAny (c ∷ s)) is
        (bad_here ListsAny (c ∷ s) (λ line t ended (p, m). let z : ◌≡◌ {A = ℕ} 0 1 = cc (pad_complete (c ∷ s) line p t m ended) in omega arith))

-- ---- all lines

-- THEOREM. Where all lines are good, the text reads as pads, and their rows are read.
pub listed_good : (text : List ℕ) (rows : List Row) → listed text ≡ good rows → (pads : List Pad) × ReadsAs text pads × (rows ≡ map row_of pads)
unfolding listed
listed_good text rows e = go (head_front text) refl e
  where
    on : (t line : List ℕ) → Header line → Ended text line t → (o : Listed) → list_from (length text) t ≡ o → later o ≡ good rows
        → (pads : List Pad) × ReadsAs text pads × (rows ≡ map row_of pads)
    on t line h ended (bad k) f e = absurd (let z : ◌≡◌ {A = ℕ} 0 1 = cc in omega arith)
    on [] line h ended (good rs) f e =
        ([], (line, [], last_line text line (head_unbroken line h) ended, h, tt), sym (good_same e) ∙ good_same (sym f ∙ list_none (length text)))
    on (d ∷ t) line h ended (good rs) f e =
        let (l, ls, pads, lines, each, rest) = list_good (length text) d t rs f in
        (pads, (line, l ∷ ls, more_lines text line d t l ls (head_unbroken line h) ended lines, h, each), sym (good_same e) ∙ rest)

    go : (x : Front Row) → head_front text ≡ x → headed x (list_from (length text)) ≡ good rows → (pads : List Pad) × ReadsAs text pads × (rows ≡ map row_of pads)
    go (got row t) h e = let (line, header, ended) = head_sound text row t h in on t line header ended (list_from (length text) t) refl e
    go none h e = absurd (let z : ◌≡◌ {A = ℕ} 0 1 = cc in omega arith)

-- THEOREM. Where one is not, the first bad line is found.
listed-first : (text : List ℕ) (k : ℕ) → listed text ≡ bad k → FirstBad GoodLine text k
unfolding listed
listed-first text k e = go (head_front text) refl e
  where
    on : (t line : List ℕ) → Header line → Ended text line t → (o : Listed) → list_from (length text) t ≡ o → later o ≡ bad k → FirstBad GoodLine text k
    on t line h ended (good rs) f e = absurd (let z : ◌≡◌ {A = ℕ} 0 1 = cc in omega arith)
    on [] line h ended (bad j) f e = absurd (let z : ◌≡◌ {A = ℕ} 0 1 = cc (list_none (length text)) in omega arith)
    on (d ∷ t) line h ended (bad j) f e =
        let is : suc j ≡ k = cc in
        let b = list_bad (length text) d t j (omega (arith, ended_shorter text line d t ended)) f in
        subst (FirstBad GoodLine text) is (bad_later ListsAny GoodLine (λ i m x. x) (λ i m x. x) text line d t j (head_unbroken line h) h ended b)

    go : (x : Front Row) → head_front text ≡ x → headed x (list_from (length text)) ≡ bad k → FirstBad GoodLine text k
    go (got row t) h e = let (line, header, ended) = head_sound text row t h in on t line header ended (list_from (length text) t) refl e
    go none h e =
        let is : 0 ≡ k = cc in
        subst (FirstBad GoodLine text) is
        (bad_here GoodLine text (λ line t ended m. let z : ◌≡◌ {A = ℕ} 0 1 = cc (head_complete text line t m ended) in omega arith))

pub listed_bad : (text : List ℕ) (k : ℕ) → listed text ≡ bad k → BadLine text (suc k) × ((j : ℕ) → j < suc k → ¬ BadLine text j)
listed_bad text k e =
    let b = listed-first text k e in
    ((b.first ∷ b.rest, k, b.lines, refl, b.inside, b.wrong), none b)
  where
    none : FirstBad GoodLine text k → (j : ℕ) → j < suc k → ¬ BadLine text j
    none b j h (ls, i, lines, is, _, wrong) = wrong (rw (lines_one text ls (b.first ∷ b.rest) lines b.lines) (b.right i (omega arith)))
