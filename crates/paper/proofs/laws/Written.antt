-- A LIST OF PADS AS IT IS WRITTEN: rows as bytes, read back; records that are those of their pads; and the plain rule, whose text reads as its pads.
--     rows_length, rows_count, row_name, row_half, row_x, row_y, row_last: of the bytes of rows, the fields of row i;  wrapped, twos-bits, bits-twos
--     pads_many, pad-at, records_back: of the pads of records;  plain_reads, plain_reads_on, plain_short: of the text of pads
use Rattle.std.specs.Prelude.{◌≡◌, refl, ◌⊎◌, List, [], ◌∷◌, ◌++◌, map, ℕ, zero, suc, ◌+◌, ◌*◌, ◌-◌, ◌/◌, ◌%◌, ◌≤◌, ◌<◌, length, get_or, drop, ℤ, pos, negsuc, nat_abs, ◌-ℤ◌}
use Rattle.std.proofs.Common.{sym, ◌∙◌, inl, inr, append-nil, append_assoc, add_assoc, zero-add, arith, lt-ltb, le-ltb, length-append, drop-cons, get_or-append-add}
use Rattle.std.proofs.Math.Path.{ap}
use Rattle.std.proofs.lemmas.List.{append_cancel_right, get_or_at}
use Rattle.std.proofs.Math.Nat.{add-zero}
use Rattle.std.proofs.Math.Numerals.{towards_suc}
use Rattle.std.proofs.Math.Decide.{dec_lt}
use Rattle.std.proofs.Math.ListN.{get_or-append}
use Rattle.std.proofs.Math.Seq.{drop-length}
use Rattle.text.specs.Text.{bytes, decimal, with_minus}
use Rattle.text.specs.Digits.{decimal_few}
use Rattle.paper.specs.Job.{u16_at, u32_at, twos, count, name_of, half_of, x_of, y_of, last_of, bytes4, bits}
use Rattle.paper.specs.Csv.{Pad, crlf, Unbroken, Lines, Field, Header, Lists, ListEach, ReadsAs}
use Rattle.paper.specs.Csv.{pad_at, record_of, records_of, first_pads, pads_in, plain_line, plain_text, ended}
use Rattle.paper.specs.laws.Parsing.{Front, Row, fitting, row_bytes, rows_bytes}
use Rattle.paper.proofs.laws.Parsed.{Exact, natural_exact, signed_exact, name_exact, x_exact, y_exact, clear_plain, pad_unbroken, head_unbroken}

-- ---- rows as bytes

abbrev pub row_at : List Row → ℕ → Row
row_at rows i = get_or rows i (record { name = 0; x = 0; y = 0 })

pub rows_length : (rows : List Row) → length (rows_bytes rows) ≡ 16 * length rows
rows_length [] = refl
rows_length (r ∷ rs) = omega (arith, rows_length rs)

pub rows_count : (rows : List Row) → count (rows_bytes rows) ≡ length rows
rows_count rows = omega (arith, rows_length rows)

-- Byte k of row i, and the number in 2 bytes and in 4. `bytes4` does not cut its last byte, so any number is read back.
row_byte : (rows : List Row) (i k : ℕ) → i < length rows → k < 16 → get_or (rows_bytes rows) (16 * i + k) 0 ≡ get_or (row_bytes (row_at rows i)) k 0
row_byte [] i k h g = absurd (omega arith)
row_byte (r ∷ rs) zero k h g = rw zero-add (get_or-append (row_bytes r) (rows_bytes rs) 0 k g)
row_byte (r ∷ rs) (suc i) k h g =
    let on : 16 * suc i + k ≡ 16 + (16 * i + k) = omega arith in
    rw on (get_or-append-add (row_bytes r) (rows_bytes rs) (16 * i + k) 0 ∙ row_byte rs i k (omega arith) g)

row_pair : (rows : List Row) (i k : ℕ) → i < length rows → k < 15 → u16_at (rows_bytes rows) (16 * i + k) ≡ u16_at (row_bytes (row_at rows i)) k
row_pair rows i k h g = rw (add_assoc (16 * i) k 1, row_byte rows i k h (omega arith), row_byte rows i (k + 1) h (omega arith))

row_word : (rows : List Row) (i k : ℕ) → i < length rows → k < 13 → u32_at (rows_bytes rows) (16 * i + k) ≡ u32_at (row_bytes (row_at rows i)) k
row_word rows i k h g = rw (add_assoc (16 * i) k 2) (cc (row_pair rows i k h (omega arith), row_pair rows i (k + 2) h (omega arith)))

fitting_small : (n : ℕ) → fitting n < 65536
unfolding fitting
fitting_small n = go (dec_lt 65535 n)
  where
    go : Dec (65535 < n) → fitting n < 65536
    go (yes h) = rw (lt-ltb 65535 n h) (omega arith)
    go (no h) = rw (le-ltb 65535 n (omega arith)) (omega arith)

module _ (rows : List Row) (i : ℕ) (h : i < length rows) where
  pub row_name : name_of (rows_bytes rows) i ≡ fitting (row_at rows i).name
  unfolding name_of
  row_name = rw (← add-zero (16 * i), row_pair rows i 0 h (omega arith)) (omega (arith, fitting_small (row_at rows i).name))

  pub row_half : half_of (rows_bytes rows) i ≡ 0
  unfolding half_of
  row_half = rw (row_pair rows i 2 h (omega arith)) (omega (arith, fitting_small (row_at rows i).name))

  pub row_x : x_of (rows_bytes rows) i ≡ (row_at rows i).x
  unfolding x_of
  row_x = rw (row_word rows i 4 h (omega arith)) (omega arith)

  pub row_y : y_of (rows_bytes rows) i ≡ twos (row_at rows i).y
  unfolding y_of
  row_y = ap twos (rw (row_word rows i 8 h (omega arith)) (omega arith))

  pub row_last : last_of (rows_bytes rows) i ≡ 0
  unfolding last_of
  row_last = row_word rows i 12 h (omega arith)

-- ---- heights in 32 bits

pub wrapped : (n : ℕ) → n < 4294967296 → pos n -ℤ pos 4294967296 ≡ negsuc (4294967295 - n)
wrapped n h = rw (lt-ltb n 4294967296 h) (ap negsuc (omega arith))

pub twos-bits : (y : ℤ) → nat_abs y < 2147483648 → twos (bits y) ≡ y
unfolding twos
twos-bits (pos n) h = rw (lt-ltb n 2147483648 h)
twos-bits (negsuc n) h = rw (le-ltb (4294967295 - n) 2147483648 (omega arith), wrapped (4294967295 - n) (omega arith)) (ap negsuc (omega arith))

pub bits-twos : (n : ℕ) → n < 4294967296 → bits (twos n) ≡ n
unfolding twos
bits-twos n h = go (dec_lt n 2147483648)
  where
    go : Dec (n < 2147483648) → bits (twos n) ≡ n
    go (yes l) = rw (lt-ltb n 2147483648 l)
    go (no l) = rw (le-ltb n 2147483648 (omega arith), wrapped n h) (omega arith)

-- ---- the pads of records

abbrev pub Bytes : List ℕ → Type 0
Bytes l = (k : ℕ) → k < length l → get_or l k 0 < 256

first_many : (l : List ℕ) (n : ℕ) → length (first_pads l n) ≡ n
first_many l zero = refl
first_many l (suc n) = simp length-append (omega (arith, first_many l n))

pub pads_many : (l : List ℕ) → length (pads_in l) ≡ count l
pads_many l = first_many l (count l)

abbrev pad_in : List ℕ → ℕ → Pad
pad_in l i = record { name = name_of l i; x = x_of l i; y = y_of l i }

first-at : (l : List ℕ) (n i : ℕ) → i < n → pad_at (first_pads l n) i ≡ pad_in l i
first-at l zero i h = absurd (omega arith)
first-at l (suc n) i h = go (first-at l n i) (dec_lt i n)
  where
    go : (i < n → pad_at (first_pads l n) i ≡ pad_in l i) → Dec (i < n) → pad_at (first_pads l (suc n)) i ≡ pad_in l i
    go f (yes g) = get_or-append (first_pads l n) (pad_in l n ∷ []) _ i (rw first_many g) ∙ f g
    go f (no g) =
        let last : i ≡ n = omega arith in
        rw last (get_or_at (first_pads l n) (pad_in l n) [] _ n (first_many l n))

pub pad-at : (l : List ℕ) (i : ℕ) → i < count l → pad_at (pads_in l) i ≡ record { name = name_of l i; x = x_of l i; y = y_of l i }
pad-at l = first-at l (count l)

records_append : (ps : List Pad) (p : Pad) → records_of (ps ++ (p ∷ [])) ≡ records_of ps ++ record_of p
records_append [] p = refl
records_append (q ∷ ps) p = rw (records_append ps p) (sym (append_assoc (record_of q) (records_of ps) (record_of p)))

-- The 4 bytes of the number at a place stand there,
bytes4_of : (a b c d : ℕ) → a < 256 → b < 256 → c < 256 → bytes4 (a + 256 * b + 65536 * (c + 256 * d)) ≡ a ∷ b ∷ c ∷ d ∷ []
bytes4_of a b c d h g f =
    let n = a + 256 * b + 65536 * (c + 256 * d) in
    let q : n / 256 ≡ b + 256 * c + 65536 * d = omega arith in
    let r : n / 65536 ≡ c + 256 * d = omega arith in
    let e : n % 256 ≡ a = omega arith in
    let e' : n / 256 % 256 ≡ b = rw q (omega arith) in
    let e'' : n / 65536 % 256 ≡ c = rw r (omega arith) in
    let e''' : n / 16777216 ≡ d = omega arith in
    λ i. e i ∷ e' i ∷ e'' i ∷ e''' i ∷ []

word_small : (l : List ℕ) (k : ℕ) → Bytes l → k + 4 ≤ length l → u32_at l k < 4294967296
word_small l k b h = omega (arith, b k (omega arith), b (k + 1) (omega arith), b (k + 2) (omega arith), b (k + 2 + 1) (omega arith))

four : (l : List ℕ) (k m : ℕ) → Bytes l → m ≡ k + 4 → m ≤ length l → drop k l ≡ bytes4 (u32_at l k) ++ drop m l
four l k m b e h =
    sym (ap (λ (t : List ℕ). t ++ drop m l) (bytes4_of _ _ _ _ (b k (omega arith)) (b (k + 1) (omega arith)) (b (k + 2) (omega arith)))
    ∙ rw e (simp towards_suc (rw (
      drop-cons l k 0 (omega arith),
      drop-cons l (suc k) 0 (omega arith),
      drop-cons l (suc (suc k)) 0 (omega arith),
      drop-cons l (suc (suc (suc k))) 0 (omega arith),
    ))))

record_back : (l : List ℕ) (n : ℕ) → Bytes l → 16 * suc n ≤ length l → half_of l n ≡ 0 → last_of l n ≡ 0 → record_of (pad_in l n) ++ drop (16 * suc n) l ≡ drop (16 * n) l
unfolding name_of half_of x_of y_of last_of
record_back l n b h half last =
    let name : name_of l n + 65536 * 0 ≡ u32_at l (16 * n) = omega arith in
    let y : bits (y_of l n) ≡ u32_at l (16 * n + 8) = bits-twos (u32_at l (16 * n + 8)) (word_small l (16 * n + 8) b (omega arith)) in
    let port : 0 ≡ u32_at l (16 * n + 12) = sym last in
    (λ i. bytes4 (name i) ++ bytes4 (x_of l n) ++ bytes4 (y i) ++ bytes4 (port i) ++ drop (16 * suc n) l)
    ∙ sym (rw (
      four l (16 * n) (16 * n + 4) b (omega arith) (omega arith),
      four l (16 * n + 4) (16 * n + 8) b (omega arith) (omega arith),
      four l (16 * n + 8) (16 * n + 12) b (omega arith) (omega arith),
      four l (16 * n + 12) (16 * suc n) b (omega arith) (omega arith),
    ))

-- so the first records and what follows them are all.
first_back : (l : List ℕ) (n : ℕ) → Bytes l → 16 * n ≤ length l → ((i : ℕ) → i < n → (half_of l i ≡ 0) × (last_of l i ≡ 0)) → records_of (first_pads l n) ++ drop (16 * n) l ≡ l
first_back l zero b h z = refl
first_back l (suc n) b h z =
    let (half, last) = z n (omega arith) in
    rw (records_append, append_assoc (records_of (first_pads l n)), record_back l n b h half last) (first_back l n b (omega arith) (λ i g. z i (omega arith)))

pub records_back : (l : List ℕ) → Bytes l → length l % 16 ≡ 0 → ((i : ℕ) → i < count l → (half_of l i ≡ 0) × (last_of l i ≡ 0)) → records_of (pads_in l) ≡ l
records_back l b h z =
    let all : 16 * count l ≡ length l = omega arith in
    rw (all, drop-length l, append-nil) at (first_back l (count l) b (omega arith) z)

-- ---- the plain rule

-- A field may stand without quotes.
says : {f : List ℕ → Front ℕ} {Is : List ℕ → ℕ → Type 0} → Exact f Is → (v : List ℕ) (n : ℕ) → Is v n → Field v v
says E v n is = inl (clear_plain v (E.clear v n is), refl)

plain_lists : (p : Pad) → Lists (plain_line p) p
plain_lists p =
    let number : (n : ℕ) → Field (decimal n) (decimal n) = λ n. says natural_exact (decimal n) _ (n, refl, refl) in
    let height = says signed_exact (with_minus decimal p.y) _ (p.y, refl, refl) in
    (decimal p.name, decimal p.x, with_minus decimal p.y, number p.name, number p.x, height, refl)

plain_each : (pads : List Pad) → ListEach (map plain_line pads) pads
plain_each [] = tt
plain_each (p ∷ ps) = (plain_lists p, plain_each ps)

-- The first line.
abbrev first : List ℕ
first = bytes "name,x,y"

plain_header : Header first
plain_header =
    let word = says name_exact (bytes "name") 0 (refl, refl) in
    (bytes "name", bytes "x", bytes "y", word, says x_exact (bytes "x") 0 (refl, refl), says y_exact (bytes "y") 0 (refl, refl), refl)

line_unbroken : (p : Pad) → Unbroken (plain_line p)
line_unbroken p = pad_unbroken (plain_line p) p (plain_lists p)

-- A line and those of pads, the last without its end.
abbrev endless : List ℕ → List Pad → List ℕ
endless s [] = s
endless s (p ∷ ps) = s ++ crlf ++ endless (plain_line p) ps

endless_end : (s : List ℕ) (pads : List Pad) → endless s pads ++ crlf ≡ s ++ crlf ++ ended (map plain_line pads)
endless_end s [] = sym (append-nil (s ++ crlf))
endless_end s (p ∷ ps) = append_assoc (s ++ crlf) (endless (plain_line p) ps) crlf ∙ ap (λ (t : List ℕ). s ++ crlf ++ t) (endless_end (plain_line p) ps)

endless_some : (p : Pad) (ps : List Pad) → 0 < length (endless (plain_line p) ps)
endless_some p [] = simp length-append (omega arith)
endless_some p (q ∷ ps) = simp length-append (omega arith)

endless-lines : (s : List ℕ) (pads : List Pad) (text : List ℕ) → Unbroken s → (text ≡ endless s pads) ⊎ (text ≡ endless s pads ++ crlf) → Lines text (s ∷ map plain_line pads)
endless-lines s [] text u e = (u, e)
endless-lines s (p ∷ ps) text u (inl e) =
    (u, (endless (plain_line p) ps, (λ f. omega (arith, endless_some p ps, ap length f)), e, endless-lines (plain_line p) ps _ (line_unbroken p) (inl refl)))
endless-lines s (p ∷ ps) text u (inr e) =
    let t = endless (plain_line p) ps ++ crlf in
    let cut = e ∙ append_assoc (s ++ crlf) (endless (plain_line p) ps) crlf in
    (u, (t, (λ f. omega (arith, simp length-append at (ap length f))), cut, endless-lines (plain_line p) ps t (line_unbroken p) (inr refl)))

endless_reads : (pads : List Pad) (text : List ℕ) → (text ≡ endless first pads) ⊎ (text ≡ endless first pads ++ crlf) → ReadsAs text pads
endless_reads pads text e =
    (first, map plain_line pads, endless-lines first pads text (head_unbroken first plain_header) e, plain_header, plain_each pads)

-- THEOREM. A list written by the plain rule reads as its pads, also without the last line's end.
pub plain_reads : (pads : List Pad) → ReadsAs (plain_text pads) pads
unfolding plain_text
plain_reads pads = endless_reads pads (plain_text pads) (inr (sym (endless_end first pads)))

pub plain_reads_on : (pads : List Pad) (text : List ℕ) → text ++ crlf ≡ plain_text pads → ReadsAs text pads
unfolding plain_text
plain_reads_on pads text e = endless_reads pads text (inl (append_cancel_right text (endless first pads) crlf (e ∙ sym (endless_end first pads))))

-- A line of a pad in range has at most 5, 7 and 8 bytes in its fields, two commas and its end.
abbrev Small : Pad → Type 0
Small p = (p.name < 100000) × (p.x < 10000000) × (nat_abs p.y < 10000000)

height_few : (y : ℤ) → nat_abs y < 10000000 → length (with_minus decimal y) ≤ 8
height_few (pos n) h = omega (arith, decimal_few 6 n (omega arith))
height_few (negsuc n) h = omega (arith, decimal_few 6 (suc n) (omega arith))

lines_short : (pads : List Pad) → ((i : ℕ) → i < length pads → Small (pad_at pads i)) → length (ended (map plain_line pads)) ≤ 24 * length pads
lines_short [] h = omega arith
lines_short (p ∷ ps) h =
    let (a, b, c) = h 0 (omega arith) in
    let rest = lines_short ps (λ i l. h (suc i) (omega arith)) in
    simp length-append (omega (arith, decimal_few 4 p.name (omega arith), decimal_few 6 p.x (omega arith), height_few p.y c))

pub plain_short : (pads : List Pad) → ((i : ℕ) → i < length pads → ((pad_at pads i).name < 100000) × ((pad_at pads i).x < 10000000) × (nat_abs (pad_at pads i).y < 10000000))
    → length (plain_text pads) ≤ 10 + 24 * length pads
unfolding plain_text
plain_short pads h = omega (arith, lines_short pads h)
