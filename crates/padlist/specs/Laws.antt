-- What the lines that were read come to, and their rows in bytes.
use Rattle.std.specs.Prelude.{◌≡◌, refl, List, [], ◌∷◌, ◌++◌, length, Ok, Err}
use Rattle.std.proofs.Common.{sym, ap, ◌∙◌, append-nil, append_assoc, add-zero, length-append}
use Prim.Native.Nat.{ℕ, zero, suc, ◌+◌, ◌*◌, ◌≤◌, ◌<◌}
use native.Mathlib.Omega.{arith}
use Rattle.std.proofs.lemmas.List.Edits.{sets}
use Rattle.text.specs.Text.{Writes}
use Rattle.text.specs.Writing.{writes_none, writes_then, writes_length, writes_whole}
use Rattle.paper.specs.Job.{bytes4}
use Rattle.paper.specs.laws.Parsing.{Row, fitting, row_bytes, rows_bytes, got, none, Listed, good, bad, before, head_front, pad_front, list_from, listed}
use Rattle.paper.proofs.laws.Written.{rows_length}
use Rattle.padlist.specs.Lines.{ListedIs}

-- ---- rows in bytes

pub row_written : (w : Row) {b m n o a : List ℕ} {at p q t r : ℕ} → Writes b at (bytes4 (fitting w.name)) p m → Writes m p (bytes4 w.x) q n
    → Writes n q (bytes4 w.y) t o → Writes o t (bytes4 0) r a → Writes b at (row_bytes w) r a
row_written w f g h i = rw (add-zero (fitting w.name)) (writes_then f (writes_then g (writes_then h i)))

rows_append : (rs : List Row) (r : Row) → rows_bytes (rs ++ (r ∷ [])) ≡ rows_bytes rs ++ row_bytes r
rows_append [] r = append-nil (row_bytes r)
rows_append (q ∷ rs) r = rw (rows_append rs r) (sym (append_assoc (row_bytes q) (rows_bytes rs) (row_bytes r)))

-- ---- all lines

-- Rows before those that are listed.
abbrev pub prepend : List Row → Listed → Listed
prepend [] o = o
prepend (r ∷ rs) o = before r (prepend rs o)

prepend-append : (rs : List Row) (r : Row) (o : Listed) → prepend (rs ++ (r ∷ [])) o ≡ prepend rs (before r o)
prepend-append [] r o = refl
prepend-append (q ∷ rs) r o = ap (before q) (prepend-append rs r o)

prepend_good : (rs : List Row) → prepend rs (good []) ≡ good rs
prepend_good [] = refl
prepend_good (r ∷ rs) = rw (prepend_good rs)

prepend_bad : (rs : List Row) → prepend rs (bad 0) ≡ bad (length rs)
prepend_bad [] = refl
prepend_bad (r ∷ rs) = rw (prepend_bad rs)

-- A line, and what is listed after it; a bad line; the end.
list_next : (rest next : List ℕ) (fuel : ℕ) (row : Row) → length next < length rest → length rest ≤ fuel → pad_front rest ≡ got row next
    → (f : ℕ) × (length next ≤ f) × (list_from fuel rest ≡ before row (list_from f next))
unfolding list_from
list_next [] next fuel row h l e = absurd (omega arith)
list_next (c ∷ s) next zero row h l e = absurd (omega arith)
list_next (c ∷ s) next (suc f) row h l e = (f, omega arith, rw e)

list_bad : (rest : List ℕ) (fuel : ℕ) → 0 < length rest → pad_front rest ≡ none → list_from fuel rest ≡ bad 0
unfolding list_from
list_bad [] fuel h e = absurd (omega arith)
list_bad (c ∷ s) zero h e = refl
list_bad (c ∷ s) (suc f) h e = rw e

list_end : (rest : List ℕ) (fuel : ℕ) → length rest ≡ 0 → list_from fuel rest ≡ good []
unfolding list_from
list_end [] zero h = refl
list_end [] (suc f) h = refl
list_end (c ∷ s) fuel h = absurd (omega arith)

-- A bad first line.
pub head_bad : (text made : List ℕ) → head_front text ≡ none → ListedIs text (Err (record { line = 1 })) made
unfolding listed
head_bad text made e = (0, rw e, refl)

-- n lines after the first, which leaves `body`, are good and leave `rest`: their rows, which stand in `made` while they are 64 or fewer.
pub record Reading (text was body made rest : List ℕ) (n : ℕ) : Type 0 where
  pub rows : List Row
  pub fuel : ℕ
  pub so_far : list_from (length text) body ≡ prepend rows (list_from fuel rest)
  pub counted : n ≡ length rows
  -- no line is empty, so that their number fits
  pub apart : n + length rest ≤ length text
  pub enough : length rest ≤ fuel
  pub room : n ≤ 64 → 16 * n ≤ length was
  pub kept : n ≤ 64 → Writes was 0 (rows_bytes rows) (16 * n) made

module _ {text was body : List ℕ} where
  -- No line yet;
  pub reading_none : length body ≤ length text → Reading text was body was body 0
  reading_none h = record {
    rows = [];
    fuel = length text;
    so_far = refl;
    counted = refl;
    apart = omega arith;
    enough = h;
    room = λ _. omega arith;
    kept = λ _. writes_none was 0;
  }

  module _ {made rest : List ℕ} {n : ℕ} (so : Reading text was body made rest n) where
    -- the place after their bytes;
    pub filled_rows : {filled : ℕ} → (n ≤ 64 → Writes was 0 (rows_bytes so.rows) filled made) → n ≤ 64 → filled ≡ 16 * n
    filled_rows kept h = omega (arith, (kept h).stop, rows_length so.rows, so.counted)

    -- one more line, and its row where it is put;
    pub reading_next : {after : List ℕ} (row : Row) (next : List ℕ) → pad_front rest ≡ got row next → length next < length rest
        → (n < 64 → (after ≡ sets made (16 * n) (row_bytes row)) × (length made ≡ 1024)) → Reading text was body after next (n + 1)
    reading_next row next e g w =
        let f = list_next rest next so.fuel row g so.enough e in
        record {
          rows = so.rows ++ (row ∷ []);
          fuel = f.0;
          so_far = so.so_far ∙ rw f.2 (sym (prepend-append so.rows row (list_from f.0 next)));
          counted = simp length-append (omega (arith, so.counted));
          apart = omega (arith, so.apart);
          enough = f.1;
          room = λ m. omega (arith, (w (omega arith)).1, writes_length (so.kept (omega arith)));
          kept = λ m. rw (rows_append so.rows row) (writes_then (so.kept (omega arith)) (record { stop = omega arith; stored = (w (omega arith)).0 }));
        }

    -- a bad line; the end of the text.
    pub reading_bad : {row : Row} → head_front text ≡ got row body → 0 < length rest → pad_front rest ≡ none → ListedIs text (Err (record { line = n + 2 })) made
    unfolding listed
    reading_bad e h g = (suc (length so.rows), rw (e, so.so_far, list_bad rest so.fuel h g, prepend_bad so.rows), omega (arith, so.counted))

    pub reading_end : {row : Row} → head_front text ≡ got row body → length rest ≡ 0 → ListedIs text (Ok n) made
    unfolding listed
    reading_end e h = (
      so.rows,
      rw (e, so.so_far, list_end rest so.fuel h, prepend_good so.rows),
      so.counted,
      λ m. writes_whole (so.kept m) (omega (arith, rows_length so.rows, so.counted, so.room m)),
    )
