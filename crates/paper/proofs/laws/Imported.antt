-- THE CALL READCSV: what is read of a text, by rows of numbers that are cut off above 1,000,000, is refused as 02 says, and otherwise its rows are the records.
--     in_range, exact_records: rows of pads in range;  row_tests, wide_tests, wide_tests_lem: what the code tests says what the trials say
--     csv_large, csv_bad, text_passed: 20 and 21;  csv_decided, csv_filled, csv_fills_one
use Rattle.std.specs.Prelude.{◌≡◌, refl, ◌≢◌, ◌⊎◌, ◌↔◌, Bool, ◌&&◌, ◌||◌, List, [], ◌∷◌, ◌++◌, map, ℕ, zero, suc, ◌+◌, ◌*◌, ◌-◌, ◌≤◌, ◌<◌, T, eqb, ltb, length, ℤ, pos, negsuc, nat_abs}
use Rattle.std.proofs.Common.{sym, ap, subst, ◌∙◌, inl, inr, ⊎_elim, arith, lt-ltb, le-ltb}
use Rattle.std.proofs.Math.Logic.Iff
use Rattle.std.proofs.Math.Decide.{dec_lt}
use Rattle.std.proofs.lemmas.List.{length-map}
use Rattle.numbers.proofs.Tests.{both, or_iff, ltb_iff, eqb_iff}
use Rattle.paper.specs.declared.Form.TheVariants.{Slots}
use Rattle.paper.specs.Job.{twos, count, name_of, x_of, square_and_port, bits}
use Rattle.paper.specs.Csv.{Pad, ReadsAs, ReadWith, BadLine, pad_at, records_of}
use Rattle.paper.specs.Refusals.{Clean, Passed, RefusedBy, refusal, of_each, of_whole, Earlier, BadPad, BadRead, text_trials, read_trials, csv_trials}
use Rattle.paper.specs.Promises.{CsvFills}
use Rattle.paper.proofs.laws.Trials.{alone, whole_refused}
use Rattle.paper.specs.laws.Tests.{bad_field, same_name, same_x, with_earlier}
use Rattle.paper.proofs.laws.Tests.{with_earlier_iff, bad_field_iff}
use Rattle.paper.specs.laws.Decided.{TestsOf}
use Rattle.paper.proofs.laws.Decided.{Decided, each_test, whole_test, tests_decide, decided_append}
use Rattle.paper.proofs.laws.Lines.{reads_one, reads_good, bad_among}
use Rattle.paper.specs.laws.Parsing.{cap, Row, Listed, good, bad, listed, fitting, rows_bytes}
use Rattle.paper.proofs.laws.Parsed.{cap_small, cap_large, cap_bits, row_of}
use Rattle.paper.proofs.laws.Listing.{listed_good, listed_bad}
use Rattle.paper.proofs.laws.Written.{row_at, rows_count, row_name, row_half, row_x, row_y, row_last, twos-bits}
use Rattle.paper.specs.laws.Imported.{wide, wide_tests}

-- ---- a pad's row

fitting_small : (n : ℕ) → n ≤ 65535 → fitting n ≡ n
unfolding fitting
fitting_small n h = rw (le-ltb 65535 n h)

fitting_large : (n : ℕ) → 65535 < n → fitting n ≡ 0
unfolding fitting
fitting_large n h = rw (lt-ltb 65535 n h)

-- A number that is cut off is above 1,000,000 as before, and 0 as before.
cap_cases : (n : ℕ) → ((n ≤ 1000001) × (cap n ≡ n)) ⊎ ((1000001 < n) × (cap n ≡ 1000001))
cap_cases n = go (dec_lt 1000001 n)
  where
    go : Dec (1000001 < n) → ((n ≤ 1000001) × (cap n ≡ n)) ⊎ ((1000001 < n) × (cap n ≡ 1000001))
    go (yes h) = inr (h, cap_large n h)
    go (no h) = inl (omega arith, cap_small n (omega arith))

name_iff : (n : ℕ) → (fitting (cap n) ≡ 0) ↔ ((65535 < n) ⊎ (n ≡ 0))
name_iff n = go (dec_lt 65535 n) (cap_cases n)
  where
    go : Dec (65535 < n) → ((n ≤ 1000001) × (cap n ≡ n)) ⊎ ((1000001 < n) × (cap n ≡ 1000001)) → (fitting (cap n) ≡ 0) ↔ ((65535 < n) ⊎ (n ≡ 0))
    go (yes h) (inl (l, e)) = ((λ _. inl h), λ _. rw e (fitting_large n h))
    go (yes h) (inr (l, e)) = ((λ _. inl h), λ _. rw e (fitting_large 1000001 (omega arith)))
    go (no h) (inl (l, e)) =
        let same = fitting_small n (omega arith) in
        rw (e, same) (inr, ⊎_elim (λ k. absurd (h k)) (λ z. z))
    go (no h) (inr (l, e)) = absurd (omega arith)

-- A height that is cut off has the size of one.
height_cap : (y : ℤ) → nat_abs (twos (cap_bits y)) ≡ cap (nat_abs y)
height_cap (pos n) = go (cap_cases n)
  where
    go : ((n ≤ 1000001) × (cap n ≡ n)) ⊎ ((1000001 < n) × (cap n ≡ 1000001)) → nat_abs (twos (cap n)) ≡ cap n
    go (inl (l, e)) = rw e (ap nat_abs (twos-bits (pos n) (omega arith)))
    go (inr (l, e)) = rw e (ap nat_abs (twos-bits (pos 1000001) (omega arith)))
height_cap (negsuc n) = go (cap_cases (suc n))
  where
    go : ((suc n ≤ 1000001) × (cap (suc n) ≡ suc n)) ⊎ ((1000001 < suc n) × (cap (suc n) ≡ 1000001)) → nat_abs (twos (4294967296 - cap (suc n))) ≡ cap (suc n)
    go (inl (l, e)) =
        let turned : 4294967296 - suc n ≡ bits (negsuc n) = omega arith in
        rw (e, turned) (ap nat_abs (twos-bits (negsuc n) (omega arith)))
    go (inr (l, e)) = rw e (ap nat_abs (twos-bits (negsuc 1000000) (omega arith)))

-- Each part of 4 is as before.
pub row_bad_iff : (p : Pad) → (BadPad (fitting (cap p.name)) 0 (cap p.x) (twos (cap_bits p.y)) ⊎ (◌≢◌ {A = ℕ} 0 0)) ↔ BadRead p
row_bad_iff p = (there, back)
  where
    x_is : ((p.x ≤ 1000001) × (cap p.x ≡ p.x)) ⊎ ((1000001 < p.x) × (cap p.x ≡ 1000001))
    x_is = cap_cases p.x

    y_is : ((nat_abs p.y ≤ 1000001) × (cap (nat_abs p.y) ≡ nat_abs p.y)) ⊎ ((1000001 < nat_abs p.y) × (cap (nat_abs p.y) ≡ 1000001))
    y_is = cap_cases (nat_abs p.y)

    size : nat_abs (twos (cap_bits p.y)) ≡ cap (nat_abs p.y)
    size = height_cap p.y

    there : BadPad (fitting (cap p.name)) 0 (cap p.x) (twos (cap_bits p.y)) ⊎ (◌≢◌ {A = ℕ} 0 0) → BadRead p
    there (inr n) = absurd (n refl)
    there (inl (inl e)) = ⊎_elim inl (λ z. inr (inl z)) ((name_iff p.name).0 e)
    there (inl (inr (inl h))) = absurd (omega arith)
    there (inl (inr (inr (inl h)))) = inr (inr (inr (inl (⊎_elim (λ c. omega arith) (λ c. omega arith) x_is))))
    there (inl (inr (inr (inr (inl h))))) = inr (inr (inr (inr (inl (⊎_elim (λ c. omega arith) (λ c. omega arith) x_is)))))
    there (inl (inr (inr (inr (inr h))))) = inr (inr (inr (inr (inr (⊎_elim (λ c. omega (arith, size)) (λ c. omega (arith, size)) y_is)))))

    back : BadRead p → BadPad (fitting (cap p.name)) 0 (cap p.x) (twos (cap_bits p.y)) ⊎ (◌≢◌ {A = ℕ} 0 0)
    back (inl h) = inl (inl ((name_iff p.name).1 (inl h)))
    back (inr (inl e)) = inl (inl ((name_iff p.name).1 (inr e)))
    back (inr (inr (inl h))) = absurd (omega arith)
    back (inr (inr (inr (inl h)))) = inl (inr (inr (inl (⊎_elim (λ c. omega arith) (λ c. omega arith) x_is))))
    back (inr (inr (inr (inr (inl h))))) = inl (inr (inr (inr (inl (⊎_elim (λ c. omega arith) (λ c. omega arith) x_is)))))
    back (inr (inr (inr (inr (inr h))))) = inl (inr (inr (inr (inr (⊎_elim (λ c. omega (arith, size)) (λ c. omega (arith, size)) y_is)))))

-- Of a pad in range nothing is cut off.
height_in : (y : ℤ) → nat_abs y ≤ 1000000 → cap_bits y ≡ bits y
height_in (pos n) h = cap_small n (omega arith)
height_in (negsuc n) h = rw (cap_small (suc n) (omega arith)) (omega arith)

in_range : (p : Pad) → ¬ BadRead p → (fitting (cap p.name) ≡ p.name) × (cap p.x ≡ p.x) × (cap_bits p.y ≡ bits p.y)
in_range p ok =
    let name : ¬ (65535 < p.name) = λ h. ok (inl h) in
    let x : ¬ (1000000 < p.x) = λ h. ok (inr (inr (inr (inr (inl h))))) in
    let y : ¬ (1000000 < nat_abs p.y) = λ h. ok (inr (inr (inr (inr (inr h))))) in
    (rw (cap_small p.name (omega arith)) (fitting_small p.name (omega arith)), cap_small p.x (omega arith), height_in p.y (omega arith))

abbrev pub InRange : List Pad → Type 0
InRange pads = (i : ℕ) → i < length pads → ¬ BadRead (pad_at pads i)

-- THEOREM. Then the bytes of their rows are the records.
pub exact_records : (pads : List Pad) → InRange pads → rows_bytes (map row_of pads) ≡ records_of pads
exact_records [] ok = refl
exact_records (p ∷ ps) ok =
    let (name, x, y) = in_range p (ok 0 (omega arith)) in
    let rest = exact_records ps (λ i h. ok (suc i) (omega arith)) in
    λ i. square_and_port (name i) 0 (x i) (y i) 0 ++ rest i

-- ---- the bytes of pads' rows, field by field

row-at : (pads : List Pad) (i : ℕ) → i < length pads → row_at (map row_of pads) i ≡ row_of (pad_at pads i)
row-at [] i h = absurd (omega arith)
row-at (p ∷ ps) zero h = refl
row-at (p ∷ ps) (suc i) h = row-at ps i (omega arith)

abbrev pub made_of : List Pad → List ℕ
made_of pads = rows_bytes (map row_of pads)

pub made_count : (pads : List Pad) → count (made_of pads) ≡ length pads
made_count pads = rows_count (map row_of pads) ∙ length-map pads row_of

module _ (pads : List Pad) (i : ℕ) (h : i < length pads) where
  pub inside : i < length (map row_of pads)
  inside = rw (length-map pads row_of) h

  pub field_iff : T (bad_field Slots (made_of pads) i) ↔ BadRead (pad_at pads i)
  field_iff =
      let is = row-at pads i h in
      let rows = map row_of pads in
      Iff.trans (bad_field_iff Slots (made_of pads) i)
      (rw (row_name rows i inside, row_half rows i inside, row_x rows i inside, row_y rows i inside, row_last rows i inside, is) (row_bad_iff (pad_at pads i)))

  pub exact_name : ¬ BadRead (pad_at pads i) → name_of (made_of pads) i ≡ (pad_at pads i).name
  exact_name ok = row_name (map row_of pads) i inside ∙ ap (λ (r : Row). fitting r.name) (row-at pads i h) ∙ (in_range (pad_at pads i) ok).0

  pub exact_x : ¬ BadRead (pad_at pads i) → x_of (made_of pads) i ≡ (pad_at pads i).x
  exact_x ok = row_x (map row_of pads) i inside ∙ ap (λ (r : Row). r.x) (row-at pads i h) ∙ (in_range (pad_at pads i) ok).1

-- ---- the tests

and_then_iff : {A B : Type 0} (a b : Bool) → T a ↔ A → (A → T b ↔ B) → T (a && b) ↔ (A × B)
and_then_iff a b f g = ((λ t. let (u, v) = (both a b).0 t in let x = f.0 u in (x, (g x).0 v)), (λ (x, y). (both a b).1 (f.1 x, (g x).1 y)))

module _ (text : List ℕ) (pads : List Pad) (reads : ReadsAs text pads) where
  read_iff : (P : List Pad → Type 0) → P pads ↔ ReadWith text P
  read_iff P = ((λ x. (pads, reads, x)), (λ (qs, r, x). subst P (reads_one text qs pads r reads) x))

  same_iff : (R : ℕ → ℕ → Bool) (f : Pad → ℕ) (g : ℕ → ℕ) → InRange pads → ((i j : ℕ) → T (R i j) ↔ (g i ≡ g j)) → ((i : ℕ) → i < length pads → g i ≡ f (pad_at pads i)) → (i : ℕ)
      → T (wide (length pads) (with_earlier R) i) ↔ ReadWith text (λ pads. (i < length pads) × Earlier (λ i j. f (pad_at pads i) ≡ f (pad_at pads j)) i)
  same_iff R f g ok says is i =
      Iff.trans (and_then_iff (ltb i (length pads)) (with_earlier R i) (ltb_iff i (length pads)) (λ h.
      with_earlier_iff R (λ i j. f (pad_at pads i) ≡ f (pad_at pads j)) i (λ j k. rw (← is i h, ← is j (omega arith)) (says i j))))
      (read_iff (λ pads. (i < length pads) × Earlier (λ i j. f (pad_at pads i) ≡ f (pad_at pads j)) i))

  module _ (room : ℕ) where
    -- 1 is passed: at most 64; 4 is passed: all are in range.
    pub few_told : Clean (of_whole 1 (ReadWith text (λ pads. (length pads ≡ 0) ⊎ (64 < length pads)))) → length pads ≤ 64
    few_told c = let few : ¬ (64 < length pads) = λ h. c 0 (omega arith) (pads, reads, inr h) in omega arith

    range_told : length pads ≤ 64 → Clean (of_each 4 64 (λ i. ReadWith text (λ pads. (i < length pads) × BadRead (pad_at pads i)))) → InRange pads
    range_told few c i h b = c i (omega arith) (pads, reads, (h, b))

    -- THEOREM. These tests say what the trials say.
    pub wide_tests_lem : TestsOf (wide_tests (length pads) (made_of pads) room) (read_trials text room)
    wide_tests_lem = (
      whole_test 1 _ (eqb (length pads) 0 || ltb 64 (length pads))
          (Iff.trans (or_iff (eqb (length pads) 0) (ltb 64 (length pads)) (eqb_iff (length pads) 0) (ltb_iff 64 (length pads))) (read_iff (λ pads. (length pads ≡ 0) ⊎ (64 < length pads)))),
      λ some. (
        whole_test 22 _ (ltb room (16 * length pads)) (Iff.trans (ltb_iff room (16 * length pads)) (read_iff (λ pads. room < 16 * length pads))),
        λ _. (
          each_test 4 64 _ (wide (length pads) (bad_field Slots (made_of pads)))
              (λ i l. Iff.trans (and_then_iff (ltb i (length pads)) (bad_field Slots (made_of pads) i) (ltb_iff i (length pads)) (field_iff pads i)) (read_iff (λ pads. (i < length pads) × BadRead (pad_at pads i)))),
          λ fields.
              let ok = range_told (few_told some) fields in (
                each_test 6 64 _ (wide (length pads) (with_earlier (same_name (made_of pads))))
                    (λ i l. same_iff (same_name (made_of pads)) (λ p. p.name) (name_of (made_of pads)) ok (λ i j. eqb_iff (name_of (made_of pads) i) (name_of (made_of pads) j)) (λ i h. exact_name pads i h (ok i h)) i),
                λ _. (
                  each_test 7 64 _ (wide (length pads) (with_earlier (same_x (made_of pads))))
                      (λ i l. same_iff (same_x (made_of pads)) (λ p. p.x) (x_of (made_of pads)) ok (λ i j. eqb_iff (x_of (made_of pads) i) (x_of (made_of pads) j)) (λ i h. exact_x pads i h (ok i h)) i),
                  λ _. tt,
                ),
              ),
        ),
      ),
    )

    -- What is passed: from 1 to 64 pads, all in range, and room for their records.
    pub read_passed : Passed (read_trials text room) → (1 ≤ length pads) × (length pads ≤ 64) × (16 * length pads ≤ room) × InRange pads
    read_passed (some, (roomy, (fields, _))) =
        let none : length pads ≢ 0 = λ e. some 0 (omega arith) (pads, reads, inl e) in
        let fits : ¬ (room < 16 * length pads) = λ h. roomy 0 (omega arith) (pads, reads, h) in
        let few = few_told some in
        (omega arith, few, omega arith, range_told few fields)

-- ---- the text, and all

pub csv_large : (text : List ℕ) (room : ℕ) → 16384 < length text → RefusedBy (csv_trials text room) (refusal 20 0 0)
csv_large text room h = whole_refused 20 (16384 < length text) (of_each 21 (length text + 2) (BadLine text) ∷ read_trials text room) h

pub csv_bad : (text : List ℕ) (room k : ℕ) → length text ≤ 16384 → listed text ≡ bad k → RefusedBy (csv_trials text room) (refusal 21 (suc k) 0)
csv_bad text room k h e =
    let (here, none) = listed_bad text k e in
    inr ((λ i l long. omega arith), inl (refl, record { inside = bad_among text (suc k) here; first = record { here = here; none_below = none }; named = alone }))

pub text_passed : (text : List ℕ) (pads : List Pad) → length text ≤ 16384 → ReadsAs text pads → Passed (text_trials text)
text_passed text pads h reads = ((λ i l long. omega arith), ((λ i l. reads_good text pads reads i), tt))

-- So they do of what the code has read.
pub row_tests_lem : (text : List ℕ) (rows : List Row) (room : ℕ) → listed text ≡ good rows
    → (pads : List Pad) × ReadsAs text pads × TestsOf (wide_tests (length rows) (rows_bytes rows) room) (read_trials text room)
row_tests_lem text rows room e =
    let (pads, reads, is) = listed_good text rows e in
    (pads, reads, rw (is, length-map pads row_of) (wide_tests_lem text pads reads room))

-- THEOREM. The trials are passed, or one of them refuses.
pub csv_decided : (text : List ℕ) (room : ℕ) → Decided (csv_trials text room)
csv_decided text room = go (dec_lt 16384 (length text)) (listed text) refl
  where
    go : Dec (16384 < length text) → (o : Listed) → listed text ≡ o → Decided (csv_trials text room)
    go (yes h) o e = inr (refusal 20 0 0, csv_large text room h)
    go (no h) (bad k) e = inr (refusal 21 (suc k) 0, csv_bad text room k (omega arith) e)
    go (no h) (good rows) e =
        let (pads, reads, says) = row_tests_lem text rows room e in
        decided_append (text_trials text) (read_trials text room) (inl (text_passed text pads (omega arith) reads))
        (λ _. tests_decide (wide_tests (length rows) (rows_bytes rows) room) (read_trials text room) says)

-- Where they are, the text reads as some pads, all in range,
pub csv_read : (text : List ℕ) (room : ℕ) → Passed (csv_trials text room)
    → (length text ≤ 16384) × ((pads : List Pad) × ReadsAs text pads × (listed text ≡ good (map row_of pads)) × Passed (read_trials text room))
csv_read text room p = go (listed text) refl
  where
    short_text : length text ≤ 16384
    short_text = let not-long : ¬ (16384 < length text) = p.0 0 (omega arith) in omega arith

    go : (o : Listed) → listed text ≡ o
        → (length text ≤ 16384) × ((pads : List Pad) × ReadsAs text pads × (listed text ≡ good (map row_of pads)) × Passed (read_trials text room))
    go (bad k) e = let (here, _) = listed_bad text k e in absurd (p.1.0 (suc k) (bad_among text (suc k) here) here)
    go (good rows) e = let (pads, reads, is) = listed_good text rows e in (short_text, (pads, reads, e ∙ ap good is, p.1.1))

-- and their records fill the first bytes: no others do.
pub csv_filled : (text : List ℕ) (room : ℕ) → Passed (csv_trials text room) → (s : List ℕ) × (k : ℕ) × CsvFills text s k
csv_filled text room p = let (_, (pads, reads, _, _)) = csv_read text room p in (records_of pads, length pads, (pads, reads, (refl, refl)))

pub csv_fills_one : (text s t : List ℕ) (j k : ℕ) → CsvFills text s j → CsvFills text t k → (s ≡ t) × (j ≡ k)
csv_fills_one text s t j k (ps, reads, (s-is, j-is)) (qs, reads', (t-is, k-is)) =
    let same = reads_one text ps qs reads reads' in
    (s-is ∙ ap records_of same ∙ sym t-is, j-is ∙ ap (λ (l : List Pad). length l) same ∙ sym k-is)

-- What the code has made is that.
pub csv_made : (text : List ℕ) (rows : List Row) (room : ℕ) → listed text ≡ good rows → Passed (csv_trials text room) → CsvFills text (rows_bytes rows) (length rows)
csv_made text rows room e p =
    let (pads, reads, is) = listed_good text rows e in
    let (_, _, _, ok) = read_passed text pads reads room p.1.1 in
    (pads, reads, (ap rows_bytes is ∙ exact_records pads ok, ap (λ (l : List Row). length l) is ∙ length-map pads row_of))
