-- WHEN A LIST IS ACCEPTED, and what is made of it: valid pads; their records are a pad list for the slots calls; the plain rule goes round.
--     csv_passed, readable_or_bad;  valid_list, slots_accept, slots_first_accept;  csv_answered, read_pads_pass, slots_take_them;  round_trip, records_trip
--     csv_20, csv_21: when these are given;  csv_as_pads: what else
use Rattle.std.specs.Prelude.{◌≡◌, refl, ◌≢◌, ◌⊎◌, ◌↔◌, List, [], map, ℕ, suc, ◌+◌, ◌*◌, ◌≤◌, ◌<◌, length, take, ℤ, nat_abs, Ok}
use Rattle.std.proofs.Common.{sym, ap, subst, ◌∙◌, inl, inr, ⊎_elim, arith, take_at}
use Rattle.std.proofs.Math.Logic.Dec
use Rattle.std.proofs.Math.Decide.{ℕ_discrete}
use Rattle.std.proofs.lemmas.List.{length-map}
use Rattle.paper.specs.declared.Form.TheVariants.{Slots}
use Rattle.paper.specs.declared.Refusal.{Refusal}
use Rattle.paper.specs.Answers.{Work}
use Rattle.paper.specs.Job.{slots, count, name_of, half_of, x_of, y_of, last_of}
use Rattle.paper.specs.Layouts.{board_of, Badness}
use Rattle.paper.specs.Csv.{Pad, ReadsAs, ReadWith, BadLine, pad_at, records_of, pads_in, plain_text}
use Rattle.paper.specs.Refusals.{Smallest, Passed, RefusedBy, refusal, of_each, of_whole, Earlier, BadRead}
use Rattle.paper.specs.Refusals.{room_trials, sound_trials, first_trials, text_trials, of_pads, read_trials, csv_trials, list_trials, ValidPads, pad_trials, strip_trials}
use Rattle.paper.specs.Points.{Points}
use Rattle.paper.specs.Promises.{overwritten, refusal_in, RefusesBy, CsvAnswers}
use Rattle.paper.proofs.laws.Trials.{alone, not_both, Alike, each_alike, AllAlike, alike_passed, alike_refused, passed_append, append_passed, refused-append}
use Rattle.paper.proofs.laws.Tests.{bad_field_iff}
use Rattle.paper.proofs.laws.Decided.{sound_parts}
use Rattle.paper.proofs.laws.Accepted.{sized, sound_accepted, first_sound, first_passed}
use Rattle.paper.proofs.laws.Existence.{points_exist}
use Rattle.paper.proofs.laws.Lines.{reads_one, bad_among}
use Rattle.paper.specs.laws.Parsing.{Listed, good, bad as badAt, listed}
use Rattle.paper.proofs.laws.Listing.{listed_good, listed_bad}
use Rattle.paper.proofs.laws.Parsed.{row_of}
use Rattle.paper.proofs.laws.Written.{rows_length, row_half, Bytes, pads_many, pad-at, records_back, plain_reads, plain_short}
use Rattle.paper.proofs.laws.Imported.{exact_records, made_of, made_count, inside, field_iff, exact_name, exact_x, text_passed, few_told, read_passed, csv_large, csv_read}

-- ---- valid pads

module _ (text : List ℕ) (pads : List Pad) (reads : ReadsAs text pads) (room : ℕ) where
  -- What any reading has, this one has.
  only : (P : List Pad → Type 0) → ReadWith text P → P pads
  only P (qs, r, x) = subst P (reads_one text qs pads r reads) x

  -- Valid pads are accepted, and what is accepted is valid.
  pub reads_passed : length text ≤ 16384 → ValidPads pads room → Passed (csv_trials text room)
  reads_passed h v = passed_append (text_trials text) (read_trials text room) (text_passed text pads h reads) (
    (λ i l r. ⊎_elim (λ e. omega (arith, v.some)) (λ e. omega (arith, v.few)) (only (λ pads. (length pads ≡ 0) ⊎ (64 < length pads)) r)),
    (
      (λ i l r. omega (arith, v.roomy, only (λ pads. room < 16 * length pads) r)),
      (
        (λ i l r. let (k, b) = only (λ pads. (i < length pads) × BadRead (pad_at pads i)) r in v.ranges i k b),
        (
          (λ i l r. let (k, (j, m, e)) = only (λ pads. (i < length pads) × Earlier (λ i j. (pad_at pads i).name ≡ (pad_at pads j).name) i) r in v.names i j m k e),
          ((λ i l r. let (k, (j, m, e)) = only (λ pads. (i < length pads) × Earlier (λ i j. (pad_at pads i).x ≡ (pad_at pads j).x) i) r in v.places i j m k e), tt),
        ),
      ),
    ),
  )

  pub passed_valid : Passed (read_trials text room) → ValidPads pads room
  passed_valid p =
      let (some, few, roomy, ranges) = read_passed text pads reads room p in
      record {
        some = some;
        few = few;
        roomy = roomy;
        ranges = ranges;
        names = λ i j k l e. p.1.1.1.0 i (omega arith) (pads, reads, (l, (j, k, e)));
        places = λ i j k l e. p.1.1.1.1.0 i (omega arith) (pads, reads, (l, (j, k, e)));
      }

-- THEOREM. A text is accepted exactly if it is short enough and reads as valid pads.
pub csv_passed : (text : List ℕ) (room : ℕ) → Passed (csv_trials text room) ↔ ((length text ≤ 16384) × ReadWith text (λ pads. ValidPads pads room))
csv_passed text room = (
  (λ p. let (short, (pads, reads, _, read)) = csv_read text room p in (short, (pads, reads, passed_valid text pads reads room read))),
  (λ (short, (pads, reads, v)). reads_passed text pads reads room short v),
)

-- THEOREM. A text reads as pads, or it has a first bad line.
pub readable_or_bad : (text : List ℕ) → ((pads : List Pad) × ReadsAs text pads) ⊎ ((i : ℕ) × Smallest (BadLine text) i)
readable_or_bad text = go (listed text) refl
  where
    go : (o : Listed) → listed text ≡ o → ((pads : List Pad) × ReadsAs text pads) ⊎ ((i : ℕ) × Smallest (BadLine text) i)
    go (good rows) e = let (pads, reads, _) = listed_good text rows e in inl (pads, reads)
    go (badAt k) e = let (here, none) = listed_bad text k e in inr (suc k, record { here = here; none_below = none })

-- ---- a pad list for the slots calls

-- The records of valid pads, read as records.
module _ (pads : List Pad) (room : ℕ) (v : ValidPads pads room) where
  records_made : records_of pads ≡ made_of pads
  records_made = sym (exact_records pads v.ranges)

  made_long : length (made_of pads) ≡ 16 * length pads
  made_long = rows_length (map row_of pads) ∙ ap (λ (n : ℕ). 16 * n) (length-map pads row_of)

  pub records_long : length (records_of pads) ≡ 16 * length pads
  records_long = ap (λ (l : List ℕ). length l) records_made ∙ made_long

  name_is : (i : ℕ) → i < length pads → name_of (made_of pads) i ≡ (pad_at pads i).name
  name_is i h = exact_name pads i h (v.ranges i h)

  x_is : (i : ℕ) → i < length pads → x_of (made_of pads) i ≡ (pad_at pads i).x
  x_is i h = exact_x pads i h (v.ranges i h)

  below : (i : ℕ) → i < count (made_of pads) → i < length pads
  below i h = rw (made_count pads) at h

  made_list : Passed (pad_trials (made_of pads))
  made_list = (
    (λ i l. ⊎_elim (λ e. omega (arith, made_long, v.some)) (⊎_elim (λ e. e (omega (arith, made_long))) (λ e. omega (arith, made_long, v.few)))),
    (
      (λ i l b. v.ranges i (below i l) ((field_iff pads i (below i l)).0 ((bad_field_iff Slots (made_of pads) i).1 b))),
      (
        (λ i l (j, k, e). let h = below i l in v.names i j k h (sym (name_is i h) ∙ e ∙ name_is j (omega arith))),
        ((λ i l (j, k, e). let h = below i l in v.places i j k h (sym (x_is i h) ∙ e ∙ x_is j (omega arith))), tt),
      ),
    ),
  )

  -- THEOREM. They pass 1, 4, 6 and 7, and all half-sides are 0.
  pub valid_list : Passed (pad_trials (records_of pads))
  valid_list = rw records_made made_list

  pub valid_points : (ports : List ℕ) → Points (board_of (slots (records_of pads) ports))
  valid_points ports = rw records_made (λ i l. row_half (map row_of pads) i (inside pads i (below i l)))

-- THEOREM. Where the trials of the pads are passed, 1 to 7 of a slots call are passed exactly if the others are;
pub slots_accept : (pads ports : List ℕ) (bad : Badness) (work : Work) (room : ℕ) → Passed (pad_trials pads)
    → Passed (sound_trials (slots pads ports) bad work room) ↔ Passed (strip_trials pads ports bad work room)
slots_accept pads ports bad work room (size, (fields, (names, (places, _)))) = (
  (λ p.
      let (sizes, given, roomy, passed) = (sound_parts (slots pads ports) bad work room).0 p in
      (sizes.1.0, (given, passed_append (room_trials (slots pads ports) work room) _ roomy (passed.1.0, (passed.1.1.0, (passed.1.1.1.0, tt)))))),
  (λ (ports-size, (given, rest)).
      let (roomy, (heights, (rise, (space, _)))) = append_passed (room_trials (slots pads ports) work room) _ rest in
      (sound_parts (slots pads ports) bad work room).1 ((size, (ports-size, tt)), given, roomy, (fields, (heights, (rise, (space, (names, (places, tt)))))))),
)

-- and where they are points, First needs no more.
pub slots_first_accept : (pads ports : List ℕ) (bad : Badness) (work : Work) (room : ℕ) → Passed (pad_trials pads) → Points (board_of (slots pads ports))
    → Passed (first_trials (slots pads ports) bad work room) ↔ Passed (strip_trials pads ports bad work room)
slots_first_accept pads ports bad work room passed points = (
  (λ p. (slots_accept pads ports bad work room passed).0 (first_sound (slots pads ports) bad work room p)),
  (λ p.
      let sound = (slots_accept pads ports bad work room passed).1 p in
      let (f, apart) = points_exist (board_of (slots pads ports)) (sound_accepted (slots pads ports) bad work room sound).0.proper points in
      first_passed (slots pads ports) bad work room sound (λ none. none f apart)),
)

-- ---- what is answered

-- THEOREM. What an answer tells: valid pads, whose records stand in the first bytes.
pub csv_answered : (text before : List ℕ) (k : ℕ) (after : List ℕ) → CsvAnswers text before (Ok k) after
    → (pads : List Pad) × ReadsAs text pads × ValidPads pads (length before) × (k ≡ length pads) × (take (16 * k) after ≡ records_of pads)
csv_answered text before k after (p, (s, (pads, reads, (s-is, k-is)), e)) =
    let v = passed_valid text pads reads (length before) (append_passed (text_trials text) (read_trials text (length before)) p).1 in
    let long : length s ≡ 16 * k = rw (s-is, k-is) (records_long pads (length before) v) in
    (pads, reads, v, k-is, rw e (take_at s _ (16 * k) long) ∙ s-is)

-- THEOREM. These are a pad list for the slots calls.
module _ (text before : List ℕ) (k : ℕ) (after : List ℕ) (a : CsvAnswers text before (Ok k) after) where
  pub read_pads_pass : let pads = take (16 * k) after in (count pads ≡ k) × Passed (pad_trials pads) × ((i : ℕ) → i < k → half_of pads i ≡ 0)
  read_pads_pass =
      let (pads, _, v, many, is) = csv_answered text before k after a in
      let counted : count (records_of pads) ≡ k = omega (arith, records_long pads (length before) v, many) in
      rw is (counted, valid_list pads (length before) v, λ i h. valid_points pads (length before) v [] i (omega arith))

  pub slots_take_them : (ports : List ℕ) (bad : Badness) (work : Work) (room : ℕ)
      → let pads = take (16 * k) after in Passed (first_trials (slots pads ports) bad work room) ↔ Passed (strip_trials pads ports bad work room)
  slots_take_them ports bad work room =
      let (pads, _, v, many, is) = csv_answered text before k after a in
      subst (λ l. Passed (first_trials (slots l ports) bad work room) ↔ Passed (strip_trials l ports bad work room)) (sym is)
      (slots_first_accept (records_of pads) ports bad work room (valid_list pads (length before) v) (valid_points pads (length before) v ports))

-- THEOREM. A text that reads as valid pads is answered with their records.
pub reads_answered : (text : List ℕ) (pads : List Pad) (before : List ℕ) → ReadsAs text pads → length text ≤ 16384 → ValidPads pads (length before)
    → CsvAnswers text before (Ok (length pads)) (overwritten (records_of pads) before)
reads_answered text pads before reads short v = (reads_passed text pads reads (length before) short v, (records_of pads, (pads, reads, (refl, refl)), refl))

-- So is a list written by the plain rule.
pub round_trip : (pads : List Pad) (before : List ℕ) → ValidPads pads (length before)
    → CsvAnswers (plain_text pads) before (Ok (length pads)) (overwritten (records_of pads) before)
round_trip pads before v = reads_answered (plain_text pads) pads before (plain_reads pads) (omega (arith, plain_short pads small, v.few)) v
  where
    small : (i : ℕ) → i < length pads → ((pad_at pads i).name < 100000) × ((pad_at pads i).x < 10000000) × (nat_abs (pad_at pads i).y < 10000000)
    small i h =
        let name : ¬ (65535 < (pad_at pads i).name) = λ b. v.ranges i h (inl b) in
        let x : ¬ (1000000 < (pad_at pads i).x) = λ b. v.ranges i h (inr (inr (inr (inr (inl b))))) in
        let y : ¬ (1000000 < nat_abs (pad_at pads i).y) = λ b. v.ranges i h (inr (inr (inr (inr (inr b))))) in
        (omega arith, omega arith, omega arith)

-- The pads of records that are a pad list with half-sides 0 are valid, and these are their records.
pub list_valid : (l : List ℕ) (room : ℕ) → Bytes l → Passed (pad_trials l) → ((i : ℕ) → i < count l → half_of l i ≡ 0) → length l ≤ room
    → ValidPads (pads_in l) room × (records_of (pads_in l) ≡ l)
list_valid l room bytes (size, (fields, (names, (places, _)))) points fits =
    let s = sized l (size 0 (omega arith)) in
    let many = pads_many l in (
      record {
        some = omega (arith, many, s.some);
        few = omega (arith, many, s.few);
        roomy = omega (arith, many, s.whole);
        ranges = λ i h. let k : i < count l = omega (arith, many) in rw (pad-at l i k) (ranges i k);
        names = λ i j m h e. let k : i < count l = omega (arith, many) in names i k (j, m, rw (pad-at l i k, pad-at l j (omega arith)) at e);
        places = λ i j m h e. let k : i < count l = omega (arith, many) in places i k (j, m, rw (pad-at l i k, pad-at l j (omega arith)) at e);
      },
      records_back l bytes (omega (arith, s.whole)) (λ i h. (points i h, last i h)),
    )
  where
    small : (i : ℕ) → i < count l → name_of l i < 65536
    small i h = unfold name_of in omega (arith, bytes (16 * i) (omega arith), bytes (16 * i + 1) (omega arith))

    ranges : (i : ℕ) → i < count l → ¬ BadRead (record { name = name_of l i; x = x_of l i; y = y_of l i })
    ranges i h (inl b) = omega (arith, small i h)
    ranges i h (inr b) = fields i h (inl (rw (points i h) b))

    last : (i : ℕ) → i < count l → last_of l i ≡ 0
    last i h = (Dec.not-not (ℕ_discrete (last_of l i) 0)).0 (λ n. fields i h (inr n))

-- THEOREM. So those records go round.
pub records_trip : (l before : List ℕ) → Bytes l → Passed (pad_trials l) → ((i : ℕ) → i < count l → half_of l i ≡ 0) → length l ≤ length before
    → CsvAnswers (plain_text (pads_in l)) before (Ok (count l)) (overwritten l before)
records_trip l before bytes passed points fits =
    let (v, back) = list_valid l (length before) bytes passed points fits in
    rw (back, pads_many l) at (round_trip (pads_in l) before v)

-- ---- when a text is refused by 20, by 21, and otherwise

module _ (text : List ℕ) (room : ℕ) where
  -- None of the trials of what is read has these numbers.
  other : (r : Refusal) → RefusedBy (read_trials text room) r → (r.reason ≢ 20) × (r.reason ≢ 21)
  other r (inl (e, _)) = ((λ f. omega arith), λ f. omega arith)
  other r (inr (_, inl (e, _))) = ((λ f. omega arith), λ f. omega arith)
  other r (inr (_, inr (_, inl (e, _)))) = ((λ f. omega arith), λ f. omega arith)
  other r (inr (_, inr (_, inr (_, inl (e, _))))) = ((λ f. omega arith), λ f. omega arith)
  other r (inr (_, inr (_, inr (_, inr (_, inl (e, _)))))) = ((λ f. omega arith), λ f. omega arith)
  other r (inr (_, inr (_, inr (_, inr (_, inr (_, b)))))) = absurd b

  pub csv_20 : RefusedBy (csv_trials text room) (refusal 20 0 0) ↔ (16384 < length text)
  csv_20 = (there, csv_large text room)
    where
      there : RefusedBy (csv_trials text room) (refusal 20 0 0) → 16384 < length text
      there (inl (_, f)) = f.first.here
      there (inr (_, inl (e, _))) = absurd (omega arith)
      there (inr (_, inr (_, b))) = absurd ((other (refusal 20 0 0) b).0 refl)

  pub csv_21 : (i : ℕ) → RefusedBy (csv_trials text room) (refusal 21 i 0) ↔ ((length text ≤ 16384) × Smallest (BadLine text) i)
  csv_21 i = (there, back)
    where
      there : RefusedBy (csv_trials text room) (refusal 21 i 0) → (length text ≤ 16384) × Smallest (BadLine text) i
      there (inl (e, _)) = absurd (omega arith)
      there (inr (c, inl (_, f))) = let short : ¬ (16384 < length text) = c 0 (omega arith) in (omega arith, f.first)
      there (inr (_, inr (_, b))) = absurd ((other (refusal 21 i 0) b).1 refl)

      back : (length text ≤ 16384) × Smallest (BadLine text) i → RefusedBy (csv_trials text room) (refusal 21 i 0)
      back (h, s) = inr ((λ k l long. omega arith), inl (refl, record { inside = bad_among text i s.here; first = s; named = alone }))

-- A text that reads as pads, and is not too long: the trials are those of the pads.
module _ (text : List ℕ) (pads : List Pad) (room : ℕ) (short : length text ≤ 16384) (reads : ReadsAs text pads) where
  whole_alike : (s : ℕ) (P : List Pad → Type 0) → Alike (of_whole s (ReadWith text P)) (of_whole s (P pads))
  whole_alike s P =
      each_alike s 1 1 (λ i. ReadWith text P) (λ i. P pads) (λ i. ((λ (l, x). (l, only text pads reads room P x)), (λ (l, x). (l, (pads, reads, x)))))

  pads_alike : length pads ≤ 64 → (s : ℕ) (P : List Pad → ℕ → Type 0) → Alike (of_pads s text P) (of_each s (length pads) (P pads))
  pads_alike few s P = each_alike s 64 (length pads) (λ i. ReadWith text (λ pads. (i < length pads) × P pads i)) (P pads) (λ i. (
    (λ (l, x). only text pads reads room (λ pads. (i < length pads) × P pads i) x),
    (λ (l, x). (omega arith, (pads, reads, (l, x)))),
  ))

  all_alike : AllAlike (read_trials text room) (list_trials pads room)
  all_alike = (
    whole_alike 1 (λ pads. (length pads ≡ 0) ⊎ (64 < length pads)),
    λ some.
        let few = few_told text pads reads room some in (
          whole_alike 22 (λ pads. room < 16 * length pads),
          λ _. (
            pads_alike few 4 (λ pads i. BadRead (pad_at pads i)),
            λ _. (
              pads_alike few 6 (λ pads. Earlier (λ i j. (pad_at pads i).name ≡ (pad_at pads j).name)),
              λ _. (pads_alike few 7 (λ pads. Earlier (λ i j. (pad_at pads i).x ≡ (pad_at pads j).x)), λ _. tt),
            ),
          ),
        ),
  )

  texts_passed : Passed (text_trials text)
  texts_passed = text_passed text pads short reads

  -- THEOREM. It is refused as the pads are, and so it is with C's number.
  refused_as_pads : (r : Refusal) → RefusedBy (csv_trials text room) r → RefusedBy (list_trials pads room) r
  refused_as_pads r a =
      ⊎_elim (λ b. absurd (not_both (text_trials text) r texts_passed b)) (λ (_, b). (alike_refused (read_trials text room) (list_trials pads room) r all_alike).0 b)
      (refused-append (text_trials text) (read_trials text room) r a)

  pub csv_as_pads : (m : ℤ) (Unchanged : Type 0) → RefusesBy (csv_trials text room) m Unchanged → RefusesBy (list_trials pads room) m Unchanged
  csv_as_pads m Unchanged r =
      let same = alike_passed (read_trials text room) (list_trials pads room) all_alike in
      record {
        exactly = (
          (λ l p. r.exactly.0 l (passed_append (text_trials text) (read_trials text room) texts_passed (same.1 p))),
          (λ n. r.exactly.1 (λ p. n (same.0 (append_passed (text_trials text) (read_trials text room) p).1))),
        );
        named = λ l. let (given, kept) = r.named l in (refused_as_pads (refusal_in m) given, kept);
      }
