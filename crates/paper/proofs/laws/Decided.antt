-- TRIALS ARE DECIDED: each call's trials are passed, or one of them refuses. By tests that are computed.
--     measure_decided, draw_decided;  decided_append;  tests_decide: of any trials whose tests say what they say;  tests_pass, tests_refuse: computed
use Rattle.std.specs.Prelude.{◌≡◌, refl, ◌≢◌, ◌⊎◌, ◌↔◌, Bool, true, false, not, ◌&&◌, ◌||◌, List, [], ◌∷◌, ◌++◌, ℕ, zero, suc, ◌*◌, ◌≤◌, ◌<◌, T, eqb, ltb, length, Some, None}
use Rattle.std.proofs.Common.{inl, inr, ⊎_elim, le_of_suc-le-suc, not-suc-le-zero, eq-or-lt_of_le, arith, eqb→eq, ltb→lt}
use Rattle.numbers.proofs.Tests.{both, either, dec_iff, not_iff, ltb_iff, eqb_iff}
use Rattle.paper.specs.declared.Refusal.{Refusal}
use Rattle.paper.specs.declared.Form.TheVariants.{Records, Slots}
use Rattle.paper.specs.Answers.{Work}
use Rattle.paper.specs.Job.{Job, records, slots, form_of, pads_of, ports_of, count, port_count, port_of}
use Rattle.paper.specs.Layouts.{Board, board_of, held, Touching, Badness, by_weights, by_table}
use Rattle.paper.specs.Refusals.{Trial, Smallest, Clean, FirstFault, Passed, RefusedBy, of_each, of_whole, of_pairs}
use Rattle.paper.specs.Refusals.{BadSize, BadWeight, BadField, Outside, SameName, SameX, work_needed}
use Rattle.paper.specs.Refusals.{size_trials, enough_trials, work_trials, room_trials, field_trials, board_trials, job_trials, layout_trials, badness_trial, sound_trials, measure_trials, draw_trials}
use Rattle.paper.specs.Layouts.{Differ}
use Rattle.paper.specs.laws.Tests.{Test, at_each, at_pairs, at_whole, somewhere, with_earlier}
use Rattle.paper.proofs.laws.Tests.{somewhere_iff, with_earlier_iff}
use Rattle.paper.specs.laws.Tests.{bad_size, bad_weight, bad_table, bad_field, bad_height, not_above, too_close, same_name, same_x, bad_entry, records_touch, bad_number}
use Rattle.paper.proofs.laws.Tests.{bad_size_iff, bad_weight_iff, bad_table_iff, outside_iff, bad_field_iff, not_above_iff, too_close_iff}
use Rattle.paper.proofs.laws.Tests.{same_name_iff, same_x_iff, bad_entry_iff, bad_number_iff}
use Rattle.paper.specs.laws.Tests.{size_tests, enough_tests, work_tests, room_tests, field_tests, board_tests, job_tests, layout_tests, badness_test, sound_tests, measure_tests, draw_tests}
use Rattle.paper.proofs.laws.Squares.{records_iff}
use Rattle.paper.proofs.laws.Trials.{append_passed, passed_append, refused_left, refused_right}
use Rattle.paper.specs.laws.Decided.{reason_of, among_of, fault_of, beside_of, TestOf, TestsOf, sound_tests_of, measure_tests_of}

-- The trials are passed, or one of them refuses.
abbrev pub Decided : List Trial → Type 0
Decided ts = Passed ts ⊎ ((r : Refusal) × RefusedBy ts r)

-- So are trials after others, which may go by those being passed.
pub decided_append : (ts us : List Trial) → Decided ts → (Passed ts → Decided us) → Decided (ts ++ us)
decided_append ts us d k =
    ⊎_elim (λ p. ⊎_elim (λ q. inl (passed_append ts us p q)) (λ (r, a). inr (r, refused_right ts us r p a)) (k p)) (λ (r, a). inr (r, refused_left ts us r a)) d

-- ---- tests that compute them

pub each_test : (r n : ℕ) (fault : ℕ → Type 0) (p : ℕ → Bool) → ((i : ℕ) → i < n → T (p i) ↔ fault i) → TestOf (at_each r n p) (of_each r n fault)
each_test r n fault p says =
    record { reason_same = refl; among_same = refl; fault_iff = says; beside_iff = λ i j l. eqb_iff j 0; some_beside = λ i l x. (0, refl) }

pub whole_test : (r : ℕ) (P : Type 0) (t : Bool) → T t ↔ P → TestOf (at_whole r t) (of_whole r P)
whole_test r P t says = each_test r 1 (λ i. P) (λ i. t) (λ i l. says)

pairs_test : (r n : ℕ) (R : ℕ → ℕ → Type 0) (q : ℕ → ℕ → Bool) → ((i j : ℕ) → i < n → j < i → T (q i j) ↔ R i j) → TestOf (at_pairs r n q) (of_pairs r n R)
pairs_test r n R q says = record {
  reason_same = refl;
  among_same = refl;
  fault_iff = λ i l. with_earlier_iff q R i (λ j k. says i j l k);
  beside_iff = λ i j l. (
    (λ t. let (k, x) = (both (ltb j i) (q i j)).0 t in let m = ltb→lt j i k in (m, (says i j l m).0 x)),
    (λ (k, x). (both (ltb j i) (q i j)).1 ((ltb_iff j i).1 k, (says i j l k).1 x)),
  );
  some_beside = λ i l (j, k, x). (j, (k, x));
}

pub tests_append : (ss us : List Test) (ts vs : List Trial) → TestsOf ss ts → (Passed ts → TestsOf us vs) → TestsOf (ss ++ us) (ts ++ vs)
tests_append [] us [] vs a k = k tt
tests_append [] us (t ∷ ts) vs a k = absurd a
tests_append (s ∷ ss) us [] vs a k = absurd a
tests_append (s ∷ ss) us (t ∷ ts) vs a k = (a.0, λ c. tests_append ss us ts vs (a.1 c) (λ p. k (c, p)))

-- Below n, P holds of a smallest number or of none.
smallest_or_none : (P : ℕ → Type 0) (n : ℕ) → ((i : ℕ) → i < n → Dec (P i)) → ((i : ℕ) × (i < n) × Smallest P i) ⊎ ((i : ℕ) → i < n → ¬ P i)
smallest_or_none P zero dec = inr (λ i l. absurd (not-suc-le-zero l))
smallest_or_none P (suc n) dec =
    ⊎_elim (λ (i, l, s). inl (i, omega arith, s)) (λ none. go none (dec n (omega arith))) (smallest_or_none P n (λ i l. dec i (omega arith)))
  where
    go : ((i : ℕ) → i < n → ¬ P i) → Dec (P n) → ((i : ℕ) × (i < suc n) × Smallest P i) ⊎ ((i : ℕ) → i < suc n → ¬ P i)
    go none (yes x) = inl (n, omega arith, record { here = x; none_below = none })
    go none (no x) = inr (λ i l. ⊎_elim (λ e. rw e x) (none i) (eq-or-lt_of_le (le_of_suc-le-suc l)))

clean_or_faulty : (s : Test) (t : Trial) → TestOf s t → Clean t ⊎ ((i : ℕ) × (j : ℕ) × FirstFault t i j)
clean_or_faulty s t a = ⊎_elim (λ (i, l, f). inr (faulty i l f)) inl (smallest_or_none t.fault t.among (λ i l. dec_iff (fault_of s i) (a.fault_iff i l)))
  where
    faulty : (i : ℕ) → i < t.among → Smallest t.fault i → (i : ℕ) × (j : ℕ) × FirstFault t i j
    faulty i l f =
        let (k, x) = a.some_beside i l f.here in
        ⊎_elim (λ (j, m, named). (i, j, record { inside = l; first = f; named = named })) (λ none. absurd (none k (omega arith) x))
        (smallest_or_none (t.beside i) (suc k) (λ j m. dec_iff (beside_of s i j) (a.beside_iff i j l)))

-- THEOREM. Trials of which tests tell are decided.
pub tests_decide : (ss : List Test) (ts : List Trial) → TestsOf ss ts → Decided ts
tests_decide [] [] a = inl tt
tests_decide [] (t ∷ ts) a = absurd a
tests_decide (s ∷ ss) [] a = absurd a
tests_decide (s ∷ ss) (t ∷ ts) (a, k) =
    ⊎_elim
    (λ c. ⊎_elim (λ p. inl (c, p)) (λ (r, x). inr (r, inr (c, x))) (tests_decide ss ts (k c)))
    (λ (i, j, f). inr (record { reason = t.reason; at = i; earlier = j }, inl (refl, f)))
    (clean_or_faulty s t a)

-- ---- which the checker computes

-- Every test is passed; they refuse so.
abbrev clean_test : Test → Bool
clean_test s = not (somewhere (fault_of s) (among_of s))

abbrev smallest_test : (ℕ → Bool) → ℕ → Bool
smallest_test p i = p i && not (somewhere p i)

abbrev faulty_test : Test → Refusal → Bool
faulty_test s r =
    (eqb r.reason (reason_of s) && ltb r.at (among_of s)) && (smallest_test (fault_of s) r.at && smallest_test (beside_of s r.at) r.earlier)

abbrev pub passes : List Test → Bool
passes [] = true
passes (s ∷ ss) = clean_test s && passes ss

abbrev pub refuses : List Test → Refusal → Bool
refuses [] r = false
refuses (s ∷ ss) r = faulty_test s r || clean_test s && refuses ss r

none_told : (p : ℕ → Bool) (P : ℕ → Type 0) (n : ℕ) → ((i : ℕ) → i < n → T (p i) ↔ P i) → T (not (somewhere p n)) → (i : ℕ) → i < n → ¬ P i
none_told p P n says t i l x = (not_iff (somewhere p n) (somewhere_iff p P n says)).0 t (i, l, x)

smallest_told : (p : ℕ → Bool) (P : ℕ → Type 0) (i : ℕ) → ((j : ℕ) → j ≤ i → T (p j) ↔ P j) → T (smallest_test p i) → Smallest P i
smallest_told p P i says t =
    let (here, below) = (both (p i) (not (somewhere p i))).0 t in
    record { here = (says i (omega arith)).0 here; none_below = none_told p P i (λ j l. says j (omega arith)) below }

clean_told : (s : Test) (t : Trial) → TestOf s t → T (clean_test s) → Clean t
clean_told s t a h = none_told (fault_of s) t.fault t.among a.fault_iff (rw a.among_same at h)

faulty_told : (s : Test) (t : Trial) (r : Refusal) → TestOf s t → T (faulty_test s r) → (r.reason ≡ t.reason) × FirstFault t r.at r.earlier
faulty_told s t r a h =
    let here = smallest_test (fault_of s) r.at in
    let named = smallest_test (beside_of s r.at) r.earlier in
    let (u, v) = (both (eqb r.reason (reason_of s) && ltb r.at (among_of s)) (here && named)).0 h in
    let (e, l) = (both (eqb r.reason (reason_of s)) (ltb r.at (among_of s))).0 u in
    let (f, n) = (both here named).0 v in
    let k : r.at < t.among = rw (← a.among_same) (ltb→lt r.at (among_of s) l) in (
      rw (← a.reason_same) (eqb→eq r.reason (reason_of s) e),
      record {
        inside = k;
        first = smallest_told (fault_of s) t.fault r.at (λ j m. a.fault_iff j (omega arith)) f;
        named = smallest_told (beside_of s r.at) (t.beside r.at) r.earlier (λ j m. a.beside_iff r.at j k) n;
      },
    )

-- THEOREM. What passes the tests passes the trials;
pub tests_pass : (ss : List Test) (ts : List Trial) → TestsOf ss ts → T (passes ss) → Passed ts
tests_pass [] [] a h = tt
tests_pass [] (t ∷ ts) a h = absurd a
tests_pass (s ∷ ss) [] a h = absurd a
tests_pass (s ∷ ss) (t ∷ ts) (a, k) h =
    let (c, p) = (both (clean_test s) (passes ss)).0 h in
    let clean = clean_told s t a c in
    (clean, tests_pass ss ts (k clean) p)

-- what they refuse is so refused.
pub tests_refuse : (ss : List Test) (ts : List Trial) (r : Refusal) → TestsOf ss ts → T (refuses ss r) → RefusedBy ts r
tests_refuse [] ts r a h = absurd h
tests_refuse (s ∷ ss) [] r a h = absurd a
tests_refuse (s ∷ ss) (t ∷ ts) r (a, k) h =
    ⊎_elim
    (λ f. inl (faulty_told s t r a f))
    (λ g.
    let (c, f) = (both (clean_test s) (refuses ss r)).0 g in
    let clean = clean_told s t a c in
    inr (clean, tests_refuse ss ts r (k clean) f))
    ((either (faulty_test s r) (clean_test s && refuses ss r)).0 h)

-- ---- each call's

size_tests_lem : (job : Job) → TestsOf (size_tests (form_of job) (pads_of job) (ports_of job)) (size_trials job)
size_tests_lem (records bytes) = (whole_test 1 (BadSize 16 1024 bytes) (bad_size 16 1024 bytes) (bad_size_iff 16 1024 bytes), λ _. tt)
size_tests_lem (slots pads ports) =
    (whole_test 1 (BadSize 16 1024 pads) (bad_size 16 1024 pads) (bad_size_iff 16 1024 pads), λ _. (whole_test 1 (BadSize 4 512 ports) (bad_size 4 512 ports) (bad_size_iff 4 512 ports), λ _. tt))

enough_tests_lem : (job : Job) → TestsOf (enough_tests (form_of job) (pads_of job) (ports_of job)) (enough_trials job)
enough_tests_lem (records bytes) = tt
enough_tests_lem (slots pads ports) =
    (whole_test 14 (port_count Slots ports < count pads) (ltb (port_count Slots ports) (count pads)) (ltb_iff (port_count Slots ports) (count pads)), λ _. tt)

work_tests_lem : (b : Board) (work : Work) → TestsOf (work_tests b.pads b.ports work) (work_trials b work)
work_tests_lem b None = tt
work_tests_lem b (Some k) =
    let needed = work_needed b.pads b.ports in
    (whole_test 24 (k < needed) (ltb k needed) (ltb_iff k needed), λ _. tt)

field_tests_lem : (job : Job) → TestsOf (field_tests (form_of job) (pads_of job) (ports_of job)) (field_trials job)
field_tests_lem (records bytes) = (each_test 4 _ (BadField Records bytes) (bad_field Records bytes) (λ i l. bad_field_iff Records bytes i), λ _. tt)
field_tests_lem (slots pads ports) = (
  each_test 4 _ (BadField Slots pads) (bad_field Slots pads) (λ i l. bad_field_iff Slots pads i),
  λ _. (each_test 4 _ (λ q. Outside (port_of Slots ports q)) (bad_height Slots ports) (λ q l. outside_iff (port_of Slots ports q)), λ _. tt),
)

board_tests_lem : (job : Job) → TestsOf (board_tests (form_of job) (pads_of job) (ports_of job)) (board_trials job)
board_tests_lem job = (
  each_test 5 _ _ (not_above (form_of job) (ports_of job)) (λ q l. not_above_iff (form_of job) (ports_of job) q),
  λ _. (
    each_test 12 _ _ (too_close (form_of job) (ports_of job)) (λ q l. too_close_iff (form_of job) (ports_of job) q),
    λ _. (
      each_test 6 _ _ (with_earlier (same_name (pads_of job))) (λ i l. with_earlier_iff (same_name (pads_of job)) (SameName (pads_of job)) i (λ j k. same_name_iff (pads_of job) i j)),
      λ _. (each_test 7 _ _ (with_earlier (same_x (pads_of job))) (λ i l. with_earlier_iff (same_x (pads_of job)) (SameX (pads_of job)) i (λ j k. same_x_iff (pads_of job) i j)), λ _. tt),
    ),
  ),
)

job_tests_lem : (job : Job) → TestsOf (job_tests (form_of job) (pads_of job) (ports_of job)) (job_trials job)
unfolding job_tests
job_tests_lem job =
    tests_append (field_tests (form_of job) (pads_of job) (ports_of job)) (board_tests (form_of job) (pads_of job) (ports_of job)) (field_trials job) (board_trials job)
    (field_tests_lem job) (λ _. board_tests_lem job)

room_tests_lem : (job : Job) (work : Work) (room : ℕ) → TestsOf (room_tests (form_of job) (pads_of job) (ports_of job) work room) (room_trials job work room)
room_tests_lem job work room = (
  whole_test 3 (room < count (pads_of job)) (ltb room (count (pads_of job))) (ltb_iff room (count (pads_of job))),
  λ _. tests_append (enough_tests (form_of job) (pads_of job) (ports_of job)) (work_tests (board_of job).pads (board_of job).ports work)
      (enough_trials job) (work_trials (board_of job) work) (enough_tests_lem job) (λ _. work_tests_lem (board_of job) work),
)

badness_test_lem : (b : Board) (bad : Badness) → TestOf (badness_test b bad) (badness_trial b bad)
badness_test_lem b (by_weights lw bw) = whole_test 2 (BadWeight lw bw) (bad_weight lw bw) (bad_weight_iff lw bw)
badness_test_lem b (by_table figures) =
    whole_test 13 (length figures ≢ b.pads * b.ports) (bad_table b.pads b.ports (length figures)) (bad_table_iff b.pads b.ports (length figures))

pub sound_tests_lem : (job : Job) (bad : Badness) (work : Work) (room : ℕ) → TestsOf (sound_tests_of job bad work room) (sound_trials job bad work room)
unfolding sound_tests
sound_tests_lem job bad work room =
    tests_append (size_tests (form_of job) (pads_of job) (ports_of job))
    (badness_test (board_of job) bad ∷ room_tests (form_of job) (pads_of job) (ports_of job) work room ++ job_tests (form_of job) (pads_of job) (ports_of job))
    (size_trials job) (badness_trial (board_of job) bad ∷ room_trials job work room ++ job_trials job)
    (size_tests_lem job) (λ _. (
      badness_test_lem (board_of job) bad,
      λ _. tests_append (room_tests (form_of job) (pads_of job) (ports_of job) work room) (job_tests (form_of job) (pads_of job) (ports_of job))
          (room_trials job work room) (job_trials job) (room_tests_lem job work room) (λ _. job_tests_lem job),
    ))

-- 7 is passed: the x of all pads differ.
pub passed_differ : (job : Job) → Passed (job_trials job) → Differ (board_of job)
passed_differ job passed i j k l e = (append_passed (field_trials job) (board_trials job) passed).1.1.1.1.0 i l (j, k, e)

-- These trials are passed exactly if their parts are.
pub sound_parts : (job : Job) (bad : Badness) (work : Work) (room : ℕ) → Passed (sound_trials job bad work room)
    ↔ (Passed (size_trials job) × Clean (badness_trial (board_of job) bad) × Passed (room_trials job work room) × Passed (job_trials job))
sound_parts job bad work room = (
  (λ p.
      let (sizes, (given, rest)) = append_passed (size_trials job) (badness_trial (board_of job) bad ∷ room_trials job work room ++ job_trials job) p in
      let (roomy, passed) = append_passed (room_trials job work room) (job_trials job) rest in
      (sizes, given, roomy, passed)),
  (λ (sizes, given, roomy, passed).
      passed_append (size_trials job) (badness_trial (board_of job) bad ∷ room_trials job work room ++ job_trials job) sizes
      (given, passed_append (room_trials job work room) (job_trials job) roomy passed)),
)

layout_tests_lem : (b : Board) → Differ b → (list : List ℕ) → TestsOf (layout_tests b list) (layout_trials b list)
unfolding layout_tests
layout_tests_lem b differ list = (
  each_test 8 _ _ (bad_entry b.ports list) (λ i l. bad_entry_iff b.ports list i),
  λ _. (
    pairs_test 9 b.pads (Touching b (held list)) (records_touch b (held list)) (λ i j l k. records_iff b (held list) i j (differ i j k l)),
    λ _. tt,
  ),
)

pub measure_tests_lem : (job : Job) (bad : Badness) (work : Work) (list : List ℕ) → TestsOf (measure_tests_of job bad work list) (measure_trials job bad work list)
unfolding measure_tests
measure_tests_lem job bad work list =
    tests_append (sound_tests_of job bad work (length list)) (layout_tests (board_of job) list) (sound_trials job bad work (length list)) _
    (sound_tests_lem job bad work (length list))
    (λ passed. layout_tests_lem (board_of job) (passed_differ job ((sound_parts job bad work (length list)).0 passed).3) list)

pub draw_tests_lem : (bytes : List ℕ) (i q room : ℕ) → TestsOf (draw_tests bytes i q room) (draw_trials bytes i q room)
unfolding draw_tests
draw_tests_lem bytes i q room = (
  (size_tests_lem (records bytes)).0,
  λ _. (
    whole_test 3 (room < 6) (ltb room 6) (ltb_iff room 6),
    λ _. tests_append (job_tests Records bytes bytes) _ (job_trials (records bytes)) _ (job_tests_lem (records bytes)) (λ _. (
      whole_test 11 ((count bytes ≤ i) ⊎ (count bytes ≤ q)) (bad_number (count bytes) i q) (bad_number_iff (count bytes) i q),
      λ _. tt,
    )),
  ),
)

-- THEOREM: for every input, a call's trials are passed or one of them refuses.
pub measure_decided : (job : Job) (bad : Badness) (work : Work) (list : List ℕ) → Decided (measure_trials job bad work list)
measure_decided job bad work list = tests_decide (measure_tests_of job bad work list) (measure_trials job bad work list) (measure_tests_lem job bad work list)

pub draw_decided : (bytes : List ℕ) (i q room : ℕ) → Decided (draw_trials bytes i q room)
draw_decided bytes i q room = tests_decide (draw_tests bytes i q room) (draw_trials bytes i q room) (draw_tests_lem bytes i q room)
