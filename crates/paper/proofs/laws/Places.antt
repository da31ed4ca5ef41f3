-- Places: best layouts have places, counted from 0 in 01's order, and so many.
--     place_one, place_best, place_same, place-before, place_under: a place has one layout, it is best, places rise, and every one below is taken
--     count_one, place-below, place_taken, every-place, own_place, only_place: there is one count, below it every place is taken, and each best layout has one place
--     follow_place, count_exists: layouts that follow the first are at their places; they come to an end
--     count_decided, place_decided, count_opened, place_opened, count_few, place_accepts: the trials of Count and Place
--     count-refused, count_none, count_short, count_many, count_passed, place-refused .. place_passed: on a job, for the code that has checked 1 to 7 and counted
use Rattle.std.specs.Prelude.{◌≡◌, refl, ◌⊎◌, ◌↔◌, Bool, List, [], ◌∷◌, ◌++◌, ℕ, zero, suc, ◌+◌, ◌≤◌, ◌<◌, T, leb, ltb, None}
use Rattle.std.proofs.Common.{sym, subst, inl, inr, ⊎_elim, le_of_suc-le-suc, eq-or-lt_of_le, lt_of_not-le, arith}
use Rattle.std.proofs.Math.Decide.{dec_lt}
use Rattle.numbers.proofs.Tests.{leb_iff, ltb_iff}
use Rattle.paper.specs.declared.Refusal.{Refusal}
use Rattle.paper.specs.Job.{Job}
use Rattle.paper.specs.Layouts.{board_of, Untouching, Same, Differ, Badness}
use Rattle.paper.specs.Problem.{Problem, Best, Before, FirstBest, NextBest, LastBest, PlaceBest, CountBest, labeling_of}
use Rattle.paper.specs.Refusals.{Trial, Passed, RefusedBy, refusal, of_whole, NoLayout, sound_trials, first_trials, Calls, entries, calls_of}
use Rattle.paper.specs.Refusals.{limit, buffer_needed, TooMany, PastCount, number_trials, count_trials, place_trials}
use Rattle.paper.proofs.laws.Trials.{passed_append, append_passed, refused_left}
use Rattle.paper.specs.laws.Tests.{Test, at_whole}
use Rattle.paper.specs.laws.Decided.{TestsOf}
use Rattle.paper.proofs.laws.Decided.{Decided, decided_append, tests_append, tests_decide, whole_test}
use Rattle.paper.proofs.laws.Accepted.{first_passed, sound_refused}
use Rattle.paper.proofs.laws.Named.{count_15, count_18, count_16, place_15, place_18, place_16, place_17}
use Rattle.paper.proofs.laws.Order.{Steady, before_irrefl, before_same, before_trans, before-total, first_best_one, first_best_same}
use Rattle.paper.proofs.laws.Order.{next_best_one, next_best_same, next_of_same, next_not_last, last_of_same, neither_before}
use Rattle.paper.proofs.laws.Pages.{Follow}
use Rattle.paper.proofs.laws.Trying.{Searchable, best_inside}
use Rattle.paper.proofs.laws.Rank.{climbs}
use Rattle.paper.proofs.laws.Earliest.{first_exists, next_or_last}
use Rattle.paper.proofs.laws.Regular.{Regular}

module _ (p : Problem) where
  -- A place has one layout,
  pub place_one : (k : ℕ) (f g : ℕ → ℕ) → PlaceBest p k f → PlaceBest p k g → Same p.board f g
  place_one zero f g s t = first_best_one p f g s t
  place_one (suc k) f g (x, s, u) (y, t, v) = next_best_one p y f g (next_of_same p x y f (place_one k x y s t) u) v

  -- which is a best one.
  pub place_best : (k : ℕ) (f : ℕ → ℕ) → PlaceBest p k f → Best p f
  place_best zero f s = s.best
  place_best (suc k) f (g, s, u) = u.best

  -- Every place below one is taken, and not by the last.
  pub place_under : (l k : ℕ) (g : ℕ → ℕ) → k < l → PlaceBest p l g → (f : ℕ → ℕ) × PlaceBest p k f × (¬ LastBest p f)
  place_under zero k g h s = absurd (omega arith)
  place_under (suc l) k g h (x, s, u) =
      ⊎_elim (λ e. rw e (x, s, next_not_last p x g u)) (λ i. place_under l k x i s) (eq-or-lt_of_le (le_of_suc-le-suc h))

  -- So the places that are taken are below the count,
  pub place-below : (c k : ℕ) (f : ℕ → ℕ) → CountBest p c → PlaceBest p k f → k < c
  place-below c k f N s = go (dec_lt k c)
    where
      go : Dec (k < c) → k < c
      go (yes h) = h
      go (no h) =
          let (x, u, n) = place_under k N.last f (omega (arith, N.more)) s in
          absurd (n (last_of_same p N.layout x (place_one N.last N.layout x N.at u) N.end))

  -- there is one count, which is 1 or more,
  pub count_one : (c d : ℕ) → CountBest p c → CountBest p d → c ≡ d
  count_one c d M N =
      omega (arith, M.more, N.more, place-below c N.last N.layout M N.at, place-below d M.last M.layout N M.at)

  pub count_some : (c : ℕ) → CountBest p c → 0 < c
  count_some c N = omega (arith, N.more)

  -- and every place below it is taken.
  pub place_taken : (c k : ℕ) → CountBest p c → k < c → (f : ℕ → ℕ) × PlaceBest p k f
  place_taken c k N h = go (dec_lt k N.last)
    where
      go : Dec (k < N.last) → (f : ℕ → ℕ) × PlaceBest p k f
      go (yes l) = let t = place_under N.last k N.layout l N.at in (t.0, t.1)
      go (no l) = let e : k ≡ N.last = omega (arith, N.more) in rw e (N.layout, N.at)

  -- Layouts that follow the first are at their places.
  pub follow_place : (f : ℕ → ℕ → ℕ) → FirstBest p (f 0) → (k : ℕ) → Follow p k f → PlaceBest p k (f k)
  follow_place f first zero F = first
  follow_place f first (suc k) F = (f k, follow_place f first k (λ j h. F j (omega arith)), F k (omega arith))

  -- A place depends only on the pads' ports.
  pub place_same : Steady p → (k : ℕ) (f g : ℕ → ℕ) → Same p.board f g → PlaceBest p k f → PlaceBest p k g
  place_same steady zero f g same s = first_best_same p steady f g same s
  place_same steady (suc k) f g same (x, s, u) = (x, s, next_best_same p steady x f g same u)

  module _ (differ : Differ p.board) where
    -- Places rise in 01's order,
    pub place-before : (k l : ℕ) (f g : ℕ → ℕ) → k < l → PlaceBest p k f → PlaceBest p l g → Before p.board f g
    place-before k zero f g h s t = absurd (omega arith)
    place-before k (suc l) f g h s (x, t, u) =
        ⊎_elim
        (λ e. before_same p.board x g f g (place_one l x f t (rw e at s)) (λ i m. refl) u.later)
        (λ i. before_trans p.board differ f x g (place-before k l f x i s t) u.later)
        (eq-or-lt_of_le (le_of_suc-le-suc h))

    -- so that a layout has no second place.
    pub own_place : (k l : ℕ) (f g : ℕ → ℕ) → Same p.board f g → PlaceBest p k f → PlaceBest p l g → k ≡ l
    own_place k l f g same s t = go (dec_lt k l) (dec_lt l k)
      where
        clash : (f g : ℕ → ℕ) → Same p.board f g → ¬ Before p.board f g
        clash f g same h = before_irrefl p.board g (before_same p.board f g g g same (λ i m. refl) h)

        go : Dec (k < l) → Dec (l < k) → k ≡ l
        go (yes h) d = absurd (clash f g same (place-before k l f g h s t))
        go (no h) (yes i) = absurd (clash g f (λ j m. sym (same j m)) (place-before l k g f i t s))
        go (no h) (no i) = omega arith

    -- Every best layout that is not after one with a place has a place, up to that one.
    place_upto : Steady p → (f : ℕ → ℕ) → Best p f → (k : ℕ) (g : ℕ → ℕ) → PlaceBest p k g → ¬ Before p.board g f → (j : ℕ) × (j ≤ k) × PlaceBest p j f
    place_upto steady f best zero g s n = (0, omega arith, place_same steady 0 g f (neither_before p.board g f n (s.earliest f best)) s)
    place_upto steady f best (suc k) g (x, s, u) n = go (before-total p.board x f) (place_upto steady f best k x s)
      where
        go : Before p.board x f ⊎ Same p.board x f ⊎ Before p.board f x → (¬ Before p.board x f → (j : ℕ) × (j ≤ k) × PlaceBest p j f)
            → (j : ℕ) × (j ≤ suc k) × PlaceBest p j f
        go (inl h) rest = (suc k, omega arith, (x, s, next_best_same p steady x g f (neither_before p.board g f n (u.earliest f best h)) u))
        go (inr (inl same)) rest = (k, omega arith, place_same steady k x f same s)
        go (inr (inr h)) rest =
            let r = rest (λ i. before_irrefl p.board x (before_trans p.board differ x f x i h)) in
            (r.0, omega (arith, r.1), r.2)

    -- THEOREM. Every best layout has a place below the count.
    pub every-place : Steady p → (c : ℕ) → CountBest p c → (f : ℕ → ℕ) → Best p f → (k : ℕ) × (k < c) × PlaceBest p k f
    every-place steady c N f best =
        let r = place_upto steady f best N.last N.layout N.at (N.end f best) in
        (r.0, omega (arith, r.1, N.more), r.2)

    pub only_place : Steady p → (c : ℕ) → CountBest p c → (f : ℕ → ℕ) → Best p f → (k : ℕ) × (k < c) × PlaceBest p k f × ((j : ℕ) → PlaceBest p j f → j ≡ k)
    only_place steady c N f best = let r = every-place steady c N f best in (r.0, r.1, r.2, λ j s. own_place j r.0 f f (λ i h. refl) s r.2)

-- From a place on the next one is taken, or the last is there: there is a count.
module _ (p : Problem) (S : Searchable p) where
  abbrev Placed : Type 0
  Placed = (k : ℕ) × (f : ℕ → ℕ) × PlaceBest p k f

  best_at : (x : Placed) → Best p x.1
  best_at x = place_best p x.0 x.1 x.2

  count_from : Placed → (c : ℕ) × CountBest p c
  count_from =
      climbs p.board S.differ {X = Placed} (λ x. x.1) (λ x. best_inside p S x.1 (best_at x)) (λ x. (c : ℕ) × CountBest p c)
      (λ x rest. go x rest (next_or_last p S x.1 (best_at x)))
    where
      go : (x : Placed) → ((y : Placed) → Before p.board x.1 y.1 → (c : ℕ) × CountBest p c)
          → ((g : ℕ → ℕ) × NextBest p x.1 g) ⊎ LastBest p x.1 → (c : ℕ) × CountBest p c
      go x rest (inl (g, next)) = rest (suc x.0, g, (x.1, x.2, next)) next.later
      go x rest (inr last) = (x.0 + 1, record { last = x.0; layout = x.1; at = x.2; end = last; more = refl })

-- THEOREM. So all that First accepts has one.
pub count_exists : (c : Calls) → Regular c → (room : ℕ) → Passed (c.first room) → (k : ℕ) × CountBest c.problem k
count_exists c R room accepted =
    let S = R.searchable room accepted in
    let u = R.exists room accepted in
    let f = first_exists c.problem S u.0 u.1 in
    count_from c.problem S (0, f.0, f.1)

-- ---- 18, 16 and 17, where the count is known

-- Place's last trial, and with it all that come after First's.
abbrev pub past_trials : Problem → ℕ → List Trial
past_trials p place = of_whole 17 (PastCount p place) ∷ []

abbrev pub later_trials : Problem → ℕ → ℕ → List Trial
later_trials p numbers place = number_trials p numbers ++ past_trials p place

-- They are passed: the buffer is long enough, there are no more than the limit, and the place is below their number.
module _ (p : Problem) (k : ℕ) (is : CountBest p k) where
  not_many : k ≤ limit → ¬ TooMany p
  not_many h (c, N, g) = omega (arith, count_one p c k N is)

  few : (numbers : ℕ) → buffer_needed p.board.pads ≤ numbers → k ≤ limit → Passed (number_trials p numbers)
  few numbers enough h = ((λ i l short. omega arith), ((λ i l. not_many h), tt))

  within : (numbers place : ℕ) → buffer_needed p.board.pads ≤ numbers → k ≤ limit → place < k → Passed (later_trials p numbers place)
  within numbers place enough h l =
      passed_append (number_trials p numbers) (past_trials p place) (few numbers enough h) ((λ i m (c, N, g). omega (arith, count_one p c k N is)), tt)

-- So they are told by the count.
abbrev pub number_tests : ℕ → ℕ → ℕ → List Test
number_tests n numbers k = at_whole 18 (ltb numbers (buffer_needed n)) ∷ at_whole 16 (ltb limit k) ∷ []

abbrev pub past_tests : ℕ → ℕ → List Test
past_tests k place = at_whole 17 (leb k place) ∷ []

abbrev pub later_tests : ℕ → ℕ → ℕ → ℕ → List Test
later_tests n numbers k place = number_tests n numbers k ++ past_tests k place

module _ (p : Problem) (k : ℕ) (is : CountBest p k) where
  -- What is said of the number of best layouts is said of k.
  of_count_lem : (t : Bool) (P : ℕ → Type 0) → T t ↔ P k → T t ↔ ((c : ℕ) × CountBest p c × P c)
  of_count_lem t P says = ((λ h. (k, is, says.0 h)), (λ (c, N, x). says.1 (subst P (count_one p c k N is) x)))

  pub number_tests_lem : (numbers : ℕ) → TestsOf (number_tests p.board.pads numbers k) (number_trials p numbers)
  number_tests_lem numbers = (
    whole_test 18 (numbers < buffer_needed p.board.pads) (ltb numbers (buffer_needed p.board.pads)) (ltb_iff numbers (buffer_needed p.board.pads)),
    λ _. (whole_test 16 (TooMany p) (ltb limit k) (of_count_lem (ltb limit k) (λ c. limit < c) (ltb_iff limit k)), λ _. tt),
  )

  pub later_tests_lem : (numbers place : ℕ) → TestsOf (later_tests p.board.pads numbers k place) (later_trials p numbers place)
  later_tests_lem numbers place =
      tests_append (number_tests p.board.pads numbers k) (past_tests k place) (number_trials p numbers) (past_trials p place) (number_tests_lem numbers)
      (λ _. (whole_test 17 (PastCount p place) (leb k place) (of_count_lem (leb k place) (λ c. c ≤ place) (leb_iff k place)), λ _. tt))

-- THEOREM. Count's trials are passed, or one of them refuses; and so are Place's.
module _ (c : Calls) (R : Regular c) (numbers : ℕ) where
  pub count_decided : Decided (count_trials c numbers)
  count_decided = decided_append (c.first (entries c)) (number_trials c.problem numbers) (R.first_decided (entries c)) (λ p.
      let (k, is) = count_exists c R (entries c) p in
      tests_decide (number_tests (entries c) numbers k) (number_trials c.problem numbers) (number_tests_lem c.problem k is numbers))

  pub place_decided : (place room : ℕ) → Decided (place_trials c numbers place room)
  place_decided place room = decided_append (c.first room) (later_trials c.problem numbers place) (R.first_decided room) (λ p.
      let (k, is) = count_exists c R room p in
      tests_decide (later_tests (entries c) numbers k place) (later_trials c.problem numbers place) (later_tests_lem c.problem k is numbers place))

-- What is passed: First's trials, and the buffer is long enough.
module _ (c : Calls) (numbers : ℕ) where
  opened_by : (room : ℕ) (us : List Trial) → Passed (c.first room ++ (of_whole 18 (numbers < buffer_needed (entries c)) ∷ us))
      → Passed (c.first room) × (buffer_needed (entries c) ≤ numbers)
  opened_by room us p =
      let (first, rest) = append_passed (c.first room) (of_whole 18 (numbers < buffer_needed (entries c)) ∷ us) p in
      let long : ¬ (numbers < buffer_needed (entries c)) = rest.0 0 (omega arith) in
      (first, omega arith)

  pub count_opened : Passed (count_trials c numbers) → Passed (c.first (entries c)) × (buffer_needed (entries c) ≤ numbers)
  count_opened = opened_by (entries c) (of_whole 16 (TooMany c.problem) ∷ [])

  pub place_opened : (place room : ℕ) → Passed (place_trials c numbers place room) → Passed (c.first room) × (buffer_needed (entries c) ≤ numbers)
  place_opened place room = opened_by room (of_whole 16 (TooMany c.problem) ∷ past_trials c.problem place)

  -- THEOREM. A count that is not refused is at most the limit; and with it Place accepts exactly the places below it.
  module _ (k : ℕ) (passed : Passed (count_trials c numbers)) (is : CountBest c.problem k) where
    pub count_few : k ≤ limit
    count_few =
        let few : ¬ (limit < k) = λ h. (append_passed (c.first (entries c)) (number_trials c.problem numbers) passed).1.1.0 0 (omega arith) (k, is, h) in
        omega arith

    pub place_accepts : Regular c → (place room : ℕ) → entries c ≤ room → Passed (place_trials c numbers place room) ↔ (place < k)
    place_accepts R place room l = (
      (λ p.
          let later = (append_passed (c.first room) (later_trials c.problem numbers place) p).1 in
          lt_of_not-le (λ h. (append_passed (number_trials c.problem numbers) (past_trials c.problem place) later).1.0 0 (omega arith) (k, is, h))),
      (λ h.
          let (first, long) = count_opened passed in
          passed_append (c.first room) (later_trials c.problem numbers place) (R.other_room (entries c) room first l)
          (within c.problem k is numbers place long count_few h)),
    )

-- ---- Count and Place on a job, once 1 to 7 are told

module _ (job : Job) (bad : Badness) (numbers : ℕ) where
  abbrev p : Problem
  p = labeling_of job bad

  abbrev n : ℕ
  n = (board_of job).pads

  -- Where 1 to 7 are passed and a layout is untouching First's trials are passed; with a count there is one.
  opened : (room : ℕ) → Passed (sound_trials job bad None room) → (f : ℕ → ℕ) → Untouching (board_of job) f → Passed (first_trials job bad None room)
  opened room sound f u = first_passed job bad None room sound (λ none. none f u)

  counted : (room : ℕ) → Passed (sound_trials job bad None room) → (k : ℕ) → CountBest p k → Passed (first_trials job bad None room)
  counted room sound k is = opened room sound is.layout (place_best p is.last is.layout is.at).counts

  abbrev count_trials_of : List Trial
  count_trials_of = count_trials (calls_of job bad None) numbers

  pub count-refused : (r : Refusal) → RefusedBy (sound_trials job bad None n) r → RefusedBy count_trials_of r
  count-refused r a = refused_left (first_trials job bad None n) (number_trials p numbers) r (sound_refused job bad None n r a)

  module _ (sound : Passed (sound_trials job bad None n)) where
    pub count_none : NoLayout p → RefusedBy count_trials_of (refusal 15 0 0)
    count_none none = (count_15 job bad numbers).1 (sound, none)

    pub count_short : (f : ℕ → ℕ) → Untouching (board_of job) f → numbers < buffer_needed n → RefusedBy count_trials_of (refusal 18 0 0)
    count_short f u h = (count_18 job bad numbers).1 (opened n sound f u, h)

    module _ (enough : buffer_needed n ≤ numbers) (k : ℕ) (is : CountBest p k) where
      pub count_many : limit < k → RefusedBy count_trials_of (refusal 16 0 0)
      count_many h = (count_16 job bad numbers).1 (counted n sound k is, enough, (k, is, h))

      pub count_passed : k ≤ limit → Passed count_trials_of
      count_passed h = passed_append (first_trials job bad None n) (number_trials p numbers) (counted n sound k is) (few p k is numbers enough h)

  module _ (place room : ℕ) where
    abbrev place_trials_of : List Trial
    place_trials_of = place_trials (calls_of job bad None) numbers place room

    pub place-refused : (r : Refusal) → RefusedBy (sound_trials job bad None room) r → RefusedBy place_trials_of r
    place-refused r a = refused_left (first_trials job bad None room) (later_trials p numbers place) r (sound_refused job bad None room r a)

    module _ (sound : Passed (sound_trials job bad None room)) where
      pub place_none : NoLayout p → RefusedBy place_trials_of (refusal 15 0 0)
      place_none none = (place_15 job bad numbers place room).1 (sound, none)

      pub place_short : (f : ℕ → ℕ) → Untouching (board_of job) f → numbers < buffer_needed n → RefusedBy place_trials_of (refusal 18 0 0)
      place_short f u h = (place_18 job bad numbers place room).1 (opened room sound f u, h)

      module _ (enough : buffer_needed n ≤ numbers) (k : ℕ) (is : CountBest p k) where
        pub place_many : limit < k → RefusedBy place_trials_of (refusal 16 0 0)
        place_many h = (place_16 job bad numbers place room).1 (counted room sound k is, enough, (k, is, h))

        pub place_past : k ≤ limit → k ≤ place → RefusedBy place_trials_of (refusal 17 0 0)
        place_past h l = (place_17 job bad numbers place room).1 (counted room sound k is, enough, not_many p k is h, (k, is, l))

        pub place_passed : k ≤ limit → place < k → Passed place_trials_of
        place_passed h l =
            passed_append (first_trials job bad None room) (later_trials p numbers place) (counted room sound k is) (within p k is numbers place enough h l)
