-- Trying every assignment of ports to pads, as a program would: tests that tell whether a layout is best, the first, the next or the last.
--     best_iff, first_iff, next_iff, last_iff: of any problem that is searchable;  labeling_searchable: one-sided labeling is
use Rattle.std.specs.Prelude.{◌≡◌, refl, ◌⊎◌, ◌↔◌, not, ◌&&◌, T, leb, ltb, eqb, length}
use Rattle.std.proofs.Common.{sym, ap, inl, inr, ⊎_elim, le_of_suc-le-suc, not-suc-le-zero, zero-lt-suc, arith}
use Rattle.std.proofs.Math.Bool.{Bool}
use mathlib.Core.List.Memᴰ
use mathlib.Core.List.{List, [], ◌∷◌, ◌++◌, map}
use mathlib.Core.List.{Memᴰ}
use Prim.Native.Nat.{ℕ, zero, suc, ◌<◌, ◌≤◌, suc-le-suc}
use Rattle.std.proofs.Math.Decide.{dec_lt, ℕ_discrete}
use Rattle.numbers.proofs.Tests.{either, dec_iff, and_iff, or_iff, not_iff, leb_iff, ltb_iff, eqb_iff}
use Rattle.paper.specs.Layouts.{Board, held, Touching, Untouching, Differ, Same}
use Rattle.paper.specs.Problem.{Problem, Best, Before, FirstBest, NextBest, LastBest, labeling}
use Rattle.paper.specs.Refusals.{Earlier}
use Rattle.paper.specs.laws.Tests.{somewhere, with_earlier, records_touch}
use Rattle.paper.proofs.laws.Tests.{somewhere_iff, with_earlier_iff}
use Rattle.paper.proofs.laws.Boards.{untouching_of, untouching_same, total_same}
use Rattle.paper.proofs.laws.Squares.{records_iff}
use Rattle.paper.proofs.laws.Order.{Steady, before_same, best_same}
use Rattle.paper.specs.laws.Trying.{heads, words, row, any, some_word, least_test, misled, untouching_test, differ_right, decided_at, before_test, cheaper, best_test, first_test, later_test, next_test, last_test}

-- ---- all assignments

pub row-length : (n : ℕ) (f : ℕ → ℕ) → length (row n f) ≡ n
unfolding row
row-length zero f = refl
row-length (suc n) f = ap suc (row-length n (λ i. f (suc i)))

pub row-at : (n : ℕ) (f : ℕ → ℕ) (i : ℕ) → i < n → held (row n f) i ≡ f i
unfolding row
row-at zero f i l = absurd (not-suc-le-zero l)
row-at (suc n) f zero l = refl
row-at (suc n) f (suc i) l = row-at n (λ i. f (suc i)) i (le_of_suc-le-suc l)

heads_all : (p : ℕ) (ws : List (List ℕ)) (q : ℕ) (w : List ℕ) → q < p → Memᴰ w ws → Memᴰ (q ∷ w) (heads p ws)
unfolding heads
heads_all zero ws q w l m = absurd (not-suc-le-zero l)
heads_all (suc p) ws q w l m = go (dec_lt q p) (λ d. heads_all p ws q w d m)
  where
    go : Dec (q < p) → (q < p → Memᴰ (q ∷ w) (heads p ws)) → Memᴰ (q ∷ w) (heads p ws ++ map (λ v. p ∷ v) ws)
    go (yes d) ih = Memᴰ.append_left (map (λ v. p ∷ v) ws) (ih d)
    go (no d) ih = let e : q ≡ p = omega arith in rw e (Memᴰ.append_right (heads p ws) (Memᴰ.map (λ v. p ∷ v) m))

-- Every function with values below p is among them, as its row.
pub words_all : (n p : ℕ) (f : ℕ → ℕ) → ((i : ℕ) → i < n → f i < p) → Memᴰ (row n f) (words n p)
unfolding words row
words_all zero p f h = Memᴰ.head refl
words_all (suc n) p f h =
    heads_all p (words n p) (f 0) (row n (λ i. f (suc i))) (h 0 (zero-lt-suc n)) (words_all n p (λ i. f (suc i)) (λ i l. h (suc i) (suc-le-suc l)))

-- ---- tests, and what they say

any_found : (t : List ℕ → Bool) (ws : List (List ℕ)) → T (any t ws) → (w : List ℕ) × T (t w)
unfolding any
any_found t [] e = absurd e
any_found t (w ∷ ws) e = ⊎_elim (λ h. (w, h)) (any_found t ws) ((either (t w) (any t ws)).0 e)

any_here : (t : List ℕ → Bool) (ws : List (List ℕ)) (w : List ℕ) → Memᴰ w ws → T (t w) → T (any t ws)
unfolding any
any_here t [] w m h = absurd (Memᴰ.not-nil m)
any_here t (v ∷ ws) w m h = (either (t v) (any t ws)).1 (⊎_elim (λ e. inl (rw e at h)) (λ k. inr (any_here t ws w k h)) (Memᴰ.cases_cons m))

-- ---- a test of layouts, tried on every assignment

-- The test t tells whether a layout has the property P, which depends on the ports of the board's pads alone.
pub record Tells (b : Board) (t : (ℕ → ℕ) → Bool) (P : (ℕ → ℕ) → Type 0) : Type 0 where
  pub iff : (f : ℕ → ℕ) → T (t f) ↔ P f
  pub same : (f g : ℕ → ℕ) → Same b f g → P f → P g

and_tells : (b : Board) {s t : (ℕ → ℕ) → Bool} {P Q : (ℕ → ℕ) → Type 0} → Tells b s P → Tells b t Q → Tells b (λ f. s f && t f) (λ f. P f × Q f)
and_tells b {s} {t} p q =
    record { iff = λ f. and_iff (s f) (t f) (p.iff f) (q.iff f); same = λ f g e h. (p.same f g e h.0, q.same f g e h.1) }

-- Every pad has a port of the board.
abbrev pub Inside : Board → (ℕ → ℕ) → Type 0
Inside b f = (i : ℕ) → i < b.pads → f i < b.ports

-- THEOREM. Where only ports of the board pass, some assignment passes exactly if some function at all has the property; so one is found, or none has it.
module _ (b : Board) {t : (ℕ → ℕ) → Bool} {P : (ℕ → ℕ) → Type 0} (tells : Tells b t P) (only : (f : ℕ → ℕ) → P f → Inside b f) where
  pub some_word_iff : T (some_word b t) ↔ ((f : ℕ → ℕ) × P f)
  unfolding some_word
  some_word_iff = (there, back)
    where
      all : List (List ℕ)
      all = words b.pads b.ports

      there : T (any (λ w. t (held w)) all) → (f : ℕ → ℕ) × P f
      there e = let r = any_found (λ w. t (held w)) all e in (held r.0, (tells.iff (held r.0)).0 r.1)

      back : (f : ℕ → ℕ) × P f → T (any (λ w. t (held w)) all)
      back (f, h) =
          let w = row b.pads f in
          any_here (λ w. t (held w)) all w (words_all b.pads b.ports f (only f h))
          ((tells.iff (held w)).1 (tells.same f (held w) (λ i l. sym (row-at b.pads f i l)) h))

  pub some_word_dec : Dec ((f : ℕ → ℕ) × P f)
  some_word_dec = dec_iff (some_word b t) some_word_iff

module _ (b : Board) {less : (ℕ → ℕ) → (ℕ → ℕ) → Bool} {Less : (ℕ → ℕ) → (ℕ → ℕ) → Type 0} {t : (ℕ → ℕ) → Bool} {P : (ℕ → ℕ) → Type 0}
    (smaller : (f : ℕ → ℕ) → Tells b (λ g. less g f) (λ g. Less g f)) (tells : Tells b t P) (only : (f : ℕ → ℕ) → P f → Inside b f) where
  -- A lesser one is found, or there is none.
  pub some_less_dec : (f : ℕ → ℕ) → Dec ((g : ℕ → ℕ) × (Less g f × P g))
  some_less_dec f = some_word_dec b (and_tells b (smaller f) tells) (λ g h. only g h.1)

  -- THEOREM. The test tells the least.
  least_iff : (f : ℕ → ℕ) → T (least_test b less t f) ↔ (P f × ((g : ℕ → ℕ) → P g → ¬ Less g f))
  unfolding least_test
  least_iff f = ((λ e. let r = parts.0 e in (r.0, λ g h l. r.1 (g, (l, h)))), (λ (h, n). parts.1 (h, λ (g, (l, k)). n g k l)))
    where
      lesser : Bool
      lesser = some_word b (λ g. less g f && t g)

      parts : T (t f && not lesser) ↔ (P f × ¬ ((g : ℕ → ℕ) × (Less g f × P g)))
      parts = and_iff (t f) (not lesser) (tells.iff f) (not_iff lesser (some_word_iff b (and_tells b (smaller f) tells) (λ g h. only g h.1)))

-- ---- untouching, and before

module _ (b : Board) (differ : Differ b) where
  -- THEOREM. The test tells whether a layout is untouching.
  pub untouching_iff : (f : ℕ → ℕ) → T (untouching_test b f) ↔ Untouching b f
  unfolding untouching_test misled
  untouching_iff f = ((λ e. there (parts.0 e)), (λ u. parts.1 (back u)))
    where
      Misled : ℕ → Type 0
      Misled i = (b.ports ≤ f i) ⊎ Earlier (Touching b f) i

      parts : T (not (somewhere (misled b f) b.pads)) ↔ (¬ ((i : ℕ) × (i < b.pads) × Misled i))
      parts = not_iff (somewhere (misled b f) b.pads) (somewhere_iff (misled b f) Misled b.pads (λ i l.
          or_iff (leb b.ports (f i)) (with_earlier (records_touch b f) i) (leb_iff b.ports (f i))
          (with_earlier_iff (records_touch b f) (Touching b f) i (λ j k. records_iff b f i j (differ i j k l)))))

      there : ¬ ((i : ℕ) × (i < b.pads) × Misled i) → Untouching b f
      there n =
          untouching_of b f (λ i l. let k : ¬ (b.ports ≤ f i) = λ k. n (i, l, inl k) in omega arith) (λ i j k l t. n (i, l, inr (j, k, t)))

      back : Untouching b f → ¬ ((i : ℕ) × (i < b.pads) × Misled i)
      back u (i, l, inl k) = omega (arith, u.layout.inside i l)
      back u (i, l, inr (j, k, t)) = u.apart i j k l t

-- THEOREM. The test tells whether f comes before g.
pub before_iff : (b : Board) (f g : ℕ → ℕ) → T (before_test b f g) ↔ Before b f g
unfolding before_test decided_at differ_right
before_iff b f g = ((λ e. there (parts.0 e)), (λ h. parts.1 (h.pad, h.inside, (h.smaller, λ (j, l, (k, d)). d (h.alike j l k)))))
  where
    Differ-right : ℕ → ℕ → Type 0
    Differ-right i j = (b.x i < b.x j) × ¬ (f j ≡ g j)

    Decided-at : ℕ → Type 0
    Decided-at i = (f i < g i) × ¬ ((j : ℕ) × (j < b.pads) × Differ-right i j)

    parts : T (somewhere (decided_at b f g) b.pads) ↔ ((i : ℕ) × (i < b.pads) × Decided-at i)
    parts = somewhere_iff (decided_at b f g) Decided-at b.pads (λ i l.
        and_iff (ltb (f i) (g i)) (not (somewhere (differ_right b f g i) b.pads)) (ltb_iff (f i) (g i))
        (not_iff (somewhere (differ_right b f g i) b.pads) (somewhere_iff (differ_right b f g i) (Differ-right i) b.pads (λ j k.
        and_iff (ltb (b.x i) (b.x j)) (not (eqb (f j) (g j))) (ltb_iff (b.x i) (b.x j)) (not_iff (eqb (f j) (g j)) (eqb_iff (f j) (g j)))))))

    there : (i : ℕ) × (i < b.pads) × Decided-at i → Before b f g
    there (i, l, (k, n)) = record { pad = i; inside = l; smaller = k; alike = λ j m r. go j m r (ℕ_discrete (f j) (g j)) }
      where
        go : (j : ℕ) → j < b.pads → b.x i < b.x j → Dec (f j ≡ g j) → f j ≡ g j
        go j m r (yes e) = e
        go j m r (no d) = absurd (n (j, m, (r, d)))

pub before_tells : (b : Board) (f : ℕ → ℕ) → Tells b (λ g. before_test b g f) (λ g. Before b g f)
before_tells b f = record { iff = λ g. before_iff b g f; same = λ g h e. before_same b g f h f e (λ i l. refl) }

after_tells : (b : Board) (l : ℕ → ℕ) → Tells b (before_test b l) (Before b l)
after_tells b l = record { iff = before_iff b l; same = λ g h e. before_same b l g l h (λ i k. refl) e }

-- ---- best, first, next and last

-- A problem whose best layouts trying finds: a test tells which layouts count, and only ports of the board do.
pub record Searchable (p : Problem) : Type 0 where
  pub differ : Differ p.board
  pub steady : Steady p
  pub test : (ℕ → ℕ) → Bool
  pub tells : (f : ℕ → ℕ) → T (test f) ↔ p.Counts f
  pub inside : (f : ℕ → ℕ) → p.Counts f → Inside p.board f

module _ (p : Problem) (S : Searchable p) where
  pub counts_tells : Tells p.board S.test p.Counts
  counts_tells = record { iff = S.tells; same = S.steady.counts_same }

  pub cheaper_tells : (f : ℕ → ℕ) → Tells p.board (λ g. cheaper p g f) (λ g. p.value g < p.value f)
  unfolding cheaper
  cheaper_tells f = record { iff = λ g. ltb_iff (p.value g) (p.value f); same = λ g h e l. omega (arith, S.steady.value_same g h e) }

  -- A best layout has ports of the board.
  pub best_inside : (f : ℕ → ℕ) → Best p f → Inside p.board f
  best_inside f s = S.inside f s.counts

  -- THEOREM. The tests tell whether a layout is best,
  pub best_iff : (f : ℕ → ℕ) → T (best_test p S.test f) ↔ Best p f
  unfolding best_test
  best_iff f =
      let parts = least_iff p.board cheaper_tells counts_tells S.inside f in (
        (λ e. let r = parts.0 e in record { counts = r.0; least = λ g u. omega (arith, r.1 g u) }),
        (λ s. parts.1 (s.counts, λ g u. omega (arith, s.least g u))),
      )

  pub best_dec : (f : ℕ → ℕ) → Dec (Best p f)
  best_dec f = dec_iff (best_test p S.test f) (best_iff f)

  pub best_tells : Tells p.board (best_test p S.test) (Best p)
  best_tells = record { iff = best_iff; same = best_same p S.steady }

  pub later_tells : (l : ℕ → ℕ) → Tells p.board (later_test p S.test l) (λ g. Before p.board l g × Best p g)
  unfolding later_test
  later_tells l = and_tells p.board (after_tells p.board l) best_tells

  -- whether it is the earliest best one,
  pub first_iff : (f : ℕ → ℕ) → T (first_test p S.test f) ↔ FirstBest p f
  unfolding first_test
  first_iff f =
      let parts = least_iff p.board (before_tells p.board) best_tells best_inside f in
      ((λ e. let r = parts.0 e in record { best = r.0; earliest = r.1 }), (λ s. parts.1 (s.best, s.earliest)))

  -- whether it is the earliest best one after l,
  pub next_iff : (l f : ℕ → ℕ) → T (next_test p S.test l f) ↔ NextBest p l f
  unfolding next_test
  next_iff l f =
      let parts = least_iff p.board (before_tells p.board) (later_tells l) (λ g s. best_inside g s.1) f in (
        (λ e. let r = parts.0 e in record { best = r.0.1; later = r.0.0; earliest = λ g s k. r.1 g (k, s) }),
        (λ s. parts.1 ((s.later, s.best), λ g (k, t). s.earliest g t k)),
      )

  -- and whether no best one comes after l.
  pub last_iff : (l : ℕ → ℕ) → T (last_test p S.test l) ↔ LastBest p l
  unfolding last_test
  last_iff l =
      let none = not_iff (some_word p.board (later_test p S.test l)) (some_word_iff p.board (later_tells l) (λ g s. best_inside g s.1)) in
      ((λ e g s k. none.0 e (g, (k, s))), (λ n. none.1 (λ (g, (k, s)). n g s k)))

-- One-sided labeling is such a problem, on every board whose pads differ in x.
pub labeling_steady : (b : Board) (cost : ℕ → ℕ → ℕ) → Steady (labeling b cost)
labeling_steady b cost = record { counts_same = untouching_same b; value_same = total_same b cost }

abbrev pub labeling_searchable : (b : Board) (cost : ℕ → ℕ → ℕ) → Differ b → Searchable (labeling b cost)
labeling_searchable b cost differ = record {
  differ = differ;
  steady = labeling_steady b cost;
  test = untouching_test b;
  tells = untouching_iff b differ;
  inside = λ f u. u.layout.inside;
}
