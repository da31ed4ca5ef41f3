-- Counting: layouts chosen pad by pad by a test; how many there are, and at which place in their order each stands.
-- Assumes nothing.
use Prim.Native.Nat.{ℕ, zero, suc, ◌+◌, ◌-◌, ◌≤◌, ◌<◌}
use Rattle.std.specs.Prelude.{Bool, true, false, cond, ◌≡◌}
use mathlib.Core.List.Memᴰ
use mathlib.Core.List.{List, [], ◌∷◌, ◌++◌, append_assoc}
use Rattle.std.proofs.Common.{inl, inr, sym, ◌∙◌, add-one, eq-eqb, ne_eqb}
use Rattle.std.proofs.Math.Path.{refl, ap}
use native.Mathlib.Omega.{arith}
use Rattle.std.proofs.Math.Decide.{dec_le, dec_lt, ℕ_discrete}
use Rattle.strips.specs.Lists.{Distinct}
use Rattle.strips.proofs.Lists.{distinct_apart}
use Rattle.strips.specs.Order.{SameOn, EarlierOn}
use Rattle.strips.proofs.Order.{same_snoc}
use Rattle.strips.specs.Following.{EachPad}
use Rattle.strips.specs.ByPlace.{sum_to}
use Rattle.ways.specs.Tree.{put, ways, ways_at, rank, Passes, Placed}

-- ---- sums: of equal summands; up to a summand; past zeros; one summand more; the one in which the k-th unit lies

pub sum_cong : {F G : ℕ → ℕ} → ((q : ℕ) → F q ≡ G q) → (k : ℕ) → sum_to F k ≡ sum_to G k
sum_cong h k = λ i. sum_to (λ q. h q i) k

pub sum_mono : (F : ℕ → ℕ) (k n : ℕ) → k < n → sum_to F k + F k ≤ sum_to F n
unfolding sum_to
sum_mono F k zero h = absurd (omega arith)
sum_mono F k (suc n) h = go (dec_lt k n) (sum_mono F k n)
  where
    go : Dec (k < n) → (k < n → sum_to F k + F k ≤ sum_to F n) → sum_to F k + F k ≤ sum_to F n + F n
    go (yes l) ih = omega (arith, ih l)
    go (no l) ih = let e : k ≡ n = omega arith in rw e (omega arith)

pub sum-skip : (F : ℕ → ℕ) (x y : ℕ) → x ≤ y → ((i : ℕ) → x ≤ i → i < y → F i ≡ 0) → sum_to F y ≡ sum_to F x
unfolding sum_to
sum-skip F x zero h z = let e : x ≡ 0 = omega arith in rw e refl
sum-skip F x (suc y) h z = go (dec_le x y) (sum-skip F x y)
  where
    go : Dec (x ≤ y) → (x ≤ y → ((i : ℕ) → x ≤ i → i < y → F i ≡ 0) → sum_to F y ≡ sum_to F x) → sum_to F y + F y ≡ sum_to F x
    go (yes l) ih = let e = ih l (λ i u v. z i u (omega arith)) in let k = z y l (omega arith) in omega arith
    go (no l) ih = let e : x ≡ suc y = omega arith in rw e refl

pub sum_none : (F : ℕ → ℕ) → sum_to F 0 ≡ 0
unfolding sum_to
sum_none F = refl

pub sum_more : (F : ℕ → ℕ) (q : ℕ) → sum_to F (q + 1) ≡ sum_to F q + F q
unfolding sum_to
sum_more F q = rw (add-one q) refl

sum_find : (F : ℕ → ℕ) (n k : ℕ) → k < sum_to F n → (q : ℕ) × (q < n) × (sum_to F q ≤ k) × (k < sum_to F q + F q)
unfolding sum_to
sum_find F zero k h = absurd (omega arith)
sum_find F (suc n) k h = go (dec_lt k (sum_to F n)) (sum_find F n k)
  where
    go : Dec (k < sum_to F n) → (k < sum_to F n → (q : ℕ) × (q < n) × (sum_to F q ≤ k) × (k < sum_to F q + F q))
        → (q : ℕ) × (q < suc n) × (sum_to F q ≤ k) × (k < sum_to F q + F q)
    go (yes l) ih = let t = ih l in (t.0, omega (arith, t.1), t.2, t.3)
    go (no l) ih = (n, omega arith, omega arith, h)

pub put-at : (f : ℕ → ℕ) (j q : ℕ) → put f j q j ≡ q
unfolding put
put-at f j q = rw (eq-eqb j j refl)

pub put_other : (f : ℕ → ℕ) (j q k : ℕ) → (k ≡ j → ⊥) → put f j q k ≡ f k
unfolding put
put_other f j q k h = rw (ne_eqb k j h)

put_same : (f : ℕ → ℕ) (j k : ℕ) → put f j (f j) k ≡ f k
put_same f j k = go (ℕ_discrete k j)
  where
    go : Dec (k ≡ j) → put f j (f j) k ≡ f k
    go (yes e) = rw e (put-at f j (f j))
    go (no e) = put_other f j (f j) k e

put_cong : (f g : ℕ → ℕ) (j q : ℕ) (is : List ℕ) → SameOn is f g → SameOn is (put f j q) (put g j q)
unfolding put
put_cong f g j q is h k m = rw (h k m)

put_snoc : (f g : ℕ → ℕ) (j q : ℕ) (is : List ℕ) → SameOn is f g → SameOn (is ++ (j ∷ [])) (put f j q) (put g j q)
put_snoc f g j q is h = same_snoc (put f j q) (put g j q) is j (put_cong f g j q is h) (put-at f j q ∙ sym (put-at g j q))

-- The test says which ports below p pad j may have after the pads before it, and looks at the ports of those only.
module _ (p : ℕ) (test : (ℕ → ℕ) → List ℕ → ℕ → List ℕ → ℕ → Bool) where
  -- The next pad, for loops.
  pub ways_nil : (f : ℕ → ℕ) (done : List ℕ) → ways p test f done [] ≡ 1
  unfolding ways
  ways_nil f done = refl

  pub ways_cons : (f : ℕ → ℕ) (done : List ℕ) (j : ℕ) (todo : List ℕ) → ways p test f done (j ∷ todo) ≡ sum_to (ways_at p test f done j todo) p
  unfolding ways
  ways_cons f done j todo = refl

  pub rank_nil : (f : ℕ → ℕ) (done : List ℕ) → rank p test f done [] ≡ 0
  unfolding rank
  rank_nil f done = refl

  pub rank_cons : (f : ℕ → ℕ) (done : List ℕ) (j : ℕ) (todo : List ℕ) → rank p test f done (j ∷ todo) ≡ sum_to (ways_at p test f done j todo) (f j) + rank p test f (done ++ (j ∷ [])) todo
  unfolding rank
  rank_cons f done j todo = refl

  module _ (looks : (f g : ℕ → ℕ) (done : List ℕ) (j : ℕ) (todo : List ℕ) (q : ℕ) → SameOn done f g → test f done j todo q ≡ test g done j todo q) where
    pub ways_cong : (f g : ℕ → ℕ) (done todo : List ℕ) → SameOn done f g → ways p test f done todo ≡ ways p test g done todo
    unfolding ways
    ways_cong f g done [] h = refl
    ways_cong f g done (j ∷ todo) h = sum_cong (λ q. rw (
      looks f g done j todo q h,
      ways_cong (put f j q) (put g j q) (done ++ (j ∷ [])) todo
          (put_snoc f g j q done h),
    )) p

    pub ways_at_cong : (f g : ℕ → ℕ) (done : List ℕ) (j : ℕ) (todo : List ℕ) (q : ℕ) → SameOn done f g → ways_at p test f done j todo q ≡ ways_at p test g done j todo q
    ways_at_cong f g done j todo q h = rw (looks f g done j todo q h, ways_cong (put f j q) (put g j q) (done ++ (j ∷ [])) todo (put_snoc f g j q done h))

    -- At the port that f has, they are those that go on from f.
    pub ways_at_self : (f : ℕ → ℕ) (done : List ℕ) (j : ℕ) (todo : List ℕ) → test f done j todo (f j) ≡ true
        → ways_at p test f done j todo (f j) ≡ ways p test f (done ++ (j ∷ [])) todo
    ways_at_self f done j todo e = rw e (ways_cong (put f j (f j)) f (done ++ (j ∷ [])) todo (λ k m. put_same f j k))

    pub rank_cong : (f g : ℕ → ℕ) (done todo : List ℕ) → SameOn done f g → SameOn todo f g → rank p test f done todo ≡ rank p test g done todo
    unfolding rank
    rank_cong f g done [] h s = refl
    rank_cong f g done (j ∷ todo) h s =
        let e : f j ≡ g j = s j (Memᴰ.head refl) in
        omega (
          arith,
          rank_cong f g (done ++ (j ∷ [])) todo (same_snoc f g done j h e) (λ i m. s i (Memᴰ.tail m)),
          sum_cong (λ q. ways_at_cong f g done j todo q h) (f j),
          ap (sum_to (ways_at p test g done j todo)) e,
        )

    -- Each has a place below their number.
    pub rank_small : (f : ℕ → ℕ) (done todo : List ℕ) → Passes p test f done todo → rank p test f done todo < ways p test f done todo
    unfolding ways rank EachPad
    rank_small f done [] s = omega arith
    rank_small f done (j ∷ todo) s =
        omega (arith, rank_small f (done ++ (j ∷ [])) todo s.1, ways_at_self f done j todo s.0.passes, sum_mono (ways_at p test f done j todo) (f j) p s.0.small)

    -- The earlier has the smaller place.
    pub rank_rises : (f g : ℕ → ℕ) (done todo : List ℕ) → SameOn done f g → Passes p test f done todo → EarlierOn todo f g → rank p test f done todo < rank p test g done todo
    unfolding rank EachPad EarlierOn
    rank_rises f g done [] h s e = absurd e
    rank_rises f g done (j ∷ todo) h s (inl e) =
        omega (
          arith,
          rank_small f (done ++ (j ∷ [])) todo s.1,
          ways_at_self f done j todo s.0.passes,
          sum_mono (ways_at p test f done j todo) (f j) (g j) e,
          sum_cong (λ q. ways_at_cong f g done j todo q h) (g j),
        )
    rank_rises f g done (j ∷ todo) h s (inr e) =
        omega (
          arith,
          rank_rises f g (done ++ (j ∷ [])) todo (same_snoc f g done j h e.0) s.1 e.1,
          sum_cong (λ q. ways_at_cong f g done j todo q h)
              (f j),
          ap (sum_to (ways_at p test g done j todo)) e.0,
        )

    pub placed : (f : ℕ → ℕ) (done todo : List ℕ) (k : ℕ) → Distinct (done ++ todo) → k < ways p test f done todo → Placed p test looks f done todo k
    unfolding ways rank EachPad
    placed f done [] k d h = record { layout = f; before = λ i m. refl; passes = tt; place = omega arith }
    placed f done (j ∷ todo) k d h = go (sum_find (ways_at p test f done j todo) p k h) (λ q n l. placed (put f j q) (done ++ (j ∷ [])) todo n (rw
        (append_assoc done (j ∷ []) todo) d) l)
      where
        go : (q : ℕ) × (q < p) × (sum_to (ways_at p test f done j todo) q ≤ k) × (k < sum_to (ways_at p test f done j todo) q + ways_at p test f done j todo q) → ((q n : ℕ)
            → n < ways p test (put f j q) (done ++ (j ∷ [])) todo → Placed p test looks (put f j q) (done ++ (j ∷ [])) todo n) → Placed p test looks f done (j ∷ todo) k
        go t ih = at (test f done j todo t.0) refl t.3
          where
            q : ℕ
            q = t.0

            at : (b : Bool) → test f done j todo q ≡ b → k < sum_to (ways_at p test f done j todo) q + cond b (ways p test (put f j q) (done ++ (j ∷ [])) todo) zero
                → Placed p test looks f done (j ∷ todo) k
            at false e l = absurd (omega (arith, t.2))
            at true e l = record {
              layout = g;
              before = before;
              passes = (
                record {
                  small = rw (← here) t.1;
                  passes = rw (← here) (sym
                      (looks f g done j todo q before) ∙ e);
                },
                u.passes,
              );
              place = place;
            }
              where
                u : Placed p test looks (put f j q) (done ++ (j ∷ [])) todo (k - sum_to (ways_at p test f done j todo) q)
                u = ih q (k - sum_to (ways_at p test f done j todo) q) (omega (arith, t.2, l))

                g : ℕ → ℕ
                g = u.layout

                here : q ≡ g j
                here = sym (put-at f j q) ∙ u.before j (Memᴰ.append_right done (Memᴰ.head refl))

                before : SameOn done f g
                before i m = sym (put_other f j q i (distinct_apart done j todo d i m)) ∙ u.before i (Memᴰ.append_left (j ∷ []) m)

                place : sum_to (ways_at p test g done j todo) (g j) + rank p test g (done ++ (j ∷ [])) todo ≡ k
                place = rw (← here) (omega (arith, u.place, t.2, sum_cong (λ n. ways_at_cong f g done j todo n before) q))
