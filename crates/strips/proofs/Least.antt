-- A least total: none, or a number; and the least value of a function over the ports a .. a + k - 1.
-- Assumes nothing.
use Rattle.std.specs.Prelude.{ℕ, zero, suc, ◌+◌, ◌≤◌, ◌<◌, min, ◌≡◌, refl, ◌⊎◌}
use Rattle.std.proofs.Common.{ap, inl, inr, arith}
use Rattle.strips.specs.Least.{Least, none, some, smaller_of, plus, least, AtMost}

pub at_most : (x : Least) {u v : ℕ} → x ≡ some u → u ≤ v → AtMost x v
at_most x e h = rw e h

-- What it is that is at most v.
pub at_most_is : (x : Least) {v : ℕ} → AtMost x v → (u : ℕ) × (x ≡ some u) × (u ≤ v)
at_most_is none h = absurd h
at_most_is (some u) h = (u, refl, h)

meet_left : (x y : Least) (v : ℕ) → AtMost x v → AtMost (smaller_of x y) v
unfolding smaller_of
meet_left none y v h = absurd h
meet_left (some u) none v h = h
meet_left (some u) (some w) v h = omega arith

meet_right : (x y : Least) (v : ℕ) → AtMost y v → AtMost (smaller_of x y) v
unfolding smaller_of
meet_right none y v h = h
meet_right (some u) none v h = absurd h
meet_right (some u) (some w) v h = omega arith

meet_some : (x y : Least) {v : ℕ} → smaller_of x y ≡ some v → (x ≡ some v) ⊎ (y ≡ some v)
unfolding smaller_of
meet_some none y e = inr e
meet_some (some u) none e = inl e
meet_some (some u) (some w) {v} e = step (native.Mathlib.Decide.dec_le u w) (cc)
  where
    step : Dec (u ≤ w) → min u w ≡ v → (some u ≡ some v) ⊎ (some w ≡ some v)
    step (yes h) k = inl (ap some (omega arith))
    step (no h) k = inr (ap some (omega arith))

pub plus_le : (c : ℕ) (x y : Least) (u v : ℕ) → AtMost x u → AtMost y v → AtMost (plus c x y) (c + u + v)
unfolding plus
plus_le c none y u v h k = absurd h
plus_le c (some s) none u v h k = absurd k
plus_le c (some s) (some t) u v h k = omega arith

pub plus_some : (c : ℕ) (x y : Least) {w : ℕ} → plus c x y ≡ some w → (u : ℕ) × (v : ℕ) × (x ≡ some u) × (y ≡ some v) × (c + u + v ≡ w)
unfolding plus
plus_some c none y {w} e = let z : ◌≡◌ {A = ℕ} 0 1 = cc in absurd (omega arith)
plus_some c (some u) none {w} e = let z : ◌≡◌ {A = ℕ} 0 1 = cc in absurd (omega arith)
plus_some c (some u) (some v) {w} e = (u, v, refl, refl, cc)

-- The least is at most the value at each port of the range.
pub least_le : (F : ℕ → Least) (a k v q : ℕ) → a ≤ q → q < a + k → AtMost (F q) v → AtMost (least F a k) v
unfolding least
least_le F a zero v q l h t = absurd (omega arith)
least_le F a (suc k) v q l h t = step (native.Mathlib.Decide.dec_lt q (a + k)) (least_le F a k v q l)
  where
    step : Dec (q < a + k) → (q < a + k → AtMost (F q) v → AtMost (least F a k) v) → AtMost (smaller_of (least F a k) (F (a + k))) v
    step (yes s) ih = meet_left (least F a k) (F (a + k)) v (ih s t)
    step (no s) ih = let e : q ≡ a + k = omega arith in meet_right (least F a k) (F (a + k)) v (rw e at t)

-- A least that is a number is the value at some port of the range.
pub least_some : (F : ℕ → Least) (a k : ℕ) {v : ℕ} → least F a k ≡ some v → (q : ℕ) × (a ≤ q) × (q < a + k) × (F q ≡ some v)
unfolding least
least_some F a zero e = let z : ◌≡◌ {A = ℕ} 0 1 = cc in absurd (omega arith)
least_some F a (suc k) {v} e = step (meet_some (least F a k) (F (a + k)) e) (least_some F a k)
  where
    step : (least F a k ≡ some v) ⊎ (F (a + k) ≡ some v) → (least F a k ≡ some v → (q : ℕ) × (a ≤ q) × (q < a + k) × (F q ≡ some v))
        → (q : ℕ) × (a ≤ q) × (q < a + suc k) × (F q ≡ some v)
    step (inl h) ih = let t = ih h in (t.0, t.1, omega (arith, t.2), t.3)
    step (inr h) ih = (a + k, omega arith, omega arith, h)

pub least_cong : {F G : ℕ → Least} → ((q : ℕ) → F q ≡ G q) → (a k : ℕ) → least F a k ≡ least G a k
least_cong h a k = λ i. least (λ q. h q i) a k
