-- The strip theorems: the recursion of the least total is right, and what the best layouts of a strip are.
-- Assumes nothing.
use Prim.Native.Nat.{ℕ, zero, suc, ◌+◌, ◌-◌, ◌≤◌, ◌<◌, zero-le}
use Rattle.std.specs.Prelude.{Bool, ◌&&◌, ◌||◌, ◌⊎◌, length}
use Rattle.std.proofs.Math.Bool.{true, false, cond}
use Rattle.std.proofs.lemmas.Bool.{false≢true}
use mathlib.Core.List.Memᴰ
use mathlib.Core.List.{List, [], ◌∷◌, Memᴰ}
use Rattle.std.proofs.Math.Logic.{inl, inr}
use Rattle.std.proofs.Math.Path.{◌≡◌, refl}
use Rattle.std.proofs.Common.{sym, ◌∙◌, ap, arith}
use Rattle.std.proofs.Math.Dec.{leb, ltb}
use borrow.Author.Tests.{leb-true, ltb-true, le-leb, lt-leb, lt-ltb, le-ltb, eq-eqb, ne_eqb}
use Rattle.strips.specs.Lists.{All, keep, Distinct}
use Rattle.strips.proofs.Lists.{keep_if, keep_yes, keep_no, keep-length, kept_mem, mem_kept, keep_all, keep_distinct, every_all, all_every}
use Rattle.strips.proofs.Lists.{by_length}
use Rattle.strips.specs.Least.{Least, none, some, plus, least, AtMost}
use Rattle.strips.proofs.Least.{at_most, at_most_is, plus_le, plus_some, least_le, least_some, least_cong}
use Rattle.strips.specs.Grid.{Grid, Lawful, Misses, NoneTouch, Fits, Sol, cost_sum, below, above, parted, local_by, best_by, best, local, LocalBest, BestIn}
use Rattle.strips.specs.Strips.{LocalParts, joined, Split, Joins, BestSplit}

-- Laws that hold on every board: the recursion.
module _ (B : Grid) where
  local_by_cong : (R S : List ℕ → ℕ → ℕ → Least) (r : ℕ) (rest : List ℕ) → ((js : List ℕ) (a b : ℕ) → length js ≤ length rest → R js a b ≡ S js a b) → (a b q : ℕ)
      → local_by B R r rest a b q ≡ local_by B S r rest a b q
  unfolding local_by
  local_by_cong R S r rest h a b q =
      λ i. cond (B.ok r q && parted B q rest) (plus (B.cost r q) (h (below B q rest) a q (keep-length (λ j. leb (B.hi j) q) rest) i)
      (h (above B q rest) (q + 1) b (keep-length (λ j. ltb q (B.lo j)) rest) i)) none

  -- More fuel than pads changes nothing.
  enough : (n m : ℕ) (js : List ℕ) (a b : ℕ) → length js ≤ n → length js ≤ m → best_by B n js a b ≡ best_by B m js a b
  unfolding best_by
  enough zero zero [] a b h k = refl
  enough zero (suc m) [] a b h k = refl
  enough (suc n) zero [] a b h k = refl
  enough (suc n) (suc m) [] a b h k = refl
  enough zero m (r ∷ rest) a b h k = absurd (omega arith)
  enough (suc n) zero (r ∷ rest) a b h k = absurd (omega arith)
  enough (suc n) (suc m) (r ∷ rest) a b h k =
      least_cong (λ q. local_by_cong (best_by B n) (best_by B m) r rest (λ js c d l. enough n m js c d (omega arith) (omega arith)) a b q) a (b - a)

  pub best_nil : (a b : ℕ) → best B [] a b ≡ some zero
  unfolding best best_by
  best_nil a b = refl

  -- The recursion law.
  pub best_cons : (r : ℕ) (rest : List ℕ) (a b : ℕ) → best B (r ∷ rest) a b ≡ least (local B r rest a b) a (b - a)
  unfolding best best_by local
  best_cons r rest a b =
      least_cong (λ q. local_by_cong (best_by B (length rest)) (best B) r rest (λ js c d l. enough (length rest) (length js) js c d l (omega arith)) a b q) a (b - a)

  pub local_parts : (r : ℕ) (rest : List ℕ) (a b q w : ℕ) → local B r rest a b q ≡ some w → LocalParts B r rest a b q w
  unfolding local local_by
  local_parts r rest a b q w e = go (B.ok r q) (parted B q rest) refl refl e
    where
      go : (s t : Bool) → B.ok r q ≡ s → parted B q rest ≡ t → cond (s && t) (plus (B.cost r q) (best B (below B q rest) a q) (best B (above B q rest) (q + 1) b))
          none ≡ some w → LocalParts B r rest a b q w
      go true true h k d =
          let p = plus_some (B.cost r q) (best B (below B q rest) a q) (best B (above B q rest) (q + 1) b) d in
          record { allowed = h; sides = k; under = p.0; over = p.1; least_under = p.2; least_over = p.3; adds = p.4 }
      go true false h k d = let z : ◌≡◌ {A = ℕ} 0 1 = cc in absurd (omega arith)
      go false t h k d = let z : ◌≡◌ {A = ℕ} 0 1 = cc in absurd (omega arith)

  parts_local : (r : ℕ) (rest : List ℕ) (a b q w : ℕ) → LocalParts B r rest a b q w → local B r rest a b q ≡ some w
  unfolding local local_by plus
  parts_local r rest a b q w p = rw (p.allowed, p.sides, p.least_under, p.least_over) (ap some p.adds)

  -- The total of a locally possible port is at most that of the parts' totals, once they are bounded.
  local_le : (r : ℕ) (rest : List ℕ) (a b q u v : ℕ) → B.ok r q ≡ true → parted B q rest ≡ true → AtMost (best B (below B q rest) a q) u
      → AtMost (best B (above B q rest) (q + 1) b) v → AtMost (local B r rest a b q) (B.cost r q + u + v)
  unfolding local local_by
  local_le r rest a b q u v h k l m = rw (h, k) (plus_le (B.cost r q) (best B (below B q rest) a q) (best B (above B q rest) (q + 1) b) u v l m)

  -- The least total of a strip is at most each local one, ..
  best_le : (r : ℕ) (rest : List ℕ) (a b q v : ℕ) → a ≤ q → q < b → AtMost (local B r rest a b q) v → AtMost (best B (r ∷ rest) a b) v
  best_le r rest a b q v l h t = rw best_cons (least_le (local B r rest a b) a (b - a) v q l (omega arith) t)

  -- .. and it is one of them.
  pub best_local : (r : ℕ) (rest : List ℕ) (a b v : ℕ) → best B (r ∷ rest) a b ≡ some v → (q : ℕ) × LocalBest B r rest a b q
  best_local r rest a b v e =
      let t = least_some (local B r rest a b) a (b - a) (rw best_cons at e) in
      (t.0, record { low = t.1; high = omega (arith, t.1, t.2); total = v; here = t.3; whole = e })

  sol_nil : (a b : ℕ) (f : ℕ → ℕ) → Sol B [] a b f
  unfolding NoneTouch
  sol_nil a b f = record { free = tt; inside = λ j m. absurd (Memᴰ.not-nil m) }

  joined_at : (r q : ℕ) (f g : ℕ → ℕ) → joined B r q f g r ≡ q
  unfolding joined
  joined_at r q f g = rw (eq-eqb r r refl)

  joined-below : (r q : ℕ) (f g : ℕ → ℕ) (j : ℕ) → (j ≡ r → ⊥) → B.hi j ≤ q → joined B r q f g j ≡ f j
  unfolding joined
  joined-below r q f g j n h = rw (ne_eqb j r n, le-leb (B.hi j) q h)

  joined_above : Lawful B → (r q : ℕ) (f g : ℕ → ℕ) (j : ℕ) → (j ≡ r → ⊥) → q < B.lo j → joined B r q f g j ≡ g j
  unfolding joined
  joined_above lawful r q f g j n h = rw (ne_eqb j r n, lt-leb (B.hi j) q (omega (arith, lawful j)))

-- Laws of layouts, on a board on which no port is both below and above a pad.
module _ (B : Grid) (lawful : Lawful B) where
  -- A pad that is parted from port q is below it or above it.
  pub side : (q : ℕ) (js : List ℕ) → parted B q js ≡ true → All (λ j. (B.hi j ≤ q) ⊎ (q < B.lo j)) js
  side q js e j m = go (leb (B.hi j) q) (ltb q (B.lo j)) refl refl (every_all (λ i. leb (B.hi i) q || ltb q (B.lo i)) js e j m)
    where
      go : (s t : Bool) → leb (B.hi j) q ≡ s → ltb q (B.lo j) ≡ t → (s || t) ≡ true → (B.hi j ≤ q) ⊎ (q < B.lo j)
      go true t h k d = inl (leb-true (B.hi j) q h)
      go false true h k d = inr (ltb-true q (B.lo j) k)
      go false false h k d = absurd (false≢true d)

  side_parted : (q : ℕ) (js : List ℕ) → All (λ j. (B.hi j ≤ q) ⊎ (q < B.lo j)) js → parted B q js ≡ true
  side_parted q js h = all_every (λ i. leb (B.hi i) q || ltb q (B.lo i)) js (λ j m. go j (h j m))
    where
      go : (j : ℕ) → (B.hi j ≤ q) ⊎ (q < B.lo j) → (leb (B.hi j) q || ltb q (B.lo j)) ≡ true
      go j (inl l) = rw (le-leb (B.hi j) q l)
      go j (inr l) = rw (lt-leb (B.hi j) q (omega (arith, lawful j)), lt-ltb q (B.lo j) l)

  module _ (q x : ℕ) (xs : List ℕ) where
    pub below_in : B.hi x ≤ q → below B q (x ∷ xs) ≡ x ∷ below B q xs
    below_in h = keep_yes (λ j. leb (B.hi j) q) x xs (le-leb (B.hi x) q h)

    pub below_out : q < B.lo x → below B q (x ∷ xs) ≡ below B q xs
    below_out h = keep_no (λ j. leb (B.hi j) q) x xs (lt-leb (B.hi x) q (omega (arith, lawful x)))

    pub above_in : q < B.lo x → above B q (x ∷ xs) ≡ x ∷ above B q xs
    above_in h = keep_yes (λ j. ltb q (B.lo j)) x xs (lt-ltb q (B.lo x) h)

    pub above_out : B.hi x ≤ q → above B q (x ∷ xs) ≡ above B q xs
    above_out h = keep_no (λ j. ltb q (B.lo j)) x xs (le-ltb q (B.lo x) (omega (arith, lawful x)))

  module _ (q : ℕ) (xs : List ℕ) {x : ℕ} where
    pub mem_below : Memᴰ x xs → B.hi x ≤ q → Memᴰ x (below B q xs)
    mem_below m h = mem_kept (λ j. leb (B.hi j) q) xs m (le-leb (B.hi x) q h)

    pub mem_above : Memᴰ x xs → q < B.lo x → Memᴰ x (above B q xs)
    mem_above m h = mem_kept (λ j. ltb q (B.lo j)) xs m (lt-ltb q (B.lo x) h)

    pub below_mem : Memᴰ x (below B q xs) → Memᴰ x xs × (B.hi x ≤ q)
    below_mem m = let t = kept_mem (λ j. leb (B.hi j) q) xs m in (t.0, leb-true (B.hi x) q t.1)

    pub above_mem : Memᴰ x (above B q xs) → Memᴰ x xs × (q < B.lo x)
    above_mem m = let t = kept_mem (λ j. ltb q (B.lo j)) xs m in (t.0, ltb-true q (B.lo x) t.1)

  -- The total of the parts.
  sum_parts : (q : ℕ) (js : List ℕ) (f : ℕ → ℕ) → All (λ j. (B.hi j ≤ q) ⊎ (q < B.lo j)) js
      → cost_sum B.cost js f ≡ cost_sum B.cost (below B q js) f + cost_sum B.cost (above B q js) f
  unfolding cost_sum keep
  sum_parts q [] f h = refl
  sum_parts q (x ∷ xs) f h = go (h x (Memᴰ.head refl)) (sum_parts q xs f (λ j m. h j (Memᴰ.tail m)))
    where
      go : (B.hi x ≤ q) ⊎ (q < B.lo x) → cost_sum B.cost xs f ≡ cost_sum B.cost (below B q xs) f + cost_sum B.cost (above B q xs) f
          → B.cost x (f x) + cost_sum B.cost xs f ≡ cost_sum B.cost (below B q (x ∷ xs)) f + cost_sum B.cost (above B q (x ∷ xs)) f
      go (inl l) ih = rw (below_in q x xs l, above_out q x xs l) (omega arith)
      go (inr l) ih = rw (below_out q x xs l, above_in q x xs l) (omega arith)

  sum_cong : (js : List ℕ) (f g : ℕ → ℕ) → All (λ j. f j ≡ g j) js → cost_sum B.cost js f ≡ cost_sum B.cost js g
  unfolding cost_sum
  sum_cong [] f g h = refl
  sum_cong (x ∷ xs) f g h = rw (h x (Memᴰ.head refl), sum_cong xs f g (λ j m. h j (Memᴰ.tail m)))

  free-keep : (p : ℕ → Bool) (js : List ℕ) (f : ℕ → ℕ) → NoneTouch B js f → NoneTouch B (keep p js) f
  unfolding NoneTouch keep
  free-keep p [] f h = tt
  free-keep p (x ∷ xs) f h =
      let k = free-keep p xs f h.1 in
      keep_if p (λ js. NoneTouch B js f) x xs (λ e. (keep_all p (λ j. Misses B (f x) j (f j)) xs h.0, k)) (λ e. k)

  -- Two free parts with the port q of a pad to the right between them are free together.
  free_join : (q : ℕ) (js : List ℕ) (f : ℕ → ℕ) → All (λ j. Misses B q j (f j)) js → NoneTouch B (below B q js) f → NoneTouch B (above B q js) f → NoneTouch B js f
  unfolding NoneTouch
  free_join q [] f h u v = tt
  free_join q (x ∷ xs) f h u v = go (h x (Memᴰ.head refl)) (free_join q xs f later)
    where
      later : All (λ j. Misses B q j (f j)) xs
      later j m = h j (Memᴰ.tail m)

      go : Misses B q x (f x) → (NoneTouch B (below B q xs) f → NoneTouch B (above B q xs) f → NoneTouch B xs f) → All (λ j. Misses B (f x) j (f j)) xs × NoneTouch B xs f
      go (inr l) ih =
          let u' : All (λ j. Misses B (f x) j (f j)) (below B q xs) × NoneTouch B (below B q xs) f = rw (below_in q x xs l.0) at u in
          let v' : NoneTouch B (above B q xs) f = rw (above_out q x xs l.0) at v in
          (λ j m. at j m u'.0 (later j m), ih u'.1 v')
        where
          at : (j : ℕ) → Memᴰ j xs → All (λ i. Misses B (f x) i (f i)) (below B q xs) → Misses B q j (f j) → Misses B (f x) j (f j)
          at j m k (inr c) = k j (mem_below q xs m c.0)
          at j m k (inl c) = inl (omega arith, omega arith)
      go (inl l) ih =
          let u' : NoneTouch B (below B q xs) f = rw (below_out q x xs l.0) at u in
          let v' : All (λ j. Misses B (f x) j (f j)) (above B q xs) × NoneTouch B (above B q xs) f = rw (above_in q x xs l.0) at v in
          (λ j m. at j m v'.0 (later j m), ih u' v'.1)
        where
          at : (j : ℕ) → Memᴰ j xs → All (λ i. Misses B (f x) i (f i)) (above B q xs) → Misses B q j (f j) → Misses B (f x) j (f j)
          at j m k (inl c) = k j (mem_above q xs m c.0)
          at j m k (inr c) = inr (omega arith, omega arith)

  split : (r : ℕ) (rest : List ℕ) (a b : ℕ) (f : ℕ → ℕ) → Sol B (r ∷ rest) a b f → Split B lawful r rest a b f
  unfolding NoneTouch
  split r rest a b f s =
      record {
        fits = s.inside r (Memᴰ.head refl);
        sides = side_parted (f r) rest (λ j m. far j (s.free.0 j m));
        under = record { free = free-keep (λ j. leb (B.hi j) (f r)) rest f s.free.1; inside = low };
        over = record { free = free-keep (λ j. ltb (f r) (B.lo j)) rest f s.free.1; inside = high };
      }
    where
      far : (j : ℕ) → Misses B (f r) j (f j) → (B.hi j ≤ f r) ⊎ (f r < B.lo j)
      far j (inl c) = inr c.0
      far j (inr c) = inl c.0

      fit : (j : ℕ) → Memᴰ j rest → Fits B a b j (f j)
      fit j m = s.inside j (Memᴰ.tail m)

      low : All (λ j. Fits B a (f r) j (f j)) (below B (f r) rest)
      low j m = let t = below_mem (f r) rest m in at t.1 (fit j t.0) (s.free.0 j t.0)
        where
          at : B.hi j ≤ f r → Fits B a b j (f j) → Misses B (f r) j (f j) → Fits B a (f r) j (f j)
          at h i (inl c) = absurd (omega (arith, lawful j))
          at h i (inr c) = record { low = i.low; high = c.1; allowed = i.allowed }

      high : All (λ j. Fits B (f r + 1) b j (f j)) (above B (f r) rest)
      high j m = let t = above_mem (f r) rest m in at t.1 (fit j t.0) (s.free.0 j t.0)
        where
          at : f r < B.lo j → Fits B a b j (f j) → Misses B (f r) j (f j) → Fits B (f r + 1) b j (f j)
          at h i (inl c) = record { low = omega arith; high = i.high; allowed = i.allowed }
          at h i (inr c) = absurd (omega (arith, lawful j))

  unsplit : (r : ℕ) (rest : List ℕ) (a b : ℕ) (f : ℕ → ℕ) → Split B lawful r rest a b f → Sol B (r ∷ rest) a b f
  unfolding NoneTouch
  unsplit r rest a b f s = record { free = (λ j m. (part j m).0, free_join (f r) rest f (λ j m. (part j m).0) s.under.free s.over.free); inside = inside }
    where
      part : (j : ℕ) → Memᴰ j rest → Misses B (f r) j (f j) × Fits B a b j (f j)
      part j m = at (side (f r) rest s.sides j m)
        where
          at : (B.hi j ≤ f r) ⊎ (f r < B.lo j) → Misses B (f r) j (f j) × Fits B a b j (f j)
          at (inl h) = let i = s.under.inside j (mem_below (f r) rest m h) in
              (inr (h, i.high), record { low = i.low; high = omega (arith, i.high, s.fits.high); allowed = i.allowed })
          at (inr h) = let i = s.over.inside j (mem_above (f r) rest m h) in
              (inl (h, omega (arith, i.low)), record { low = omega (arith, i.low, s.fits.low); high = i.high; allowed = i.allowed })

      inside : All (λ j. Fits B a b j (f j)) (r ∷ rest)
      inside j (Memᴰ.head e) = rw e s.fits
      inside j (Memᴰ.tail m) = (part j m).1

  -- The total of a strip's layout.
  sum_split : (r : ℕ) (rest : List ℕ) (a b : ℕ) (f : ℕ → ℕ) → Split B lawful r rest a b f
      → B.cost r (f r) + cost_sum B.cost (below B (f r) rest) f + cost_sum B.cost (above B (f r) rest) f ≡ cost_sum B.cost (r ∷ rest) f
  unfolding cost_sum
  sum_split r rest a b f s = omega (arith, sum_parts (f r) rest f (side (f r) rest s.sides))

  pub shorter_below : (q : ℕ) (rest : List ℕ) (r : ℕ) → length (below B q rest) < length (r ∷ rest)
  shorter_below q rest r = omega (arith, keep-length (λ j. leb (B.hi j) q) rest)

  pub shorter_above : (q : ℕ) (rest : List ℕ) (r : ℕ) → length (above B q rest) < length (r ∷ rest)
  shorter_above q rest r = omega (arith, keep-length (λ j. ltb q (B.lo j)) rest)

  -- SOUND: no layout of a strip has a smaller total than `best`.
  abbrev Sound : List ℕ → Type 0
  Sound js = (a b : ℕ) (f : ℕ → ℕ) → Sol B js a b f → AtMost (best B js a b) (cost_sum B.cost js f)

  sound_step : (js : List ℕ) → ((ks : List ℕ) → length ks < length js → Sound ks) → Sound js
  unfolding cost_sum
  sound_step [] ih a b f s = at_most (best B [] a b) (best_nil B a b) zero-le
  sound_step (r ∷ rest) ih a b f s =
      let t = split r rest a b f s in
      let u = ih (below B (f r) rest) (shorter_below (f r) rest r) a (f r) f t.under in
      let v = ih (above B (f r) rest) (shorter_above (f r) rest r) (f r + 1) b f t.over in
      best_le B r rest a b (f r) (cost_sum B.cost (r ∷ rest) f) t.fits.low t.fits.high
      (rw (sum_split r rest a b f t) at (local_le B r rest a b (f r) (cost_sum B.cost (below B (f r) rest) f) (cost_sum B.cost (above B (f r) rest) f)
      t.fits.allowed t.sides u v))

  pub sound : (js : List ℕ) (a b : ℕ) (f : ℕ → ℕ) → Sol B js a b f → AtMost (best B js a b) (cost_sum B.cost js f)
  sound = by_length Sound sound_step

  -- A layout may be changed where it has no pads.
  free_cong : (js : List ℕ) (f g : ℕ → ℕ) → All (λ j. f j ≡ g j) js → NoneTouch B js f → NoneTouch B js g
  unfolding NoneTouch
  free_cong [] f g h s = tt
  free_cong (x ∷ xs) f g h s = (
    λ j m. rw (← (h x (Memᴰ.head refl)), ← (h j (Memᴰ.tail m))) (s.0 j m),
    free_cong xs f g (λ j m. h j (Memᴰ.tail m))
        s.1,
  )

  sol_cong : (js : List ℕ) (a b : ℕ) (f g : ℕ → ℕ) → All (λ j. f j ≡ g j) js → Sol B js a b f → Sol B js a b g
  sol_cong js a b f g h s = record { free = free_cong js f g h s.free; inside = λ j m. rw (← (h j m)) (s.inside j m) }

  joins : (r : ℕ) (rest : List ℕ) (a b q : ℕ) (f g : ℕ → ℕ) → (Memᴰ r rest → ⊥) → Fits B a b r q → parted B q rest ≡ true → Sol B (below B q rest) a q f
      → Sol B (above B q rest) (q + 1) b g → Joins B lawful r rest a b q f g (joined B r q f g)
  joins r rest a b q f g new fits sides u v = record { sol = unsplit r rest a b h s; at = here; on_below = lower; on_above = upper; adds = adds }
    where
      h : ℕ → ℕ
      h = joined B r q f g

      here : h r ≡ q
      here = joined_at B r q f g

      other : (j : ℕ) → Memᴰ j rest → j ≡ r → ⊥
      other j m e = new (Memᴰ.cast (sym e) m)

      lower : All (λ j. h j ≡ f j) (below B q rest)
      lower j m = let t = below_mem q rest m in joined-below B r q f g j (other j t.0) t.1

      upper : All (λ j. h j ≡ g j) (above B q rest)
      upper j m = let t = above_mem q rest m in joined_above B lawful r q f g j (other j t.0) t.1

      s : Split B lawful r rest a b h
      s = record {
        fits = rw here fits;
        sides = rw here sides;
        under = rw here (sol_cong (below B q rest) a q f h (λ j m. sym (lower j m)) u);
        over = rw here (sol_cong (above B q rest) (q + 1) b g h (λ j m. sym (upper j m)) v);
      }

      adds : cost_sum B.cost (r ∷ rest) h ≡ B.cost r q + cost_sum B.cost (below B q rest) f + cost_sum B.cost (above B q rest) g
      adds =
          let e = rw here at (sum_split r rest a b h s) in
          omega (arith, sum_cong (below B q rest) h f lower, sum_cong (above B q rest) h g upper)

  -- ATTAINED: a least total that is a number is the total of a layout.
  abbrev Attained : List ℕ → Type 0
  Attained js = (a b v : ℕ) → Distinct js → best B js a b ≡ some v → (f : ℕ → ℕ) × Sol B js a b f × (cost_sum B.cost js f ≡ v)

  attained_step : (js : List ℕ) → ((ks : List ℕ) → length ks < length js → Attained ks) → Attained js
  unfolding cost_sum Distinct
  attained_step [] ih a b v d e = (λ j. j, sol_nil B a b (λ j. j), cc (best_nil B a b))
  attained_step (r ∷ rest) ih a b v d e =
      let c = best_local B r rest a b v e in
      let q = c.0 in
      let t = local_parts B r rest a b q c.1.total c.1.here in
      let u = ih (below B q rest) (shorter_below q rest r) a q t.under (keep_distinct (λ j. leb (B.hi j) q) rest d.1) t.least_under in
      let w = ih (above B q rest) (shorter_above q rest r) (q + 1) b t.over (keep_distinct (λ j. ltb q (B.lo j)) rest d.1) t.least_over in
      let k = joins r rest a b q u.0 w.0 d.0 (record { low = c.1.low; high = c.1.high; allowed = t.allowed }) t.sides u.1 w.1 in
      let same : v ≡ c.1.total = cc c.1.whole in
      (joined B r q u.0 w.0, k.sol, omega (arith, k.adds, t.adds, u.2, w.2))

  attained : (js : List ℕ) (a b v : ℕ) → Distinct js → best B js a b ≡ some v → (f : ℕ → ℕ) × Sol B js a b f × (cost_sum B.cost js f ≡ v)
  attained = by_length Attained attained_step

  pub best_split : (r : ℕ) (rest : List ℕ) (a b : ℕ) (f : ℕ → ℕ) → BestIn B (r ∷ rest) a b f → BestSplit B lawful r rest a b f
  best_split r rest a b f s =
      record {
        here = record {
          low = t.fits.low;
          high = t.fits.high;
          total = cost_sum B.cost (r ∷ rest) f;
          here = parts_local B r rest a b (f r) (cost_sum B.cost (r ∷ rest) f)
              whole;
          whole = s.total;
        };
        under = record { sol = t.under; total = whole.least_under };
        over = record { sol = t.over; total = whole.least_over };
      }
    where
      t : Split B lawful r rest a b f
      t = split r rest a b f s.sol

      u : (n : ℕ) × (best B (below B (f r) rest) a (f r) ≡ some n) × (n ≤ cost_sum B.cost (below B (f r) rest) f)
      u = at_most_is (best B (below B (f r) rest) a (f r)) (sound (below B (f r) rest) a (f r) f t.under)

      v : (n : ℕ) × (best B (above B (f r) rest) (f r + 1) b ≡ some n) × (n ≤ cost_sum B.cost (above B (f r) rest) f)
      v = at_most_is (best B (above B (f r) rest) (f r + 1) b) (sound (above B (f r) rest) (f r + 1) b f t.over)

      part : LocalParts B r rest a b (f r) (B.cost r (f r) + u.0 + v.0)
      part = record { allowed = t.fits.allowed; sides = t.sides; under = u.0; over = v.0; least_under = u.1; least_over = v.1; adds = refl }

      most : cost_sum B.cost (r ∷ rest) f ≤ B.cost r (f r) + u.0 + v.0
      most = rw s.total at (best_le B r rest a b (f r) (B.cost r (f r) + u.0 + v.0) t.fits.low t.fits.high
          (at_most (local B r rest a b (f r)) (parts_local B r rest a b (f r) (B.cost r (f r) + u.0 + v.0) part) (omega arith)))

      same_under : u.0 ≡ cost_sum B.cost (below B (f r) rest) f
      same_under = omega (arith, sum_split r rest a b f t, most, u.2, v.2)

      same_over : v.0 ≡ cost_sum B.cost (above B (f r) rest) f
      same_over = omega (arith, sum_split r rest a b f t, most, u.2, v.2)

      whole : LocalParts B r rest a b (f r) (cost_sum B.cost (r ∷ rest) f)
      whole = record {
        allowed = t.fits.allowed;
        sides = t.sides;
        under = cost_sum B.cost (below B (f r) rest) f;
        over = cost_sum B.cost (above B (f r) rest) f;
        least_under = rw same_under at u.1;
        least_over = rw same_over at v.1;
        adds = sum_split r rest a b f t;
      }

  -- `best` is what a best layout has: a layout of a strip is best exactly if none has a smaller total.
  pub best_least : (js : List ℕ) (a b : ℕ) (f : ℕ → ℕ) → BestIn B js a b f → (g : ℕ → ℕ) → Sol B js a b g → cost_sum B.cost js f ≤ cost_sum B.cost js g
  best_least js a b f s g t = rw s.total at (sound js a b g t)

  pub least_best : (js : List ℕ) (a b : ℕ) (f : ℕ → ℕ) → Distinct js → Sol B js a b f → ((g : ℕ → ℕ) → Sol B js a b g → cost_sum B.cost js f ≤ cost_sum B.cost js g)
      → BestIn B js a b f
  least_best js a b f d s h =
      let n = at_most_is (best B js a b) (sound js a b f s) in
      let t = attained js a b n.0 d n.1 in
      let e : n.0 ≡ cost_sum B.cost js f = omega (arith, n.2, t.2, h t.0 t.1) in
      record { sol = s; total = n.1 ∙ ap some e }

  pub best_cong : (js : List ℕ) (a b : ℕ) (f g : ℕ → ℕ) → All (λ j. f j ≡ g j) js → BestIn B js a b f → BestIn B js a b g
  best_cong js a b f g h s = record { sol = sol_cong js a b f g h s.sol; total = rw (sum_cong js f g h) at s.total }

  -- A least total that is a number has a best layout.
  pub has_best : (js : List ℕ) (a b v : ℕ) → Distinct js → best B js a b ≡ some v → (f : ℕ → ℕ) × BestIn B js a b f
  has_best js a b v d e = let t = attained js a b v d e in (t.0, record { sol = t.1; total = rw t.2 e })

  -- A locally best port with best layouts of the two parts makes a best layout.
  pub join_best : (r : ℕ) (rest : List ℕ) (a b q : ℕ) (f g : ℕ → ℕ) → (Memᴰ r rest → ⊥) → LocalBest B r rest a b q → BestIn B (below B q rest) a q f
      → BestIn B (above B q rest) (q + 1) b g → BestIn B (r ∷ rest) a b (joined B r q f g) × Joins B lawful r rest a b q f g (joined B r q f g)
  join_best r rest a b q f g new l u v =
      let t = local_parts B r rest a b q l.total l.here in
      let k = joins r rest a b q f g new (record { low = l.low; high = l.high; allowed = t.allowed }) t.sides u.sol v.sol in
      let c : t.under ≡ cost_sum B.cost (below B q rest) f = cc (t.least_under, u.total) in
      let d : t.over ≡ cost_sum B.cost (above B q rest) g = cc (t.least_over, v.total) in
      let e : l.total ≡ cost_sum B.cost (r ∷ rest) (joined B r q f g) = omega (arith, k.adds, t.adds) in
      (record { sol = k.sol; total = l.whole ∙ ap some e }, k)

  pub sol_clear : (r : ℕ) (rest : List ℕ) (a b : ℕ) (f : ℕ → ℕ) → Sol B (r ∷ rest) a b f → All (λ j. Misses B (f r) j (f j)) rest
  unfolding NoneTouch
  sol_clear r rest a b f s = s.free.0
