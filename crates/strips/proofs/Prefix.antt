-- The strip of the next pad, once the pads to its right have their ports; and what a best layout may have there.
-- Assumes nothing.
use Prim.Native.Nat.{ℕ, ◌+◌, ◌≤◌, ◌<◌, min, max}
use Rattle.std.specs.Prelude.{Bool, ◌⊎◌, ◌≡◌, length}
use Rattle.std.proofs.Math.Bool.{true, false, cond}
use mathlib.Core.List.Memᴰ
use mathlib.Core.List.{List, [], ◌∷◌, ◌++◌}
use Rattle.std.proofs.Common.{inl, inr, sym, ◌∙◌, ap}
use Rattle.std.proofs.Math.Path.{refl, transport, transport⁻¹}
use native.Mathlib.Omega.{arith}
use Rattle.std.proofs.Math.Dec.{leb, ltb}
use borrow.Author.Tests.{leb-true, ltb-true, le-leb, le-ltb, lt-ltb, lt-leb}
use Rattle.strips.specs.Lists.{All, keep, Distinct}
use Rattle.strips.proofs.Lists.{nil_all, both, keep_same, keep-keep, keep_append, keep_distinct, by_length}
use Rattle.strips.specs.Grid.{Grid, Lawful, Misses, below, above, LocalBest, BestIn}
use Rattle.strips.specs.Strips.{Joins, BestSplit}
use Rattle.strips.proofs.Strips.{side, below_in, below_out, above_in, above_out, below_mem, above_mem, mem_below, mem_above}
use Rattle.strips.specs.Strips.{joined}
use Rattle.strips.proofs.Strips.{local_parts, best_split, has_best, join_best, sol_clear, shorter_below, shorter_above}
use Rattle.strips.specs.Prefix.{floor, ceil, lies, Lies, AtStrip, Choice, HandsOn}

pub floor_cong : (f g : ℕ → ℕ) (l : ℕ) (is : List ℕ) (a : ℕ) → All (λ i. f i ≡ g i) is → floor f l is a ≡ floor g l is a
unfolding floor
floor_cong f g l [] a h = refl
floor_cong f g l (i ∷ is) a h = rw (h i (Memᴰ.head refl)) (floor_cong f g l is (cond (ltb (g i) l) (max a (g i + 1)) a) (λ k m. h k (Memᴰ.tail m)))

pub ceil_cong : (f g : ℕ → ℕ) (l : ℕ) (is : List ℕ) (b : ℕ) → All (λ i. f i ≡ g i) is → ceil f l is b ≡ ceil g l is b
unfolding ceil
ceil_cong f g l [] b h = refl
ceil_cong f g l (i ∷ is) b h = rw (h i (Memᴰ.head refl)) (ceil_cong f g l is (cond (leb l (g i)) (min b (g i)) b) (λ k m. h k (Memᴰ.tail m)))

pub floor_le : (f : ℕ → ℕ) (l : ℕ) (is : List ℕ) (a : ℕ) → a ≤ floor f l is a
unfolding floor
floor_le f l [] a = omega arith
floor_le f l (i ∷ is) a = go (ltb (f i) l) (floor_le f l is)
  where
    go : (t : Bool) → ((c : ℕ) → c ≤ floor f l is c) → a ≤ floor f l is (cond t (max a (f i + 1)) a)
    go true ih = omega (arith, ih (max a (f i + 1)))
    go false ih = ih a

pub ceil_le : (f : ℕ → ℕ) (l : ℕ) (is : List ℕ) (b : ℕ) → ceil f l is b ≤ b
unfolding ceil
ceil_le f l [] b = omega arith
ceil_le f l (i ∷ is) b = go (leb l (f i)) (ceil_le f l is)
  where
    go : (t : Bool) → ((c : ℕ) → ceil f l is c ≤ c) → ceil f l is (cond t (min b (f i)) b) ≤ b
    go true ih = omega (arith, ih (min b (f i)))
    go false ih = ih b

-- A strip has what lies between the ports taken: so has it its own pad.
pub floor_most : (f : ℕ → ℕ) (l : ℕ) (is : List ℕ) (c a : ℕ) → c ≤ a → All (λ i. f i < l → f i < a) is → floor f l is c ≤ a
unfolding floor
floor_most f l [] c a h all = h
floor_most f l (i ∷ is) c a h all = go (ltb (f i) l) refl (λ d k. floor_most f l is d a k (λ x m. all x (Memᴰ.tail m)))
  where
    go : (t : Bool) → ltb (f i) l ≡ t → ((d : ℕ) → d ≤ a → floor f l is d ≤ a) → floor f l is (cond t (max c (f i + 1)) c) ≤ a
    go true e ih = ih (max c (f i + 1)) (let u = all i (Memᴰ.head refl) (ltb-true (f i) l e) in omega arith)
    go false e ih = ih c h

pub ceil-least : (f : ℕ → ℕ) (l : ℕ) (is : List ℕ) (c b : ℕ) → b ≤ c → All (λ i. l ≤ f i → b ≤ f i) is → b ≤ ceil f l is c
unfolding ceil
ceil-least f l [] c b h all = h
ceil-least f l (i ∷ is) c b h all = go (leb l (f i)) refl (λ d k. ceil-least f l is d b k (λ x m. all x (Memᴰ.tail m)))
  where
    go : (t : Bool) → leb l (f i) ≡ t → ((d : ℕ) → b ≤ d → b ≤ ceil f l is d) → b ≤ ceil f l is (cond t (min c (f i)) c)
    go true e ih = ih (min c (f i)) (let u = all i (Memᴰ.head refl) (leb-true l (f i) e) in omega arith)
    go false e ih = ih c h

module _ (B : Grid) where
  pub lies_yes : (c d k : ℕ) → Lies B c d k → lies B c d k ≡ true
  lies_yes c d k h = rw (le-leb c (B.lo k) h.low) (le-leb (B.hi k) d h.high)

  pub yes_lies : (c d k : ℕ) → lies B c d k ≡ true → Lies B c d k
  yes_lies c d k e = let t = both (leb c (B.lo k)) (leb (B.hi k) d) e in record { low = leb-true c (B.lo k) t.0; high = leb-true (B.hi k) d t.1 }

  -- The strip depends only on the ports chosen before.
  pub strip-same {ℓ} : {X : Type ℓ} (P : List ℕ → ℕ → ℕ → X) (f g : ℕ → ℕ) (done : List ℕ) (j : ℕ) (todo : List ℕ) (a b : ℕ) → All (λ i. f i ≡ g i) done
      → AtStrip B P f done j todo a b ≡ AtStrip B P g done j todo a b
  strip-same P f g done j todo a b h =
      λ i. P (keep (lies B (floor_cong f g (B.lo j) done a h i) (ceil_cong f g (B.hi j) done b h i)) todo) (floor_cong f g (B.lo j) done a h i)
      (ceil_cong f g (B.hi j) done b h i)

  pub strip_cong : (P : List ℕ → ℕ → ℕ → Type 0) (f g : ℕ → ℕ) (done : List ℕ) (j : ℕ) (todo : List ℕ) (a b : ℕ) → All (λ i. f i ≡ g i) done
      → AtStrip B P f done j todo a b → AtStrip B P g done j todo a b
  strip_cong P f g done j todo a b h t = transport (strip-same P f g done j todo a b h) t

  pub choice_cong : (f g : ℕ → ℕ) (done : List ℕ) (j : ℕ) (todo : List ℕ) (a b q : ℕ) → All (λ i. f i ≡ g i) done → Choice B f done j todo a b q
      → Choice B g done j todo a b q
  choice_cong f g done j todo a b q h c = strip_cong (λ pads c d. LocalBest B j pads c d q) f g done j todo a b h c

module _ (B : Grid) (lawful : Lawful B) where
  -- For a pad below port q the pads above it do not matter, ..
  floor-below : (q j : ℕ) (is : List ℕ) (f : ℕ → ℕ) (a : ℕ) → B.hi j ≤ q → All (λ i. Misses B q i (f i)) is
      → floor f (B.lo j) (below B q is) a ≡ floor f (B.lo j) is a
  unfolding floor keep
  floor-below q j [] f a h c = refl
  floor-below q j (x ∷ xs) f a h c = go (c x (Memᴰ.head refl)) (λ d. floor-below q j xs f d h (λ i m. c i (Memᴰ.tail m)))
    where
      go : Misses B q x (f x) → ((d : ℕ) → floor f (B.lo j) (below B q xs) d ≡ floor f (B.lo j) xs d)
          → floor f (B.lo j) (below B q (x ∷ xs)) a ≡ floor f (B.lo j) (x ∷ xs) a
      go (inr l) ih = rw (below_in B lawful q x xs l.0) (ih (cond (ltb (f x) (B.lo j)) (max a (f x + 1)) a))
      go (inl l) ih = rw (below_out B lawful q x xs l.0, le-ltb (f x) (B.lo j) (omega (arith, lawful j))) (ih a)

  ceil-below : (q j : ℕ) (is : List ℕ) (f : ℕ → ℕ) (b : ℕ) → B.hi j ≤ q → b ≤ q → All (λ i. Misses B q i (f i)) is
      → ceil f (B.hi j) (below B q is) b ≡ ceil f (B.hi j) is b
  unfolding ceil keep
  ceil-below q j [] f b h k c = refl
  ceil-below q j (x ∷ xs) f b h k c = go (c x (Memᴰ.head refl)) (λ d e. ceil-below q j xs f d h e (λ i m. c i (Memᴰ.tail m)))
    where
      small : (t : Bool) → cond t (min b (f x)) b ≤ q
      small true = omega arith
      small false = k

      go : Misses B q x (f x) → ((d : ℕ) → d ≤ q → ceil f (B.hi j) (below B q xs) d ≡ ceil f (B.hi j) xs d)
          → ceil f (B.hi j) (below B q (x ∷ xs)) b ≡ ceil f (B.hi j) (x ∷ xs) b
      go (inr l) ih = rw (below_in B lawful q x xs l.0) (ih (cond (leb (B.hi j) (f x)) (min b (f x)) b) (small (leb (B.hi j) (f x))))
      go (inl l) ih =
          let e : min b (f x) ≡ b = omega arith in
          rw (below_out B lawful q x xs l.0, le-leb (B.hi j) (f x) (omega arith)) (ih b k ∙ ap (ceil f (B.hi j) xs) (sym e))

  -- .. and for a pad above it those below.
  floor_above : (q j : ℕ) (is : List ℕ) (f : ℕ → ℕ) (a : ℕ) → q < B.lo j → q < a → All (λ i. Misses B q i (f i)) is
      → floor f (B.lo j) (above B q is) a ≡ floor f (B.lo j) is a
  unfolding floor keep
  floor_above q j [] f a h k c = refl
  floor_above q j (x ∷ xs) f a h k c = go (c x (Memᴰ.head refl)) (λ d e. floor_above q j xs f d h e (λ i m. c i (Memᴰ.tail m)))
    where
      large : (t : Bool) → q < cond t (max a (f x + 1)) a
      large true = omega arith
      large false = k

      go : Misses B q x (f x) → ((d : ℕ) → q < d → floor f (B.lo j) (above B q xs) d ≡ floor f (B.lo j) xs d)
          → floor f (B.lo j) (above B q (x ∷ xs)) a ≡ floor f (B.lo j) (x ∷ xs) a
      go (inl l) ih = rw (above_in B lawful q x xs l.0) (ih (cond (ltb (f x) (B.lo j)) (max a (f x + 1)) a) (large (ltb (f x) (B.lo j))))
      go (inr l) ih =
          let e : max a (f x + 1) ≡ a = omega arith in
          rw (above_out B lawful q x xs l.0, lt-ltb (f x) (B.lo j) (omega arith)) (ih a k ∙ ap (floor f (B.lo j) xs) (sym e))

  ceil_above : (q j : ℕ) (is : List ℕ) (f : ℕ → ℕ) (b : ℕ) → q < B.lo j → All (λ i. Misses B q i (f i)) is → ceil f (B.hi j) (above B q is) b ≡ ceil f (B.hi j) is b
  unfolding ceil keep
  ceil_above q j [] f b h c = refl
  ceil_above q j (x ∷ xs) f b h c = go (c x (Memᴰ.head refl)) (λ d. ceil_above q j xs f d h (λ i m. c i (Memᴰ.tail m)))
    where
      go : Misses B q x (f x) → ((d : ℕ) → ceil f (B.hi j) (above B q xs) d ≡ ceil f (B.hi j) xs d)
          → ceil f (B.hi j) (above B q (x ∷ xs)) b ≡ ceil f (B.hi j) (x ∷ xs) b
      go (inl l) ih = rw (above_in B lawful q x xs l.0) (ih (cond (leb (B.hi j) (f x)) (min b (f x)) b))
      go (inr l) ih = rw (above_out B lawful q x xs l.0, lt-leb (B.hi j) (f x) (omega (arith, lawful j))) (ih b)

  -- Below the port q of the rightmost pad r, j's strip is what it is within the part below ..
  pub strip_below {ℓ} : {X : Type ℓ} (P : List ℕ → ℕ → ℕ → X) (r : ℕ) (is : List ℕ) (j : ℕ) (todo : List ℕ) (a b : ℕ) (f : ℕ → ℕ) (q : ℕ) → f r ≡ q → q < b
      → B.hi j ≤ q → All (λ i. Misses B q i (f i)) is → AtStrip B P f (below B q is) j (below B q todo) a q ≡ AtStrip B P f (r ∷ is) j todo a b
  unfolding floor ceil
  strip_below P r is j todo a b f q here h l c = (λ i. P (pads i) first end) ∙ (λ i. P (keep (lies B (firsts i) (ends i)) todo) (firsts i) (ends i))
    where
      first : ℕ
      first = floor f (B.lo j) (below B q is) a

      end : ℕ
      end = ceil f (B.hi j) (below B q is) q

      pads : keep (lies B first end) (below B q todo) ≡ keep (lies B first end) todo
      pads = keep-keep (lies B first end) (λ k. leb (B.hi k) q) todo
          (λ k m t. le-leb (B.hi k) q (omega (arith, (yes_lies B first end k t).high, ceil_le f (B.hi j) (below B q is) q)))

      firsts : first ≡ floor f (B.lo j) (r ∷ is) a
      firsts = rw (here, le-ltb q (B.lo j) (omega (arith, lawful j))) (floor-below q j is f a l c)

      ends : end ≡ ceil f (B.hi j) (r ∷ is) b
      ends =
          let e : min b q ≡ q = omega arith in
          rw (here, le-leb (B.hi j) q l) (ceil-below q j is f q l (omega arith) c ∙ ap (ceil f (B.hi j) is) (sym e))

  -- .. and above it within the part above.
  pub strip-above {ℓ} : {X : Type ℓ} (P : List ℕ → ℕ → ℕ → X) (r : ℕ) (is : List ℕ) (j : ℕ) (todo : List ℕ) (a b : ℕ) (f : ℕ → ℕ) (q : ℕ) → f r ≡ q → a ≤ q
      → q < B.lo j → All (λ i. Misses B q i (f i)) is → AtStrip B P f (above B q is) j (above B q todo) (q + 1) b ≡ AtStrip B P f (r ∷ is) j todo a b
  unfolding floor ceil
  strip-above P r is j todo a b f q here h l c = (λ i. P (pads i) first end) ∙ (λ i. P (keep (lies B (firsts i) (ends i)) todo) (firsts i) (ends i))
    where
      first : ℕ
      first = floor f (B.lo j) (above B q is) (q + 1)

      end : ℕ
      end = ceil f (B.hi j) (above B q is) b

      pads : keep (lies B first end) (above B q todo) ≡ keep (lies B first end) todo
      pads = keep-keep (lies B first end) (λ k. ltb q (B.lo k)) todo
          (λ k m t. lt-ltb q (B.lo k) (omega (arith, (yes_lies B first end k t).low, floor_le f (B.lo j) (above B q is) (q + 1))))

      firsts : first ≡ floor f (B.lo j) (r ∷ is) a
      firsts =
          let e : max a (q + 1) ≡ q + 1 = omega arith in
          rw (here, lt-ltb q (B.lo j) l) (floor_above q j is f (q + 1) l (omega arith) c ∙ ap (floor f (B.lo j) is) (sym e))

      ends : end ≡ ceil f (B.hi j) (r ∷ is) b
      ends = rw (here, lt-leb (B.hi j) q (omega (arith, lawful j))) (ceil_above q j is f b l c)

  pub strip-nil {ℓ} : {X : Type ℓ} (P : List ℕ → ℕ → ℕ → X) (j : ℕ) (todo : List ℕ) (a b : ℕ) (f : ℕ → ℕ) → All (Lies B a b) todo
      → P todo a b ≡ AtStrip B P f [] j todo a b
  unfolding floor ceil
  strip-nil P j todo a b f h = λ i. P (sym (keep_same (lies B a b) todo (λ k m. lies_yes B a b k (h k m))) i) a b

  -- The parts of a list of pads around pad j.
  pub below_around : (q : ℕ) (is : List ℕ) (j : ℕ) (todo : List ℕ) → B.hi j ≤ q → below B q (is ++ (j ∷ todo)) ≡ below B q is ++ (j ∷ below B q todo)
  below_around q is j todo h = keep_append (λ i. leb (B.hi i) q) is (j ∷ todo) ∙ ap (below B q is ++◌) (below_in B lawful q j todo h)

  pub above_around : (q : ℕ) (is : List ℕ) (j : ℕ) (todo : List ℕ) → q < B.lo j → above B q (is ++ (j ∷ todo)) ≡ above B q is ++ (j ∷ above B q todo)
  above_around q is j todo h = keep_append (λ i. ltb q (B.lo i)) is (j ∷ todo) ∙ ap (above B q is ++◌) (above_in B lawful q j todo h)

  pub lies_below : (q a b : ℕ) (todo : List ℕ) → All (Lies B a b) todo → All (Lies B a q) (below B q todo)
  lies_below q a b todo h k m = let t = below_mem B lawful q todo m in record { low = (h k t.0).low; high = t.1 }

  pub lies_above : (q a b : ℕ) (todo : List ℕ) → All (Lies B a b) todo → All (Lies B (q + 1) b) (above B q todo)
  lies_above q a b todo h k m = let t = above_mem B lawful q todo m in record { low = omega (arith, t.1); high = (h k t.0).high }

  -- NARROW: what is handed on holds of the strip of each pad.
  module _ (R : List ℕ → ℕ → ℕ → Type 0) (f : ℕ → ℕ) (hands : HandsOn B lawful R f) where
    abbrev Narrow : List ℕ → Type 0
    Narrow done = (j : ℕ) (todo : List ℕ) (a b : ℕ) → All (Lies B a b) todo → BestIn B (done ++ (j ∷ todo)) a b f → R (done ++ (j ∷ todo)) a b
        → AtStrip B (λ pads c d. R (j ∷ pads) c d) f done j todo a b

    narrow_step : (done : List ℕ) → ((is : List ℕ) → length is < length done → Narrow is) → Narrow done
    narrow_step [] ih j todo a b h s x = transport (strip-nil (λ pads c d. R (j ∷ pads) c d) j todo a b f h) x
    narrow_step (r ∷ is) ih j todo a b h s x = go (side B lawful q (is ++ (j ∷ todo)) (local_parts B r (is ++ (j ∷ todo)) a b q t.here.total t.here.here).sides
        j (Memᴰ.append_right is (Memᴰ.head refl)))
      where
        q : ℕ
        q = f r

        t : BestSplit B lawful r (is ++ (j ∷ todo)) a b f
        t = best_split B lawful r (is ++ (j ∷ todo)) a b f s

        clear : All (λ i. Misses B q i (f i)) is
        clear i m = sol_clear B lawful r (is ++ (j ∷ todo)) a b f s.sol i (Memᴰ.append_left (j ∷ todo) m)

        go : (B.hi j ≤ q) ⊎ (q < B.lo j) → AtStrip B (λ pads c d. R (j ∷ pads) c d) f (r ∷ is) j todo a b
        go (inl l) = transport (strip_below (λ pads c d. R (j ∷ pads) c d) r is j todo a b f q refl t.here.high l clear)
            (ih (below B q is) (shorter_below B lawful q is r) j (below B q todo) a q (lies_below q a b todo h) (rw (below_around q is j todo l) at t.under)
            (rw (below_around q is j todo l) at (hands.under r (is ++ (j ∷ todo)) a b s x)))
        go (inr l) = transport (strip-above (λ pads c d. R (j ∷ pads) c d) r is j todo a b f q refl t.here.low l clear)
            (ih (above B q is) (shorter_above B lawful q is r) j (above B q todo) (q + 1) b (lies_above q a b todo h) (rw (above_around q is j todo l) at t.over)
            (rw (above_around q is j todo l) at (hands.over r (is ++ (j ∷ todo)) a b s x)))

    pub narrow : (done : List ℕ) (j : ℕ) (todo : List ℕ) (a b : ℕ) → All (Lies B a b) todo → BestIn B (done ++ (j ∷ todo)) a b f → R (done ++ (j ∷ todo)) a b
        → AtStrip B (λ pads c d. R (j ∷ pads) c d) f done j todo a b
    narrow = by_length Narrow narrow_step

  -- A best layout is best in the strip of each pad, ..
  best_in_strip : (done : List ℕ) (j : ℕ) (todo : List ℕ) (a b : ℕ) (f : ℕ → ℕ) → All (Lies B a b) todo → BestIn B (done ++ (j ∷ todo)) a b f
      → AtStrip B (λ pads c d. BestIn B (j ∷ pads) c d f) f done j todo a b
  best_in_strip done j todo a b f h s =
      narrow (λ js c d. BestIn B js c d f) f (record {
        under = λ r rest c d t x. (best_split B lawful r rest c d f t).under;
        over = λ r rest c d t x. (best_split B lawful r rest c d f t).over;
      }) done j todo a b h s s

  -- .. and so, CHOSEN: in a best layout each pad has a locally best port of its strip.
  pub chosen : (done : List ℕ) (j : ℕ) (todo : List ℕ) (a b : ℕ) (f : ℕ → ℕ) → All (Lies B a b) todo → BestIn B (done ++ (j ∷ todo)) a b f
      → Choice B f done j todo a b (f j)
  chosen done j todo a b f h s =
      (best_split B lawful j (keep (lies B (floor f (B.lo j) done a) (ceil f (B.hi j) done b)) todo) (floor f (B.lo j) done a) (ceil f (B.hi j) done b) f
      (best_in_strip done j todo a b f h s)).here

  -- PICK: a best layout may be changed, from pad j on, to have any locally best port there.
  abbrev Picked : List ℕ → ℕ → List ℕ → ℕ → ℕ → (ℕ → ℕ) → ℕ → Type 0
  Picked done j todo a b f q = (g : ℕ → ℕ) × BestIn B (done ++ (j ∷ todo)) a b g × All (λ i. g i ≡ f i) done × (g j ≡ q)

  abbrev Pick : List ℕ → Type 0
  Pick done = (j : ℕ) (todo : List ℕ) (a b : ℕ) (f : ℕ → ℕ) (q : ℕ) → Distinct (done ++ (j ∷ todo)) → All (Lies B a b) todo → BestIn B (done ++ (j ∷ todo)) a b f
      → Choice B f done j todo a b q → Picked done j todo a b f q

  pick_step : (done : List ℕ) → ((is : List ℕ) → length is < length done → Pick is) → Pick done
  unfolding Distinct
  pick_step [] ih j todo a b f q d h s c =
      let l : LocalBest B j todo a b q = transport⁻¹ (strip-nil (λ pads x y. LocalBest B j pads x y q) j todo a b f h) c in
      let p = local_parts B j todo a b q l.total l.here in
      let u = has_best B lawful (below B q todo) a q p.under (keep_distinct (λ i. leb (B.hi i) q) todo d.1) p.least_under in
      let v = has_best B lawful (above B q todo) (q + 1) b p.over (keep_distinct (λ i. ltb q (B.lo i)) todo d.1) p.least_over in
      let k = join_best B lawful j todo a b q u.0 v.0 d.0 l u.1 v.1 in
      (joined B j q u.0 v.0, k.0, nil_all (λ i. joined B j q u.0 v.0 i ≡ f i), k.1.at)
  pick_step (r ∷ is) ih j todo a b f p d h s c = go (sides j (Memᴰ.append_right is (Memᴰ.head refl)))
    where
      q : ℕ
      q = f r

      rest : List ℕ
      rest = is ++ (j ∷ todo)

      t : BestSplit B lawful r rest a b f
      t = best_split B lawful r rest a b f s

      sides : All (λ i. (B.hi i ≤ q) ⊎ (q < B.lo i)) rest
      sides = side B lawful q rest (local_parts B r rest a b q t.here.total t.here.here).sides

      clear : All (λ i. Misses B q i (f i)) is
      clear i m = sol_clear B lawful r rest a b f s.sol i (Memᴰ.append_left (j ∷ todo) m)

      go : (B.hi j ≤ q) ⊎ (q < B.lo j) → Picked (r ∷ is) j todo a b f p
      go (inl l) = (joined B r q g f, k.0, before, k.1.on_below j (mem_below B lawful q rest (Memᴰ.append_right is (Memᴰ.head refl)) l) ∙ part.3)
        where
          part : Picked (below B q is) j (below B q todo) a q f p
          part = ih (below B q is) (shorter_below B lawful q is r) j (below B q todo) a q f p
              (rw (below_around q is j todo l) at (keep_distinct (λ i. leb (B.hi i) q) rest d.1)) (lies_below q a b todo h)
              (rw (below_around q is j todo l) at t.under) (transport⁻¹ (strip_below (λ pads x y. LocalBest B j pads x y p) r is j todo a b f q refl t.here.high
              l clear) c)

          g : ℕ → ℕ
          g = part.0

          k : BestIn B (r ∷ rest) a b (joined B r q g f) × Joins B lawful r rest a b q g f (joined B r q g f)
          k = join_best B lawful r rest a b q g f d.0 t.here (rw (below_around q is j todo l) part.1) t.over

          before : All (λ i. joined B r q g f i ≡ f i) (r ∷ is)
          before i (Memᴰ.head e) = rw e k.1.at
          before i (Memᴰ.tail m) = at (sides i (Memᴰ.append_left (j ∷ todo) m))
            where
              at : (B.hi i ≤ q) ⊎ (q < B.lo i) → joined B r q g f i ≡ f i
              at (inl w) = k.1.on_below i (mem_below B lawful q rest (Memᴰ.append_left (j ∷ todo) m) w) ∙ part.2 i (mem_below B lawful q is m w)
              at (inr w) = k.1.on_above i (mem_above B lawful q rest (Memᴰ.append_left (j ∷ todo) m) w)
      go (inr l) = (joined B r q f g, k.0, before, k.1.on_above j (mem_above B lawful q rest (Memᴰ.append_right is (Memᴰ.head refl)) l) ∙ part.3)
        where
          part : Picked (above B q is) j (above B q todo) (q + 1) b f p
          part = ih (above B q is) (shorter_above B lawful q is r) j (above B q todo) (q + 1) b f p
              (rw (above_around q is j todo l) at (keep_distinct (λ i. ltb q (B.lo i)) rest d.1)) (lies_above q a b todo h)
              (rw (above_around q is j todo l) at t.over) (transport⁻¹ (strip-above (λ pads x y. LocalBest B j pads x y p) r is j todo a b f q refl t.here.low l
              clear) c)

          g : ℕ → ℕ
          g = part.0

          k : BestIn B (r ∷ rest) a b (joined B r q f g) × Joins B lawful r rest a b q f g (joined B r q f g)
          k = join_best B lawful r rest a b q f g d.0 t.here t.under (rw (above_around q is j todo l) part.1)

          before : All (λ i. joined B r q f g i ≡ f i) (r ∷ is)
          before i (Memᴰ.head e) = rw e k.1.at
          before i (Memᴰ.tail m) = at (sides i (Memᴰ.append_left (j ∷ todo) m))
            where
              at : (B.hi i ≤ q) ⊎ (q < B.lo i) → joined B r q f g i ≡ f i
              at (inl w) = k.1.on_below i (mem_below B lawful q rest (Memᴰ.append_left (j ∷ todo) m) w)
              at (inr w) = k.1.on_above i (mem_above B lawful q rest (Memᴰ.append_left (j ∷ todo) m) w) ∙ part.2 i (mem_above B lawful q is m w)

  pub pick : (done : List ℕ) (j : ℕ) (todo : List ℕ) (a b : ℕ) (f : ℕ → ℕ) (q : ℕ) → Distinct (done ++ (j ∷ todo)) → All (Lies B a b) todo
      → BestIn B (done ++ (j ∷ todo)) a b f → Choice B f done j todo a b q → (g : ℕ → ℕ) × BestIn B (done ++ (j ∷ todo)) a b g × All (λ i. g i ≡ f i) done × (g j ≡ q)
  pick = by_length Pick pick_step
