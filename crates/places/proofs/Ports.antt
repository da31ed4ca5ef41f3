-- Laws of the list that has the place of the pad of each port, and of a strip's ends, which are read off it.
use mathlib.Core.Path.{◌≡◌, refl, sym, ◌∙◌}
use mathlib.Core.Bool.{Bool, true, false, cond}
use mathlib.Core.Logic.{◌⊎◌, inl, inr}
use mathlib.Core.List.{List, [], ◌∷◌, Memᴰ}
use Prim.Native.Nat.{ℕ, ◌+◌, ◌-◌, ◌≤◌, ◌<◌, min, max, zero-le}
use native.Mathlib.Omega.{arith}
use native.Mathlib.Decide.{dec_lt, ℕ_discrete}
use lib.Dec.{leb, ltb}
use lib.ListN.{length, get_or, take, set, replicate, length-set, get_or-replicate}
use lib.Seq.{get_or-set_same, get_or-set_other}
use borrow.Author.Tests.{leb-false, ltb-false}
use Rattle.strips.specs.Prefix.{floor, ceil}
use Rattle.strips.proofs.Prefix.{floor_le, ceil_le, floor_most, ceil-least}
use Rattle.places.specs.Places.{port_in, Placed, Entered, Lowest, Highest}
use Rattle.places.proofs.Taken.{take_mem, mem_take}

-- ---- a strip's ends by the ports taken

module _ (f : ℕ → ℕ) (l : ℕ) where
  floor_above : (is : List ℕ) (c i : ℕ) → Memᴰ i is → f i < l → f i < floor f l is c
  unfolding floor
  floor_above (x ∷ is) c i (Memᴰ.head e) h = go (ltb (f x) l) refl
    where
      go : (t : Bool) → ltb (f x) l ≡ t → f i < floor f l is (cond t (max c (f x + 1)) c)
      go true k = rw e (omega (arith, floor_le f l is (max c (f x + 1))))
      go false k = absurd (let u = rw e at h in omega (arith, ltb-false (f x) l k))
  floor_above (x ∷ is) c i (Memᴰ.tail m) h = floor_above is (cond (ltb (f x) l) (max c (f x + 1)) c) i m h
  floor_above [] c i x'' h = elim x'' [ ]

  ceil-below : (is : List ℕ) (c i : ℕ) → Memᴰ i is → l ≤ f i → ceil f l is c ≤ f i
  unfolding ceil
  ceil-below (x ∷ is) c i (Memᴰ.head e) h = go (leb l (f x)) refl
    where
      go : (t : Bool) → leb l (f x) ≡ t → ceil f l is (cond t (min c (f x)) c) ≤ f i
      go true k = rw e (omega (arith, ceil_le f l is (min c (f x))))
      go false k = absurd (let u = rw e at h in omega (arith, leb-false l (f x) k))
  ceil-below (x ∷ is) c i (Memᴰ.tail m) h = ceil-below is (cond (leb l (f x)) (min c (f x)) c) i m h
  ceil-below [] c i x'' h = elim x'' [ ]

-- ---- .. and by the list

module _ {order w at : List ℕ} (m : ℕ) (P : Placed order w m at) (inside : m ≤ length order) where
  pub low_floor : (l a : ℕ) → l ≤ 128 → Lowest at m l a → a ≡ floor (port_in w) l (take m order) 0
  low_floor l a h L = omega (arith, most, least (dec_lt 0 a))
    where
      passed : (x : ℕ) → Memᴰ x (take m order) → port_in w x < l → Dec (port_in w x < a) → port_in w x < a
      passed x n k (yes d) = d
      passed x n k (no d) =
          let t = take_mem order m x n in
          absurd (omega (arith, L.free (port_in w x) (omega arith) k, rw t.2 at (P.taken t.0 t.1)))

      most : floor (port_in w) l (take m order) 0 ≤ a
      most = floor_most (port_in w) l (take m order) 0 a zero-le (λ x n k. passed x n k (dec_lt (port_in w x) a))

      least : Dec (0 < a) → a ≤ floor (port_in w) l (take m order) 0
      least (no d) = omega arith
      least (yes d) =
          let s = L.stop d in let e = P.by (a - 1) (omega (arith, L.under)) s in
          let n = mem_take order m (get_or at (a - 1) 0) s inside in
          omega (arith, e, floor_above (port_in w) l (take m order) 0 (get_or order (get_or at (a - 1) 0) 0) n (omega (arith, L.under)))

  pub high_ceil : (p h b : ℕ) → p ≤ 128 → Highest at m h p b → b ≡ ceil (port_in w) h (take m order) p
  high_ceil p h b few H = omega (arith, least, most (dec_lt b p))
    where
      passed : (x : ℕ) → Memᴰ x (take m order) → h ≤ port_in w x → Dec (port_in w x < b) → b ≤ port_in w x
      passed x n k (no d) = omega arith
      passed x n k (yes d) =
          let t = take_mem order m x n in
          absurd (omega (arith, H.free (port_in w x) k d, rw t.2 at (P.taken t.0 t.1)))

      least : b ≤ ceil (port_in w) h (take m order) p
      least = ceil-least (port_in w) h (take m order) p b H.inside (λ x n k. passed x n k (dec_lt (port_in w x) b))

      most : Dec (b < p) → ceil (port_in w) h (take m order) p ≤ b
      most (no d) = omega (arith, ceil_le (port_in w) h (take m order) p)
      most (yes d) =
          let s = H.stop d in let e = P.by b (omega arith) s in
          let n = mem_take order m (get_or at b 0) s inside in
          omega (arith, e, ceil-below (port_in w) h (take m order) p (get_or order (get_or at b 0) 0) n (omega (arith, H.over)))

-- ---- the walks to a strip's ends: a port more is free

pub free_down : (at : List ℕ) (m l a : ℕ) → m ≤ get_or at (a - 1) 0 → ((q : ℕ) → a ≤ q → q < l → m ≤ get_or at q 0) → (q : ℕ) → a - 1 ≤ q → q < l → m ≤ get_or at q 0
free_down at m l a h F q u v = go (dec_lt q a)
  where
    go : Dec (q < a) → m ≤ get_or at q 0
    go (no d) = F q (omega arith) v
    go (yes d) = let e : q ≡ a - 1 = omega arith in rw e h

pub free_up : (at : List ℕ) (m h b : ℕ) → m ≤ get_or at b 0 → ((q : ℕ) → h ≤ q → q < b → m ≤ get_or at q 0) → (q : ℕ) → h ≤ q → q < b + 1 → m ≤ get_or at q 0
free_up at m h b k F q u v = go (dec_lt q b)
  where
    go : Dec (q < b) → m ≤ get_or at q 0
    go (yes d) = F q u d
    go (no d) = let e : q ≡ b = omega arith in rw e k

-- ---- entering places

pub entered_none : (order w : List ℕ) → Entered order w 0 (replicate {A = ℕ} 128 64)
entered_none order w = record {
  placed = record { room = refl; taken = λ i h. absurd (omega arith); by = λ q l h. absurd (omega arith) };
  free = λ q l h. rw (get_or-replicate {A = ℕ} 128 q 64 0 l) (omega arith);
}

-- one place more, whose pad has port q in v
pub entered_more : {order w at : List ℕ} (v : List ℕ) (m q : ℕ) → m < 64 → q < length at → Entered order w m at
    → ((i : ℕ) → i < m → port_in w (get_or order i 0) ≡ port_in v (get_or order i 0)) → port_in v (get_or order m 0) ≡ q → Entered order v (m + 1) (set at q m)
entered_more {order} {w} {at} v m q few room E same here =
    record {
      placed = record {
        room = length-set at q m ∙ E.placed.room;
        taken = λ i h. taken i (dec_lt i m) h;
        by = λ p l h. by p l h (entry p);
      };
      free = λ p l h. free p l h (entry p);
    }
  where
    entry : (p : ℕ) → ((p ≡ q) × (get_or (set at q m) p 0 ≡ m)) ⊎ (get_or (set at q m) p 0 ≡ get_or at p 0)
    entry p = go (ℕ_discrete p q)
      where
        go : Dec (p ≡ q) → ((p ≡ q) × (get_or (set at q m) p 0 ≡ m)) ⊎ (get_or (set at q m) p 0 ≡ get_or at p 0)
        go (yes e) = inl (e, rw e (get_or-set_same at q m 0 room))
        go (no e) = inr (get_or-set_other at q p m 0 e)

    small : (p : ℕ) → get_or at p 0 < m + 1 → get_or (set at q m) p 0 < m + 1
    small p h = go (entry p)
      where
        go : ((p ≡ q) × (get_or (set at q m) p 0 ≡ m)) ⊎ (get_or (set at q m) p 0 ≡ get_or at p 0) → get_or (set at q m) p 0 < m + 1
        go (inl e) = omega (arith, e.1)
        go (inr e) = omega (arith, e)

    taken : (i : ℕ) → Dec (i < m) → i < m + 1 → get_or (set at q m) (port_in v (get_or order i 0)) 0 < m + 1
    taken i (yes d) h = small (port_in v (get_or order i 0)) (rw (← same i d) (omega (arith, E.placed.taken i d)))
    taken i (no d) h = let e : i ≡ m = omega arith in rw (e, here, get_or-set_same at q m 0 room) (omega arith)

    old : (p : ℕ) → p < 128 → get_or at p 0 < m + 1 → Dec (get_or at p 0 < m) → get_or at p 0 < m
    old p l h (yes d) = d
    old p l h (no d) = absurd (omega (arith, E.free p l (omega arith)))

    by : (p : ℕ) → p < 128 → get_or (set at q m) p 0 < m + 1 → ((p ≡ q) × (get_or (set at q m) p 0 ≡ m)) ⊎ (get_or (set at q m) p 0 ≡ get_or at p 0)
        → port_in v (get_or order (get_or (set at q m) p 0) 0) ≡ p
    by p l h (inl e) = rw e.1 (here ∙ sym e.0)
    by p l h (inr e) = let o = old p l (rw e at h) (dec_lt (get_or at p 0) m) in rw e (sym (same (get_or at p 0) o) ∙ E.placed.by p l o)

    free : (p : ℕ) → p < 128 → m + 1 ≤ get_or (set at q m) p 0 → ((p ≡ q) × (get_or (set at q m) p 0 ≡ m)) ⊎ (get_or (set at q m) p 0 ≡ get_or at p 0)
        → 64 ≤ get_or (set at q m) p 0
    free p l h (inl e) = absurd (omega (arith, e.1))
    free p l h (inr e) = rw e (E.free p l (let k = rw e at h in omega arith))

-- In a layout whose ports differ, the list of all places is one of the first m.
pub placed-before : {order w at : List ℕ} (m : ℕ) → m ≤ length order → ((i : ℕ) → i < length order → port_in w (get_or order i 0) < 128)
    → ((i k : ℕ) → i < length order → k < length order → port_in w (get_or order i 0) ≡ port_in w (get_or order k 0) → i ≡ k)
    → Placed order w (length order) at → Placed order w m at
placed-before {order} {w} {at} m inside ports apart P = record {
  room = P.room;
  taken = λ i h. let t = P.taken i (omega arith) in
      omega (arith, apart (get_or at (port_in w (get_or order i 0)) 0) i t (omega arith) (P.by (port_in w (get_or order i 0)) (ports i (omega arith)) t));
  by = λ q l h. P.by q l (omega arith);
}
