-- Laws of what a walk remembers: what each search leaves is true, and current where it was.
use mathlib.Core.Path.{◌≡◌, refl, ◌∙◌}
use mathlib.Core.List.{List}
use Prim.Native.Nat.{ℕ, ◌+◌, ◌-◌, ◌≤◌, ◌<◌}
use native.Mathlib.Omega.{arith}
use native.Mathlib.Decide.{dec_lt, ℕ_discrete}
use lib.ListN.{length, get_or, take, set, length-set}
use lib.Seq.{get_or-set_same, get_or-set_other}
use Rattle.std.specs.Prelude.{Option}
use Rattle.strips.proofs.Prefix.{floor_cong, ceil_cong, ceil_le}
use Rattle.strips.specs.FirstNext.{At}
use Rattle.places.specs.Places.{port_in}
use Rattle.choices.specs.Source.{Source, grid_on}
use Rattle.choices.specs.Choices.{ProperLists, Working, Ready, Begun, Chosen, Choice}
use Rattle.choices.specs.Memory.{start_at, stop_at, least_at, most_at, LeadsAt, first_port, end_port, Known, StripOf, Current, Memory, Alike, Noted, Learnt}
use Rattle.choices.proofs.Stores.{store_before}
use Rattle.choices.proofs.Choosing.{strip_ready}

-- ---- a store for one place leaves the others

alike_set : (xs : List ℕ) (i x k : ℕ) → (k ≡ i → ⊥) → (64 + k ≡ i → ⊥) → (128 + k ≡ i → ⊥) → (192 + k ≡ i → ⊥) → Alike xs (set xs i x) k
alike_set xs i x k p q r s = record {
  start = get_or-set_other xs i k x 0 p;
  stop = get_or-set_other xs i (64 + k) x 0 q;
  least = get_or-set_other xs i (128 + k) x 0 r;
  most = get_or-set_other xs i (192 + k) x 0 s;
}

alike_trans : {xs ys zs : List ℕ} {k : ℕ} → Alike xs ys k → Alike ys zs k → Alike xs zs k
alike_trans A B = record { start = B.start ∙ A.start; stop = B.stop ∙ A.stop; least = B.least ∙ A.least; most = B.most ∙ A.most }

module _ {order : List ℕ} {T : Source} {lo hi xs ys : List ℕ} (K : Known order T lo hi xs) (k : ℕ) (few : k < 64) (A : Alike xs ys k) where
  least_alike : 0 < least_at ys k → Chosen (LeadsAt order T lo hi ys k) 0 (least_at ys k - 1)
  least_alike h = rw (A.start, A.stop, A.least) (K.least k few (rw A.least at h))

  most_alike : 0 < most_at ys k → (q : ℕ) → LeadsAt order T lo hi ys k q → q < most_at ys k
  most_alike h q l = rw A.most (K.most k few (rw A.most at h) q (rw (A.start, A.stop) at l))

current_alike : {p : ℕ} {order lo hi xs ys : List ℕ} (w : List ℕ) {k : ℕ} → Alike xs ys k → Current p order lo hi w xs k → Current p order lo hi w ys k
current_alike w A f h = let s = f (rw A.most at h) in record { start = A.start ∙ s.start; stop = A.stop ∙ s.stop }

-- ---- noting a strip

pub noted_same : (xs : List ℕ) (m a b : ℕ) → start_at xs m ≡ a → stop_at xs m ≡ b → Noted m a b xs xs
noted_same xs m a b p q = record {
  long = refl;
  start = p;
  stop = q;
  least = λ h. refl;
  most = λ h. refl;
  others = λ k l n. record { start = refl; stop = refl; least = refl; most = refl };
}

module _ (xs : List ℕ) (m a b : ℕ) (long : length xs ≡ 256) (few : m < 64) where
  abbrev one : List ℕ
  one = set xs m a

  abbrev two : List ℕ
  two = set one (64 + m) b

  abbrev three : List ℕ
  three = set two (128 + m) 0

  abbrev four : List ℕ
  four = set three (192 + m) 0

  pub noted_set : Noted m a b xs four
  noted_set =
      record {
        long = length-set three (192 + m) 0 ∙ length-set two (128 + m) 0 ∙ length-set one (64 + m) b ∙ length-set xs m a;
        start = get_or-set_other three (192 + m) m 0 0 (λ e. omega arith) ∙ get_or-set_other two (128 + m) m 0 0 (λ e. omega arith)
            ∙ get_or-set_other one (64 + m) m b 0 (λ e. omega arith) ∙ get_or-set_same xs m a 0 (omega arith);
        stop = get_or-set_other three (192 + m) (64 + m) 0 0 (λ e. omega arith) ∙ get_or-set_other two (128 + m) (64 + m) 0 0 (λ e. omega arith)
            ∙ get_or-set_same one (64 + m) b 0 (omega (arith, length-set xs m a));
        least = λ h. absurd (omega (arith, no_least));
        most = λ h. absurd (omega (arith, no_most));
        others = λ k l n. alike_trans (alike_set xs m a k n (λ e. omega arith) (λ e. omega arith) (λ e. omega arith))
            (alike_trans (alike_set one (64 + m) b k (λ e. omega arith) (λ e. n (omega arith)) (λ e. omega arith) (λ e. omega arith))
            (alike_trans (alike_set two (128 + m) 0 k (λ e. omega arith) (λ e. omega arith) (λ e. n (omega arith)) (λ e. omega arith))
            (alike_set three (192 + m) 0 k (λ e. omega arith) (λ e. omega arith) (λ e. omega arith) (λ e. n (omega arith)))));
      }
    where
      no_least : least_at four m ≡ 0
      no_least = get_or-set_other three (192 + m) (128 + m) 0 0 (λ e. omega arith)
          ∙ get_or-set_same two (128 + m) 0 0 (omega (arith, length-set xs m a, length-set one (64 + m) b))

      no_most : most_at four m ≡ 0
      no_most = get_or-set_same three (192 + m) 0 0 (omega (arith, length-set xs m a, length-set one (64 + m) b, length-set two (128 + m) 0))

-- ---- what a search at place m has, and what it leaves

-- The strip is noted.
module _ {order : List ℕ} {T : Source} {lo hi xs ys : List ℕ} (w : List ℕ) (m : ℕ) (K : Known order T lo hi xs)
    (N : Noted m (first_port order lo w m) (end_port T.ports order hi w m) xs ys)
  where
    pub settled_strip : StripOf T.ports order lo hi w ys m
    settled_strip = record { start = N.start; stop = N.stop }

    settled_known : Known order T lo hi ys
    settled_known =
        record {
          long = N.long ∙ K.long;
          least = λ k l h. go k l h (ℕ_discrete k m);
          most = λ k l h q c. up k l h q c (ℕ_discrete k m);
        }
      where
        go : (k : ℕ) → k < 64 → 0 < least_at ys k → Dec (k ≡ m) → Chosen (LeadsAt order T lo hi ys k) 0 (least_at ys k - 1)
        go k l h (yes e) = let s = N.least (rw e at h) in rw s (K.least k l (rw s at h))
        go k l h (no n) = least_alike K k l (N.others k l n) h

        up : (k : ℕ) → k < 64 → 0 < most_at ys k → (q : ℕ) → LeadsAt order T lo hi ys k q → Dec (k ≡ m) → q < most_at ys k
        up k l h q c (yes e) = let s = N.most (rw e at h) in rw s (K.most k l (rw s at h) q (rw s at c))
        up k l h q c (no n) = most_alike K k l (N.others k l n) h q c

    settled_others : (k : ℕ) → k < 64 → Current T.ports order lo hi w xs k → Current T.ports order lo hi w ys k
    settled_others k l f = go (ℕ_discrete k m)
      where
        go : Dec (k ≡ m) → Current T.ports order lo hi w ys k
        go (yes e) h = rw e settled_strip
        go (no n) h = current_alike w (N.others k l n) f h

    pub settled_learnt : Learnt order T lo hi w m xs ys
    settled_learnt = record { facts = settled_known; here = λ h. settled_strip; others = settled_others }

-- It is one to look in, ..
pub strip_look : {order : List ℕ} {T : Source} {lo hi w xs : List ℕ} (m : ℕ) → StripOf T.ports order lo hi w xs m → Working order T lo hi w
    → m < length order → Begun order T lo hi w m → Ready (grid_on order T lo hi) order T.ports m (start_at xs m) (stop_at xs m)
strip_look m S W inside E = rw (S.start, S.stop) (strip_ready W m inside E)

-- .. and a port chosen in it is chosen for the layout.
pub strip_chosen : {order lo hi w xs : List ℕ} (T : Source) (m from q : ℕ) → StripOf T.ports order lo hi w xs m → Chosen (LeadsAt order T lo hi xs m) from q
    → Chosen (At (grid_on order T lo hi) T.ports order (port_in w) m) from q
strip_chosen T m from q S C = rw (S.start, S.stop) at C

pub strip_choice : {order lo hi w xs : List ℕ} (T : Source) (m from : ℕ) (r : Option ℕ) → StripOf T.ports order lo hi w xs m
    → Choice (LeadsAt order T lo hi xs m) from r → Choice (At (grid_on order T lo hi) T.ports order (port_in w) m) from r
strip_choice T m from r S C = rw (S.start, S.stop) at C

-- No locally best port of it is from `from` on where none was found.
strip_below : {order lo hi w xs : List ℕ} (T : Source) (m from q : ℕ) → T.ports ≤ 128 → StripOf T.ports order lo hi w xs m
    → Chosen (LeadsAt order T lo hi xs m) from q → 128 ≤ q → (r : ℕ) → LeadsAt order T lo hi xs m r → r < from
strip_below {order} {lo} {hi} {w} T m from q few S C none r l = go (dec_lt r from)
  where
    go : Dec (r < from) → r < from
    go (yes d) = d
    go (no d) = absurd (C.passed r (omega arith)
        (omega (arith, l.high, S.stop, ceil_le (port_in w) (get_or hi (get_or order m 0) 0) (take m order) T.ports)) l)

-- Nothing is looked for where the pad's port is remembered as the largest.
module _ {order : List ℕ} {T : Source} {lo hi w xs : List ℕ} (m : ℕ) (K : Known order T lo hi xs) (c : Current T.ports order lo hi w xs m) where
  pub learnt_same : Learnt order T lo hi w m xs xs
  learnt_same = record { facts = K; here = c; others = λ k l f. f }

  pub most_chosen : (from : ℕ) → m < 64 → most_at xs m ≡ from → 0 < from → Chosen (At (grid_on order T lo hi) T.ports order (port_in w) m) from 128
  most_chosen from few e h = strip_chosen T m from 128 (c some) (record {
    start = λ u. absurd (omega arith);
    found = λ u. absurd (omega arith);
    passed = λ i u v l. absurd (omega (arith, K.most m few some i l));
  })
    where
      some : 0 < most_at xs m
      some = omega (arith, e)

-- What was found is remembered.
module _ {order : List ℕ} {T : Source} {lo hi w xs ys : List ℕ} (m : ℕ) (few : m < 64) (L : Learnt order T lo hi w m xs ys) where
  pub learnt_least : (q : ℕ) → Chosen (LeadsAt order T lo hi ys m) 0 q → Learnt order T lo hi w m xs (set ys (128 + m) (q + 1))
  learnt_least q C =
      record {
        facts = record {
          long = length-set ys (128 + m) (q + 1) ∙ L.facts.long;
          least = λ k l h. go k l h (ℕ_discrete k m);
          most = λ k l h r c. rw (other_most k l) (L.facts.most k l (rw (other_most k l) at h) r (rw ((strip_as k l).0, (strip_as k l).1) at c));
        };
        here = same m few L.here;
        others = λ k l f. same k l (L.others k l f);
      }
    where
      zs : List ℕ
      zs = set ys (128 + m) (q + 1)

      strip_as : (k : ℕ) → k < 64 → (start_at zs k ≡ start_at ys k) × (stop_at zs k ≡ stop_at ys k)
      strip_as k l = (get_or-set_other ys (128 + m) k (q + 1) 0 (λ e. omega arith), get_or-set_other ys (128 + m) (64 + k) (q + 1) 0 (λ e. omega arith))

      other_most : (k : ℕ) → k < 64 → most_at zs k ≡ most_at ys k
      other_most k l = get_or-set_other ys (128 + m) (192 + k) (q + 1) 0 (λ e. omega arith)

      same : (k : ℕ) → k < 64 → Current T.ports order lo hi w ys k → Current T.ports order lo hi w zs k
      same k l f h = let s = f (rw (other_most k l) at h) in record { start = (strip_as k l).0 ∙ s.start; stop = (strip_as k l).1 ∙ s.stop }

      here_least : least_at zs m - 1 ≡ q
      here_least = omega (arith, get_or-set_same ys (128 + m) (q + 1) 0 (omega (arith, L.facts.long)))

      go : (k : ℕ) → k < 64 → 0 < least_at zs k → Dec (k ≡ m) → Chosen (LeadsAt order T lo hi zs k) 0 (least_at zs k - 1)
      go k l h (yes e) = rw (e, here_least, (strip_as m few).0, (strip_as m few).1) C
      go k l h (no n) = least_alike L.facts k l
          (alike_set ys (128 + m) (q + 1) k (λ e. omega arith) (λ e. omega arith) (λ e. n (omega arith)) (λ e. omega arith)) h

  pub learnt_most : (from q : ℕ) → T.ports ≤ 128 → StripOf T.ports order lo hi w ys m → Chosen (LeadsAt order T lo hi ys m) from q → 128 ≤ q
      → Learnt order T lo hi w m xs (set ys (192 + m) from)
  learnt_most from q small S C none =
      record {
        facts = record {
          long = length-set ys (192 + m) from ∙ L.facts.long;
          least = λ k l h. rw ((strip_as k l).0, (strip_as k l).1, other_least k l) (L.facts.least k l (rw (other_least k l) at h));
          most = λ k l h r c. go k l h r c (ℕ_discrete k m);
        };
        here = λ h. strip;
        others = λ k l f. same k l (L.others k l f) (ℕ_discrete k m);
      }
    where
      zs : List ℕ
      zs = set ys (192 + m) from

      strip_as : (k : ℕ) → k < 64 → (start_at zs k ≡ start_at ys k) × (stop_at zs k ≡ stop_at ys k)
      strip_as k l = (get_or-set_other ys (192 + m) k from 0 (λ e. omega arith), get_or-set_other ys (192 + m) (64 + k) from 0 (λ e. omega arith))

      other_least : (k : ℕ) → k < 64 → least_at zs k ≡ least_at ys k
      other_least k l = get_or-set_other ys (192 + m) (128 + k) from 0 (λ e. omega arith)

      here_most : most_at zs m ≡ from
      here_most = get_or-set_same ys (192 + m) from 0 (omega (arith, L.facts.long))

      strip : StripOf T.ports order lo hi w zs m
      strip = record { start = (strip_as m few).0 ∙ S.start; stop = (strip_as m few).1 ∙ S.stop }

      alike : (k : ℕ) → k < 64 → (k ≡ m → ⊥) → Alike ys zs k
      alike k l n = alike_set ys (192 + m) from k (λ e. omega arith) (λ e. omega arith) (λ e. omega arith) (λ e. n (omega arith))

      same : (k : ℕ) → k < 64 → Current T.ports order lo hi w ys k → Dec (k ≡ m) → Current T.ports order lo hi w zs k
      same k l f (yes e) h = rw e strip
      same k l f (no n) h = current_alike w (alike k l n) f h

      go : (k : ℕ) → k < 64 → 0 < most_at zs k → (r : ℕ) → LeadsAt order T lo hi zs k r → Dec (k ≡ m) → r < most_at zs k
      go k l h r c (yes e) =
          let d : LeadsAt order T lo hi zs m r = rw e at c in
          rw (e, here_most) (strip_below T m from q small S C none r (rw ((strip_as m few).0, (strip_as m few).1) at d))
      go k l h r c (no n) = most_alike L.facts k l (alike k l n) h r c

-- ---- from place to place

-- The memory is current as before, ..
pub memory_again : {order : List ℕ} {T : Source} {lo hi w xs ys : List ℕ} (u m : ℕ) → u ≤ 64 → Memory order T lo hi w u xs → Learnt order T lo hi w m xs ys
    → Memory order T lo hi w u ys
memory_again u m few M L = record { facts = L.facts; current = λ k l. L.others k (omega arith) (M.current k l) }

-- .. for fewer places, ..
pub memory_part : {order : List ℕ} {T : Source} {lo hi w xs : List ℕ} (u m : ℕ) → m ≤ u → Memory order T lo hi w u xs → Memory order T lo hi w m xs
memory_part u m h M = record { facts = M.facts; current = λ k l. M.current k (omega arith) }

-- .. for one place more, ..
pub memory_more : {order : List ℕ} {T : Source} {lo hi w xs ys : List ℕ} (m : ℕ) → m < 64 → Memory order T lo hi w m xs → Learnt order T lo hi w m xs ys
    → Memory order T lo hi w (m + 1) ys
memory_more {order} {T} {lo} {hi} {w} {ys = ys} m few M L = record { facts = L.facts; current = λ k l. go k l (dec_lt k m) }
  where
    go : (k : ℕ) → k < m + 1 → Dec (k < m) → Current T.ports order lo hi w ys k
    go k l (yes d) = L.others k (omega arith) (M.current k d)
    go k l (no d) = let e : k ≡ m = omega arith in rw e L.here

-- .. and up to a place whose pad gets a port.
pub memory_store : {order : List ℕ} {T : Source} {lo hi w xs : List ℕ} (u m q : ℕ) → ProperLists order T lo hi → length order ≤ length w → m < length order
    → m < u → Memory order T lo hi w u xs → Memory order T lo hi (set w (get_or order m 0) q) (m + 1) xs
memory_store {order} {T} {lo} {hi} {w} {xs} u m q P room inside h M = record { facts = M.facts; current = λ k l. go k (omega arith) }
  where
    v : List ℕ
    v = set w (get_or order m 0) q

    go : (k : ℕ) → k ≤ m → Current T.ports order lo hi v xs k
    go k l t = let s = M.current k (omega arith) t in let e = store_before P w room m inside q k l in record {
      start = s.start ∙ floor_cong (port_in w) (port_in v) (get_or lo (get_or order k 0) 0) (take k order) 0 e;
      stop = s.stop ∙ ceil_cong (port_in w) (port_in v) (get_or hi (get_or order k 0) 0) (take k order) T.ports e;
    }
