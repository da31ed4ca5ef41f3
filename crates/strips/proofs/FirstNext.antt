-- First and Next by the places of `order`, as loops go: which ports the pad at place m may have, when the pads before it have theirs.
-- The rightmost pad stands at place 0. There are p ports. Assumes nothing.
use Rattle.std.specs.Prelude.{ℕ, suc, ◌+◌, ◌-◌, ◌≤◌, ◌<◌, ◌≡◌, refl, length, take, drop, get_or}
use mathlib.Core.List.Memᴰ
use mathlib.Core.List.{List, [], ◌∷◌, ◌++◌, Memᴰ}
use Rattle.std.proofs.Common.{sym, ◌∙◌, ap, subst, arith, add-one, take-append-drop, length-drop, take-suc, take-add, drop-cons, drop-drop, get_or-drop}
use Rattle.strips.specs.Lists.{All, Distinct}
use Rattle.strips.proofs.Lists.{nil_all, distinct_apart}
use Rattle.strips.specs.Least.{some}
use Rattle.strips.specs.Grid.{Grid, below, above, best, BestIn}
use Rattle.strips.proofs.Strips.{has_best, best_split, best_least, least_best, local_parts}
use Rattle.strips.specs.Prefix.{Lies, AtStrip, Choice}
use Rattle.strips.proofs.Prefix.{choice_cong, strip_cong, narrow, pick}
use Rattle.strips.specs.Order.{SameOn, EarliestOn}
use Rattle.strips.proofs.Order.{same_snoc}
use Rattle.strips.specs.Following.{EachPad, EachBest, EachSmallest, EachLargest, After}
use Rattle.strips.proofs.Following.{each_of_index, choice_exists, first-earliest, next_earliest, end_last}
use Rattle.strips.proofs.Room.{full_parts}
use Rattle.strips.specs.FirstNext.{Optimal, Later, At, Extends, FilledFrom, StuckFrom, Listed, Stepped}

-- The list around place m.
pub around : (xs : List ℕ) (m : ℕ) → m < length xs → xs ≡ take m xs ++ (get_or xs m 0 ∷ drop (m + 1) xs)
around xs m h = sym (take-append-drop m xs) ∙ ap (take m xs ++◌) (drop-cons xs m 0 h ∙ ap (λ (k : ℕ). get_or xs m 0 ∷ drop k xs) (sym (add-one m)))

pub take_more : (xs : List ℕ) (m : ℕ) → m < length xs → take (m + 1) xs ≡ take m xs ++ (get_or xs m 0 ∷ [])
take_more xs m h = ap (λ (k : ℕ). take k xs) (add-one m) ∙ take-suc xs m 0 h

-- Each, from place k of a list on.
each_from : (P : List ℕ → ℕ → List ℕ → Type 0) (xs : List ℕ) (k : ℕ) → ((i : ℕ) → k ≤ i → i < length xs → P (take i xs) (get_or xs i 0) (drop (i + 1) xs))
    → EachPad P (take k xs) (drop k xs)
each_from P xs k h = each_of_index P (take k xs) (drop k xs) (λ i r. there i (let e = length-drop k xs in omega arith))
  where
    there : (i : ℕ) → k + i < length xs → P (take k xs ++ take i (drop k xs)) (get_or (drop k xs) i 0) (drop (suc i) (drop k xs))
    there i r =
        let same : k + i + 1 ≡ k + suc i = omega arith in
        rw (← take-add k i xs, get_or-drop k xs i 0, drop-drop (suc i) k xs, ← same) (h (k + i) (omega arith) r)

-- What is earliest of the layouts with P is so of those with Q, if they are the same.
earliest-map : (js : List ℕ) (P Q : (ℕ → ℕ) → Type 0) (f : ℕ → ℕ) → ((g : ℕ → ℕ) → P g → Q g) → ((g : ℕ → ℕ) → Q g → P g) → EarliestOn js P f → EarliestOn js Q f
earliest-map js P Q f h k e = record { has = h f e.has; first = λ g q. e.first g (k g q) }

module _ (B : Grid) (p : ℕ) (order : List ℕ) (L : Listed B p order) where
  pub best_optimal : (f : ℕ → ℕ) → BestIn B order 0 p f → Optimal B order p f
  best_optimal f s = record { layout = s.sol; least = best_least B L.lawful order 0 p f s }

  pub optimal_best : (f : ℕ → ℕ) → Optimal B order p f → BestIn B order 0 p f
  optimal_best f o = least_best B L.lawful order 0 p f L.distinct o.layout o.least

  -- Choices depend on the ports before only.
  pub at_cong : (f g : ℕ → ℕ) (m q : ℕ) → SameOn (take m order) f g → At B p order f m q → At B p order g m q
  at_cong f g m q e c = choice_cong B f g (take m order) (get_or order m 0) (drop (m + 1) order) 0 p q e c

  pub extends_start : (v : ℕ) (f : ℕ → ℕ) → best B order 0 p ≡ some v → Extends B p order 0 f
  extends_start v f e = let t = has_best B L.lawful order 0 p v L.distinct e in record { layout = t.0; best = t.1; same = nil_all (λ i. t.0 i ≡ f i) }

  pub extends_own : (m : ℕ) (f : ℕ → ℕ) → BestIn B order 0 p f → Extends B p order m f
  extends_own m f s = record { layout = f; best = s; same = λ i n. refl }

  module _ (m : ℕ) (inside : m < length order) where
    lie_after : All (Lies B 0 p) (drop (m + 1) order)
    lie_after k n = L.lie k (subst (Memᴰ k) (sym (around order m inside)) (Memᴰ.append_right (take m order) (Memᴰ.tail n)))

    best_around : (f : ℕ → ℕ) → BestIn B order 0 p f → BestIn B (take m order ++ (get_or order m 0 ∷ drop (m + 1) order)) 0 p f
    best_around f s = subst (λ (xs : List ℕ). BestIn B xs 0 p f) (around order m inside) s

    around_best : (f : ℕ → ℕ) → BestIn B (take m order ++ (get_or order m 0 ∷ drop (m + 1) order)) 0 p f → BestIn B order 0 p f
    around_best f s = subst (λ (xs : List ℕ). BestIn B xs 0 p f) (sym (around order m inside)) s

    distinct_around : Distinct (take m order ++ (get_or order m 0 ∷ drop (m + 1) order))
    distinct_around = subst Distinct (around order m inside) L.distinct

    -- The pads before place m are other pads.
    pub apart : (i : ℕ) → Memᴰ i (take m order) → i ≡ get_or order m 0 → ⊥
    apart = distinct_apart (take m order) (get_or order m 0) (drop (m + 1) order) distinct_around

    -- There is a choice, ..
    pub extends_choice : (f : ℕ → ℕ) (E : Extends B p order m f) → At B p order f m (E.layout (get_or order m 0))
    extends_choice f E = choice_exists B L.lawful 0 p (take m order) (get_or order m 0) (drop (m + 1) order) f E.layout lie_after
        (best_around E.layout E.best) E.same

    -- .. and with any choice the ports are again those of some best layout.
    pub extends_more : (f g : ℕ → ℕ) → Extends B p order m f → SameOn (take m order) f g → At B p order f m (g (get_or order m 0)) → Extends B p order (m + 1) g
    extends_more f g E e c =
        let t = pick B L.lawful (take m order) (get_or order m 0) (drop (m + 1) order) 0 p E.layout (g (get_or order m 0)) distinct_around lie_after
        (best_around E.layout E.best)
        (at_cong f E.layout m (g (get_or order m 0)) (λ i n. sym (E.same i n)) c) in
        record {
          layout = t.0;
          best = around_best t.0 t.1;
          same = subst (λ (xs : List ℕ). SameOn xs t.0 g) (sym (take_more order m inside))
              (same_snoc t.0 g (take m order) (get_or order m 0) (λ i n. t.2 i n ∙ E.same i n ∙ e i n) t.3);
        }

    -- With as many pads as ports the strip of the pad at place m has a pad for each port.
    pub extends_full : (f : ℕ → ℕ) → length order ≡ p → Extends B p order m f
        → AtStrip B (λ pads c d. length pads + 1 ≡ d - c) f (take m order) (get_or order m 0) (drop (m + 1) order) 0 p
    extends_full f full E =
        strip_cong B (λ pads c d. length pads + 1 ≡ d - c) E.layout f (take m order) (get_or order m 0) (drop (m + 1) order) 0 p E.same
        (let t = narrow B L.lawful (λ js c d. length js ≡ d - c) E.layout (record {
          under = λ r rest c d t y. (parts r rest c d t y).0;
          over = λ r rest c d t y. (parts r rest c d t y).1;
        }) (take m order) (get_or order m 0)
        (drop (m + 1) order) 0 p lie_after
        (best_around E.layout E.best) (let e = ap length (around order m inside) in omega arith) in omega arith)
      where
        parts : (r : ℕ) (rest : List ℕ) (c d : ℕ) → BestIn B (r ∷ rest) c d E.layout → length (r ∷ rest) ≡ d - c
            → (length (below B (E.layout r) rest) ≡ E.layout r - c) × (length (above B (E.layout r) rest) ≡ d - (E.layout r + 1))
        parts r rest c d t y =
            let k = (best_split B L.lawful r rest c d E.layout t).here in
            full_parts B L.lawful r rest c d (E.layout r) k.total y k.low k.high (local_parts B r rest c d (E.layout r) k.total k.here)

  next_at : (m : ℕ) → m < length order → (l f : ℕ → ℕ) → BestIn B order 0 p l → Stepped B p order L m l f → EarliestOn order (After B 0 p order l) f
  next_at m h l f s S =
      subst (λ (xs : List ℕ). EarliestOn xs (After B 0 p xs l) f) (sym (around order m h))
      (next_earliest B L.lawful 0 p (take m order) (get_or order m 0) (drop (m + 1) order) l f (distinct_around m h) (lie_after m h) (best_around m h l s)
      (record {
        before = S.before;
        larger = S.larger;
        choice = S.choice;
        next = S.next;
        filled = subst (λ (xs : List ℕ). EachBest B 0 p f xs (drop (m + 1) order)) (take_more order m h)
            (each_from (λ is j js. Choice B f is j js 0 p (f j)) order (m + 1) S.filled.choice);
        smallest = subst (λ (xs : List ℕ). EachSmallest B 0 p f xs (drop (m + 1) order)) (take_more order m h) (each_from (λ is j js. (q : ℕ) → Choice B f is j js 0 p q
            → f j ≤ q) order (m + 1) S.filled.smallest);
        last = subst (λ (xs : List ℕ). EachLargest B 0 p l xs (drop (m + 1) order)) (take_more order m h) (each_from (λ is j js. (q : ℕ) → Choice B l is j js 0 p q
            → q ≤ l j) order (m + 1) S.stuck.largest);
      }))

  -- FIRST, NEXT and END, by places, of the paper's best.
  pub first_optimal : (v : ℕ) (f : ℕ → ℕ) → best B order 0 p ≡ some v → FilledFrom B p order 0 f → EarliestOn order (Optimal B order p) f
  first_optimal v f e F =
      earliest-map order (BestIn B order 0 p) (Optimal B order p) f best_optimal optimal_best
      (first-earliest B L.lawful 0 p order v f L.distinct L.lie e
      (each_from (λ is j js. Choice B f is j js 0 p (f j)) order 0 F.choice)
      (each_from (λ is j js. (q : ℕ) → Choice B f is j js 0 p q → f j ≤ q) order 0 F.smallest))

  pub next_optimal : (m : ℕ) → m < length order → (l f : ℕ → ℕ) → BestIn B order 0 p l → Stepped B p order L m l f → EarliestOn order (Later B order p l) f
  next_optimal m h l f s S =
      earliest-map order (After B 0 p order l) (Later B order p l) f
      (λ g a. record { best = best_optimal g a.best; later = a.later })
      (λ g a. record { best = optimal_best g a.best; later = a.later }) (next_at m h l f s S)

  pub end_optimal : (l g : ℕ → ℕ) → StuckFrom B p order 0 l → Later B order p l g → ⊥
  end_optimal l g S a =
      end_last B L.lawful 0 p order l g L.lie
      (each_from (λ is j js. (q : ℕ) → Choice B l is j js 0 p q → q ≤ l j) order 0 S.largest)
      (record { best = optimal_best g a.best; later = a.later })
