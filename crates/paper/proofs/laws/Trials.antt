-- Trials in general: an input is passed or refused, in one way; trials put one after the other.
--     not_both, refused_one: an input has one verdict;  alike_refused: trials that say the same;  passed_append, append_passed, refused_left, refused_right, refused-append: one list of trials after another
--     whole_refused: a fault of the input as a whole;  before_other, after_other, after_whole, not_whole, by_whole: by which of them it is refused
use Rattle.std.specs.Prelude.{◌≡◌, refl, ◌≢◌, ◌⊎◌, ◌↔◌, List, [], ◌∷◌, ◌++◌, ℕ, ◌<◌}
use Rattle.std.proofs.Common.{sym, ◌∙◌, inl, inr, ⊎_elim, arith}
use Rattle.std.proofs.Math.Decide.{dec_lt}
use Rattle.paper.specs.declared.Refusal.{Refusal}
use Rattle.paper.specs.Refusals.{Trial, Smallest, Clean, FirstFault, Passed, RefusedBy, refusal, of_each, of_whole}

-- ---- one verdict

pub smallest_one : (P : ℕ → Type 0) (i j : ℕ) → Smallest P i → Smallest P j → i ≡ j
smallest_one P i j a b = go (dec_lt i j) (dec_lt j i)
  where
    go : Dec (i < j) → Dec (j < i) → i ≡ j
    go (yes l) k = absurd (b.none_below i l a.here)
    go (no l) (yes k) = absurd (a.none_below j k b.here)
    go (no l) (no k) = omega arith

-- No input is passed and refused;
pub not_both : (ts : List Trial) (r : Refusal) → Passed ts → RefusedBy ts r → ⊥
not_both [] r p a = a
not_both (t ∷ ts) r p (inl a) = p.0 r.at a.1.inside a.1.first.here
not_both (t ∷ ts) r p (inr a) = not_both ts r p.1 a.1

-- it is refused in one way.
pub refused_one : (ts : List Trial) (r s : Refusal) → RefusedBy ts r → RefusedBy ts s → r ≡ s
refused_one [] r s a b = absurd a
refused_one (t ∷ ts) r s (inl a) (inl b) =
    let same = smallest_one t.fault r.at s.at a.1.first b.1.first in
    let with = smallest_one (t.beside r.at) r.earlier s.earlier a.1.named (rw same b.1.named) in
    let number = a.0 ∙ sym b.0 in
    λ i. record { reason = number i; at = same i; earlier = with i }
refused_one (t ∷ ts) r s (inl a) (inr b) = absurd (b.0 r.at a.1.inside a.1.first.here)
refused_one (t ∷ ts) r s (inr a) (inl b) = absurd (a.0 s.at b.1.inside b.1.first.here)
refused_one (t ∷ ts) r s (inr a) (inr b) = refused_one ts r s a.1 b.1

-- A trial that names no earlier record names 0; one of the whole input, whose fault is there, refuses with record 0.
pub alone : Smallest (λ j. j ≡ 0) 0
alone = record { here = refl; none_below = λ k l. absurd (omega arith) }

pub whole_refused : (r : ℕ) (P : Type 0) (ts : List Trial) → P → RefusedBy (of_whole r P ∷ ts) (refusal r 0 0)
whole_refused r P ts x = inl (refl, record { inside = omega arith; first = record { here = x; none_below = λ k l. absurd (omega arith) }; named = alone })

-- ---- trials alike

-- Two trials have one number, and are faulty at the same records, with the same ones named.
pub record Alike (t u : Trial) : Type 0 where
  pub reason_same : t.reason ≡ u.reason
  pub fault_iff : (i : ℕ) → ((i < t.among) × t.fault i) ↔ ((i < u.among) × u.fault i)
  pub beside_iff : (i j : ℕ) → t.beside i j ↔ u.beside i j

-- Of each of so many records.
pub each_alike : (r m n : ℕ) (P Q : ℕ → Type 0) → ((i : ℕ) → ((i < m) × P i) ↔ ((i < n) × Q i)) → Alike (of_each r m P) (of_each r n Q)
each_alike r m n P Q says = record { reason_same = refl; fault_iff = says; beside_iff = λ i j. ((λ x. x), λ x. x) }

alike_back : {t u : Trial} → Alike t u → Alike u t
alike_back a = record {
  reason_same = sym a.reason_same;
  fault_iff = λ i. ((a.fault_iff i).1, (a.fault_iff i).0);
  beside_iff = λ i j. ((a.beside_iff i j).1, (a.beside_iff i j).0);
}

alike_clean : {t u : Trial} → Alike t u → Clean t → Clean u
alike_clean a c i l x = let (k, y) = (a.fault_iff i).1 (l, x) in c i k y

alike_first : {t u : Trial} (i j : ℕ) → Alike t u → FirstFault t i j → FirstFault u i j
alike_first {t} {u} i j a f =
    let (l, here) = (a.fault_iff i).0 (f.inside, f.first.here) in
    record {
      inside = l;
      first = record { here = here; none_below = λ k m x. f.first.none_below k m ((a.fault_iff k).1 (omega arith, x)).1 };
      named = record { here = (a.beside_iff i j).0 f.named.here; none_below = λ k m x. f.named.none_below k m ((a.beside_iff i k).1 x) };
    }

-- Lists of such; a later one may go by the earlier being clean.
abbrev pub AllAlike : List Trial → List Trial → Type 0
AllAlike [] [] = Unit {0}
AllAlike [] (u ∷ us) = ⊥
AllAlike (t ∷ ts) [] = ⊥
AllAlike (t ∷ ts) (u ∷ us) = Alike t u × (Clean t → AllAlike ts us)

all_back : (ts us : List Trial) → AllAlike ts us → AllAlike us ts
all_back [] [] a = tt
all_back [] (u ∷ us) a = a
all_back (t ∷ ts) [] a = a
all_back (t ∷ ts) (u ∷ us) (a, k) = (alike_back a, λ c. all_back ts us (k (alike_clean (alike_back a) c)))

alike_there : (ts us : List Trial) (r : Refusal) → AllAlike ts us → RefusedBy ts r → RefusedBy us r
alike_there [] [] r a b = b
alike_there [] (u ∷ us) r a b = absurd a
alike_there (t ∷ ts) [] r a b = absurd a
alike_there (t ∷ ts) (u ∷ us) r (a, k) (inl (e, f)) = inl (e ∙ a.reason_same, alike_first r.at r.earlier a f)
alike_there (t ∷ ts) (u ∷ us) r (a, k) (inr (c, b)) = inr (alike_clean a c, alike_there ts us r (k c) b)

passed_there : (ts us : List Trial) → AllAlike ts us → Passed ts → Passed us
passed_there [] [] a p = p
passed_there [] (u ∷ us) a p = absurd a
passed_there (t ∷ ts) [] a p = absurd a
passed_there (t ∷ ts) (u ∷ us) (a, k) (c, p) = (alike_clean a c, passed_there ts us (k c) p)

-- They are passed alike, and refuse alike.
pub alike_passed : (ts us : List Trial) → AllAlike ts us → Passed ts ↔ Passed us
alike_passed ts us a = (passed_there ts us a, passed_there us ts (all_back ts us a))

pub alike_refused : (ts us : List Trial) (r : Refusal) → AllAlike ts us → RefusedBy ts r ↔ RefusedBy us r
alike_refused ts us r a = (alike_there ts us r a, alike_there us ts r (all_back ts us a))

-- ---- one list of trials after another

-- Both lists are passed exactly if the two together are.
pub passed_append : (ts us : List Trial) → Passed ts → Passed us → Passed (ts ++ us)
passed_append [] us p q = q
passed_append (t ∷ ts) us p q = (p.0, passed_append ts us p.1 q)

pub append_passed : (ts us : List Trial) → Passed (ts ++ us) → Passed ts × Passed us
append_passed [] us p = (tt, p)
append_passed (t ∷ ts) us p = let q = append_passed ts us p.1 in ((p.0, q.0), q.1)

-- A refusal by the first list stands; one by the second stands where the first is passed.
pub refused_left : (ts us : List Trial) (r : Refusal) → RefusedBy ts r → RefusedBy (ts ++ us) r
refused_left [] us r a = absurd a
refused_left (t ∷ ts) us r (inl a) = inl a
refused_left (t ∷ ts) us r (inr a) = inr (a.0, refused_left ts us r a.1)

pub refused_right : (ts us : List Trial) (r : Refusal) → Passed ts → RefusedBy us r → RefusedBy (ts ++ us) r
refused_right [] us r p a = a
refused_right (t ∷ ts) us r p a = inr (p.0, refused_right ts us r p.1 a)

-- What refuses is the first list, or the second where the first is passed.
pub refused-append : (ts us : List Trial) (r : Refusal) → RefusedBy (ts ++ us) r → RefusedBy ts r ⊎ (Passed ts × RefusedBy us r)
refused-append [] us r a = inr (tt, a)
refused-append (t ∷ ts) us r (inl a) = inl (inl a)
refused-append (t ∷ ts) us r (inr a) = ⊎_elim (λ b. inl (inr (a.0, b))) (λ (p, b). inr ((a.0, p), b)) (refused-append ts us r a.1)

-- What the second list does not refuse so, the first does; what the first does not, the second does, exactly where the first is passed.
pub before_other : (ts us : List Trial) (r : Refusal) → ¬ RefusedBy us r → RefusedBy (ts ++ us) r ↔ RefusedBy ts r
before_other ts us r n = ((λ a. ⊎_elim (λ b. b) (λ (p, b). absurd (n b)) (refused-append ts us r a)), refused_left ts us r)

pub after_other : (ts us : List Trial) (r : Refusal) → ¬ RefusedBy ts r → RefusedBy (ts ++ us) r ↔ (Passed ts × RefusedBy us r)
after_other ts us r n = ((λ a. ⊎_elim (λ b. absurd (n b)) (λ b. b) (refused-append ts us r a)), (λ (p, b). refused_right ts us r p b))

pub after_whole : (s : ℕ) (P : Type 0) (us : List Trial) (r : Refusal) → r.reason ≢ s → RefusedBy (of_whole s P ∷ us) r ↔ ((¬ P) × RefusedBy us r)
after_whole s P us r n = (⊎_elim (λ f. absurd (n f.0)) (λ (c, a). (c 0 (omega arith), a)), (λ (none, a). inr ((λ i l x. none x), a)))

pub not_whole : (s : ℕ) (P : Type 0) (us : List Trial) (r : Refusal) → r.reason ≢ s → ¬ RefusedBy us r → ¬ RefusedBy (of_whole s P ∷ us) r
not_whole s P us r n none a = none ((after_whole s P us r n).0 a).1

pub by_whole : (r : ℕ) (P : Type 0) (us : List Trial) → ¬ RefusedBy us (refusal r 0 0) → RefusedBy (of_whole r P ∷ us) (refusal r 0 0) ↔ P
by_whole r P us n = (⊎_elim (λ f. f.1.first.here) (λ a. absurd (n a.1)), whole_refused r P us)
