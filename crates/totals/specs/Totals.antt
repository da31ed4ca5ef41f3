-- Laws of `best_within`, `local_within` and `least`.
use Rattle.std.specs.Prelude.{◌≡◌, ◌⊎◌, Bool, cond, eqb, get_or, take, drop}
use Rattle.std.proofs.Math.Path.{refl, subst}
use Rattle.std.proofs.Common.{sym, ap, ap₂, ◌∙◌, inl, inr, ⊎_elim}
use Rattle.std.proofs.Math.Bool.{true, false}
use Rattle.std.proofs.lemmas.Bool.{false≢true}
use Rattle.strips.specs.Least.{Least, none, some, smaller_of, least}
use mathlib.Core.List.{List, [], ◌∷◌, ◌++◌, append-nil}
use Prim.Native.Nat.{ℕ, zero, suc, ◌+◌, ◌-◌, ◌*◌, ◌^◌, ◌≤◌, ◌<◌, min, zero-le}
use native.Mathlib.Omega.{arith}
use Rattle.pads.specs.Pads.{Sides, fits, bit, pads_in}
use Rattle.totals.specs.Strip.{parted_within, given, value, best_within, local_within}
use Rattle.totals.specs.Cell.{figures, coded_by, no_total, coded}
use Rattle.pads.specs.Counts.{le_or_lt, drop_split, count-drop}
use Rattle.totals.specs.Parted.{parted_least, parts_most}
use Rattle.totals.specs.Masks.{add, best_within_nil, best_in, best_out, local_parted, local_blocked}

-- ---- totals

plus_none : (x : Least) → add x none ≡ none
plus_none none = refl
plus_none (some x) = refl

-- the figure of a pad that may use the port
pub allowed_figure : (cs bs : List ℕ) (n j q : ℕ) → given (figures cs bs n j q) ≡ true → value (figures cs bs n j q) ≡ get_or cs (j * n + q) 0
allowed_figure cs bs n j q e = go (eqb (get_or bs (j * n + q) 0) 0) e
  where
    go : (z : Bool) → given (cond z (some (get_or cs (j * n + q) 0)) none) ≡ true → value (cond z (some (get_or cs (j * n + q) 0)) none) ≡ get_or cs (j * n + q) 0
    go true e = refl
    go false e = absurd (false≢true e)

-- ---- least

least_none : (f : ℕ → Least) (a k : ℕ) → ((q : ℕ) → a ≤ q → q < a + k → f q ≡ none) → least f a k ≡ none
unfolding least smaller_of
least_none f a zero h = refl
least_none f a (suc k) h =
    ap₂ smaller_of (least_none f a k (λ q u v. h q u (omega arith))) (h (a + k) (omega arith) (omega arith))

module _ (S : Sides) (C : ℕ → ℕ → Least) (r : ℕ) (rest : List ℕ) (a b q : ℕ) (aq : a ≤ q) (qb : q < b) where
  -- no part, or one without a layout
  pub local_none : (parted_within S a b q rest ≡ true → (best_within S C rest a q ≡ none) ⊎ (best_within S C rest (q + 1) b ≡ none)) → local_within S C r rest a b q ≡ none
  local_none h = go (parted_within S a b q rest) refl
    where
      part : parted_within S a b q rest ≡ true → (best_within S C rest a q ≡ none) ⊎ (best_within S C rest (q + 1) b ≡ none) → local_within S C r rest a b q ≡ none
      part e (inl n) = local_parted S C r rest a b q aq qb e ∙ ap (λ (o : Least). add (C r q) (add o (best_within S C rest (q + 1) b))) n ∙ plus_none (C r q)
      part e (inr n) = local_parted S C r rest a b q aq qb e ∙ ap (λ (o : Least). add (C r q) (add (best_within S C rest a q) o)) n ∙ ap (add (C r q))
          (plus_none (best_within S C rest a q)) ∙ plus_none (C r q)

      go : (x : Bool) → parted_within S a b q rest ≡ x → local_within S C r rest a b q ≡ none
      go true e = part e (h e)
      go false e = local_blocked S C r rest a b q aq qb e

-- ---- more pads than ports: no layout

module _ (S : Sides) (C : ℕ → ℕ → Least) where
  -- one port q of the strip, from the rest of the list
  crowded_local : (r : ℕ) (rest : List ℕ) (a b q : ℕ) → a ≤ q → q < b → ((a b : ℕ) → b - a < pads_in S a b rest → best_within S C rest a b ≡ none)
      → b - a ≤ pads_in S a b rest → local_within S C r rest a b q ≡ none
  crowded_local r rest a b q aq qb ih h =
      local_none S C r rest a b q aq qb (λ e. let all = parted_least S a b q rest e in
      ⊎_elim (λ u. inr (ih (q + 1) b (omega arith))) (λ u. inl (ih a q (omega arith))) (le_or_lt (pads_in S a q rest) (q - a)))

  pub crowded : (js : List ℕ) (a b : ℕ) → b - a < pads_in S a b js → best_within S C js a b ≡ none
  unfolding pads_in
  crowded [] a b h = absurd (omega arith)
  crowded (r ∷ rest) a b h = go (fits S a b r) refl h (λ a b h. crowded rest a b h)
    where
      go : (x : Bool) → fits S a b r ≡ x → b - a < bit x + pads_in S a b rest
          → ((a b : ℕ) → b - a < pads_in S a b rest → best_within S C rest a b ≡ none) → best_within S C (r ∷ rest) a b ≡ none
      go true e h ih = best_in S C r rest a b e ∙ least_none (local_within S C r rest a b) a (b - a) (λ q u v. crowded_local r rest a b q u (omega arith) ih (omega arith))
      go false e h ih = best_out S C r rest a b e ∙ ih a b (omega arith)

  -- pads that lie elsewhere do not matter
  skip : (pre js : List ℕ) (a b : ℕ) → pads_in S a b pre ≡ 0 → best_within S C (pre ++ js) a b ≡ best_within S C js a b
  unfolding pads_in
  skip [] js a b h = refl
  skip (j ∷ pre) js a b h = go (fits S a b j) refl h (λ h. skip pre js a b h)
    where
      go : (x : Bool) → fits S a b j ≡ x → bit x + pads_in S a b pre ≡ 0 → (pads_in S a b pre ≡ 0 → best_within S C (pre ++ js) a b ≡ best_within S C js a b)
          → best_within S C (j ∷ (pre ++ js)) a b ≡ best_within S C js a b
      go true e h ih = absurd (omega arith)
      go false e h ih = best_out S C j (pre ++ js) a b e ∙ ih (omega arith)

  -- from two places of a list on, with as many pads of the strip
  pub same_from : (l : List ℕ) (s s' a b : ℕ) → s ≤ s' → pads_in S a b (drop s l) ≡ pads_in S a b (drop s' l)
      → best_within S C (drop s l) a b ≡ best_within S C (drop s' l) a b
  same_from l s s' a b h e =
      ap (λ (k : List ℕ). best_within S C k a b) (drop_split l s s' h)
      ∙ skip (take (s' - s) (drop s l)) (drop s' l) a b (let w = count-drop S a b l s s' h in omega arith)

  -- no pads
  pub idle : (js : List ℕ) (a b : ℕ) → pads_in S a b js ≡ 0 → best_within S C js a b ≡ some 0
  idle js a b h = ap (λ (l : List ℕ). best_within S C l a b) (sym (append-nil js)) ∙ skip js [] a b h ∙ best_within_nil S C a b

-- ---- bounds

-- a total that is at most m, if there is one
abbrev pub Capped : ℕ → Least → Type 0
Capped m none = Unit {0}
Capped m (some v) = v ≤ m

pub most_mono : (m n : ℕ) (o : Least) → m ≤ n → Capped m o → Capped n o
most_mono m n none h p = tt
most_mono m n (some v) h p = omega arith

pub most_plus : (m n : ℕ) (x y : Least) → Capped m x → Capped n y → Capped (m + n) (add x y)
most_plus m n none y p q = tt
most_plus m n (some x) none p q = tt
most_plus m n (some x) (some y) p q = omega arith

most_meet : (m : ℕ) (x y : Least) → Capped m x → Capped m y → Capped m (smaller_of x y)
unfolding smaller_of
most_meet m none y p q = q
most_meet m (some x) none p q = p
most_meet m (some x) (some y) p q = omega arith

pub most_least : (m : ℕ) (f : ℕ → Least) (a k : ℕ) → ((q : ℕ) → a ≤ q → q < a + k → Capped m (f q)) → Capped m (least f a k)
unfolding least smaller_of
most_least m f a zero h = tt
most_least m f a (suc k) h = most_meet m (least f a k) (f (a + k)) (most_least m f a k (λ q u v. h q u (omega arith))) (h (a + k) (omega arith) (omega arith))

module _ (S : Sides) (C : ℕ → ℕ → Least) (level : (j : ℕ) → S.lo j ≤ S.hi j) (cheap : (j q : ℕ) → Capped (2 ^ 32) (C j q)) where
  most_local : (r : ℕ) (rest : List ℕ) (a b q : ℕ) → a ≤ q → q < b → ((a b : ℕ) → Capped (pads_in S a b rest * 2 ^ 32) (best_within S C rest a b))
      → Capped ((1 + pads_in S a b rest) * 2 ^ 32) (local_within S C r rest a b q)
  most_local r rest a b q aq qb ih = go (parted_within S a b q rest) refl
    where
      go : (x : Bool) → parted_within S a b q rest ≡ x → Capped ((1 + pads_in S a b rest) * 2 ^ 32) (local_within S C r rest a b q)
      go false e = subst (Capped ((1 + pads_in S a b rest) * 2 ^ 32)) (sym (local_blocked S C r rest a b q aq qb e)) tt
      go true e =
          let all = parts_most S level a b q aq qb rest in
          subst (Capped ((1 + pads_in S a b rest) * 2 ^ 32)) (sym (local_parted S C r rest a b q aq qb e))
          (most_mono (2 ^ 32 + (pads_in S a q rest * 2 ^ 32 + pads_in S (q + 1) b rest * 2 ^ 32)) ((1 + pads_in S a b rest) * 2 ^ 32)
          (add (C r q) (add (best_within S C rest a q) (best_within S C rest (q + 1) b))) (omega arith)
          (most_plus (2 ^ 32) (pads_in S a q rest * 2 ^ 32 + pads_in S (q + 1) b rest * 2 ^ 32) (C r q) (add (best_within S C rest a q) (best_within S C rest (q + 1) b))
          (cheap r q)
          (most_plus (pads_in S a q rest * 2 ^ 32) (pads_in S (q + 1) b rest * 2 ^ 32) (best_within S C rest a q) (best_within S C rest (q + 1) b) (ih a q) (ih (q + 1) b))))

  -- each pad costs less than 2 ^ 32
  pub most_best : (js : List ℕ) (a b : ℕ) → Capped (pads_in S a b js * 2 ^ 32) (best_within S C js a b)
  unfolding pads_in
  most_best [] a b = subst (Capped 0) (sym (best_within_nil S C a b)) zero-le
  most_best (r ∷ rest) a b = go (fits S a b r) refl (λ a b. most_best rest a b)
    where
      go : (x : Bool) → fits S a b r ≡ x → ((a b : ℕ) → Capped (pads_in S a b rest * 2 ^ 32) (best_within S C rest a b))
          → Capped ((bit x + pads_in S a b rest) * 2 ^ 32) (best_within S C (r ∷ rest) a b)
      go true e ih =
          subst (Capped ((1 + pads_in S a b rest) * 2 ^ 32)) (sym (best_in S C r rest a b e))
          (most_least ((1 + pads_in S a b rest) * 2 ^ 32) (local_within S C r rest a b) a (b - a) (λ q u v. most_local r rest a b q u (omega arith) ih))
      go false e ih =
          subst (Capped ((0 + pads_in S a b rest) * 2 ^ 32)) (sym (best_out S C r rest a b e))
          (most_mono (pads_in S a b rest * 2 ^ 32) ((0 + pads_in S a b rest) * 2 ^ 32) (best_within S C rest a b) (omega arith) (ih a b))

  pub local_most : (r : ℕ) (rest : List ℕ) (a b q : ℕ) → a ≤ q → q < b → Capped ((1 + pads_in S a b rest) * 2 ^ 32) (local_within S C r rest a b q)
  local_most r rest a b q aq qb = most_local r rest a b q aq qb (λ a b. most_best rest a b)

-- ---- totals as the code holds them

-- z stands for none
module _ (z : ℕ) where
  pub coded_none : (m : ℕ) (o : Least) → Capped m o → m < z → coded_by z o ≡ z → o ≡ none
  coded_none m none p h e = refl
  coded_none m (some v) p h e = absurd (omega arith)

  pub coded_some : (o : Least) → (coded_by z o ≡ z → ⊥) → o ≡ some (coded_by z o)
  coded_some none h = absurd (h refl)
  coded_some (some v) h = refl

  pub coded_meet : (m : ℕ) (x y : Least) → Capped m x → Capped m y → m ≤ z → coded_by z (smaller_of x y) ≡ min (coded_by z x) (coded_by z y)
  unfolding smaller_of
  coded_meet m none none p q h = omega arith
  coded_meet m none (some y) p q h = omega arith
  coded_meet m (some x) none p q h = omega arith
  coded_meet m (some x) (some y) p q h = refl

-- no port
pub coded-least_none : (f : ℕ → Least) (a : ℕ) → no_total ≡ coded (least f a (a - a))
unfolding least smaller_of
coded-least_none f a = let e : a - a ≡ 0 = omega arith in ap (λ (k : ℕ). coded (least f a k)) (sym e)

-- one port more
pub coded-least : (m : ℕ) (f : ℕ → Least) (a q : ℕ) → m < 2 ^ 40 → a ≤ q → ((i : ℕ) → a ≤ i → i < q + 1 → Capped m (f i))
    → min (coded (least f a (q - a))) (coded (f q)) ≡ coded (least f a (q + 1 - a))
unfolding least smaller_of
coded-least m f a q small aq h =
    let e : a + (q - a) ≡ q = omega arith in
    let e' : q + 1 - a ≡ suc (q - a) = omega arith in
    sym (coded_meet no_total m (least f a (q - a)) (f q) (most_least m f a (q - a) (λ i u v. h i u (omega arith))) (h q aq (omega arith)) (omega arith))
    ∙ ap (λ (k : ℕ). coded (smaller_of (least f a (q - a)) (f k))) (sym e)
    ∙ ap (λ (k : ℕ). coded (least f a k)) (sym e')
