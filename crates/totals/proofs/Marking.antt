-- Laws of the ports that have the least total, while it is found, and of a strip's leading ports as a set.
use mathlib.Core.Path.{◌≡◌, refl, sym, ap, ◌∙◌, subst}
use mathlib.Core.Logic.{⊎_elim}
use mathlib.Core.Bool.{Bool, true, false, cond, ◌&&◌, true≢false}
use mathlib.Core.List.{List}
use Prim.Native.Nat.{ℕ, ◌+◌, ◌-◌, ◌*◌, ◌%◌, ◌^◌, ◌≤◌, ◌<◌, min}
use native.Mathlib.Omega.{arith}
use lib.Bits.{bit_or, or_shifted_r}
use lib.Pow.{shl_exact}
use lib.Dec.{leb, ltb, eqb}
use lib.ListN.{length, get_or}
use borrow.Author.Tests.{ltb-true, ltb-false, leb-true, eqb-true, lt-ltb, le-ltb, le-leb, eq-eqb}
use Rattle.numbers.proofs.Sets.{set_with, set_without, set_none, set_small}
use Rattle.strips.specs.Least.{Least, least}
use Rattle.strips.proofs.Lists.{both}
use Rattle.strips.specs.Prefix.{Lies}
use Rattle.pads.specs.Pads.{Sides, fits, sides_of, Pads}
use Rattle.pads.specs.Counts.{le_or_lt, bit_true}
use Rattle.totals.specs.declared.Best.{Best}
use Rattle.totals.specs.Strip.{grid}
use Rattle.totals.specs.Parted.{spans_lo, spans_hi}
use Rattle.totals.specs.Cell.{no_total, figures, grid_of, choice, coded, place, Sizes, Strip, Parts, port_total, joined, attained, BestOf, Valued, Marks}
use Rattle.totals.specs.Totals.{coded-least_none}
use Rattle.totals.specs.Leads.{leads_yes, leads_no}
use Rattle.totals.proofs.Ports.{Lower}
use Rattle.totals.proofs.Cells.{port_right, least_step, head_listed, head_counts}

-- ---- a port's digit

pub digit : (q : ℕ) → q < 64 → 1 * 2 ^ q % 2 ^ 64 ≡ 2 ^ q
digit q h = let e = shl_exact {a = 1} 1 q 64 (omega arith) (omega arith) in let f : 1 * 2 ^ q ≡ 2 ^ q = omega arith in e ∙ f

-- above all digits of m
pub with_digit : (m q : ℕ) → q < 64 → m < 2 ^ q → bit_or m (1 * 2 ^ q % 2 ^ 64) ≡ m + 2 ^ q
with_digit m q h l =
    let f : 1 * 2 ^ q ≡ 2 ^ q = omega arith in let g : 2 ^ q + m ≡ m + 2 ^ q = omega arith in
    ap (bit_or m) (digit q h ∙ sym f) ∙ or_shifted_r 1 q m l ∙ ap (λ (k : ℕ). k + m) f ∙ g

-- ---- the three cases of `joined`

module _ (v : Best) (q : ℕ) where
  -- t is less
  pub joined_less : (s t m : ℕ) → s < v.total → t ≡ s → m ≡ 2 ^ q → ◌≡◌ {A = Best} (record { total = s; ports = m }) (joined v t q)
  joined_less s t m u e f = rw (e, f, lt-ltb s v.total u) refl

  -- the same
  pub joined_same : (s t m : ℕ) → s ≡ v.total → s < no_total → t ≡ s → m ≡ v.ports + 2 ^ q
      → ◌≡◌ {A = Best} (record { total = v.total; ports = m }) (joined v t q)
  joined_same s t m u n e f = rw (e, f, le-ltb s v.total (omega arith), eq-eqb s v.total u, lt-ltb s no_total n) refl

  -- more, or none
  pub joined_not : (t : ℕ) → v.total ≤ t → (t ≡ v.total → t < no_total → ⊥) → v ≡ joined v t q
  joined_not t u n = rw (le-ltb t v.total u) (go (eqb t v.total && ltb t no_total) refl)
    where
      go : (x : Bool) → (eqb t v.total && ltb t no_total) ≡ x → v ≡ cond x (record { total = v.total; ports = v.ports + 2 ^ q }) v
      go true e = let w = both (eqb t v.total) (ltb t no_total) e in absurd (n (eqb-true t v.total w.0) (ltb-true t no_total w.1))
      go false e = refl

-- ---- one port more

module _ (f : ℕ → Least) (a : ℕ) where
  -- what `attained` says
  attained_is : (t q : ℕ) → attained f a t q ≡ true → (t < no_total) × (a ≤ q) × (coded (f q) ≡ t)
  attained_is t q e =
      let x = both (ltb t no_total) (leb a q && eqb (coded (f q)) t) e in
      let y = both (leb a q) (eqb (coded (f q)) t) x.1 in
      (ltb-true t no_total x.0, leb-true a q y.0, eqb-true (coded (f q)) t y.1)

  pub attained_by : (t q : ℕ) → t < no_total → a ≤ q → coded (f q) ≡ t → attained f a t q ≡ true
  attained_by t q u v e = rw (lt-ltb t no_total u, le-leb a q v) (eq-eqb (coded (f q)) t e)

  attained_not : (t q : ℕ) → ((t < no_total) × (a ≤ q) × (coded (f q) ≡ t) → ⊥) → attained f a t q ≡ false
  attained_not t q n = by (attained f a t q) refl
    where
      by : (x : Bool) → attained f a t q ≡ x → x ≡ false
      by true e = absurd (n (attained_is t q e))
      by false e = refl

  pub best_none : BestOf f a a (record { total = no_total; ports = 0 })
  best_none = record {
    total = coded-least_none f a;
    top = omega arith;
    low = λ q u v. absurd (omega arith);
    ports = sym (set_none (attained f a no_total) a (λ q u. attained_not no_total q (λ w. let x = w.0 in absurd (omega arith))));
  }

  module _ (v : Best) (q : ℕ) (aq : a ≤ q) (is : BestOf f a q v)
      (step : min v.total (coded (f q)) ≡ coded (least f a (q + 1 - a))) where
    abbrev s : ℕ
    s = coded (f q)

    -- q has less than the ports before it
    less : s < v.total → BestOf f a (q + 1) (record { total = s; ports = 2 ^ q })
    less u = record {
      total = omega arith;
      top = let t = is.top in omega arith;
      low = λ i w x. ⊎_elim (λ (y : q ≤ i). let e : q ≡ i = omega arith in let e' = ap (λ (k : ℕ). coded (f k)) e in omega arith)
          (λ (y : i < q). let l = is.low i w y in omega arith) (le_or_lt q i);
      ports =
          let none = set_none (attained f a s) q (λ i w. attained_not s i (λ x. let l = is.low i x.1 w in let e = x.2 in absurd (omega arith))) in
          let here = set_with (attained f a s) q (attained_by s q (let t = is.top in omega arith) aq refl) in
          omega arith;
    }

    -- or not
    more : v.total ≤ s → (i : ℕ) → a ≤ i → i < q + 1 → v.total ≤ coded (f i)
    more u i w x = ⊎_elim (λ (y : q ≤ i). let e : q ≡ i = omega arith in let e' = ap (λ (k : ℕ). coded (f k)) e in omega arith)
        (λ (y : i < q). is.low i w y) (le_or_lt q i)

    other : v.total ≤ s → (x : Bool) → (eqb s v.total && ltb s no_total) ≡ x
        → BestOf f a (q + 1) (cond x (record { total = v.total; ports = v.ports + 2 ^ q }) v)
    other u true e =
        let t = both (eqb s v.total) (ltb s no_total) e in let same = eqb-true s v.total t.0 in let some = ltb-true s no_total t.1 in record {
          total = omega arith;
          top = is.top;
          low = more u;
          ports = let here = set_with (attained f a v.total) q (attained_by v.total q (omega arith) aq same) in let was = is.ports in omega arith;
        }
    other u false e = record {
      total = omega arith;
      top = is.top;
      low = more u;
      ports = is.ports ∙ sym (set_without (attained f a v.total) q (attained_not v.total q (λ w.
          true≢false (sym (rw (eq-eqb s v.total w.2) (lt-ltb s no_total (let x = w.0 in let y = w.2 in omega arith))) ∙ e))));
    }

    pub best_step : BestOf f a (q + 1) (joined v s q)
    best_step = go (ltb s v.total) refl
      where
        go : (x : Bool) → ltb s v.total ≡ x
            → BestOf f a (q + 1) (cond x (record { total = s; ports = 2 ^ q }) (cond (eqb s v.total && ltb s no_total) (record { total = v.total; ports = v.ports + 2 ^ q }) v))
        go true e = less (ltb-true s v.total e)
        go false e = other (ltb-false s v.total e) (eqb s v.total && ltb s no_total) refl

pub ports_small : {f : ℕ → Least} {a q : ℕ} {v : Best} → BestOf f a q v → v.ports < 2 ^ q
ports_small {f} {a} {q} {v} is = let s = set_small (attained f a v.total) q in let e = is.ports in omega arith

-- the same of the lists that the code has
pub port_step : {hs ts order cs bs lo hi hb tb : List ℕ} (P : Pads order lo hi (length order)) (Z : Sizes hs ts order cs bs) (r a b : ℕ) (T : Strip (sides_of lo hi) order a b r)
    (D : Parts (sides_of lo hi) (figures cs bs (length order)) order hs ts a b) (q : ℕ) (aq : a ≤ q) (qb : q < b) (below above : ℕ)
    (L : Lower hb tb hs ts a q below) (ea : above ≡ place (q + 1) b) (v w : Best) → BestOf (choice order cs bs lo hi r a b) a q v
    → w ≡ joined v (port_total hb tb hs ts cs bs (r + 1) (get_or order r 0 * length order) q below above) q → BestOf (choice order cs bs lo hi r a b) a (q + 1) w
port_step {order = order} {cs} {bs} {lo} {hi} P Z r a b T D q aq qb below above L ea v w is e =
    let f = choice order cs bs lo hi r a b in
    subst (BestOf f a (q + 1)) (sym (e ∙ ap (λ (t : ℕ). joined v t q) (port_right P Z r a b T D q aq qb below above L ea)))
    (best_step f a v q aq is (least_step P Z r a b T D q aq qb v.total is.total))

-- ---- the ports that lead a strip's rightmost pad

module _ (order cs bs lo hi : List ℕ) (a b h : ℕ) (v : Best) (some-head : h ≡ 0 → ⊥) (ab : a < b)
    (L : Valued (sides_of lo hi) (figures cs bs (length order)) order a b h v.total) (is : BestOf (choice order cs bs lo hi (h - 1) a b) a b v) (has : v.total ≡ no_total → ⊥) where
  abbrev S : Sides
  S = sides_of lo hi

  abbrev C : ℕ → ℕ → Least
  C = figures cs bs (length order)

  abbrev first : ℕ
  first = get_or order (h - 1) 0

  inside : Lies (grid S C) a b first
  inside = let here = bit_true (fits S a b first) (head_counts S order a b h L.head some-head ab).0 in
      record { low = spans_lo a b (S.lo first) (S.hi first) here; high = spans_hi a b (S.lo first) (S.hi first) here }

  pub best_marks : Marks (grid_of order cs bs lo hi) order (h - 1) a b v.ports
  best_marks =
      let listed = head_listed S order a b h L.head some-head ab in
      let whole = L.value (h - 1) (omega arith) in
      let f = choice order cs bs lo hi (h - 1) a b in record {
        picks = attained f a v.total;
        set = is.ports;
        says = λ q qb. record {
          yes = λ e. let w = attained_is f a v.total q e in
              leads_yes S C order (h - 1) a b listed inside no_total q (coded (f q)) v.total refl whole has w.1 qb w.2;
          no = λ e l. leads_no S C order (h - 1) a b listed inside no_total q (coded (f q)) v.total refl whole has
              (λ x. true≢false (sym (attained_by f a v.total q (let t = is.top in ⊎_elim (λ (y : no_total ≤ v.total). absurd (has (omega arith))) (λ (y : v.total < no_total). y) (le_or_lt no_total v.total)) l.low x) ∙ e)) l;
        };
      }
