-- Laws of `Leads`: which ports lead a strip's first pad, from the least totals of the strip and of a port as the code holds them.
use Rattle.std.specs.Prelude.{◌≡◌, true, ℕ, ◌+◌, ◌≤◌, ◌<◌, length, get_or, drop}
use Rattle.std.proofs.Math.Path.{refl, ap}
use Rattle.std.proofs.Common.{sym, ◌∙◌, subst, arith}
use mathlib.Core.List.{List, ◌∷◌}
use Rattle.strips.specs.Least.{Least, some}
use Rattle.strips.specs.Lists.{keep}
use Rattle.strips.proofs.Lists.{keep_yes}
use Rattle.strips.specs.Grid as strip
use Rattle.strips.specs.Prefix.{lies, Lies}
use Rattle.pads.specs.Pads.{Sides, spans, fits}
use Rattle.pads.specs.Counts.{spans_by, drop_at}
use Rattle.totals.specs.Strip.{grid, best_within, local_within}
use Rattle.totals.specs.Cell.{coded_by, Leads}
use Rattle.totals.specs.Totals.{Capped, coded_some}

module _ (S : Sides) (C : ℕ → ℕ → Least) (order : List ℕ) (r a b : ℕ) (listed : r < length order) (inside : Lies (grid S C) a b (get_or order r 0)) where
  abbrev first : ℕ
  first = get_or order r 0

  abbrev rest : List ℕ
  rest = drop (r + 1) order

  pub here : fits S a b first ≡ true
  here = spans_by a b (S.lo first) (S.hi first) inside.low inside.high

  pub same_keep : keep (fits S a b) rest ≡ keep (lies (grid S C) a b) rest
  unfolding spans
  same_keep = refl

  whole_is : best_within S C (drop r order) a b ≡ strip.best (grid S C) (first ∷ keep (lies (grid S C) a b) rest) a b
  unfolding best_within
  whole_is =
      ap (λ (l : List ℕ). strip.best (grid S C) (keep (fits S a b) l) a b) (drop_at order r listed)
      ∙ ap (λ (l : List ℕ). strip.best (grid S C) l a b) (keep_yes (fits S a b) first rest here ∙ ap (λ (l : List ℕ). first ∷ l) same_keep)

  choice_is : (q : ℕ) → local_within S C first rest a b q ≡ strip.local (grid S C) first (keep (lies (grid S C) a b) rest) a b q
  unfolding local_within spans
  choice_is q = refl

  -- z stands for none: a strip with no layout has no such port
  pub leads_none : (z m : ℕ) → Capped m (best_within S C (drop r order) a b) → m < z → coded_by z (best_within S C (drop r order) a b) ≡ z
      → (q : ℕ) → Leads (grid S C) order r a b q → ⊥
  leads_none z m most h e q L =
      let w = whole_is ∙ L.whole in
      let small : L.total ≤ m = subst (Capped m) w most in
      let same : L.total ≡ z = sym (ap (coded_by z) w) ∙ e in
      omega arith

  -- else those have the strip's least total
  module _ (z q x v : ℕ) (port : x ≡ coded_by z (local_within S C first rest a b q)) (whole : v ≡ coded_by z (best_within S C (drop r order) a b)) (has : v ≡ z → ⊥) where
    pub leads_yes : a ≤ q → q < b → x ≡ v → Leads (grid S C) order r a b q
    leads_yes low high e = record {
      low = low;
      high = high;
      total = x;
      here = sym (choice_is q) ∙ coded_some z (local_within S C first rest a b q) (λ n. has (sym e ∙ port ∙ n)) ∙ ap {B = Least} some (sym port);
      whole = sym whole_is ∙ coded_some z (best_within S C (drop r order) a b) (λ n. has (whole ∙ n)) ∙ ap {B = Least} some (sym whole ∙ sym e);
    }

    pub leads_no : (x ≡ v → ⊥) → Leads (grid S C) order r a b q → ⊥
    leads_no ne L = ne (port ∙ ap (coded_by z) (choice_is q ∙ L.here) ∙ sym (ap (coded_by z) (whole_is ∙ L.whole)) ∙ sym whole)
