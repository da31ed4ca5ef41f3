-- The facts of a search have one proof at most.
use Rattle.std.specs.Prelude.{◌≡◌, List, ℕ, ◌<◌, get_or}
use Rattle.std.proofs.Common.{sym, ◌∙◌}
use Rattle.std.proofs.Props.{props}
use mathlib.Core.HLevel.{is_prop→PathP}
use mathlib.Core.Sum.{⊎_set}
use Rattle.numbers.specs.Arrangement.{Arrangement}
use Rattle.choices.specs.Source.{Source}
use Rattle.choices.specs.Choices.{ProperLists}
use Rattle.choices.specs.Tables.{RightIn}
use Rattle.choices.specs.declared.Tables.{Tables}
use Rattle.choices.specs.declared.Tables.TheVariants.{Full, Slotted}

-- a number stands at one place
place-prop : {n : ℕ} (order : List ℕ) → ((i m : ℕ) → i < n → m < n → get_or order i 0 ≡ get_or order m 0 → i ≡ m)
    → (j : ℕ) → IsProp ((m : ℕ) × (m < n) × (get_or order m 0 ≡ j))
place-prop {n} order apart j s t =
    let e = apart s.0 t.0 s.1 t.1 (s.2 ∙ sym t.2) in
    let below : (m : ℕ) → IsProp (m < n) = hlevel props in
    let same : (m : ℕ) → IsProp (get_or order m 0 ≡ j) = hlevel props in
    λ i. (e i, is_prop→PathP (λ i. e i < n) (λ i. below (e i)) s.1 t.1 i, is_prop→PathP (λ i. get_or order (e i) 0 ≡ j) (λ i. same (e i)) s.2 t.2 i)

arranged-prop : (n : ℕ) (order : List ℕ) → IsProp (Arrangement n order)
arranged-prop n order A B = let one : IsProp (Arrangement n order) = hlevel (place-prop order A.apart, props) in one A B

pub proper_prop : (order : List ℕ) (T : Source) (lo hi : List ℕ) → IsProp (ProperLists order T lo hi)
proper_prop order T lo hi = hlevel (arranged-prop, props)

pub right_prop : (t : Tables) (order lo hi : List ℕ) (p : ℕ) → IsProp (RightIn t order lo hi p)
right_prop (Full table figures) order lo hi p = hlevel (⊎_set, props)
right_prop (Slotted work) order lo hi p = hlevel (⊎_set, props)
