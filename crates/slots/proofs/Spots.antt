-- Where things stand in the work list.
use mathlib.Core.Path.{◌≡◌, ap}
use mathlib.Core.Logic.{⊎_elim}
use Prim.Native.Nat.{ℕ, suc, ◌+◌, ◌*◌, ◌≤◌, ◌<◌}
use native.Mathlib.Omega.{arith}
use native.Mathlib.Nat.{mul-le-mul, mul-le-mul_right}
use Rattle.pads.specs.Counts.{le_or_lt}
use Rattle.slots.specs.Slots.{layer_of, cell_at, opens_at, figures_at, Room}
use Rattle.slots.specs.Lending.{figures_fit}

pub layer_small : (p : ℕ) → p ≤ 128 → layer_of p ≤ 16900
unfolding layer_of
layer_small p h = mul-le-mul {n₁ = p + 2} {m₁ = p + 2} {n₂ = 130} {m₂ = 130} (omega arith) (omega arith)

-- a column is within its layer
pub cell_in : (p a b : ℕ) → a ≤ p + 1 → b ≤ p → b * (p + 2) + a < layer_of p
unfolding layer_of
cell_in p a b h k = let t = mul-le-mul_right {m = b} {n = p} (p + 2) k in omega arith

-- an earlier column ends before a later one
col_before : (p b b' : ℕ) → b < b' → b * (p + 2) + (p + 2) ≤ b' * (p + 2)
col_before p b b' h = let t = mul-le-mul_right {m = suc b} {n = b'} (p + 2) h in omega arith

-- two strips stand at two places
pub cell_apart : (p a b a' b' : ℕ) → a ≤ p + 1 → a' ≤ p + 1 → b * (p + 2) + a ≡ b' * (p + 2) + a' → (a ≡ a') × (b ≡ b')
cell_apart p a b a' b' h h' e =
    ⊎_elim
    (λ (u : b ≤ b'). ⊎_elim
    (λ (v : b' ≤ b). let s : b ≡ b' = omega arith in (let t = ap (λ (i : ℕ). i * (p + 2)) s in omega arith, s))
    (λ (v : b < b'). let t = col_before p b b' v in absurd (omega arith))
    (le_or_lt b' b))
    (λ (u : b' < b). let t = col_before p b' b u in absurd (omega arith))
    (le_or_lt b b')

-- a row of n × p figures ends where the next starts
pub row_in : (n p j : ℕ) → j < n → j * p + p ≤ n * p
row_in n p j h = let t = mul-le-mul_right {m = suc j} {n = n} p h in omega arith

-- the row of open figures that is written has room, and the row of figures that is read for it
pub rows_fit : {n p size : ℕ} → Room n p size → (k j : ℕ) → k < n → j < n
    → (opens_at n p + k * p + p ≤ figures_at n p + j * p) × (figures_at n p + j * p + p ≤ size)
rows_fit {n} {p} R k j kn jn = let s = row_in n p k kn in let t = row_in n p j jn in let u = figures_fit R in (omega arith, omega arith)

-- sizes that the code multiplies out
pub sizes_small : {n p size : ℕ} → Room n p size → (r : ℕ) → r ≡ layer_of p → ((n + 1) * r ≡ opens_at n p) × ((n + 1) * r ≤ 1098500) × (n * p ≤ 8192)
sizes_small {n} {p} R r e =
    let s = layer_small p R.ports in
    let t = mul-le-mul {n₁ = n + 1} {m₁ = r} {n₂ = 65} {m₂ = 16900} (let f = R.few in omega arith) (omega arith) in
    (ap (λ (i : ℕ). (n + 1) * i) e, omega arith, mul-le-mul {n₁ = n} {m₁ = p} {n₂ = 64} {m₂ = 128} R.few R.ports)

-- a layer has room
pub layer_fits : (n p k : ℕ) → k ≤ n → k * layer_of p + layer_of p ≤ opens_at n p
layer_fits n p k h = let t = mul-le-mul_right {m = suc k} {n = n + 1} (layer_of p) (omega arith) in omega arith

-- where layer k and the next stand, and the open figures of place k
pub record Spot (n p size k : ℕ) : Type 0 where
  pub layers : k * layer_of p + layer_of p + layer_of p ≤ opens_at n p
  pub next : (k + 1) * layer_of p ≡ k * layer_of p + layer_of p
  pub row : opens_at n p + k * p + p ≤ size
  pub whole : opens_at n p ≤ size
  pub before : opens_at n p ≤ figures_at n p

pub spot : {n p size : ℕ} → Room n p size → (k : ℕ) → k < n → Spot n p size k
spot {n} {p} R k h =
    let t = layer_fits n p (k + 1) (omega arith) in
    let u = row_in n p k h in
    let v = figures_fit R in
    record { layers = omega arith; next = omega arith; row = omega arith; whole = omega arith; before = omega arith }

-- the places that a search of the strip a .. b - 1 at place m reads, as the code works them out with the layer's size r
pub record Search (n p m a b r size : ℕ) : Type 0 where
  pub figures : (n + 1) * r + m * p ≡ opens_at n p + m * p
  pub row : (n + 1) * r + m * p + p ≤ size
  pub cell : m * r + b * (p + 2) + a ≡ cell_at p (m * layer_of p) a b
  pub next : (m + 1) * r ≡ (m + 1) * layer_of p
  pub above : m * r + b * (p + 2) + r + 1 ≡ cell_at p ((m + 1) * r) 1 b
  pub layers : (m + 1) * r + r ≤ size
  pub here : m * r + b * (p + 2) + a < (m + 1) * r
  pub column : b * (p + 2) + (p + 2) ≤ r

pub search_at : {n p size : ℕ} → Room n p size → (m a b r : ℕ) → r ≡ layer_of p → m < n → a ≤ b → b ≤ p → Search n p m a b r size
search_at {n} {p} R m a b r e h ab bp =
    let t = spot R m h in
    let s = (sizes_small R r e).0 in
    let x = ap (λ (i : ℕ). m * i) e in
    let c = cell_in p (p + 1) b (omega arith) bp in
    record {
      figures = omega arith;
      row = omega (arith, t.row);
      cell = omega arith;
      next = ap (λ (i : ℕ). (m + 1) * i) e;
      above = omega arith;
      layers = omega (arith, t.layers, t.whole);
      here = omega arith;
      column = omega arith;
    }
