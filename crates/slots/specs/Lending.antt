-- What a caller has to know of the list that it lends: how long it must be, and that its figures have room at the end.
use Rattle.std.specs.Prelude.{◌≡◌, ℕ, ◌+◌, ◌*◌, ◌^◌, ◌≤◌, ◌<◌}
use Rattle.std.proofs.Common.{mul-le-mul, arith, lt-ltb}
use Rattle.strips.specs.Least.{some}
use Rattle.slots.specs.Slots.{figure_of, layer_of, figures_at, Room}

-- 2(n + 1)(p + 2)² numbers are enough.
pub room_lent : (n p size : ℕ) → n ≤ 64 → p ≤ 128 → 2 * ((n + 1) * ((p + 2) * (p + 2))) ≤ size → Room n p size
unfolding layer_of
room_lent n p size few ports long = record { few = few; ports = ports; long = long }

-- The figures and the open figures have room.
pub figures_fit : {n p size : ℕ} → Room n p size → figures_at n p + n * p ≤ size
unfolding layer_of
figures_fit {n} {p} {size} R =
    let t = mul-le-mul {n₁ = n} {m₁ = p + p} {n₂ = n + 1} {m₂ = (p + 2) * (p + 2)} (omega arith) (omega arith) in
    let l = R.long in
    omega arith

-- A number of 32 bits is a figure.
pub figure_some : (x : ℕ) → x < 2 ^ 32 → figure_of x ≡ some x
unfolding figure_of
figure_some x l = rw (lt-ltb x (2 ^ 32) l)
