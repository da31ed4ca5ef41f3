-- One record byte by byte, after another, and one drawn leader place by place: offsets, little-endian, two's complement, x before y.
--     fields_read, coordinates-read
use Rattle.std.specs.Prelude.{◌≡◌, refl, [], ◌∷◌, pos, neg_ℤ}
use Rattle.std.specs.Float.Ieee.{round}
use Rattle.paper.specs.declared.Form.TheVariants.{Records, Slots}
use Rattle.paper.specs.Job.{records, count, twos, name_of, half_of, x_of, y_of, last_of, port_count, port_of}
use Rattle.paper.specs.Layouts.{board_of, leader}
use Rattle.paper.specs.Canvas.{coordinates}
use Rattle.paper.specs.Sheets.{sample, J5}
use Rattle.paper.specs.laws.Quarter.{quarter}
use Rattle.paper.specs.laws.Drawn.{by_bend, canvas, leader_drawn}

-- How many records, the fields of the second, the last four bytes as the last of eight ports, and the last number that is not negative.
pub fields_read : (count sample ≡ 2) × (name_of sample 1 ≡ 513) × (half_of sample 1 ≡ 1027) × (x_of sample 1 ≡ 134678021)
    × (y_of sample 1 ≡ neg_ℤ (pos 1)) × (last_of sample 1 ≡ 2147483648) × (port_of Records sample 1 ≡ neg_ℤ (pos 2147483648))
    × (port_count Slots sample ≡ 8) × (port_of Slots sample 7 ≡ neg_ℤ (pos 2147483648)) × (twos 2147483647 ≡ pos 2147483647)
unfolding name_of half_of x_of y_of last_of port_of twos
fields_read = (refl, refl, refl, refl, refl, refl, refl, refl, refl, refl)

-- J5, record 2 to port 0, and record 0 to port 1: quarters of x and of -y, x before y.
pub coordinates-read : (coordinates (leader_drawn (leader (board_of (records J5)) 2 0))
    ≡ quarter (pos 30) ∷ quarter (neg_ℤ (pos 30)) ∷ quarter (pos 30) ∷ quarter (pos 0) ∷ quarter (pos 0) ∷ quarter (pos 0) ∷ [])
    × (coordinates (leader_drawn (leader (board_of (records J5)) 0 1)) ≡ quarter (pos 10) ∷ quarter (neg_ℤ (pos 10)) ∷ quarter (pos 0) ∷ quarter (neg_ℤ (pos 10)) ∷ [])
unfolding leader_drawn by_bend canvas quarter round x_of y_of port_of twos
coordinates-read = (refl, refl)
