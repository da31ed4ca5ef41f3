-- What a job is once its trials are passed, and weights or a table beside it. What follows is proofs/laws/Accepted.
use Rattle.std.specs.Prelude.{◌≡◌, ◌≢◌, List, ℕ, ◌*◌, ◌≤◌, ◌<◌, length, pos, nat_abs, ◌+ℤ◌, ◌≤ℤ◌}
use Rattle.paper.specs.declared.Form.{Form}
use Rattle.paper.specs.Job.{Job, form_of, pads_of, ports_of, count, name_of, half_of, x_of, y_of, port_count, port_of}
use Rattle.paper.specs.Layouts.{Board, board_from, Badness, by_weights, by_table}
use Rattle.paper.specs.Layouts.{Proper}

-- An accepted job: 1 to 64 pads and as many ports at least, at most 128, fields in range, names that differ, ports at least 8 apart that rise and pads whose x differ.
pub record Accepted (form : Form) (pads ports : List ℕ) : Type 0 where
  pub size : length pads ≤ 1024
  pub port_size : length ports ≤ 1024
  pub some : 0 < count pads
  pub few : count pads ≤ 64
  pub slots_few : port_count form ports ≤ 128
  pub whole : 16 * count pads ≡ length pads
  pub named : (i : ℕ) → i < count pads → name_of pads i ≢ 0
  pub names_differ : (i j : ℕ) → j < i → i < count pads → name_of pads i ≢ name_of pads j
  pub half : (i : ℕ) → i < count pads → half_of pads i ≤ 2000
  pub right : (i : ℕ) → i < count pads → 1 ≤ x_of pads i
  pub width : (i : ℕ) → i < count pads → x_of pads i ≤ 1000000
  pub pad : (i : ℕ) → i < count pads → nat_abs (y_of pads i) ≤ 1000000
  pub port : (q : ℕ) → q < port_count form ports → nat_abs (port_of form ports q) ≤ 1000000
  pub spaced : (a c : ℕ) → a < c → c < port_count form ports → (port_of form ports a +ℤ pos 8) ≤ℤ port_of form ports c
  pub proper : Proper (board_from form pads ports)

abbrev pub AcceptedJob : Job → Type 0
AcceptedJob job = Accepted (form_of job) (pads_of job) (ports_of job)

-- 2 and 13 are passed exactly by weights in range, and by tables with a figure for each pad and port.
abbrev pub Fair : Board → Badness → Type 0
Fair b (by_weights lw bw) = (lw ≤ 1000) × (bw ≤ 1000)
Fair b (by_table figures) = length figures ≡ b.pads * b.ports
