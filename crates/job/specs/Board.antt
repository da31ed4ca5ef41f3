-- A job as the code has it, in the paper's words: the board that its bytes make, how many pads and ports it has, and whether it is an accepted one.
use Rattle.std.specs.Prelude.{ℕ}
use Rattle.job.specs.declared.Job.{Job}
use Rattle.paper.specs.Job.{count, port_count}
use Rattle.paper.specs.Layouts.{Board, board_from}
use Rattle.paper.specs.laws.Accepted.{Accepted}

abbrev pub board_on : Job → Board
board_on job = board_from job.form job.pads.now job.ports.now

abbrev pub pads_on : Job → ℕ
pads_on job = count job.pads.now

abbrev pub ports_on : Job → ℕ
ports_on job = port_count job.form job.ports.now

abbrev pub AcceptedOn : Job → Type 0
AcceptedOn job = Accepted job.form job.pads.now job.ports.now
