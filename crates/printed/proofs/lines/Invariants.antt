-- `printed::lines` meets its contract: the lines so far are written. Assumes nothing.
use Prim.Native.Nat.{◌*◌, ◌≤◌}
use Rattle.text.specs.Text.{Writes}
use Rattle.printed.specs.Printed.{lines}
use Rattle.printed.proofs.lines.Given as goal

abbrev pub invariant-loop-i : goal.invariant-loop-i
invariant-loop-i l = (l.at ≤ 84 * l.i) × Writes l.initial.out 0 (lines l.job l.list l.i) l.at l.out
