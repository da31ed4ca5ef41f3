-- `svg::line` meets its contract. Assumes nothing.
use mathlib.Core.Path.{◌≡◌, ap}
use Prim.Native.Nat.{◌+◌}
use native.Mathlib.Omega.{arith}
use lib.ListN.{length}
use mir.Syntax.{w64}
use mir.Val.{to_z, of_z}
use Rattle.numbers.proofs.Bits.{read_back, same_bits}
use Rattle.paper.specs.laws.Texts.{point_text, line_text}
use Rattle.svg.proofs.Parts.{straight_written, bent_written, straight_length, bent_length, line_long}
use Rattle.svg.proofs.line.Goals as goal
use Rattle.svg.proofs.line.Goals.{then-y-q, else-y-q}

pub word-start-requires : goal.word-start-requires
word-start-requires c = omega (arith, line_long (record { x = c.args.x; y = c.args.y; port = c.args.q }), c.requires.1)

pub point-pad-requires : goal.point-pad-requires
point-pad-requires c =
    let back-y : to_z w64 (of_z w64 c.args.y) ≡ c.args.y = read_back c.args.y c.ranges.y.sfits in
    rw back-y (c.requires.0.pad, omega (arith, line_long (record { x = c.args.x; y = c.args.y; port = c.args.q }), c.requires.1, c.word-start.ensures.stop, c.word-start.auto.out))

pub further-bend-requires : goal.further-bend-requires
further-bend-requires c =
    let back-q : to_z w64 (of_z w64 c.args.q) ≡ c.args.q = read_back c.args.q c.ranges.q.sfits in
    let bends : c.args.y ≡ c.args.q → ⊥ = λ e. c.if-y-q.false (ap (of_z w64) e) in
    let back-y : to_z w64 (of_z w64 c.args.y) ≡ c.args.y = read_back c.args.y c.ranges.y.sfits in
    let is = rw back-y at c.point-pad.ensures.stop in
    rw back-q (c.requires.0.port, omega (arith, is, c.word-start.ensures.stop, c.point-pad.auto.out, c.word-start.auto.out, bent_length (record { x = c.args.x; y = c.args.y; port = c.args.q }) bends, c.requires.1))

-- After the bend, or the pad where there is none, come a blank, the port and the line's end.
pub further-port-requires : goal.further-port-requires
further-port-requires c =
    let back-q : to_z w64 (of_z w64 c.args.q) ≡ c.args.q = read_back c.args.q c.ranges.q.sfits in
    let back-y : to_z w64 (of_z w64 c.args.y) ≡ c.args.y = read_back c.args.y c.ranges.y.sfits in
    let is = rw back-y at c.point-pad.ensures.stop in
    let ahead : c.if-y-q.bend + 4 + length (point_text 0 c.args.q) ≡ c.args.at + length (line_text (record { x = c.args.x; y = c.args.y; port = c.args.q })) = elim c.if-y-q.branch [
      | then-y-q w ↦
          let level : c.args.y ≡ c.args.q = same_bits c.args.y c.args.q c.ranges.y.sfits c.ranges.q.sfits w.if-y-q.true in
          omega (arith, is, c.word-start.ensures.stop, w.bend-is, straight_length (record { x = c.args.x; y = c.args.y; port = c.args.q }) level)
      | else-y-q w ↦
          let bends : c.args.y ≡ c.args.q → ⊥ = λ e. w.if-y-q.false (ap (of_z w64) e) in
          omega (arith, is, c.word-start.ensures.stop, w.bend-is, rw back-q at w.further-bend.ensures.stop, bent_length (record { x = c.args.x; y = c.args.y; port = c.args.q }) bends)
    ] in
    rw back-q (c.requires.0.port, omega (arith, ahead, c.if-y-q.auto.out, c.point-pad.auto.out, c.word-start.auto.out, c.requires.1))

pub word-requires : goal.word-requires
word-requires c =
    let back-q : to_z w64 (of_z w64 c.args.q) ≡ c.args.q = read_back c.args.q c.ranges.q.sfits in
    let back-y : to_z w64 (of_z w64 c.args.y) ≡ c.args.y = read_back c.args.y c.ranges.y.sfits in
    let is = rw back-y at c.point-pad.ensures.stop in
    let ahead : c.if-y-q.bend + 4 + length (point_text 0 c.args.q) ≡ c.args.at + length (line_text (record { x = c.args.x; y = c.args.y; port = c.args.q })) = elim c.if-y-q.branch [
      | then-y-q w ↦
          let level : c.args.y ≡ c.args.q = same_bits c.args.y c.args.q c.ranges.y.sfits c.ranges.q.sfits w.if-y-q.true in
          omega (arith, is, c.word-start.ensures.stop, w.bend-is, straight_length (record { x = c.args.x; y = c.args.y; port = c.args.q }) level)
      | else-y-q w ↦
          let bends : c.args.y ≡ c.args.q → ⊥ = λ e. w.if-y-q.false (ap (of_z w64) e) in
          omega (arith, is, c.word-start.ensures.stop, w.bend-is, rw back-q at w.further-bend.ensures.stop, bent_length (record { x = c.args.x; y = c.args.y; port = c.args.q }) bends)
    ] in
    omega (arith, ahead, rw back-q at c.further-port.ensures.stop, c.further-port.auto.out, c.if-y-q.auto.out, c.point-pad.auto.out, c.word-start.auto.out, c.requires.1)

pub returns : goal.returns
returns c =
    let back-y : to_z w64 (of_z w64 c.args.y) ≡ c.args.y = read_back c.args.y c.ranges.y.sfits in
    let back-q : to_z w64 (of_z w64 c.args.q) ≡ c.args.q = read_back c.args.q c.ranges.q.sfits in
    elim c.if-y-q.branch [
      | then-y-q w ↦
          let level : c.args.y ≡ c.args.q = same_bits c.args.y c.args.q c.ranges.y.sfits c.ranges.q.sfits w.if-y-q.true in
          straight_written (record { x = c.args.x; y = c.args.y; port = c.args.q }) level c.word-start.ensures (rw back-y at c.point-pad.ensures) (rw (back-q, w.bend-is, w.out-is) at c.further-port.ensures) c.word.ensures
      | else-y-q w ↦
          let bends : c.args.y ≡ c.args.q → ⊥ = λ e. w.if-y-q.false (ap (of_z w64) e) in
          bent_written (record { x = c.args.x; y = c.args.y; port = c.args.q }) bends c.word-start.ensures (rw back-y at c.point-pad.ensures) (rw back-q at w.further-bend.ensures)
          (rw (back-q, w.bend-is, w.out-is) at c.further-port.ensures) c.word.ensures
    ]
