-- `faults::meets` meets its contract: where the hand is right of the square only the arm counts. Assumes nothing.
use Rattle.std.proofs.Common.{◌≡◌, ◌+◌, ◌<◌, ℤ, pos, ◌+ℤ◌, ◌-ℤ◌, refl, arith, Bool, true, false, ◌&&◌, ◌||◌, to_z, of_z, w64}
use Rattle.std.specs.Int.Signed.{mag, le_z}
use borrow.Author.Tests.{lt-leb, le-leb}
use Rattle.numbers.proofs.Bits.{read_back, sum_small, less_small}
use Rattle.paper.specs.laws.Tests.{reaches, not_right, under_top, over_bottom, meets}
use Rattle.faults.proofs.meets.Goals as goal

or-none : (a b : Bool) → a && b ≡ (a || false) && (b || false)
or-none true true = refl
or-none true false = refl
or-none false b = refl

back : (z : ℤ) → mag z < 4294967296 → to_z w64 (of_z w64 z) ≡ z
back z h = read_back z (omega (arith, h))

wider : (z : ℤ) → mag z < 2147483648 → mag z < 4294967296
wider z h = omega (arith, h)

pub returns-then-x-reach : goal.returns-then-x-reach
unfolding meets reaches
returns-then-x-reach c =
    rw (lt-leb c.args.m.now.x (c.args.l.now.x + c.args.half) (omega (arith, c.if-x-reach.true, c.from-x.ensures, c.from-x2.ensures, c.from-reach.ensures)))

pub returns-then-x2-reach : goal.returns-then-x2-reach
unfolding meets reaches not_right under_top over_bottom
returns-then-x2-reach c =
    rw (
      le-leb c.args.m.now.x (c.args.l.now.x + c.args.half) (omega (arith, c.if-x-reach.false, c.from-x.ensures, c.from-x2.ensures, c.from-reach.ensures)),
      lt-leb c.args.l.now.x (c.args.m.now.x + c.args.half) (omega (arith, c.if-x2-reach.true, c.from-x.ensures, c.from-x2.ensures, c.from-reach.ensures)),
      read_back c.from-side.result c.from-side.type_inv,
      c.from-side.ensures,
      back c.args.m.now.y (wider c.args.m.now.y c.args.m.now.small.0),
      back c.args.l.now.port (wider c.args.l.now.port c.args.l.now.small.1),
      back (c.args.m.now.y +ℤ pos c.args.half) (sum_small c.args.m.now.y c.args.half c.args.m.now.small.0 c.ranges.half.fits),
      back (c.args.m.now.y -ℤ pos c.args.half) (less_small c.args.m.now.y c.args.half c.args.m.now.small.0 c.ranges.half.fits),
    )
    (or-none (le_z c.args.l.now.port (c.args.m.now.y +ℤ pos c.args.half)) (le_z (c.args.m.now.y -ℤ pos c.args.half) c.args.l.now.port))

pub returns-else-x2-reach : goal.returns-else-x2-reach
unfolding meets reaches not_right under_top over_bottom
returns-else-x2-reach c =
    rw (
      le-leb c.args.m.now.x (c.args.l.now.x + c.args.half) (omega (arith, c.if-x-reach.false, c.from-x.ensures, c.from-x2.ensures, c.from-reach.ensures)),
      le-leb c.args.l.now.x (c.args.m.now.x + c.args.half) (omega (arith, c.if-x2-reach.false, c.from-x.ensures, c.from-x2.ensures, c.from-reach.ensures)),
      read_back c.from-side.result c.from-side.type_inv,
      c.from-side.ensures,
      back c.args.m.now.y (wider c.args.m.now.y c.args.m.now.small.0),
      back c.args.l.now.y (wider c.args.l.now.y c.args.l.now.small.0),
      back c.args.l.now.port (wider c.args.l.now.port c.args.l.now.small.1),
      back (c.args.m.now.y +ℤ pos c.args.half) (sum_small c.args.m.now.y c.args.half c.args.m.now.small.0 c.ranges.half.fits),
      back (c.args.m.now.y -ℤ pos c.args.half) (less_small c.args.m.now.y c.args.half c.args.m.now.small.0 c.ranges.half.fits),
    )
