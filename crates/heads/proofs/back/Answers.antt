use Rattle.heads.proofs.Scan.{scan_start, scan_some, scan_step, scan_found}
use native.Mathlib.Omega.{arith}
use Rattle.heads.proofs.back.Goals as goal

pub loop-m-init : goal.loop-m-init
loop-m-init c = scan_start _ _ _ _ _ _ c.requires.from_in_bounds.0 c.requires.from_in_bounds.1 c.requires.here_bound.0

pub loop-m-preserved : goal.loop-m-preserved
loop-m-preserved c = rw c.stands-m.ensures (scan_step _ _ _ _ c.loop-m.k c.loop-m.m
    (scan_some _ _ _ _ c.loop-m.k c.loop-m.m c.loop-m-test.true
    c.requires.here_bound.1 c.loop-m.invariant) c.loop-m-test.true c.loop-m.invariant)

pub returns : goal.returns
returns c = scan_found _ _ _ _ c.loop-m.k c.loop-m.m (omega arith) c.loop-m-test.false c.loop-m.invariant
