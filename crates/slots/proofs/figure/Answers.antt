-- `slots::figure` meets its contract. Assumes nothing.
use mathlib.Core.Path.{◌≡◌, ap, subst}
use Prim.Native.Nat.{ℕ, ◌+◌, ◌*◌, ◌≤◌, ◌<◌}
use native.Mathlib.Omega.{arith}
use lib.ListN.{get_or}
use borrow.Author.Tests.{lt-ltb, le-ltb}
use Rattle.slots.specs.Slots.{figure_of, figures_at}
use Rattle.slots.specs.Lending.{figures_fit}
use Rattle.slots.proofs.Spots.{row_in}
use Rattle.slots.proofs.figure.Goals as goal

pub bounds-work-figures_at : goal.bounds-work-figures_at
bounds-work-figures_at c = omega (arith, figures_fit c.requires.0, row_in c.args.n c.args.p c.args.j c.requires.1, c.requires.2, c.figures_at.ensures.0)

pub returns-then-x-lt-LIMIT : goal.returns-then-x-lt-LIMIT
unfolding figure_of
returns-then-x-lt-LIMIT c =
    let place : ℕ = figures_at c.args.n c.args.p + (c.args.j * c.args.p + c.args.q) in
    let found : c.figures_at.result + (c.args.j * c.args.p + c.args.q) ≡ place = omega (arith, c.figures_at.ensures.0) in
    let l : get_or c.args.work.now place 0 < 4294967296 = subst (λ (i : ℕ). get_or c.args.work.now i 0 < 4294967296) found c.if-x-lt-LIMIT.true in
    (rw (lt-ltb (get_or c.args.work.now place 0) 4294967296 l) (ap (λ (i : ℕ). get_or c.args.work.now i 0) found), c.if-x-lt-LIMIT.true)

pub returns-else-x-lt-LIMIT : goal.returns-else-x-lt-LIMIT
unfolding figure_of
returns-else-x-lt-LIMIT c =
    let place : ℕ = figures_at c.args.n c.args.p + (c.args.j * c.args.p + c.args.q) in
    let found : c.figures_at.result + (c.args.j * c.args.p + c.args.q) ≡ place = omega (arith, c.figures_at.ensures.0) in
    let l : 4294967296 ≤ get_or c.args.work.now place 0 = subst (λ (i : ℕ). 4294967296 ≤ get_or c.args.work.now i 0) found c.if-x-lt-LIMIT.false in
    (rw (le-ltb (get_or c.args.work.now place 0) 4294967296 l), omega arith)
