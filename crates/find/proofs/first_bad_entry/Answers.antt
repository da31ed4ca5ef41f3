use Prim.Native.Nat.{ℕ, ◌+◌, ◌≤◌, ◌<◌}
use mathlib.Core.Path.{◌≡◌, sym, ◌∙◌}
use mathlib.Core.Bool.{Bool, true, false, or-true, or-false}
use mathlib.Core.List.{List}
use native.Mathlib.Decide.{ℕ_discrete}
use native.Mathlib.Numerals.{add-one}
use native.Mathlib.Omega.{arith}
use borrow.Author.Tests.{le-leb, lt-leb, eq-eqb, ne_eqb}
use lib.Dec.{eqb}
use lib.ListN.{get_or, set, replicate, length-set, length-replicate, get_or-replicate}
use lib.Seq.{get_or-set_same, get_or-set_other}
use Rattle.paper.specs.Layouts.{held}
use Rattle.paper.specs.laws.Tests.{somewhere, bad_entry}
use Rattle.find.specs.Search.{none_below, none_more, found_here}
use Rattle.find.proofs.first_bad_entry.Invariants.{Marked}
use Rattle.find.proofs.first_bad_entry.Goals as goal
use Rattle.find.proofs.first_bad_entry.Goals.{then-p-q-via-then-p-q, then-p-q-via-else-p-q+then-marks-from}

none-marked : (list : List ℕ) → Marked list 0 (replicate 128 false)
unfolding somewhere
none-marked list = (length-replicate 128 false, λ q l. get_or-replicate 128 q false false l)

one_more : (list : List ℕ) (i : ℕ) (marks : List Bool) → held list i < 128 → Marked list i marks → Marked list (i + 1) (set marks (held list i) true)
unfolding somewhere
one_more list i marks room (long, says) = (length-set marks (held list i) true ∙ long, λ q l. go q l (ℕ_discrete q (held list i)))
  where
    go : (q : ℕ) → q < 128 → Dec (q ≡ held list i) → get_or (set marks (held list i) true) q false ≡ somewhere (λ j. eqb q (held list j)) (i + 1)
    go q l (yes e) =
        rw (add-one, eq-eqb q (held list i) e, or-true (somewhere (λ j. eqb q (held list j)) i))
        (rw e (get_or-set_same marks (held list i) true false (omega (arith, long))))
    go q l (no n) =
        rw (add-one, ne_eqb q (held list i) n, or-false (somewhere (λ j. eqb q (held list j)) i))
        (get_or-set_other marks (held list i) q true false n ∙ says q l)

-- an entry of p or more is bad; a smaller one is if its mark says so
too-great : (p : ℕ) (list : List ℕ) (i : ℕ) → p ≤ held list i → bad_entry p list i ≡ true
too-great p list i h = rw (le-leb p (held list i) h)

by-mark : (p : ℕ) (list : List ℕ) (i : ℕ) (marks : List Bool) → held list i < p → p ≤ 128 → Marked list i marks → bad_entry p list i ≡ get_or marks (held list i) false
by-mark p list i marks h few (long, says) = rw (lt-leb p (held list i) h) (sym (says (held list i) (omega arith)))

pub loop-k-init : goal.loop-k-init
loop-k-init c = (none_below _, none-marked c.args.list.now)

pub returns-then-p-q : goal.returns-then-p-q
returns-then-p-q c =
    let bad : bad_entry c.args.p c.args.list.now c.loop-k.k ≡ true = elim c.then-p-q.branch [
      | then-p-q-via-then-p-q w ↦ too-great c.args.p c.args.list.now c.loop-k.k (rw c.from.ensures at w.if-p-q.true)
      | then-p-q-via-else-p-q+then-marks-from w ↦
          by-mark c.args.p c.args.list.now c.loop-k.k c.loop-k.marks (rw c.from.ensures at w.if-p-q.false) c.requires.1 c.loop-k.invariant.1
          ∙ rw (w.from-else-p-q.ensures, c.from.ensures) at w.if-marks-from.true
    ] in
    sym (found_here _ _ c.loop-k.invariant.0 bad _ c.loop-k-test.true)

pub loop-k-preserved : goal.loop-k-preserved
loop-k-preserved c =
    let below : held c.args.list.now c.loop-k.k < c.args.p = rw c.from.ensures at c.if-p-q.false in
    let marked : bad_entry c.args.p c.args.list.now c.loop-k.k ≡ get_or c.loop-k.marks (held c.args.list.now c.loop-k.k) false = by-mark c.args.p c.args.list.now c.loop-k.k c.loop-k.marks below c.requires.1 c.loop-k.invariant.1 in
    let fresh : get_or c.loop-k.marks (held c.args.list.now c.loop-k.k) false ≡ false = rw (c.from-else-p-q.ensures, c.from.ensures) at c.if-marks-from.false in
    let small : held c.args.list.now c.loop-k.k < 128 = omega (arith, c.requires.1, below) in
    (none_more _ _ c.loop-k.invariant.0 (marked ∙ fresh), rw (c.from-in-loop-k.ensures, c.from.ensures) (one_more c.args.list.now c.loop-k.k c.loop-k.marks small c.loop-k.invariant.1))
