-- `table::fill` meets its contract. Assumes nothing.
use mathlib.Core.Path.{ap, ◌∙◌}
use Prim.Native.Nat.{ℕ}
use native.Mathlib.Omega.{arith}
use lib.ListN.{length, get_or}
use Rattle.pads.specs.Sides.{sides, square_pads}
use Rattle.heads.proofs.Tallies.{tallies_none}
use Rattle.table.proofs.Rows.{long_enough, whole_best}
use Rattle.table.proofs.fill.Goals as goal

pub loop-a-init : goal.loop-a-init
loop-a-init c =
    let P = (square_pads c.args.lists.now c.requires.square) in record {
      cheap = c.narrow.ensures;
      tallies = tallies_none (sides c.args.lists.now) c.args.lists.now.order.now _ (λ j. omega (arith, P.level j, P.top j)) P.few;
      rows = λ a' b' u v w. absurd (omega arith);
      marked = λ a' b' u v w. absurd (omega arith);
    }

pub fill_row-requires-clause-sizes : goal.fill_row-requires-clause-sizes
fill_row-requires-clause-sizes c =
    record {
      heads = omega (arith, c.requires.heads_len.0);
      totals = long_enough (length c.args.lists.now.order.now) (length c.loop-a.totals) (square_pads c.args.lists.now c.requires.square).few (omega (arith, c.requires.heads_len.1));
      square = c.requires.heads_len.2;
      bars = c.requires.heads_len.3;
      cheap = c.loop-a.invariant.cheap;
    }

pub returns-clause-table : goal.returns-clause-table
returns-clause-table c =
    record {
      sizes = record {
        heads = omega (arith, c.requires.heads_len.0);
        totals = long_enough (length c.args.lists.now.order.now) (length c.loop-a.totals) (square_pads c.args.lists.now c.requires.square).few (omega (arith, c.requires.heads_len.1));
        square = c.requires.heads_len.2;
        bars = c.requires.heads_len.3;
        cheap = c.loop-a.invariant.cheap;
      };
      rows = λ a' b' u. c.loop-a.invariant.rows a' b' (omega arith);
    }

pub returns-clause-value : goal.returns-clause-value
returns-clause-value c =
    ap (λ (k : ℕ). get_or c.loop-a.totals k 0) c.corner.ensures.0
    ∙ whole_best (square_pads c.args.lists.now c.requires.square) (returns-clause-table c)
