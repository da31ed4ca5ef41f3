-- `board::bars::square_of` meets its contract. Assumes nothing.
use borrow.Author.Rules.{rules}
use Rattle.board.proofs.bars.square_of.Goals as goal

pub returns : goal.returns
returns c = record {
  inside = c.requires.1;
  x_is = c.x.ensures;
  half_is = c.requires.2;
  large = c.requires.3;
  bottom_is = search rules;
  top_is = search rules;
  below = c.under-from.ensures;
  reached = c.upto-to.ensures;
}
