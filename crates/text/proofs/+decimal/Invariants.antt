-- `text::decimal` meets its contract: the measure is the number, and its tenth is smaller. Assumes nothing.
use Rattle.text.proofs.+decimal.Given as goal

abbrev pub decreases-decimal : goal.decreases-decimal
decreases-decimal l = l.n
