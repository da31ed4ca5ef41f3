use Rattle.text.specs.Writing.{writes_one, writes_last}
use Rattle.text.proofs.+decimal.Goals as goal

pub returns-then-n-lt10 : goal.returns-then-n-lt10
returns-then-n-lt10 t c = writes_one _ _ c.args.n c.if-n-lt10.true

pub returns : goal.returns
returns t c = writes_last c.args.n c.if-n-lt10.false c.decimal-last.ensures
