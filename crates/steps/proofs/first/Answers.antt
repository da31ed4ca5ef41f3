-- `steps::first` meets its contract: filling from place 0 on, with nothing remembered (`first_law`). Assumes nothing.
use Prim.Native.Nat.{zero-le}
use Rattle.choices.specs.Memory.{memory_none}
use Rattle.steps.proofs.Whole.{begun_first, first_law}
use Rattle.steps.proofs.first.Goals as goal

pub fill_on-requires-clause-begun : goal.fill_on-requires-clause-begun
fill_on-requires-clause-begun c = begun_first c.args.search.now.proper c.requires.solvable c.args.out.now

pub fill_on-requires-clause-memory : goal.fill_on-requires-clause-memory
fill_on-requires-clause-memory c = memory_none _ _ _ _ _ 0 zero-le

pub returns : goal.returns
returns c = first_law c.args.search.now.proper c.requires.solvable _ _ c.fill_on.ensures.filled_up
