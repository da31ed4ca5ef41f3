-- `layouts::walk` meets its contract. Assumes nothing.
use Rattle.layouts.proofs.walk.Goals as goal

pub returns-in-Table : goal.returns-in-Table
returns-in-Table c = rw c.in-Table.is c.walk.ensures

pub returns-in-Weights : goal.returns-in-Weights
returns-in-Weights c = rw c.in-Weights.is c.walk-in-Weights.ensures
