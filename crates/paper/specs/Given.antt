-- DEFINITIONS. What the code's badness stands for.
use Rattle.paper.specs.declared.Badness.{Badness as Given}
use Rattle.paper.specs.declared.Badness.TheVariants.{Weights, Table}
use Rattle.paper.specs.Layouts.{Badness, by_weights, by_table}

abbrev pub badness_of : Given → Badness
badness_of (Weights w) = by_weights w.length w.bend
badness_of (Table figures) = by_table figures.now
