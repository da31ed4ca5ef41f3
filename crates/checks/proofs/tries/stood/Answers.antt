-- `checks::tries::stood` meets its contract. Assumes nothing.
use Rattle.std.proofs.Common.{ap, ◌∙◌}
use Rattle.std.specs.Prelude.{option_map}
use Rattle.find.specs.declared.Fault.{Fault}
use Rattle.paper.specs.Reasons.{number_of}
use Rattle.find.specs.Search.{pair_first}
use Rattle.checks.specs.Verdicts.{at_record}
use Rattle.checks.proofs.tries.stood.Goals as goal

pub returns-in-Some : goal.returns-in-Some
returns-in-Some g c = λ q says.
    let found = c.in-Some.ensures q says in
    c.refused.ensures ∙ ap (at_record (number_of c.args.reason)) (ap (option_map (λ (f : Fault). f.at)) found ∙ pair_first q c.args.n)

pub returns-in-None : goal.returns-in-None
returns-in-None g c = λ q says.
    let found = c.in-None.ensures q says in
    ap (at_record (number_of c.args.reason)) (ap (option_map (λ (f : Fault). f.at)) found ∙ pair_first q c.args.n)
