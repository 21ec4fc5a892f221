use Rattle.dr_group.proofs.PartialLemmas.{alike}
use Rattle.dr_group.proofs.laws.partials_of_one_plan_are_alike.Goals as goal

pub returns : goal.returns
returns c = alike
