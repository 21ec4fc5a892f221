use Rattle.dr_plan.proofs.ObjectLemmas.{tree_makes_object}
use Rattle.dr_plan.proofs.laws.tree_makes_object.Goals as goal

pub returns : goal.returns
returns c = tree_makes_object
