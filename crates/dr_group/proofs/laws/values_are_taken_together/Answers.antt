use Rattle.dr_group.proofs.TakenLemmas.{taken_together}
use Rattle.dr_group.proofs.laws.values_are_taken_together.Goals as goal

pub returns : goal.returns
returns c = taken_together
