use Rattle.dr_meaning.proofs.QueryLeavesLemmas.{leaves_are_enough}
use Rattle.dr_meaning.proofs.binding_laws.leaves_are_enough.Goals as goal

pub returns : goal.returns
returns c = leaves_are_enough
