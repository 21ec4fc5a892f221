use Rattle.dr_made_laws.proofs.ConditionLemmas.{condition_is_related}
use Rattle.dr_made_laws.proofs.put_laws.condition_is_related.Goals as goal

pub returns : goal.returns
returns c = condition_is_related
