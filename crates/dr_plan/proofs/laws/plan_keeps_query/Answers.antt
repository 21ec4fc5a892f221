use Rattle.dr_plan.proofs.RejoiningLemmas.{plan_keeps_query}
use Rattle.dr_plan.proofs.laws.plan_keeps_query.Goals as goal

pub returns : goal.returns
returns c = plan_keeps_query
