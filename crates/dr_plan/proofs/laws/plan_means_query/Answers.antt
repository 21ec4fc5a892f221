use Rattle.std.proofs.Common.{◌∙◌}
use Rattle.dr_meaning.proofs.QueryLeavesLemmas.{leaves_are_enough}
use Rattle.dr_plan.specs.Planned.{PlanMeansQuery}
use Rattle.dr_plan.proofs.ConjunctLemmas.{rejoined_means_same}
use Rattle.dr_plan.proofs.laws.plan_means_query.Goals as goal

plan_means : PlanMeansQuery
plan_means s q b R h = (rejoined_means_same s.fields b R, rejoined_means_same s.fields b _ ∙ leaves_are_enough s q b R h)

pub returns : goal.returns
returns c = plan_means
