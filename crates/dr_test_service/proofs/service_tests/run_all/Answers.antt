use mir.Syntax.{named}
use denote.Param.Send.{shr_sync}
use Rattle.dr_sub.specs.contracts.nested_plan.NestedPlan as NestedPlan
use Rattle.dr_test_service.proofs.CrossingLemmas.{plans_are_shared, service_is_shared}
use Rattle.dr_test_service.proofs.service_tests.run_all.Goals as goal

pub for_each_job-requires-sync-P : goal.for_each_job-requires-sync-P
for_each_job-requires-sync-P g c κs within = record { shared = (shr_sync (named 0) _ NestedPlan.the_row plans_are_shared).shared }

pub for_each_job-requires-sync-S : goal.for_each_job-requires-sync-S
for_each_job-requires-sync-S g c κs within = record { shared = (shr_sync (named 0) _ _ (service_is_shared (record { mir = named 0; lft = _ }) _ g.B.Room c.type_bounds.send-B c.type_bounds.sync-B)).shared }
