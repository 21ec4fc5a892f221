use Rattle.std.proofs.Common.{sym, ◌∙◌, subst}
use mir.Syntax.{named}
use denote.Param.Send.{shr_sync}
use Rattle.dr_plan.specs.contracts.plan.Plan as Plan
use Rattle.dr_table.specs.Views.{table_view}
use Rattle.dr_serve.specs.Working.{TakesFrom}
use Rattle.dr_serve.proofs.CrossingLemmas.{grown_is_shared, plan_is_shared}
use Rattle.dr_serve.proofs.served.hand_out.Goals as goal

pub for_each_worker-requires-sync-P : goal.for_each_worker-requires-sync-P
for_each_worker-requires-sync-P g c κs within = record { shared = (shr_sync (named 0) _ Plan.the_row plan_is_shared).shared }

pub for_each_worker-requires-sync-G : goal.for_each_worker-requires-sync-G
for_each_worker-requires-sync-G g c κs within = record { shared = (shr_sync (named 0) _ _ (grown_is_shared g.row.S g.S.TableJob g.S.Room)).shared }

pub for_each_worker-requires-clause-accepts : goal.for_each_worker-requires-clause-accepts
for_each_worker-requires-clause-accepts g c κs within = λ i x lt e l same. (
  c.requires.planned,
  c.requires.job,
  subst (λ (y : g.row.L.Denot). TakesFrom (table_view c.args.table.now) c.args.plan.now g.S.TableJob.is_true (g.L.Link.shows y).held) (sym (same ∙ e)) (c.requires.truth i x lt),
  c.requires.grows_on,
)
