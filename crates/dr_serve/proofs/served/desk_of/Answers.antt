use Rattle.std.proofs.Common.{arith, ◌∙◌, sym}
use Rattle.dr_table.specs.Views.{table_view}
use Rattle.dr_serve.proofs.ServingLemmas.{job_has_tablets, job_is_small}
use Rattle.dr_serve.proofs.served.desk_of.Goals as goal

pub new-requires-clause-tablets : goal.new-requires-clause-tablets
new-requires-clause-tablets g c = let small = job_is_small (table_view c.args.table.now) c.in_ok-job.job c.args.lag c.in_ok-job.ensures c.args.table.now.few_tablets in omega (arith, small)

pub new-requires-2-clause-tablets : goal.new-requires-2-clause-tablets
new-requires-2-clause-tablets g c = c.requires.drawn ∙ sym (job_has_tablets (table_view c.args.table.now) _ c.args.lag c.requires.job)
