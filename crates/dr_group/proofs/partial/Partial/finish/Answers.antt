use Rattle.std.proofs.Common.{◌∙◌, ap, sym}
use Rattle.dr_partials.specs.Partials as meant
use Rattle.dr_plan.specs.Planned.{plan_view, planned_query}
use Rattle.dr_cells.specs.Rows.{rows_view}
use Rattle.dr_group.specs.Partials.{partial_view}
use Rattle.dr_group.specs.declared.partial.Partial.{Partial}
use Rattle.dr_group.proofs.PartialLemmas.{finished_lines}
use Rattle.dr_group.proofs.partial.Partial.finish.Goals as goal

pub returns-in-Lines-clause-rows : goal.returns-in-Lines-clause-rows
returns-in-Lines-clause-rows c =
    let q = planned_query (plan_view c.args.plan.now) in
    finished_lines q (rows_view c.in-Lines.rows) ∙ ap (λ (x : Partial). meant.finished q (partial_view x)) (sym c.in-Lines.is)
