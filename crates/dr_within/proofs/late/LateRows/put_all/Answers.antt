use Rattle.std.proofs.Common.{ℕ, List, Option, ap, ◌∙◌}
use Rattle.dr_cells.specs.Views.{cells_view}
use Rattle.dr_partials.specs.Putting.{put_all}
use Rattle.dr_plan.specs.Planned.{planned_query}
use Rattle.dr_group.specs.Partials.{partial_view}
use Rattle.dr_within.specs.Late.{puts_view}
use Rattle.dr_within.proofs.late.LateRows.put_all.Goals as goal

pub returns-clause-puts : goal.returns-clause-puts
returns-clause-puts c = λ p h.
    let r = c.args.self.now in
    c.in_ok-put_rows.ensures.puts p h
    ∙ ap (λ (os : List (Option ℕ)). put_all (planned_query p) (puts_view r.width (cells_view r.cells) os (cells_view r.taken)) (partial_view c.args.partial.now)) c.deref.ensures.value
