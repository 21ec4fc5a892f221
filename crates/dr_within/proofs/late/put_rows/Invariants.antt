use Rattle.std.proofs.Common.{◌≡◌, ◌*◌, drop}
use Rattle.dr_cells.specs.Views.{cells_view}
use Rattle.dr_partials.specs.Putting.{put_all}
use Rattle.dr_plan.specs.Planned.{Planned, planned_query}
use Rattle.dr_group.specs.Partials.{partial_view, IsPartialOf}
use Rattle.dr_within.specs.Late.{puts_view}
use Rattle.dr_within.proofs.late.put_rows.Given as goal

-- the rows from this one on are still to be put
abbrev pub invariant-rows : goal.invariant-rows
invariant-rows l =
    record {
      of_plan : (p : Planned) → IsPartialOf p l.initial.partial → IsPartialOf p l.partial;
      puts : (p : Planned) → IsPartialOf p l.initial.partial
          → put_all (planned_query p) (puts_view l.width (drop (l.number * l.width) (cells_view l.cells)) (drop l.number l.aggregates) (drop l.number (cells_view l.taken))) (partial_view l.partial)
          ≡ put_all (planned_query p) (puts_view l.width (cells_view l.cells) l.aggregates (cells_view l.taken)) (partial_view l.initial.partial);
    }
