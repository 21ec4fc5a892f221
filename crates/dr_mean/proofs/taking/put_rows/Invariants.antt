use Rattle.std.proofs.Common.{◌≡◌, List, map, drop, true}
use Rattle.dr_meaning.specs.Path.{Step}
use Rattle.dr_meaning.specs.Record.{Node}
use Rattle.dr_meaning.specs.Rows.{rows}
use Rattle.dr_nested.specs.PathView.{path_view, paths_view}
use Rattle.dr_partials.specs.Putting.{put_all}
use Rattle.dr_plan.specs.Planned.{Planned, planned_query}
use Rattle.dr_group.specs.Partials.{partial_view, IsPartialOf}
use Rattle.dr_rows.specs.Known.{known}
use Rattle.dr_rows.specs.Views.{rows_view}
use Rattle.dr_mean.specs.RowsOf.{IsTyped}
use Rattle.dr_mean.specs.Takings.{taking_fits, put_of}
use Rattle.dr_mean.proofs.taking.put_rows.Given as goal

-- the rows from this one on are still to be put
abbrev pub invariant-rows : goal.invariant-rows
invariant-rows l =
    let ls = map path_view l.groups.leaves.now in
    record {
      of_plan : (p : Planned) → IsPartialOf p l.initial.partial → IsPartialOf p l.partial;
      puts : (p : Planned) (chain : List Step) (whole : Node) → IsPartialOf p l.initial.partial → IsTyped l.groups.leaves.now whole → taking_fits ls l.taking ≡ true
          → rows_view l.rows ≡ map (known (paths_view l.groups.leaves.now) chain) (rows chain whole)
          → put_all (planned_query p) (map (put_of ls l.groups.keys.now l.taking) (drop l.number (rows chain whole))) (partial_view l.partial)
          ≡ put_all (planned_query p) (map (put_of ls l.groups.keys.now l.taking) (rows chain whole)) (partial_view l.initial.partial);
    }
