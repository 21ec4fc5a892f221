use Rattle.std.proofs.Common.{◌≡◌, map, drop}
use Rattle.dr_nested.specs.PathView.{path_view}
use Rattle.dr_nested.specs.Views.{node_view}
use Rattle.dr_partials.specs.Putting.{put_all}
use Rattle.dr_plan.specs.Planned.{Planned, planned_query}
use Rattle.dr_plan.specs.Views.{aggregate_view}
use Rattle.dr_group.specs.Partials.{partial_view, IsPartialOf}
use Rattle.dr_rows.specs.Views.{rows_view}
use Rattle.dr_mean.specs.GroupLaws.{term_puts}
use Rattle.dr_mean.specs.GroupPuts.{AreKeyRows}
use Rattle.dr_mean.specs.RowsOf.{IsTyped}
use Rattle.dr_mean.specs.Takings.{key_paths}
use Rattle.dr_mean.proofs.groups.put_aggregates.Given as goal

-- the aggregates from this one on are still to be put
abbrev pub invariant-aggregates : goal.invariant-aggregates
invariant-aggregates l =
    let ls = map path_view l.groups.leaves.now in
    let keys = key_paths ls l.groups.keys.now in
    record {
      placed : l.place ≡ l.aggregate-index;
      of_plan : (p : Planned) → IsPartialOf p l.initial.partial → IsPartialOf p l.partial;
      puts : (p : Planned) → IsPartialOf p l.initial.partial → IsTyped l.groups.leaves.now (node_view l.whole) → AreKeyRows l.groups.leaves.now l.groups.keys.now (node_view l.whole) (rows_view l.key_rows)
          → put_all (planned_query p) (term_puts keys l.aggregate-index (map (aggregate_view ls) (drop l.aggregate-index l.groups.aggregates.now)) (node_view l.whole)) (partial_view l.partial)
          ≡ put_all (planned_query p) (term_puts keys 0 (map (aggregate_view ls) l.groups.aggregates.now) (node_view l.whole)) (partial_view l.initial.partial);
    }
