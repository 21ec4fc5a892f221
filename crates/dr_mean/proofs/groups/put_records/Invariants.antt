use Rattle.std.proofs.Common.{◌≡◌, map, drop}
use Rattle.dr_nested.specs.PathView.{path_view}
use Rattle.dr_partials.specs.Putting.{put_all}
use Rattle.dr_plan.specs.Planned.{Planned, planned_query}
use Rattle.dr_plan.specs.Views.{aggregate_view}
use Rattle.dr_group.specs.Partials.{partial_view, IsPartialOf}
use Rattle.dr_mean.specs.GroupPuts.{AreTyped, projections, records_puts}
use Rattle.dr_mean.specs.Takings.{key_paths}
use Rattle.dr_mean.proofs.groups.put_records.Given as goal

-- the records from this one on are still to be put
abbrev pub invariant-records : goal.invariant-records
invariant-records l =
    let leaves = l.groups.leaves.now in
    let ls = map path_view leaves in
    let keys = key_paths ls l.groups.keys.now in
    let ts = map (aggregate_view ls) l.groups.aggregates.now in
    record {
      of_plan : (p : Planned) → IsPartialOf p l.initial.partial → IsPartialOf p l.partial;
      puts : (p : Planned) → IsPartialOf p l.initial.partial → AreTyped leaves (projections leaves l.records)
          → put_all (planned_query p) (records_puts l.groups.plan.now keys ts (projections leaves (drop l.whole-index l.records))) (partial_view l.partial)
          ≡ put_all (planned_query p) (records_puts l.groups.plan.now keys ts (projections leaves l.records)) (partial_view l.initial.partial);
    }
