use Rattle.std.proofs.Common.{◌≡◌, ◌≤◌, ◌+◌, ◌++◌, length, drop}
use Rattle.std.specs.List.{filter_map}
use Rattle.dr_plan.specs.Objects.{object_view}
use Rattle.dr_cells.specs.Results.{result_cells}
use Rattle.dr_cells.specs.Views.{cells_view}
use Rattle.dr_mean.specs.Lines.{plan_kept, plan_projections, Selects}
use Rattle.dr_mean.specs.ObjectCells.{items_view}
use Rattle.dr_mean.proofs.LineLemmas.{made}
use Rattle.dr_mean.proofs.lines.push_records.Given as goal

-- the records from this one on are still to come
abbrev pub invariant-records : goal.invariant-records
invariant-records l =
    let items = items_view l.items.leaves.now l.items.items.now in
    let o = object_view l.object in
    record {
      within : l.count ≤ l.whole-index;
      counted : Selects l.plan l.items.leaves.now l.items.items.now o (plan_projections l.plan l.records)
          → l.count + length (filter_map (plan_kept l.plan) (plan_projections l.plan (drop l.whole-index l.records))) ≡ length (filter_map (plan_kept l.plan) (plan_projections l.plan l.records));
      cells : Selects l.plan l.items.leaves.now l.items.items.now o (plan_projections l.plan l.records)
          → cells_view l.cells ++ result_cells (made l.plan items o (plan_projections l.plan (drop l.whole-index l.records)))
          ≡ cells_view l.initial.cells ++ result_cells (made l.plan items o (plan_projections l.plan l.records));
    }
