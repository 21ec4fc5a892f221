use Rattle.std.proofs.Common.{◌≡◌, [], map, drop}
use Rattle.dr_nested.specs.PathView.{path_view}
use Rattle.dr_plan.specs.Views.{record_item_view}
use Rattle.dr_cells.specs.PlanShapes.{plan_lists_view}
use Rattle.dr_sub.specs.ResultNames.{names_view, first_fault}
use Rattle.dr_sub.proofs.names.first_fault.Given as goal

-- the items before this one have no fault
abbrev pub invariant-items : goal.invariant-items
invariant-items l =
    first_fault (plan_lists_view l.lists.items) (names_view l.names.items) l.number (map (record_item_view (map path_view l.leaves)) (drop l.number l.items))
    ≡ first_fault (plan_lists_view l.lists.items) [] 0 (map (record_item_view (map path_view l.leaves)) l.items)
