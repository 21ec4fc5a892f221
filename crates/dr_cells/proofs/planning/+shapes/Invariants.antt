use Rattle.std.proofs.Common.{◌≡◌, drop}
use Rattle.dr_cells.specs.Shapes.{lists_view, tree_list_shapes}
use Rattle.dr_cells.specs.PlanShapes.{append_shapes, item_names, plan_lists_view}
use Rattle.dr_cells.proofs.planning.+shapes.Given as goal

-- the lists from this one on are still to join
abbrev pub invariant-list_shapes-lists : goal.invariant-list_shapes-lists
invariant-list_shapes-lists l =
    append_shapes (lists_view l.shapes.items) (tree_list_shapes (item_names l.items) (plan_lists_view (drop l.list-index l.lists.items)))
    ≡ tree_list_shapes (item_names l.items) (plan_lists_view l.lists.items)
