use Rattle.std.proofs.Common.{◌≡◌, ◌++◌, drop}
use Rattle.dr_nested.specs.Views.{fields_view}
use Rattle.dr_cells.specs.PlanShapes.{plan_lists_view}
use Rattle.dr_within.specs.LevelTable.{list_rows, tree_numbers, rows_in}
use Rattle.dr_within.proofs.levels.+levels.Given as goal

-- the lists from this one on are still to come
abbrev pub invariant-add_lists-lists : goal.invariant-add_lists-lists
invariant-add_lists-lists l =
    let fs = fields_view l.schema.fields.items in
    (list_rows fs (plan_lists_view (drop l.list-index l.lists.items)) (rows_in l.rows.items) ≡ list_rows fs (plan_lists_view l.lists.items) (rows_in l.initial.rows.items))
    × (l.numbers.items ++ tree_numbers fs (plan_lists_view (drop l.list-index l.lists.items)) ≡ tree_numbers fs (plan_lists_view l.lists.items))
