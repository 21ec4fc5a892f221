use Rattle.std.proofs.Common.{◌≡◌, drop}
use Rattle.dr_meaning.specs.SchemaText.{append_fields}
use Rattle.dr_nested.specs.Views.{fields_view}
use Rattle.dr_cells.specs.PlanShapes.{plan_lists_view}
use Rattle.dr_sub.specs.ResultFields.{leaves_of, list_fields}
use Rattle.dr_sub.proofs.fields.+fields.Given as goal

-- the groups from this one on are still to join
abbrev pub invariant-push_groups-lists : goal.invariant-push_groups-lists
invariant-push_groups-lists l =
    append_fields (fields_view l.fields.items) (list_fields (leaves_of l.items) (plan_lists_view (drop l.list-index l.lists.items)))
    ≡ append_fields (fields_view l.fn.fields.items) (list_fields (leaves_of l.items) (plan_lists_view l.lists.items))
