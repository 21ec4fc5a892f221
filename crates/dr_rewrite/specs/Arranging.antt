-- The names by one of which a plan's result goes.
use Rattle.std.specs.Prelude.{ℕ, List, [], map, string_bytes, Option, Some, None}
use Rattle.std.specs.List.{slice_get}
use Rattle.dr_plan.specs.declared.objects.ObjectPlan as object
use Rattle.dr_plan.specs.declared.plan.GroupItem.{GroupItem}
use Rattle.dr_plan.specs.declared.plan.RecordItem.{RecordItem}
use Rattle.dr_plan.specs.declared.plan.Selection.{Selection}

-- the name of an item; none where there is no item
abbrev pub record_name : Option RecordItem → List ℕ
record_name None = []
record_name (Some i) = string_bytes i.name

-- the names of the outermost object's items
abbrev pub value_names : Selection → List (List ℕ)
value_names (Selection.Objects items o) = map (λ (k : ℕ). record_name (slice_get items.items k)) (object.out-ObjectPlan o).items.items
value_names (Selection.Groups keys aggregates items) = map (λ (i : GroupItem). string_bytes i.name) items.items
