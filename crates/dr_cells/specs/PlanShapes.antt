-- The shape of a plan's result by the plan's own lists.
use Rattle.std.specs.Prelude.{ℕ, List, map, string_bytes}
use Rattle.dr_plan.specs.Objects.{ObjectTree, ListTrees, SeenList, lists_of, list_step, object_step}
use Rattle.dr_plan.specs.declared.objects.ListPlan.{ListPlan, fold-ListPlan}
use Rattle.dr_plan.specs.declared.plan.RecordItem.{RecordItem}
use Rattle.dr_plan.specs.declared.plan.GroupItem.{GroupItem}
use Rattle.dr_cells.specs.Results.{ListShapes, no_list_shapes, list_shape}

-- the names of items
abbrev pub item_names : List RecordItem → List (List ℕ)
item_names items = map (λ (i : RecordItem). string_bytes i.name) items

-- the names of the items of an aggregate query
abbrev pub row_names : List GroupItem → List (List ℕ)
row_names items = map (λ (i : GroupItem). string_bytes i.name) items

-- ---- the view of the lists of a plan

-- a list of a plan's object, with its object seen
abbrev pub plan_list_view : ListPlan → SeenList
plan_list_view = fold-ListPlan SeenList ObjectTree list_step object_step

-- the lists of a plan's object
abbrev pub plan_lists_view : List ListPlan → ListTrees
plan_lists_view ls = lists_of (map plan_list_view ls)

-- lists before lists
abbrev pub append_shapes : ListShapes → ListShapes → ListShapes
append_shapes no_list_shapes ls = ls
append_shapes (list_shape n s ks) ls = list_shape n s (append_shapes ks ls)
