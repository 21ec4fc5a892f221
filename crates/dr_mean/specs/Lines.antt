-- The objects of what a condition leaves of records.
use Rattle.std.specs.Prelude.{◌≡◌, List, [], map, true, Option, Some, None}
use Rattle.std.specs.List.{list_all, filter_map}
use Rattle.dr_meaning.specs.Schema.{Fields}
use Rattle.dr_meaning.specs.Record.{Node, project}
use Rattle.dr_meaning.specs.Query.{Query, RecordItem}
use Rattle.dr_meaning.specs.QueryLeaves.{query_leaves}
use Rattle.dr_meaning.specs.BindingLaws.{has_shapes}
use Rattle.dr_nested.specs.Views.{node_view}
use Rattle.dr_nested.specs.PathView.{path_view, paths_view}
use Rattle.dr_nested.specs.declared.path.Path.{Path}
use Rattle.dr_nested.specs.declared.record.Node.{Node as RecordNode}
use Rattle.dr_plan.specs.Objects.{ObjectTree, tree_object, object_view}
use Rattle.dr_plan.specs.declared.objects.ObjectPlan.{ObjectPlan}
use Rattle.dr_plan.specs.declared.plan.Plan.{Plan}
use Rattle.dr_cells.specs.Results.{ResultCell, object_cells, result_cells}
pub use Rattle.dr_mean.specs.Condition.{plan_kept}
use Rattle.dr_mean.specs.Nested.{is_nested}
use Rattle.dr_mean.specs.ObjectCells.{items_view, items_in}
use Rattle.dr_mean.specs.declared.items.Items.{Items}
use Rattle.dr_plan.specs.declared.plan.RecordItem.{RecordItem as PlanItem}

-- the projections of records to a plan's leaves
abbrev pub plan_projections : Plan → List RecordNode → List Node
plan_projections p ns = map (λ (n : RecordNode). project (paths_view p.leaves.items) (node_view n)) ns

-- the cells of the object of what is left, if anything is
abbrev pub kept_cells : List RecordItem → ObjectTree → Option Node → List ResultCell
kept_cells items o None = []
kept_cells items o (Some n) = object_cells (tree_object items o n)

-- a record query's plan, and records that have values of the types of its leaves
pub record Selects (p : Plan) (leaves : List Path) (items : List PlanItem) (o : ObjectTree) (ns : List Node) : Type 0 where
  pub same : leaves ≡ p.leaves.items
  pub fields : Fields
  pub query : Query
  pub used : map path_view leaves ≡ query_leaves fields query
  pub nested : is_nested (items_view leaves items) [] o ≡ true
  pub shapes : list_all (has_shapes fields) ns ≡ true

-- the same of the items and the object of a plan
abbrev pub SelectsObject : Plan → Items → ObjectPlan → List Node → Type 0
SelectsObject p items object ns = Selects p items.leaves.now items.items.now (object_view object) ns

-- and of the projections of records
abbrev pub SelectsRecords : Plan → Items → ObjectPlan → List RecordNode → Type 0
SelectsRecords p items object ns = SelectsObject p items object (plan_projections p ns)

-- the cells of the object of what is left, if anything is
abbrev pub left_cells : Items → ObjectPlan → Option Node → List ResultCell
left_cells items object o = kept_cells (items_in items) (object_view object) o

-- what the condition leaves of the projection of a record, and of those of some
abbrev pub record_left : Plan → RecordNode → Option Node
record_left p n = plan_kept p (project (paths_view p.leaves.items) (node_view n))

abbrev pub records_left : Plan → List RecordNode → List Node
records_left p ns = filter_map (plan_kept p) (plan_projections p ns)

-- the cells of their objects
abbrev pub objects_left : Plan → Items → ObjectPlan → List RecordNode → List ResultCell
objects_left p items object ns = result_cells (map (tree_object (items_in items) (object_view object)) (records_left p ns))
