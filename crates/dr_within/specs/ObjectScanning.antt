-- The scan of a plan of objects behind some moves.
use Rattle.std.specs.Prelude.{◌≡◌, ℕ, List, [], length, Bool, true, Option, None, Some, ◌∷◌, ◌++◌}
use Rattle.std.specs.List.{list_all}
use Rattle.std.specs.declared.vec.Vec.{Vec}
use Rattle.std.specs.declared.alloc.Global.{Global}
use Rattle.dr_meaning.specs.Schema.{Schema}
use Rattle.dr_meaning.specs.Path.{paths_of_leaves}
use Rattle.dr_meaning.specs.Query.{levels_of}
use Rattle.dr_meaning.specs.Record.{Node, is_record}
use Rattle.dr_meaning.specs.Walk.{Move, walk}
use Rattle.dr_made_laws.specs.ObjectFlow.{items_of}
use Rattle.dr_levels.specs.Views.{move_view}
use Rattle.dr_levels.specs.declared.moves.Move.{Move as CodeMove}
use Rattle.dr_partials.specs.Partials.{empty_partial, partial_of}
use Rattle.dr_plan.specs.Planned.{plan_leaves, plan_view, planned_query, IsOfSchema}
use Rattle.dr_plan.specs.declared.objects.ObjectPlan.{ObjectPlan}
use Rattle.dr_plan.specs.declared.plan.Plan.{Plan}
use Rattle.dr_plan.specs.declared.plan.RecordItem.{RecordItem}
use Rattle.dr_plan.specs.declared.plan.Selection.{Selection}
use Rattle.dr_cells.specs.Shapes.{plan_shape, shape_view}
use Rattle.dr_condition.specs.Conditions.{watch_in, open_for, HasWatched}
use Rattle.dr_condition.specs.PlanConditions.{WatchesPlan}
use Rattle.dr_within.specs.ItemFirings.{FiresItems}
use Rattle.dr_within.specs.LevelTable.{AreLevels}
use Rattle.dr_within.specs.ObjectFraming.{HoldsObjects}
use Rattle.dr_within.specs.ObjectsBehind.{read_items, objects_behind}
use Rattle.dr_within.specs.Rows.{HasRead, IsOfLeaf}
use Rattle.dr_within.specs.declared.object_scan.ObjectScan.{ObjectScan}
use Rattle.dr_within.specs.declared.row.Row.{Row}

-- for a plan of these items: what it goes by, whatever the moves
pub record IsForItems (s : Schema) (p : Plan) (items : List RecordItem) (g : ObjectScan) : Type 0 where
  pub items_are : g.items.now ≡ items
  pub levels : AreLevels (items_of (read_items (plan_leaves p) items)) (levels_of s.fields) g.levels
  pub fires : FiresItems (length (plan_leaves p)) items g.firing
  pub shape : shape_view g.shape ≡ plan_shape (plan_view p)
  pub watches : WatchesPlan s p (watch_in g.condition)

-- what it made of these moves
pub record HasMade (s : Schema) (p : Plan) (items : List RecordItem) (ms : List Move) (g : ObjectScan) : Type 0 where
  pub watched : HasWatched g.condition ms
  pub made : HoldsObjects (items_of (read_items (plan_leaves p) items)) (objects_behind (watch_in g.condition) s.fields (read_items (plan_leaves p) items) ms).made
      (objects_behind (watch_in g.condition) s.fields (read_items (plan_leaves p) items) ms).marks g.frames

-- it has made what a plan of objects makes of these moves
pub record ScansObjects (s : Schema) (p : Plan) (ms : List Move) (g : ObjectScan) : Type 0 where
  pub items : Vec RecordItem Global
  pub object : ObjectPlan
  pub selects : p.selection ≡ Selection.Objects items object
  pub is_for : IsForItems s p items.items g
  pub behind : HasMade s p items.items ms g

-- it has made what the plan makes of the next move as well, where the row holds what was read last
abbrev pub ScansNextObjects : Row → CodeMove → ObjectScan → ObjectScan → Type 0
ScansNextObjects row m g g' = (s : Schema) (p : Plan) (ms : List Move) → ScansObjects s p ms g → HasRead (length (plan_leaves p)) ms row
    → IsOfLeaf (length (plan_leaves p)) (move_view m) → ScansObjects s p (ms ++ move_view m ∷ []) g'

-- how many branches are open for its condition
abbrev pub open_in_objects : ObjectScan → ℕ
open_in_objects g = open_for g.condition

-- whether it refused a move
abbrev pub failed_in_objects : ObjectScan → Bool
failed_in_objects g = g.failed

-- before any move; there is none where of any records nothing is kept
abbrev pub BeginsObjects : Schema → Plan → Option ObjectScan → Type 0
BeginsObjects s p None = (R : List Node) → list_all (is_record s.fields) R ≡ true → empty_partial (planned_query (plan_view p)) ≡ partial_of s.fields (planned_query (plan_view p)) R
BeginsObjects s p (Some g) = ScansObjects s p [] g

-- its moves are the walk of records
abbrev pub HasScannedAll : ObjectScan → Type 0
HasScannedAll g = (s : Schema) × (p : Plan) × (R : List Node) × IsOfSchema s p × (list_all (is_record s.fields) R ≡ true)
    × ScansObjects s p (walk s.fields (paths_of_leaves (plan_leaves p)) R) g
