-- What a scan over columns has taken.
use Rattle.std.specs.Prelude.{◌≡◌, ℕ, List, map, length, Bool, true, false, None}
use Rattle.std.specs.List.{list_all}
use Rattle.std.specs.declared.alloc.Global.{Global}
use Rattle.std.specs.declared.vec.Vec.{Vec}
use Rattle.dr_meaning.specs.Schema.{Schema}
use Rattle.dr_meaning.specs.Path.{Step, paths_of_leaves}
use Rattle.dr_meaning.specs.Record.{Node, is_record}
use Rattle.dr_meaning.specs.Column.{Triplet}
use Rattle.dr_partials.specs.Partials.{grouped, empty_partial}
use Rattle.dr_partials.specs.Putting.{put_all, puts_of}
use Rattle.dr_plan.specs.Planned.{plan_leaves, plan_view, planned_query}
use Rattle.dr_plan.specs.declared.aggregate.Aggregate.{Aggregate}
use Rattle.dr_plan.specs.declared.plan.GroupItem.{GroupItem}
use Rattle.dr_plan.specs.declared.plan.Plan.{Plan}
use Rattle.dr_plan.specs.declared.plan.Selection.{Selection}
use Rattle.dr_group.specs.Maps.{groups_view}
use Rattle.dr_group.specs.Partials.{IsPartialOf}
use Rattle.dr_group.specs.declared.partial.Partial as partial
use Rattle.dr_beside.specs.Neighbours.{EachAlone}
use Rattle.dr_columns.specs.declared.column_scan.ColumnScan.{ColumnScan}
use Rattle.dr_agreement.specs.Agreements.{IsOfLeaves}
use Rattle.dr_columns.specs.Takings.{fired_view, fires_of, takings_view, takings_at}
use Rattle.dr_columns.specs.ChunksTaken.{IsOfGroups}
use Rattle.dr_columns.specs.PlanKeeps.{KeepsFor}

-- the paths of a plan's leaves
abbrev pub plan_paths : Plan → List (List Step)
plan_paths p = paths_of_leaves (plan_leaves p)

-- it has the groups that a plan's query makes of these records
pub record HasTaken (s : Schema) (p : Plan) (R : List Node) (x : ColumnScan) : Type 0 where
  pub keys : Vec ℕ Global
  pub aggregates : Vec Aggregate Global
  pub items : Vec GroupItem Global
  pub of_groups : IsOfGroups s p keys aggregates items
  pub keeps : KeepsFor p x.keeps
  pub of_leaves : IsOfLeaves (plan_paths p) x.agreement
  pub same_keys : x.keys.now ≡ keys.items
  pub fired : map fired_view x.fired.items ≡ fires_of (plan_paths p) keys.items aggregates.items (length (plan_leaves p))
  pub at_end : takings_view x.at_end.items ≡ takings_at keys.items None 0 aggregates.items
  pub gathers : IsPartialOf (plan_view p) (partial.Partial.Groups x.groups)
  pub are_records : list_all (is_record s.fields) R ≡ true
  pub made : grouped (groups_view x.groups) ≡ put_all (planned_query (plan_view p)) (puts_of (planned_query (plan_view p)) R) (empty_partial (planned_query (plan_view p)))

-- of each leaf of a plan there is a column, and each alone is one of so many records
abbrev pub AreAlone : Schema → Plan → List (List Triplet) → ℕ → Type 0
AreAlone s p C n = (length (plan_paths p) ≡ length C) × EachAlone s.fields (plan_paths p) C n

-- it can take such columns of its plan
abbrev pub CanTake : List (List Triplet) → ℕ → ColumnScan → Type 0
CanTake C n x = (s : Schema) × (p : Plan) × (R : List Node) × HasTaken s p R x × AreAlone s p C n

-- ---- which plans

abbrev pub gives_groups : Selection → Bool
gives_groups (Selection.Objects items o) = false
gives_groups (Selection.Groups keys aggregates items) = true

-- one that gives groups
abbrev pub goes_by_columns : Plan → Bool
goes_by_columns p = gives_groups p.selection
