-- The scan of a plan of groups behind some moves.
use Rattle.std.specs.Prelude.{◌≡◌, ℕ, List, [], Bool, true, Option, None, Some, ◌∷◌, ◌++◌, length}
use Rattle.std.specs.List.{list_all}
use Rattle.std.specs.declared.vec.Vec.{Vec}
use Rattle.std.specs.declared.alloc.Global.{Global}
use Rattle.dr_meaning.specs.Schema.{Schema}
use Rattle.dr_meaning.specs.Record.{Node, is_record}
use Rattle.dr_meaning.specs.Walk.{Move}
use Rattle.dr_partials.specs.Partials.{empty_partial, partial_of}
use Rattle.dr_levels.specs.Views.{move_view}
use Rattle.dr_levels.specs.declared.moves.Move.{Move as CodeMove}
use Rattle.dr_plan.specs.Planned.{plan_leaves, plan_view, planned_query}
use Rattle.dr_plan.specs.declared.aggregate.Aggregate.{Aggregate}
use Rattle.dr_plan.specs.declared.plan.GroupItem.{GroupItem}
use Rattle.dr_plan.specs.declared.plan.Plan.{Plan}
use Rattle.dr_plan.specs.declared.plan.Selection.{Selection}
use Rattle.dr_condition.specs.Conditions.{watch_in, open_for}
use Rattle.dr_condition.specs.PlanConditions.{WatchesPlan}
use Rattle.dr_within.specs.Takings.{takings_of}
use Rattle.dr_within.specs.Behind.{IsBehind}
use Rattle.dr_within.specs.Rows.{HasRead, IsOfLeaf}
use Rattle.dr_within.specs.declared.plan_scan.PlanScan.{PlanScan}
use Rattle.dr_within.specs.declared.row.Row.{Row}

-- it has made what a plan of groups makes of these moves
pub record Scans (s : Schema) (p : Plan) (ms : List Move) (g : PlanScan) : Type 0 where
  pub keys : Vec ℕ Global
  pub aggregates : Vec Aggregate Global
  pub items : Vec GroupItem Global
  pub selects : p.selection ≡ Selection.Groups keys aggregates items
  pub keyed : g.groups.keys.now ≡ keys.items
  pub watches : WatchesPlan s p (watch_in g.groups.condition)
  pub behind : IsBehind (plan_view p) (plan_leaves p) (takings_of aggregates.items) ms g.groups

-- it has made what the plan makes of the next move as well, where the row holds what was read last
abbrev pub ScansNext : Row → CodeMove → PlanScan → PlanScan → Type 0
ScansNext row m g g' = (s : Schema) (p : Plan) (ms : List Move) → Scans s p ms g → HasRead (length (plan_leaves p)) ms row
    → IsOfLeaf (length (plan_leaves p)) (move_view m) → Scans s p (ms ++ move_view m ∷ []) g'

-- how many branches are open for its condition
abbrev pub open_in_scan : PlanScan → ℕ
open_in_scan g = open_for g.groups.condition

-- whether it refused a move
abbrev pub failed_in_scan : PlanScan → Bool
failed_in_scan g = g.failed

-- before any move; there is none where of any records nothing is kept
abbrev pub Begins : Schema → Plan → Option PlanScan → Type 0
Begins s p None = (R : List Node) → list_all (is_record s.fields) R ≡ true → empty_partial (planned_query (plan_view p)) ≡ partial_of s.fields (planned_query (plan_view p)) R
Begins s p (Some g) = Scans s p [] g
