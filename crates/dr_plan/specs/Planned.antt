-- What a plan stands for, and which plan is that of a query.
use Rattle.std.specs.Prelude.{◌≡◌, List, map, Option, Some, None, option_map, Ok}
use Rattle.dr_meaning.specs.Schema.{Schema, Fields}
use Rattle.dr_meaning.specs.Path.{Step, Leaf, paths_of_leaves}
use Rattle.dr_meaning.specs.Record.{Node, project}
use Rattle.dr_meaning.specs.Expression.{Expression}
use Rattle.dr_meaning.specs.Query.{Selection, objects, groups, Query, meaning}
use Rattle.dr_meaning.specs.QueryLeaves.{query_leaves}
use Rattle.dr_meaning.specs.Syntax.{QuerySyntax}
use Rattle.dr_meaning.specs.Binding.{bind}
use Rattle.dr_nested.specs.PathView.{path_view}
use Rattle.dr_plan.specs.Conjuncts.{Joining, condition_conjuncts, all_of, condition_joining, condition_written}
use Rattle.dr_plan.specs.Objects.{ObjectTree, object_tree_of, object_view}
use Rattle.dr_plan.specs.Views.{truth_view, joining_view, selection_view}
use Rattle.dr_plan.specs.declared.plan.Plan.{Plan}
use Rattle.dr_plan.specs.declared.plan.Selection.{Selection as Selected}

-- the leaves, the condition's conjuncts and how it joins them, what is selected, and of a record query the tree of its objects
pub record Planned : Type 0 where
  pub leaves : List Leaf
  pub conjuncts : List Expression
  pub joining : Option Joining
  pub selection : Selection
  pub objects : Option ObjectTree

abbrev pub objects_of_plan : Selected → Option ObjectTree
objects_of_plan (Selected.Objects items o) = Some (object_view o)
objects_of_plan (Selected.Groups keys aggregates items) = None

abbrev pub objects_of_query : Fields → Selection → Option ObjectTree
objects_of_query fs (objects items) = Some (object_tree_of fs items)
objects_of_query fs (groups keys items) = None

abbrev pub plan_leaves : Plan → List Leaf
plan_leaves p = map path_view p.leaves.items

abbrev pub plan_view : Plan → Planned
plan_view p = record {
  leaves = plan_leaves p;
  conjuncts = map (truth_view (plan_leaves p)) p.test.items;
  joining = option_map joining_view p.joining;
  selection = selection_view (plan_leaves p) p.selection;
  objects = objects_of_plan p.selection;
}

-- the plan of a query over a schema: its leaves in reading order, its condition cut at its top and how that was written, the tree of its objects
abbrev pub planned : Fields → Query → Planned
planned fs q = record {
  leaves = query_leaves fs q;
  conjuncts = condition_conjuncts q.condition;
  joining = condition_joining q.condition;
  selection = q.selection;
  objects = objects_of_query fs q.selection;
}

-- the query that a plan runs
abbrev pub planned_query : Planned → Query
planned_query p = record { condition = all_of p.conjuncts; selection = p.selection }

-- the query that a plan was made of, as it was written
abbrev pub written_query : Planned → Query
written_query p = record { condition = condition_written p.conjuncts p.joining; selection = p.selection }

-- the plan is that of some query that is bound to the schema
abbrev pub IsOfSchema : Schema → Plan → Type 0
IsOfSchema s p = (q : QuerySyntax) × (b : Query) × (bind s q ≡ Ok b) × (plan_view p ≡ planned s.fields b)

-- ---- the laws

-- the plan of a query keeps how the query was written
abbrev pub PlanKeepsQuery : Type 0
PlanKeepsQuery = (fs : Fields) (q : Query) → written_query (planned fs q) ≡ q

-- what a plan runs, on records or on their projections to its leaves, is what the bound query means
abbrev pub PlanMeansQuery : Type 0
PlanMeansQuery = (s : Schema) (q : QuerySyntax) (b : Query) (R : List Node) → bind s q ≡ Ok b
    → (meaning s.fields (planned_query (planned s.fields b)) R ≡ meaning s.fields b R)
    × (meaning s.fields (planned_query (planned s.fields b)) (map (project (paths_of_leaves (planned s.fields b).leaves)) R) ≡ meaning s.fields b R)
