-- Records on which a plan is answered.
use Rattle.std.specs.Prelude.{◌≡◌, List, map, true, Ok}
use Rattle.std.specs.List.{list_all}
use Rattle.dr_meaning.specs.Schema.{Schema}
use Rattle.dr_meaning.specs.Record.{Node, is_record, project}
use Rattle.dr_meaning.specs.Query.{Query}
use Rattle.dr_meaning.specs.Syntax.{QuerySyntax}
use Rattle.dr_meaning.specs.Binding.{bind}
use Rattle.dr_nested.specs.declared.record.Node.{Node as RecordNode}
use Rattle.dr_plan.specs.Planned.{plan_view, planned}
use Rattle.dr_plan.specs.declared.plan.Plan.{Plan}
use Rattle.dr_mean.specs.Lines.{plan_projections}
use Rattle.dr_nested.specs.PathView.{paths_view}

-- the plan is of a query bound to a schema; the records have the same projections to its leaves as some records of the schema: they are
-- these records, or projections of them
pub record Answers (p : Plan) (ns : List RecordNode) : Type 0 where
  pub schema : Schema
  pub syntax_tree : QuerySyntax
  pub bound : Query
  pub binds : bind schema syntax_tree ≡ Ok bound
  pub planned : plan_view p ≡ planned schema.fields bound
  pub records : List Node
  pub are_records : list_all (is_record schema.fields) records ≡ true
  pub alike : plan_projections p ns ≡ map (project (paths_view p.leaves.items)) records
