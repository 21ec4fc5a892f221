-- The schema of what a plan gives.
use Rattle.std.specs.Prelude.{◌≡◌, ⊤, Result, Ok, Err, true}
use Rattle.dr_meaning.specs.Schema as tree
use Rattle.dr_meaning.specs.Schema.{is_schema}
use Rattle.dr_meaning.specs.Query.{Query}
use Rattle.dr_meaning.specs.Syntax.{QuerySyntax}
use Rattle.dr_meaning.specs.Binding.{bind}
use Rattle.dr_nested.specs.SchemaView.{schema_view}
use Rattle.dr_nested.specs.declared.schema.Schema.{Schema}
use Rattle.dr_plan.specs.Planned.{plan_view, planned}
use Rattle.dr_plan.specs.declared.plan.Plan.{Plan}
use Rattle.dr_sub_meaning.specs.ResultFaults as meant
use Rattle.dr_sub_meaning.specs.ResultSchemaLaws.{has_items}
use Rattle.dr_sub.specs.declared.fault.SubFault.{SubFault}
use Rattle.dr_sub.specs.declared.fault.ResultFault.{ResultFault}

-- the plan is that of this query, which is bound to a schema, and whose items are as a text gives them
pub record IsBoundTo (s : tree.Schema) (q : Query) (p : Plan) : Type 0 where
  pub syntax : QuerySyntax
  pub schema : is_schema s ≡ true
  pub items : has_items syntax ≡ true
  pub bound : bind s syntax ≡ Ok q
  pub plan : plan_view p ≡ planned s.fields q

abbrev pub fault_view : SubFault → meant.SubFault
fault_view SubFault.NotRecords = meant.not_records
fault_view (SubFault.ResultName i) = meant.result_name i

-- the schema or the fault that is meant; want of memory may come in place of either
abbrev pub GivesSchema : Result tree.Schema meant.SubFault → Result Schema ResultFault → Type 0
GivesSchema m (Ok s) = m ≡ Ok (schema_view s)
GivesSchema m (Err ResultFault.NoMemory) = ⊤
GivesSchema m (Err (ResultFault.Refused f)) = m ≡ Err (fault_view f)
