-- What binding a query answers.
use Rattle.std.specs.Prelude.{◌≡◌, Result, Ok, Err, [], ⊤}
use Rattle.dr_meaning.specs.Schema.{Schema}
use Rattle.dr_meaning.specs.Query.{Query}
use Rattle.dr_meaning.specs.Syntax.{QuerySyntax}
use Rattle.dr_meaning.specs.Binding as meant
use Rattle.dr_plan.specs.declared.plan.Plan.{Plan}
use Rattle.dr_plan.specs.Planned.{plan_view, planned}
use Rattle.dr_resolve.specs.Faults.{fault_view}
use Rattle.dr_resolve.specs.Parts.{AreParts}
use Rattle.dr_resolve.specs.declared.fault.BindFault.{BindFault}
use Rattle.dr_resolve.specs.declared.bound.BoundParts.{BoundParts}

-- the plan of the query to which it is bound; or the first fault; want of memory stands for either
abbrev pub BindsTo : Schema → QuerySyntax → Result Plan BindFault → Type 0
BindsTo s q (Ok p) = (b : Query) × (meant.bind s q ≡ Ok b) × (plan_view p ≡ planned s.fields b)
BindsTo s q (Err BindFault.NoMemory) = ⊤
BindsTo s q (Err (BindFault.Refused f)) = meant.bind s q ≡ Err (fault_view f)

-- the parts of a query that were bound over no leaves
abbrev pub PartsOf : Schema → QuerySyntax → BoundParts → Type 0
PartsOf s q p = AreParts s.fields [] (meant.bind_parts s.fields q) p
