-- The query whose plan it is.
use Rattle.std.specs.Prelude.{◌≡◌, Ok}
use Rattle.dr_meaning.specs.Schema.{Schema}
use Rattle.dr_meaning.specs.Query.{Query}
use Rattle.dr_meaning.specs.Syntax.{QuerySyntax}
use Rattle.dr_meaning.specs.Binding.{bind}
use Rattle.dr_plan.specs.Planned.{plan_view, planned}
use Rattle.dr_plan.specs.declared.plan.Plan.{Plan}

-- the plan is that of a query, which is bound to the schema
abbrev pub IsPlanOf : Schema → Query → Plan → Type 0
IsPlanOf s q p = (x : QuerySyntax) × (bind s x ≡ Ok q) × (plan_view p ≡ planned s.fields q)

-- of the query whose plan this is
abbrev pub ForQuery : Schema → Plan → (Query → Type 0) → Type 0
ForQuery s p P = (q : Query) → IsPlanOf s q p → P q
