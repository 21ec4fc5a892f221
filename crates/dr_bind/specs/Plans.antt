-- The plan of a query's text.
use Rattle.std.specs.Prelude.{◌≡◌, Result, Ok}
use Rattle.dr_meaning.specs.Schema.{Schema}
use Rattle.dr_meaning.specs.Query.{Query}
use Rattle.dr_meaning.specs.Refusals.{QueryRefusal}
use Rattle.dr_plan.specs.declared.plan.Plan.{Plan}
use Rattle.dr_plan.specs.PlanOf.{IsPlanOf}

-- the plan is that of the query that is meant
abbrev pub IsPlanMeant : Schema → Result Query QueryRefusal → Plan → Type 0
IsPlanMeant s meant p = (q : Query) × (meant ≡ Ok q) × IsPlanOf s q p
