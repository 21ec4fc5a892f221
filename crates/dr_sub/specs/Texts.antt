-- The plans of a query's text, with those of the queries in its FROM, and why there are none.
use Rattle.std.specs.Prelude.{◌≡◌, ⊤, ℕ, List, Result, Ok, Err, true}
use Rattle.dr_meaning.specs.Schema.{Schema}
use Rattle.dr_meaning.specs.Refusals.{query_problem_name, QueryRefusal, text_refused, binding_refused, nested_problem_name}
use Rattle.dr_sql.specs.Faults as text
use Rattle.dr_sql.specs.declared.fault.QueryFault.{QueryFault}
use Rattle.dr_sub_meaning.specs.Nested.{NestedQuery}
use Rattle.dr_sub_meaning.specs.NestedParse.{NestedSyntax}
use Rattle.dr_sub_meaning.specs.NestedBinding.{bind_nested}
use Rattle.dr_sub_meaning.specs.ResultSchemaLaws.{have_items}
use Rattle.dr_sub.specs.NestedPlans.{IsNestedPlan, problem_view}
use Rattle.dr_sub.specs.declared.nested_fault.NestedFault.{NestedFault}
use Rattle.dr_sub.specs.declared.nested_plan.NestedPlan.{NestedPlan}
use Rattle.dr_sub.specs.declared.refusal.TextFault.{TextFault}
use Rattle.dr_sub.specs.declared.refusal.TextProblem.{TextProblem}

-- ---- plans

-- the plans are those of a query that is bound to the schema, whose items are as a text gives them
abbrev pub ArePlansOf : Schema → NestedQuery → NestedPlan → Type 0
ArePlansOf s n p = (x : NestedSyntax) × (have_items x ≡ true) × (bind_nested s x ≡ Ok n) × IsNestedPlan s.fields p n

-- the plans are those of the query that is meant
abbrev pub ArePlansMeant : Schema → Result NestedQuery QueryRefusal → NestedPlan → Type 0
ArePlansMeant s meant p = (n : NestedQuery) × (meant ≡ Ok n) × ArePlansOf s n p

-- the plans are those of some query over the schema
abbrev pub ArePlansOver : Schema → NestedPlan → Type 0
ArePlansOver s p = (n : NestedQuery) × ArePlansOf s n p

-- of whatever query they are the plans
abbrev pub ForNested : Schema → NestedPlan → (NestedQuery → Type 0) → Type 0
ForNested s p P = (n : NestedQuery) → ArePlansOf s n p → P n

-- ---- refusals

-- a problem at a place
abbrev pub refusal_of : ℕ → TextProblem → QueryRefusal
refusal_of place (TextProblem.Text p) = text_refused (record { place = place; problem = text.problem_view p })
refusal_of place (TextProblem.Binding p) = binding_refused (record { place = place; problem = problem_view p })

abbrev pub problem_name : TextProblem → List ℕ
problem_name (TextProblem.Text p) = query_problem_name (text.problem_view p)
problem_name (TextProblem.Binding p) = nested_problem_name (problem_view p)

-- the fault is that of the meaning; want of memory may come in place of anything
abbrev pub IsRefusedAs : Result NestedQuery QueryRefusal → TextFault → Type 0
IsRefusedAs meant TextFault.NoMemory = ⊤
IsRefusedAs meant (TextFault.Refused place p) = meant ≡ Err (refusal_of place p)

-- the faults that are handed on
abbrev pub text_fault : QueryFault → TextFault
text_fault QueryFault.NoMemory = TextFault.NoMemory
text_fault (QueryFault.Refused place p) = TextFault.Refused place (TextProblem.Text p)

abbrev pub bound_fault : NestedFault → TextFault
bound_fault NestedFault.NoMemory = TextFault.NoMemory
bound_fault (NestedFault.Refused place p) = TextFault.Refused place (TextProblem.Binding p)
