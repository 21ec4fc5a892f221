-- The result of a query with those in its FROM, by the innermost query's partial.
use Rattle.std.specs.Prelude.{◌≡◌, List, [], ◌∷◌, true}
use Rattle.std.specs.List.{list_all}
use Rattle.dr_meaning.specs.Schema.{Schema}
use Rattle.dr_meaning.specs.Record.{Node, is_record}
use Rattle.dr_meaning.specs.Query.{Object}
use Rattle.dr_partials.specs.Partials as plain
use Rattle.dr_partials.specs.Partials.{Partial}
use Rattle.dr_plan.specs.Planned.{plan_view}
use Rattle.dr_plan.specs.declared.plan.Plan.{Plan}
use Rattle.dr_group.specs.Partials.{IsPartialOf}
use Rattle.dr_group.specs.declared.partial.Partial.{Partial as CodePartial}
use Rattle.dr_sub.specs.Texts.{ArePlansOf}
use Rattle.dr_sub.specs.declared.nested_plan.NestedPlan.{NestedPlan}
use Rattle.dr_sub_meaning.specs.Nested as nested
use Rattle.dr_sub_meaning.specs.Nested.{NestedQuery, innermost}

-- the plan that reads the table
abbrev pub plan_below : List Plan → Plan → Plan
plan_below [] o = o
plan_below (p ∷ ps) o = p

abbrev pub innermost_plan : NestedPlan → Plan
innermost_plan p = plan_below p.inner.items p.outer

-- lines have the shape of that plan's result, groups gather what its aggregates do
abbrev pub IsOfInnermost : NestedPlan → CodePartial → Type 0
IsOfInnermost p x = IsPartialOf (plan_view (innermost_plan p)) x

-- these are records of the schema, and it is the innermost query's partial of them
abbrev pub StandsInnermost : Schema → NestedQuery → List Node → Partial → Type 0
StandsInnermost s n R x = (list_all (is_record s.fields) R ≡ true) × (x ≡ plain.partial_of s.fields (innermost n.inner n.outer) R)

-- of some records, for some query of these plans
abbrev pub MayBeFinished : Schema → NestedPlan → Partial → Type 0
MayBeFinished s p x = (n : NestedQuery) × (R : List Node) × ArePlansOf s n p × StandsInnermost s n R x

-- of whatever query and records, these objects are what the query means on the records
abbrev pub IsFinished : Schema → NestedPlan → Partial → List Object → Type 0
IsFinished s p x os = (n : NestedQuery) (R : List Node) → ArePlansOf s n p → StandsInnermost s n R x → os ≡ nested.meaning s.fields n R

-- of whatever query and records, this is the outermost query's partial
abbrev pub IsOutermost : Schema → NestedPlan → Partial → Partial → Type 0
IsOutermost s p x y = (n : NestedQuery) (R : List Node) → ArePlansOf s n p → StandsInnermost s n R x → y ≡ nested.partial_of s.fields n R
