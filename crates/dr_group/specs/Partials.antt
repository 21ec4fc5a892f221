-- What a partial stands for, and of which plan it is.
use Rattle.std.specs.Prelude.{◌≡◌, List}
use Rattle.dr_meaning.specs.Schema.{Schema}
use Rattle.dr_meaning.specs.Record.{Node}
use Rattle.dr_meaning.specs.Query.{Selection, objects, groups}
use Rattle.dr_partials.specs.Partials as meant
use Rattle.dr_partials.specs.Partials.{empty_partial}
use Rattle.dr_partials.specs.Putting.{Put, put, put_all}
use Rattle.dr_plan.specs.Planned.{Planned, planned_query, plan_view}
use Rattle.dr_plan.specs.declared.plan.Plan.{Plan}
use Rattle.dr_cells.specs.Rows.{rows_view, rows_shape}
use Rattle.dr_cells.specs.Shapes.{plan_shape}
use Rattle.dr_group.specs.Gathering.{gatherings_of}
use Rattle.dr_group.specs.Maps.{groups_view, gatherings_view}
use Rattle.dr_group.specs.declared.group_map.GroupMap.{GroupMap}
use Rattle.dr_group.specs.declared.partial.Partial.{Partial}

-- what a partial stands for
abbrev pub partial_view : Partial → meant.Partial
partial_view (Partial.Lines r) = meant.lines (rows_view r)
partial_view (Partial.Groups m) = meant.grouped (groups_view m)

-- the groups gather what the aggregates among the items do
abbrev pub GathersFor : Selection → GroupMap → Type 0
GathersFor (objects items) m = ⊥
GathersFor (groups keys items) m = gatherings_of items ≡ gatherings_view m

-- lines have the shape of the plan's result, groups gather what its aggregates do
abbrev pub IsPartialOf : Planned → Partial → Type 0
IsPartialOf p (Partial.Lines r) = rows_shape r ≡ plan_shape p
IsPartialOf p (Partial.Groups m) = GathersFor p.selection m

-- the partial of a query has become that with these puts, in order
abbrev pub HasTaken : Planned → List Put → Partial → Partial → Type 0
HasTaken p puts before after = partial_view after ≡ put_all (planned_query p) puts (partial_view before)

-- the same of one put
abbrev pub HasTakenOne : Planned → Put → Partial → Partial → Type 0
HasTakenOne p one before after = partial_view after ≡ put (planned_query p) one (partial_view before)

-- the same, whatever query it is a partial of
abbrev pub TakesPuts : List Put → Partial → Partial → Type 0
TakesPuts puts before after = (p : Planned) → IsPartialOf p before → HasTaken p puts before after

-- a partial of these puts alone
abbrev pub IsOfPuts : Planned → List Put → Partial → Type 0
IsOfPuts p puts x = partial_view x ≡ put_all (planned_query p) puts (empty_partial (planned_query p))

-- a partial of these records for a plan of their schema
abbrev pub IsOfRecords : Schema → Plan → List Node → Partial → Type 0
IsOfRecords s p R x = partial_view x ≡ meant.partial_of s.fields (planned_query (plan_view p)) R

-- two partials of one query: their lines have one shape
abbrev pub AreAlike : Partial → Partial → Type 0
AreAlike (Partial.Lines r) (Partial.Lines s) = rows_shape s ≡ rows_shape r
AreAlike (Partial.Lines r) (Partial.Groups m) = Unit {0}
AreAlike (Partial.Groups m) p = Unit {0}

-- ---- laws

-- two partials of one plan are alike
abbrev pub PartialsOfOnePlanAreAlike : Type 0
PartialsOfOnePlanAreAlike = (p : Planned) (a b : Partial) → IsPartialOf p a → IsPartialOf p b → AreAlike a b
