-- The partial of the records that columns have.
use Rattle.std.specs.Prelude.{◌≡◌, ℕ, List}
use Rattle.dr_meaning.specs.Schema.{Schema}
use Rattle.dr_meaning.specs.Path.{paths_of_leaves}
use Rattle.dr_meaning.specs.Record.{Node}
use Rattle.dr_meaning.specs.Column.{Triplet}
use Rattle.dr_partials.specs.Partials.{Partial, partial_of}
use Rattle.dr_plan.specs.Planned.{plan_leaves, plan_view, planned_query}
use Rattle.dr_plan.specs.declared.plan.Plan.{Plan}
use Rattle.dr_walk.specs.Walking.{HasColumns, NoneHas}

-- it is a plan's partial of so many records with these columns, one for each leaf of the plan
abbrev pub IsOfColumns : Schema → Plan → List (List Triplet) → ℕ → Partial → Type 0
IsOfColumns s p cs rows x = (R : List Node) × HasColumns s.fields (paths_of_leaves (plan_leaves p)) cs rows R × (x ≡ partial_of s.fields (planned_query (plan_view p)) R)

-- no such records have these columns
abbrev pub NoneHasLeaves : Schema → Plan → List (List Triplet) → ℕ → Type 0
NoneHasLeaves s p cs rows = NoneHas s.fields (paths_of_leaves (plan_leaves p)) cs rows

-- some records have these columns of a plan's leaves
abbrev pub HaveColumns : Schema → Plan → List (List Triplet) → ℕ → Type 0
HaveColumns s p cs rows = (R : List Node) × HasColumns s.fields (paths_of_leaves (plan_leaves p)) cs rows R

-- it is a plan's partial of whatever records have these columns
abbrev pub IsOfAll : Schema → Plan → List (List Triplet) → ℕ → Partial → Type 0
IsOfAll s p cs rows x = (R : List Node) → HasColumns s.fields (paths_of_leaves (plan_leaves p)) cs rows R → x ≡ partial_of s.fields (planned_query (plan_view p)) R
