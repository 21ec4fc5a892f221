-- Groups that lie one behind another until they are merged.
use Rattle.std.specs.Prelude.{◌≡◌, ℕ, ◌^◌, List, map}
use Rattle.std.specs.List.{fold}
use Rattle.dr_meaning.specs.Schema.{Fields}
use Rattle.dr_partials.specs.Partials as meant
use Rattle.dr_partials.specs.Partials.{merge, empty_partial}
use Rattle.dr_plan.specs.Planned.{Planned, planned_query}
use Rattle.dr_group.specs.declared.group_map.GroupMap.{GroupMap}
use Rattle.dr_group.specs.declared.partial.Partial.{Partial}
use Rattle.dr_tree.specs.Together.{AreBounded, AreOfPlan, partials_view}

-- the partial with these groups
abbrev pub partial_of_groups : GroupMap → Partial
partial_of_groups m = Partial.Groups m

-- as partials, in order
abbrev pub piled : List GroupMap → List Partial
piled ms = map partial_of_groups ms

-- partials of a plan over a schema with these fields, of so many values together; merged, they are this one
pub record IsPile (plan : Planned) (fs : Fields) (most : ℕ) (all : meant.Partial) (ms : List GroupMap) : Type 0 where
  pub of_plan : AreOfPlan plan (piled ms)
  pub bounds : AreBounded fs (planned_query plan) most (partials_view (piled ms))
  pub merged : fold merge (empty_partial (planned_query plan)) (partials_view (piled ms)) ≡ all

-- small enough to be merged
abbrev pub CanMerge : List GroupMap → Type 0
CanMerge ms = (plan : Planned) × (fs : Fields) × (all : meant.Partial) × IsPile plan fs (2 ^ 60) all ms

-- whatever they are, merged, these are too
abbrev pub StaysPile : List GroupMap → List GroupMap → Type 0
StaysPile ms ns = (plan : Planned) (fs : Fields) (most : ℕ) (all : meant.Partial) → IsPile plan fs most all ms → IsPile plan fs most all ns
