-- What the aggregates of a plan gather.
use Rattle.std.specs.Prelude.{List, [], ◌∷◌, Option, Some, None}
use Rattle.std.specs.List.{slice_get}
use Rattle.dr_meaning.specs.Query as query
use Rattle.dr_plan.specs.Views.{fold_view}
use Rattle.dr_plan.specs.declared.aggregate.Aggregate.{Aggregate}
use Rattle.dr_plan.specs.declared.plan.GroupTerm.{GroupTerm}
use Rattle.dr_plan.specs.declared.plan.GroupItem.{GroupItem}

-- what an aggregate of a plan gathers
abbrev pub aggregate_gathering : Aggregate → Option query.Aggregate
aggregate_gathering Aggregate.Rows = None
aggregate_gathering (Aggregate.Of f e) = Some (fold_view f)

-- the same of one that may not be there
abbrev pub found_gathering : Option Aggregate → Option query.Aggregate
found_gathering None = None
found_gathering (Some a) = aggregate_gathering a

-- a key gathers nothing
abbrev pub with_gathering : List Aggregate → GroupTerm → List (Option query.Aggregate) → List (Option query.Aggregate)
with_gathering aggregates (GroupTerm.Key k) gs = gs
with_gathering aggregates (GroupTerm.Aggregate a) gs = found_gathering (slice_get aggregates a) ∷ gs

-- what each aggregate among the items gathers
abbrev pub item_gatherings : List Aggregate → List GroupItem → List (Option query.Aggregate)
item_gatherings aggregates [] = []
item_gatherings aggregates (i ∷ is) = with_gathering aggregates i.term (item_gatherings aggregates is)
