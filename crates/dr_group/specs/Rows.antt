-- The rows of groups as objects.
use Rattle.std.specs.Prelude.{List, [], ◌∷◌, map}
use Rattle.dr_meaning.specs.Query.{Object, GroupTerm, key, count_rows, aggregate}
use Rattle.dr_partials.specs.Partials.{Group, group_row}
use Rattle.dr_plan.specs.Views.{group_item_view}
use Rattle.dr_plan.specs.declared.plan.GroupItem.{GroupItem}

-- an aggregate, and no key
abbrev pub IsAggregate : GroupTerm → Type 0
IsAggregate (key i) = ⊥
IsAggregate count_rows = Unit {0}
IsAggregate (aggregate a e) = Unit {0}

-- no key among them
abbrev pub AllAggregates : List GroupTerm → Type 0
AllAggregates [] = Unit {0}
AllAggregates (t ∷ ts) = IsAggregate t × AllAggregates ts

-- the row of each group, by a plan's items over these aggregates
abbrev pub group_rows : List GroupTerm → List GroupItem → List Group → List Object
group_rows ts items gs = map (λ (g : Group). group_row (map (group_item_view ts) items) g.keys g.accumulators) gs
