use Rattle.std.proofs.Common.{◌≡◌, ◌++◌, drop}
use Rattle.dr_columns.specs.Takings.{takings_view, takings_at}
use Rattle.dr_columns.proofs.firing.takings_at.Given as goal

-- with those of the aggregates from this one on they are all
abbrev pub invariant-aggregates : goal.invariant-aggregates
invariant-aggregates l = record {
  place : l.place ≡ l.aggregate-index;
  takings : takings_view l.takings.items ++ takings_at l.keys l.leaf l.aggregate-index (drop l.aggregate-index l.aggregates) ≡ takings_at l.keys l.leaf 0 l.aggregates;
}
