use Rattle.std.proofs.Common.{◌≡◌, ◌++◌, drop}
use Rattle.std.specs.List.{flat_map}
use Rattle.dr_columns.specs.Takings.{Take, takings_view, aggregate_leaves}
use Rattle.dr_columns.proofs.firing.push_read.Given as goal

-- with those of the takings from this one on they are all
abbrev pub invariant-takings : goal.invariant-takings
invariant-takings l = l.out.items ++ flat_map (λ (t : Take). aggregate_leaves t.aggregate) (takings_view (drop l.taking-index l.takings))
    ≡ l.initial.out.items ++ flat_map (λ (t : Take). aggregate_leaves t.aggregate) (takings_view l.takings)
