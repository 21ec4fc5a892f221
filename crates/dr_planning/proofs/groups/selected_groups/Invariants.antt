use Rattle.std.proofs.Common.{◌≡◌}
use Rattle.dr_planning.specs.Planning.{aggregates_of, group_items_of}
use Rattle.dr_planning.proofs.groups.selected_groups.Given as goal

-- the aggregates and the items so far are made
abbrev pub invariant-items : goal.invariant-items
invariant-items l = (l.aggregates.items ≡ aggregates_of l.keys l.yielded) × (l.made.items ≡ group_items_of l.keys 0 l.yielded)
