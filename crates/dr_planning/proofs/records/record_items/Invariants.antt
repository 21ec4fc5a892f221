use Rattle.std.proofs.Common.{◌≡◌}
use Rattle.std.specs.List.{filter_map}
use Rattle.dr_planning.specs.Planning.{record_item_of}
use Rattle.dr_planning.proofs.records.record_items.Given as goal

-- the items so far are made
abbrev pub invariant-items : goal.invariant-items
invariant-items l = l.made.items ≡ filter_map record_item_of l.yielded
