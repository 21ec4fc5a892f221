use Rattle.std.proofs.Common.{◌≡◌, ◌++◌, map, drop}
use Rattle.dr_nested.specs.PathView.{lent_path}
use Rattle.dr_planning.specs.Planning.{steps_at, record_item_paths}
use Rattle.dr_planning.proofs.value_paths.push_record_paths.Given as goal

-- the paths of the items from this one on are still to join
abbrev pub invariant-items : goal.invariant-items
invariant-items l = map lent_path l.used.items ++ steps_at (record_item_paths (drop l.item-index l.items)) ≡ map lent_path l.fn.used.items ++ steps_at (record_item_paths l.items)
