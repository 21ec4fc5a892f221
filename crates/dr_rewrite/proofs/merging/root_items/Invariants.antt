use Rattle.std.proofs.Common.{◌≡◌, ◌++◌, map, drop, string_bytes}
use Rattle.dr_rewrite.specs.Items.{root_item}
use Rattle.dr_rewrite.proofs.merging.root_items.Given as goal

-- those that are left are still to come
abbrev pub invariant-items : goal.invariant-items
invariant-items l = map string_bytes l.texts.items ++ map (root_item l.aggregates) (drop l.item-index l.items) ≡ map (root_item l.aggregates) l.items
