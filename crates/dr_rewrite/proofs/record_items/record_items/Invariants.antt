use Rattle.std.proofs.Common.{◌≡◌, ◌++◌, map, drop, string_bytes}
use Rattle.dr_rewrite.specs.Items.{record_item_text}
use Rattle.dr_rewrite.proofs.record_items.record_items.Given as goal

-- those that are left are still to come
abbrev pub invariant-items : goal.invariant-items
invariant-items l = map string_bytes l.texts.items ++ map (record_item_text l.names) (drop l.item-index l.items) ≡ map (record_item_text l.names) l.items
