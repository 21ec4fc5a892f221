use Rattle.std.proofs.Common.{◌≡◌, ◌++◌, map, drop, string_bytes}
use Rattle.dr_rewrite.specs.Items.{indexed, leaf_key}
use Rattle.dr_rewrite.proofs.leaf_items.leaf_items.Given as goal

-- those that are left are still to come
abbrev pub invariant-keys : goal.invariant-keys
invariant-keys l = map string_bytes l.texts.items ++ indexed (leaf_key l.names) l.place (drop l.place l.keys) ≡ indexed (leaf_key l.names) 0 l.keys
