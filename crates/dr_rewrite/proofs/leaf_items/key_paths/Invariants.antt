use Rattle.std.proofs.Common.{◌≡◌, ◌++◌, map, drop, string_bytes}
use Rattle.dr_rewrite.specs.Items.{key_text}
use Rattle.dr_rewrite.proofs.leaf_items.key_paths.Given as goal

-- those that are left are still to come
abbrev pub invariant-keys : goal.invariant-keys
invariant-keys l = map string_bytes l.texts.items ++ map (key_text l.names) (drop l.key-index l.keys) ≡ map (key_text l.names) l.keys
