use Rattle.std.proofs.Common.{◌≡◌, ◌++◌, map, drop, string_bytes}
use Rattle.dr_rewrite.specs.Items.{indexed, leaf_aggregate}
use Rattle.dr_rewrite.proofs.leaf_items.push_leaf_aggregates.Given as goal

-- those that are left are still to come
abbrev pub invariant-aggregates : goal.invariant-aggregates
invariant-aggregates l = map string_bytes l.texts.items ++ indexed (leaf_aggregate l.names) l.place (drop l.place l.aggregates) ≡ map string_bytes l.fn.texts.items ++ indexed (leaf_aggregate l.names) 0 l.aggregates
