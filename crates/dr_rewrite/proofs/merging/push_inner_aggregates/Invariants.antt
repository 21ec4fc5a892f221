use Rattle.std.proofs.Common.{◌≡◌, ◌++◌, map, drop, string_bytes}
use Rattle.dr_rewrite.specs.Items.{indexed, inner_aggregate}
use Rattle.dr_rewrite.proofs.merging.push_inner_aggregates.Given as goal

-- those that are left are still to come
abbrev pub invariant-aggregates : goal.invariant-aggregates
invariant-aggregates l = map string_bytes l.texts.items ++ indexed inner_aggregate l.place (drop l.place l.aggregates) ≡ map string_bytes l.fn.texts.items ++ indexed inner_aggregate 0 l.aggregates
