use Rattle.std.proofs.Common.{◌≡◌, ◌++◌, ◌+◌, ℕ, drop}
use Rattle.dr_plan.specs.declared.aggregate.Aggregate.{Aggregate}
use Rattle.dr_rewrite.specs.Items.{indexed}
use Rattle.dr_rewrite.specs.Merged.{merged, merged_aggregates}
use Rattle.dr_rewrite.proofs.merged.merging_aggregates.Given as goal

-- those that are left are still to come
abbrev pub invariant-aggregates : goal.invariant-aggregates
invariant-aggregates l = l.merging.items ++ indexed (λ (i : ℕ) (a : Aggregate). merged (l.keys + i) a) l.place (drop l.place l.aggregates) ≡ merged_aggregates l.keys l.aggregates
