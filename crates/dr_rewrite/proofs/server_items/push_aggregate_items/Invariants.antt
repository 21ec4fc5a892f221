use Rattle.std.proofs.Common.{◌≡◌, ◌++◌, ℕ, map, drop}
use Rattle.dr_plan.specs.declared.aggregate.Aggregate.{Aggregate}
use Rattle.dr_rewrite.specs.Items.{indexed}
use Rattle.dr_rewrite.specs.ServerItems.{titled, titled_aggregate, titled_aggregates}
use Rattle.dr_rewrite.proofs.server_items.push_aggregate_items.Given as goal

-- those that are left are still to come
abbrev pub invariant-aggregates : goal.invariant-aggregates
invariant-aggregates l = map titled l.items.items ++ indexed (λ (i : ℕ) (a : Aggregate). titled_aggregate i) l.place (drop l.place l.aggregates)
    ≡ map titled l.fn.items.items ++ titled_aggregates l.aggregates
