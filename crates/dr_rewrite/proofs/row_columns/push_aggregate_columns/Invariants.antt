use Rattle.std.proofs.Common.{◌≡◌, ◌++◌, map, drop}
use Rattle.dr_nested.specs.PathView.{path_view}
use Rattle.dr_rewrite.specs.Items.{indexed}
use Rattle.dr_rewrite.specs.RowColumns.{aggregate_column}
use Rattle.dr_rewrite.proofs.row_columns.push_aggregate_columns.Given as goal

-- those that are left are still to come
abbrev pub invariant-aggregates : goal.invariant-aggregates
invariant-aggregates l = map path_view l.columns.items ++ indexed (aggregate_column l.keys) l.place (drop l.place l.aggregates)
    ≡ map path_view l.fn.columns.items ++ indexed (aggregate_column l.keys) 0 l.aggregates
