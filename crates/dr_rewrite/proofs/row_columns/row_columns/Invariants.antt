use Rattle.std.proofs.Common.{◌≡◌, ◌++◌, map, drop}
use Rattle.dr_nested.specs.PathView.{path_view}
use Rattle.dr_rewrite.specs.Items.{indexed}
use Rattle.dr_rewrite.specs.RowColumns.{key_column}
use Rattle.dr_rewrite.proofs.row_columns.row_columns.Given as goal

-- those that are left are still to come
abbrev pub invariant-keys : goal.invariant-keys
invariant-keys l = map path_view l.columns.items ++ indexed (key_column (map path_view l.leaves)) l.place (drop l.place l.keys) ≡ indexed (key_column (map path_view l.leaves)) 0 l.keys
