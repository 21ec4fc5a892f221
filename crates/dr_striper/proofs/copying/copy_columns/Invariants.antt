use Rattle.std.proofs.Common.{◌≡◌, map, take}
use Rattle.dr_nested.specs.PathView.{paths_view}
use Rattle.dr_levels.specs.Views.{column_view, column_form}
use Rattle.dr_striper.specs.Striping.{leaf_form, leaves_of}
use Rattle.dr_striper.specs.Records.{columns_in}
use Rattle.dr_striper.specs.Views.{nulls, twigs_view}
use Rattle.dr_striper.proofs.copying.copy_columns.Given as goal

-- the columns of the leaves before this one
abbrev pub invariant-fields : goal.invariant-fields
invariant-fields l =
    (map column_view l.columns.items ≡ columns_in (paths_view (take l.number l.fields)) (nulls l.levels) (twigs_view l.branches))
    × (map column_form l.columns.items ≡ map leaf_form (leaves_of (take l.number l.fields)))
