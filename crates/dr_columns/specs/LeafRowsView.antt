-- What the rows of one leaf in code stand for.
use Rattle.std.specs.Prelude.{List, Option, option_map}
use Rattle.dr_meaning.specs.Record.{Value}
use Rattle.dr_levels.specs.Views.{lent_value}
use Rattle.dr_columns.specs.declared.leaf_rows.LeafRows.{LeafRows}
use Rattle.dr_columns.specs.LeafRows.{values_along}
use Rattle.dr_rows_beside.specs.Places.{place_left}

-- the values in the rows from the next one on
abbrev pub leaf_left : LeafRows → List (Option Value)
leaf_left r = values_along r.beside (option_map lent_value r.value) (place_left r.own)
