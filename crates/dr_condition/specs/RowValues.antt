-- What would be read of a row.
use Rattle.std.specs.Prelude.{List}
use Rattle.std.specs.List.{slice_get}
use Rattle.dr_meaning.specs.Path.{Leaf}
use Rattle.dr_meaning.specs.Record.{Node}
use Rattle.dr_meaning.specs.Rows.{value_at}
use Rattle.dr_moves.specs.Context.{Context}
use Rattle.dr_plan.specs.Views.{path_of}

-- the value of each leaf in it
abbrev pub read_of : List Leaf → Node → Context
read_of ls row k = value_at (path_of (slice_get ls k)) row
