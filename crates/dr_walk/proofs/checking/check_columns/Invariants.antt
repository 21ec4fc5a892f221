use Rattle.dr_nested.specs.Views.{fields_view}
use Rattle.std.proofs.Common.{map}
use Rattle.dr_levels.specs.Views.{triplets_view}
use Rattle.dr_walk.specs.Checking.{StandsOver}
use Rattle.dr_walk.proofs.checking.check_columns.Given as goal
use Rattle.dr_nested.specs.PathView.{lent_path}

-- the walk stands over the columns
abbrev pub invariant-moves : goal.invariant-moves
invariant-moves l = StandsOver (fields_view l.schema.fields.items) (map lent_path l.fields) (map triplets_view l.columns) l.rows l.walk l.rests
