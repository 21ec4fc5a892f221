use Rattle.std.specs.Prelude.{option_map}
use Rattle.dr_levels.specs.Views.{lent_value}
use Rattle.dr_rows_beside.specs.Places.{place_left}
use Rattle.dr_columns.proofs.LeafRowLemmas.{none_left}
use Rattle.dr_columns.proofs.leaf_rows.LeafRows.next.Goals as goal

pub returns-in_default : goal.returns-in_default
returns-in_default c =
    let s = c.args.self.now in
    none_left s.beside (option_map lent_value s.value) c.peek.result (place_left s.own) c.peek.ensures c.in_default.not-Some
