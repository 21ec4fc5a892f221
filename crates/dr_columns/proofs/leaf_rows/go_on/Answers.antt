use Rattle.std.specs.Prelude.{option_map}
use Rattle.dr_levels.specs.Views.{lent_value}
use Rattle.dr_rows_beside.specs.Places.{place_left}
use Rattle.dr_columns.proofs.LeafRowLemmas.{goes_on}
use Rattle.dr_columns.proofs.leaf_rows.go_on.Goals as goal

pub returns-then-repetition-beside-clause-value : goal.returns-then-repetition-beside-clause-value
returns-then-repetition-beside-clause-value c =
    let p = c.next.ensures.passes in
    goes_on c.args.repetition c.args.beside.now.depth (option_map lent_value c.args.value) (option_map lent_value c.next.result) (place_left c.args.beside.now) (place_left c.next.new.self) p.0 c.if-repetition-beside.true p.1 p.2
