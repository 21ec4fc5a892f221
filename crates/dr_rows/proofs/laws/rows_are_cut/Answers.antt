use Rattle.dr_rows.proofs.RowLawLemmas.{rows_cut, present_end, places_tell}
use Rattle.dr_rows.proofs.laws.rows_are_cut.Goals as goal

pub returns : goal.returns
returns c = record { cut = rows_cut; present = present_end; places = places_tell }
