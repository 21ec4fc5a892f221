use Rattle.dr_meaning.proofs.ProjectionLemmas.{rows_of_projection, values_of_projection, present_in_projection}
use Rattle.dr_meaning.proofs.projection_laws.projection_keeps_rows.Goals as goal

pub returns : goal.returns
returns c = record { rows = rows_of_projection; values = values_of_projection; present = present_in_projection }
