use Rattle.dr_cells.proofs.ShapeLemmas.{tree_objects_fit, group_rows_fit}
use Rattle.dr_cells.proofs.laws.result_objects_fit.Goals as goal

pub returns-clause-objects : goal.returns-clause-objects
returns-clause-objects c = tree_objects_fit

pub returns-clause-rows : goal.returns-clause-rows
returns-clause-rows c = group_rows_fit
