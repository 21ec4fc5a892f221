use Rattle.std.proofs.Common.{[], refl}
use Rattle.dr_cells.specs.Shapes.{shape_view}
use Rattle.dr_cells.specs.Views.{cells_view}
use Rattle.dr_cells.proofs.ReadingLemmas.{rows_of, are_rows}
use Rattle.dr_cells.proofs.rows.RowsOut.new.Goals as goal

pub invariant_of-result : goal.invariant_of-result
invariant_of-result c = record { rows = are_rows (shape_view c.args.shape) [] 0 (cells_view c.new.result) tt c.new.ensures refl }

pub returns-clause-rows : goal.returns-clause-rows
returns-clause-rows c = rows_of (shape_view c.args.shape) [] 0 (cells_view c.new.result) tt c.new.ensures refl
