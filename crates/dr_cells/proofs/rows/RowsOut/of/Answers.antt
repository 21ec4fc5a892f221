use Rattle.dr_cells.specs.Shapes.{shape_view}
use Rattle.dr_cells.specs.Views.{cells_view}
use Rattle.dr_cells.proofs.ReadingLemmas.{rows_of}
use Rattle.dr_cells.proofs.rows.RowsOut.of.Goals as goal

pub returns-clause-rows : goal.returns-clause-rows
returns-clause-rows c = λ os f e g. rows_of (shape_view c.args.shape) os c.args.count (cells_view c.args.cells) f e g
