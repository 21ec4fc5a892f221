-- What results stand for.
use Rattle.std.specs.Prelude.{List}
use Rattle.dr_meaning.specs.Query.{Object}
use Rattle.dr_cells.specs.Results.{ShapeTree, read_rows}
use Rattle.dr_cells.specs.Shapes.{shape_view}
use Rattle.dr_cells.specs.Views.{cells_view}
use Rattle.dr_cells.specs.declared.rows.RowsOut.{RowsOut}

-- the shape of a result's objects
abbrev pub rows_shape : RowsOut → ShapeTree
rows_shape r = shape_view r.shape

-- the objects of a result, in order
abbrev pub rows_view : RowsOut → List Object
rows_view r = (read_rows (rows_shape r) r.count (cells_view r.cells)).objects
