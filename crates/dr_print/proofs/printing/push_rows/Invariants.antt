use Rattle.std.proofs.Common.{drop, string_bytes}
use Rattle.dr_cells.specs.Results.{read_object}
use Rattle.dr_cells.specs.Shapes.{shape_view}
use Rattle.dr_cells.specs.Views.{cells_view}
use Rattle.dr_print.proofs.PartLemmas.{Rows}
use Rattle.dr_print.proofs.printing.push_rows.Given as goal

-- the lines from this one on are still to join
abbrev pub invariant-rows : goal.invariant-rows
invariant-rows l = Rows (read_object (shape_view l.rows.shape)) l.rows.count l._row (cells_view l.rows.cells) (drop l.at (cells_view l.rows.cells)) (string_bytes l.fn.text) (string_bytes l.text)
