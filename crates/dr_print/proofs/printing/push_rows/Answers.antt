use Rattle.std.proofs.Common.{drop, string_bytes, List}
use Rattle.dr_cells.specs.Results.{ResultCell, read_object, read_rows}
use Rattle.dr_cells.specs.Shapes.{shape_view}
use Rattle.dr_cells.specs.Views.{cells_view}
use Rattle.dr_print.specs.Quoted.{quoted_view}
use Rattle.dr_print.proofs.PartLemmas.{rows_more, no_rows_left}
use Rattle.dr_print.proofs.QuotedLemmas.{object_quoted, rest_quoted}
use Rattle.dr_print.proofs.printing.push_rows.Goals as goal

pub rows-preserved : goal.rows-preserved
rows-preserved c =
    let r = c.args.rows.now in
    let cells : List ResultCell = cells_view r.cells in
    rows_more (read_object (shape_view r.shape)) r.count c.rows._row cells (drop c.rows.at cells) (drop c.in_ok-at.at cells) (string_bytes c.args.text.now) (string_bytes c.rows.text)
    (string_bytes c.push_object.new.text) (string_bytes c.push_str.new.self)
    c.rows-test.true
    (object_quoted (quoted_view c.in_ok-shape.shape) (shape_view r.shape) (drop c.rows.at cells) (string_bytes c.rows.text) (string_bytes c.push_object.new.text) c.in_ok-shape.ensures c.in_ok-at.ensures.text)
    c.in_ok-push_str.ensures.bytes
    (rest_quoted (quoted_view c.in_ok-shape.shape) (shape_view r.shape) (drop c.rows.at cells) (drop c.in_ok-at.at cells) c.in_ok-shape.ensures c.in_ok-at.ensures.place)
    c.rows.invariant

pub returns : goal.returns
unfolding read_rows
returns c =
    let r = c.args.rows.now in
    let cells : List ResultCell = cells_view r.cells in
    no_rows_left (read_object (shape_view r.shape)) r.count c.rows._row cells (drop c.rows.at cells) (string_bytes c.args.text.now) (string_bytes c.rows.text) c.rows-test.false c.rows.invariant
