use Rattle.std.proofs.Common.{◌++◌, ap, sym, ◌∙◌, rules}
use Rattle.dr_cells.specs.Results.{ShapeTree, read_rows}
use Rattle.dr_cells.specs.Shapes.{shape_view}
use Rattle.dr_cells.specs.Views.{cells_view}
use Rattle.dr_cells.proofs.ReadingLemmas.{rows_joined, rows_of_same}
use Rattle.dr_cells.proofs.rows.RowsOut.append.Goals as goal

pub invariant_of-self-2 : goal.invariant_of-self-2
invariant_of-self-2 c =
    let r = c.args.self.now in
    let m = c.args.more.now in
    let s : ShapeTree = shape_view r.shape in
    record {
      rows = (rows_joined s r.count m.count c.in-Some.count (cells_view r.cells) (cells_view m.cells) (cells_view c.append.new.self)
          r.rows (rows_of_same s (shape_view m.shape) m.count (cells_view m.cells) c.requires m.rows) (search rules) c.in_ok-append.ensures).are;
    }

pub returns-clause-rows : goal.returns-clause-rows
returns-clause-rows c =
    let r = c.args.self.now in
    let m = c.args.more.now in
    let s : ShapeTree = shape_view r.shape in
    (rows_joined s r.count m.count c.in-Some.count (cells_view r.cells) (cells_view m.cells) (cells_view c.append.new.self)
    r.rows (rows_of_same s (shape_view m.shape) m.count (cells_view m.cells) c.requires m.rows) (search rules) c.in_ok-append.ensures).objects
    ∙ ap (λ (t : ShapeTree). (read_rows s r.count (cells_view r.cells)).objects ++ (read_rows t m.count (cells_view m.cells)).objects) (sym c.requires)
