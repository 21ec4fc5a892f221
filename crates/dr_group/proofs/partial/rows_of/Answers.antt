use Rattle.std.proofs.Common.{◌≡◌, ◌++◌, ◌∙◌, ap, sym, List, []}
use Rattle.dr_meaning.specs.Query.{GroupTerm}
use Rattle.dr_cells.specs.Results.{ResultCell}
use Rattle.dr_cells.specs.Shapes.{shape_view}
use Rattle.dr_cells.specs.Views.{cells_view}
use Rattle.dr_cells.proofs.ReadingLemmas.{are_rows}
use Rattle.dr_group.specs.Finishing.{all_row_cells}
use Rattle.dr_group.specs.Maps.{groups_view}
use Rattle.dr_group.specs.Rows.{group_rows}
use Rattle.dr_group.proofs.RowLemmas.{cells_of_rows, all_rows_fit, rows_length}
use Rattle.dr_group.proofs.partial.rows_of.Goals as goal

pub of-requires : goal.of-requires
of-requires c =
    let gs = groups_view c.args.groups.now in
    let items = c.args.items.now in
    let none : List GroupTerm = [] in
    let cells : cells_view c.push_rows.new.cells ≡ all_row_cells items gs = c.in_ok-push_rows.ensures ∙ ap (λ (cs : List ResultCell). cs ++ all_row_cells items gs) c.new-cells.ensures in
    are_rows (shape_view c.args.shape) (group_rows none items gs) c.len.result (cells_view c.push_rows.new.cells) (all_rows_fit none items gs (shape_view c.args.shape) c.requires)
    (cells ∙ cells_of_rows none items gs tt) (c.len.ensures ∙ sym (rows_length none items gs))

pub returns-clause-rows : goal.returns-clause-rows
returns-clause-rows c = λ ts h.
    let gs = groups_view c.args.groups.now in
    let items = c.args.items.now in
    let cells : cells_view c.push_rows.new.cells ≡ all_row_cells items gs = c.in_ok-push_rows.ensures ∙ ap (λ (cs : List ResultCell). cs ++ all_row_cells items gs) c.new-cells.ensures in
    c.of.ensures.rows (group_rows ts items gs) (all_rows_fit ts items gs (shape_view c.args.shape) c.requires) (cells ∙ cells_of_rows ts items gs h) (c.len.ensures ∙ sym (rows_length ts items gs))
