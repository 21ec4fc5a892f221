use Rattle.std.proofs.Common.{◌∙◌}
use Rattle.dr_plan.specs.Objects.{object_view}
use Rattle.dr_cells.specs.Shapes.{shape_view}
use Rattle.dr_cells.specs.Views.{cells_view}
use Rattle.dr_cells.proofs.ReadingLemmas.{are_rows}
use Rattle.dr_mean.specs.ObjectCells.{items_view}
use Rattle.dr_mean.proofs.AnswerLemmas.{result_means}
use Rattle.dr_mean.proofs.ResultLemmas.{selects_for, objects_fit, cells_are, count_is, result_objects, selection_is, objects_is}
use Rattle.dr_mean.proofs.lines.mean_objects.Goals as goal

pub of-requires : goal.of-requires
of-requires c =
    let plan = c.args.plan.now in
    let ns = c.args.records.now in
    let items = c.args.items.now in
    let o = c.args.object.now in
    let h = c.requires.selection in
    let ls = c.deref.result.now in
    let is = c.deref-2.result.now in
    let s = selects_for plan ns c.requires.answers ls is items o c.deref.ensures.value c.deref-2.ensures.value h in
    let I = items_view plan.leaves.items items.items in
    let fit = objects_fit plan ns items o (shape_view c.in_ok-shape.shape) h c.in_ok-shape.ensures in
    let cells = cells_are plan ns ls is items o (cells_view c.new-cells.result) (cells_view c.push_records.new.cells) c.deref.ensures.value c.deref-2.ensures.value c.new-cells.ensures (c.in_ok-count.ensures.cells s) in
    let count = count_is plan ns I (object_view o) c.in_ok-count.count (c.in_ok-count.ensures.count s) in
    are_rows (shape_view c.in_ok-shape.shape) (result_objects plan I (object_view o) ns) c.in_ok-count.count (cells_view c.push_records.new.cells) fit cells count

pub returns-clause-rows : goal.returns-clause-rows
returns-clause-rows c =
    let plan = c.args.plan.now in
    let ns = c.args.records.now in
    let items = c.args.items.now in
    let o = c.args.object.now in
    let h = c.requires.selection in
    let ls = c.deref.result.now in
    let is = c.deref-2.result.now in
    let s = selects_for plan ns c.requires.answers ls is items o c.deref.ensures.value c.deref-2.ensures.value h in
    let I = items_view plan.leaves.items items.items in
    let fit = objects_fit plan ns items o (shape_view c.in_ok-shape.shape) h c.in_ok-shape.ensures in
    let cells = cells_are plan ns ls is items o (cells_view c.new-cells.result) (cells_view c.push_records.new.cells) c.deref.ensures.value c.deref-2.ensures.value c.new-cells.ensures (c.in_ok-count.ensures.cells s) in
    let count = count_is plan ns I (object_view o) c.in_ok-count.count (c.in_ok-count.ensures.count s) in
    λ a. c.of.ensures.rows (result_objects plan I (object_view o) ns) fit cells count
    ∙ result_means plan ns a I (object_view o) (selection_is plan items o h) (objects_is plan items o h)
