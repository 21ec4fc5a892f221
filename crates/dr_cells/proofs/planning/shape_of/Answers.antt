use Rattle.std.proofs.Common.{◌∙◌, ap}
use Rattle.std.proofs.lemmas.Result.{IfOk-weaker}
use Rattle.dr_plan.specs.Objects.{object_view}
use Rattle.dr_cells.specs.Results.{shape_tree, no_list_shapes}
use Rattle.dr_cells.specs.Shapes.{tree_shape}
use Rattle.dr_cells.specs.PlanShapes.{item_names, row_names}
use Rattle.dr_cells.proofs.ShapeLemmas.{objects_shape, groups_shape}
use Rattle.dr_cells.proofs.planning.shape_of.Goals as goal

pub returns-in-Objects : goal.returns-in-Objects
returns-in-Objects c =
    IfOk-weaker c.object_shape.result _ _
    (λ s e. e ∙ ap (λ ns. tree_shape (item_names ns) (object_view c.in-Objects.object)) c.deref.ensures.value
    ∙ objects_shape c.args.plan.now c.in-Objects.items c.in-Objects.object c.in-Objects.is)
    c.object_shape.ensures

pub returns-in-Groups : goal.returns-in-Groups
returns-in-Groups c =
    IfOk-weaker c.row_shape.result _ _
    (λ s e. e ∙ ap (λ ns. shape_tree (row_names ns) no_list_shapes) c.deref-in-Groups.ensures.value
    ∙ groups_shape c.args.plan.now c.in-Groups.field-0 c.in-Groups.field-1 c.in-Groups.items c.in-Groups.is)
    c.row_shape.ensures
