use Rattle.std.proofs.Common.{◌∙◌, ap, sym, map, List}
use Rattle.std.proofs.lemmas.Result.{IfOk-weaker}
use Rattle.dr_cells.specs.Results.{shape_tree, no_list_shapes}
use Rattle.dr_cells.specs.PlanShapes.{row_names}
use Rattle.dr_cells.proofs.ShapeLemmas.{groups_shape}
use Rattle.dr_plan.specs.Views.{aggregate_view}
use Rattle.dr_plan.specs.Planned.{plan_leaves}
use Rattle.dr_plan.specs.declared.plan.GroupItem.{GroupItem}
use Rattle.dr_group.specs.Maps.{groups_view}
use Rattle.dr_group.specs.Rows.{group_rows}
use Rattle.dr_group.proofs.PartialLemmas.{finished_objects, finished_groups}
use Rattle.dr_group.proofs.RowLemmas.{views_are}
use Rattle.dr_group.proofs.partial.finish_groups.Goals as goal

pub rows_of-requires : goal.rows_of-requires
rows_of-requires c =
    c.in_ok-shape.ensures ∙ sym (groups_shape c.args.plan.now c.in-Groups.field-0 c.in-Groups.field-1 c.in-Groups.items c.in-Groups.is)
    ∙ ap (λ (is : List GroupItem). shape_tree (row_names is) no_list_shapes) (sym c.deref.ensures.value)

pub returns-in-Objects-clause-rows : goal.returns-in-Objects-clause-rows
returns-in-Objects-clause-rows c = c.new.ensures.rows ∙ finished_objects c.args.plan.now c.in-Objects.field-0 c.in-Objects.field-1 (groups_view c.args.groups.now) c.in-Objects.is

pub returns-in-Groups-clause-rows : goal.returns-in-Groups-clause-rows
returns-in-Groups-clause-rows c =
    let p = c.args.plan.now in
    let ls = plan_leaves p in
    let aggregates = c.in-Groups.field-1.items in
    let gs = groups_view c.args.groups.now in
    IfOk-weaker c.rows_of.result _ _
    (λ r e. e (map (aggregate_view ls) aggregates) (views_are ls aggregates)
    ∙ ap (λ (is : List GroupItem). group_rows (map (aggregate_view ls) aggregates) is gs) c.deref.ensures.value
    ∙ finished_groups p c.in-Groups.field-0 c.in-Groups.field-1 c.in-Groups.items gs c.in-Groups.is)
    c.rows_of.ensures.rows
