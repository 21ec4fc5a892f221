use Rattle.std.proofs.Common.{◌∙◌, sym, ap, map, List}
use Rattle.dr_ordering.specs.Ordered.{place_of_name, outermost_names}
use Rattle.dr_plan.specs.Views.{aggregate_view, selection_view}
use Rattle.dr_plan.specs.Planned.{plan_leaves}
use Rattle.dr_plan.specs.declared.plan.GroupItem.{GroupItem}
use Rattle.dr_plan.specs.declared.plan.Selection.{Selection}
use Rattle.dr_cells.specs.PlanShapes.{row_names}
use Rattle.dr_cells.proofs.ShapeLemmas.{row_names-views}
use Rattle.dr_sub.proofs.ordering.place_of_name.Goals as goal

pub returns-in-Groups : goal.returns-in-Groups
returns-in-Groups c =
    let ls = plan_leaves c.args.plan.now in
    c.place_in_row.ensures
    ∙ ap (λ (is : List GroupItem). place_of_name c.args.name.now (row_names is)) c.deref-in-Groups.ensures.value
    ∙ ap (place_of_name c.args.name.now) (sym (row_names-views (map (aggregate_view ls) c.in-Groups.field-1.items) c.in-Groups.items.items))
    ∙ ap (λ (x : Selection). place_of_name c.args.name.now (outermost_names (selection_view ls x))) (sym c.in-Groups.is)
