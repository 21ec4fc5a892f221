-- The partial of rows without keys.
use Rattle.std.specs.Prelude.{◌≡◌, ℕ, List, [], ◌∷◌, map, Option, Vec}
use Rattle.std.specs.declared.alloc.Global.{Global}
use Rattle.std.proofs.Common.{sym, ap, ◌∙◌}
use Rattle.dr_meaning.specs.Query as query
use Rattle.dr_partials.specs.Partials as meant
use Rattle.dr_plan.specs.Views.{selection_view}
use Rattle.dr_plan.specs.Planned.{plan_view, planned_query, plan_leaves}
use Rattle.dr_plan.specs.declared.aggregate.Aggregate.{Aggregate}
use Rattle.dr_plan.specs.declared.objects.ObjectPlan.{ObjectPlan}
use Rattle.dr_plan.specs.declared.plan.Plan.{Plan}
use Rattle.dr_plan.specs.declared.plan.Selection.{Selection}
use Rattle.dr_plan.specs.declared.plan.RecordItem.{RecordItem}
use Rattle.dr_plan.specs.declared.plan.GroupItem.{GroupItem}
use Rattle.dr_group.specs.Gathering.{gathering_view}
use Rattle.dr_group.specs.Groups.{keyless_group}
use Rattle.dr_group.specs.PlanGatherings.{item_gatherings}
use Rattle.dr_group.specs.RowPartials.{gathered_of_rows, selected_of_rows, partial_of_rows}
use Rattle.dr_group.specs.declared.gathering.Gathering.{Gathering}
use Rattle.dr_group.proofs.PartialLemmas.{empty_objects, items_gather}

pub objects_of_rows : (n : ℕ) (p : Plan) (items : Vec RecordItem Global) (o : ObjectPlan) → p.selection ≡ Selection.Objects items o
    → meant.empty_partial (planned_query (plan_view p)) ≡ partial_of_rows n (planned_query (plan_view p))
objects_of_rows n p items o e = sym (empty_objects p items o e) ∙ sym (ap (λ (s : Selection). selected_of_rows n (selection_view (plan_leaves p) s)) e)

pub groups_of_rows : (n : ℕ) (p : Plan) (keys : Vec ℕ Global) (aggregates : Vec Aggregate Global) (items : Vec GroupItem Global) (ks : List Gathering)
    → p.selection ≡ Selection.Groups keys aggregates items → map gathering_view ks ≡ item_gatherings aggregates.items items.items
    → meant.grouped (keyless_group (map (gathered_of_rows n) (map gathering_view ks)) ∷ []) ≡ partial_of_rows n (planned_query (plan_view p))
groups_of_rows n p keys aggregates items ks e f =
    ap (λ (gs : List (Option query.Aggregate)). meant.grouped (keyless_group (map (gathered_of_rows n) gs) ∷ [])) (f ∙ items_gather (plan_leaves p) aggregates.items items.items)
    ∙ sym (ap (λ (s : Selection). selected_of_rows n (selection_view (plan_leaves p) s)) e)
