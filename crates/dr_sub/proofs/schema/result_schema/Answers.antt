use Rattle.std.proofs.Common.{◌∙◌, ap, ap₂, map, List, []}
use Rattle.dr_nested.specs.PathView.{path_view}
use Rattle.dr_nested.specs.declared.path.Path.{Path}
use Rattle.dr_plan.specs.Objects.{object_view}
use Rattle.dr_plan.specs.Views.{record_item_view}
use Rattle.dr_plan.specs.declared.plan.RecordItem.{RecordItem}
use Rattle.dr_plan.specs.declared.objects.ObjectPlan as object_plans
use Rattle.dr_cells.specs.PlanShapes.{plan_lists_view}
use Rattle.dr_sub.specs.ResultFields.{leaves_of, object_fields}
use Rattle.dr_sub.specs.ResultNames.{first_fault}
use Rattle.dr_sub.proofs.SchemaLemmas.{groups_refused, item_refused, schema_given, given_is_schema}
use Rattle.dr_sub.proofs.schema.result_schema.Goals as goal

pub returns-in-Groups : goal.returns-in-Groups
returns-in-Groups c = record { schema = λ s q b. groups_refused s q c.args.plan.now c.in-Groups.field-0 c.in-Groups.field-1 c.in-Groups.field-2 b c.in-Groups.is }

pub returns-in-Some : goal.returns-in-Some
returns-in-Some c = record {
  schema = λ s q b. item_refused s q c.args.plan.now c.in-Objects.items c.in-Objects.object c.in_ok-number-in-Objects.field-0 c.in-Some.number b c.in-Objects.is
      (c.in_ok-number-in-Objects.ensures
      ∙ ap₂ (λ (ps : List Path) (is : List RecordItem). first_fault (plan_lists_view (object_plans.out-ObjectPlan c.in-Objects.object).lists.items) [] 0 (map (record_item_view (map path_view ps)) is)) c.deref.ensures.value c.deref-in-Objects.ensures.value)
      c.in-Some.is;
}

pub invariant_of-result : goal.invariant_of-result
invariant_of-result c =
    let b = c.requires.bound in
    record {
      valid = given_is_schema b.0 b.1 c.args.plan.now c.in-Objects.items c.in-Objects.object c.in_ok-number-in-Objects.field-0 _ _ b.2 c.in-Objects.is
          (c.in_ok-number-in-Objects.ensures
          ∙ ap₂ (λ (ps : List Path) (is : List RecordItem). first_fault (plan_lists_view (object_plans.out-ObjectPlan c.in-Objects.object).lists.items) [] 0 (map (record_item_view (map path_view ps)) is)) c.deref.ensures.value c.deref-in-Objects.ensures.value)
          c.in_default.is
          c.in_ok-name-in-Objects.ensures.ok
          (c.in_ok-fields-in-Objects.ensures ∙ ap (λ (is : List RecordItem). object_fields (leaves_of is) (object_view c.in-Objects.object)) c.deref-in-Objects-2.ensures.value);
    }

pub returns-in_ok-fields-in-Objects : goal.returns-in_ok-fields-in-Objects
returns-in_ok-fields-in-Objects c = record {
  schema = λ s q b. schema_given s q c.args.plan.now c.in-Objects.items c.in-Objects.object c.in_ok-number-in-Objects.field-0 _ _ b c.in-Objects.is
      (c.in_ok-number-in-Objects.ensures
      ∙ ap₂ (λ (ps : List Path) (is : List RecordItem). first_fault (plan_lists_view (object_plans.out-ObjectPlan c.in-Objects.object).lists.items) [] 0 (map (record_item_view (map path_view ps)) is)) c.deref.ensures.value c.deref-in-Objects.ensures.value)
      c.in_default.is
      c.in_ok-name-in-Objects.ensures.ok
      (c.in_ok-fields-in-Objects.ensures ∙ ap (λ (is : List RecordItem). object_fields (leaves_of is) (object_view c.in-Objects.object)) c.deref-in-Objects-2.ensures.value);
}
