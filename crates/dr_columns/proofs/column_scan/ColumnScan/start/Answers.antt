use Rattle.std.proofs.Common.{◌≡◌, ◌∙◌, ℕ, List, None, length, ap, ap₂, sym, subst, refl}
use Rattle.dr_nested.specs.PathView.{paths_view}
use Rattle.dr_nested.specs.declared.path.Path.{Path}
use Rattle.dr_meaning.specs.Path.{Step}
use Rattle.dr_partials.specs.Partials.{empty_partial}
use Rattle.dr_columns.specs.RowPuts.{paths_at}
use Rattle.dr_plan.specs.Planned.{plan_leaves, plan_view, planned_query}
use Rattle.dr_plan.specs.declared.aggregate.Aggregate.{Aggregate}
use Rattle.dr_group.specs.Partials.{partial_view, IsPartialOf}
use Rattle.dr_group.specs.declared.partial.Partial.{Partial}
use Rattle.dr_agreement.specs.Agreements.{IsOfLeaves}
use Rattle.dr_columns.specs.Taken.{gives_groups}
use Rattle.dr_columns.specs.Takings.{are_numbered, takings_at}
use Rattle.dr_columns.proofs.PlanChunkLemmas.{plan_numbered}
use Rattle.dr_columns.proofs.TakenLemmas.{paths_same, has_none, all_fired, no_lines, items_of, selects_groups}
use Rattle.dr_columns.proofs.column_scan.ColumnScan.start.Goals as goal

pub fired_of-requires-clause-aggregates : goal.fired_of-requires-clause-aggregates
fired_of-requires-clause-aggregates c =
    ap₂ (λ (ps : List Path) (A : List Aggregate). are_numbered (length ps) A) c.deref-in-Groups-2.ensures.value c.deref-in-Groups-2-3.ensures.value
    ∙ plan_numbered c.args.plan.now c.in-Groups.keys c.in-Groups.aggregates c.in-Groups.field-2 c.in-Groups.is

pub returns-clause-taken : goal.returns-clause-taken
returns-clause-taken c = λ s h.
    let p = c.args.plan.now in
    let agreement = c.in_ok-agreement-in-Groups-2.agreement in
    record {
      keys = c.in-Groups.keys;
      aggregates = c.in-Groups.aggregates;
      items = c.in-Groups.field-2;
      of_groups = record { of_schema = h; selects = c.in-Groups.is };
      keeps = c.in_ok-keeps-in-Groups-2.ensures;
      of_leaves = subst (λ (F : List (List Step)). IsOfLeaves F agreement) (ap paths_view c.deref.ensures.value ∙ paths_same p.leaves.items) c.in_ok-agreement-in-Groups-2.ensures;
      same_keys = c.deref-in-Groups-2-6.ensures.value;
      fired = all_fired p c.in-Groups.keys c.in-Groups.aggregates _ c.deref-in-Groups-2.result.now c.deref-in-Groups-2-2.result.now c.deref-in-Groups-2-3.result.now
          c.deref-in-Groups-2.ensures.value c.deref-in-Groups-2-2.ensures.value c.deref-in-Groups-2-3.ensures.value c.in_ok-fired-in-Groups-2.ensures;
      at_end = c.in_ok-at_end-in-Groups-2.ensures ∙ ap₂ (λ (ks : List ℕ) (A : List Aggregate). takings_at ks None 0 A) c.deref-in-Groups-2-4.ensures.value c.deref-in-Groups-2-5.ensures.value;
      gathers = subst (IsPartialOf (plan_view p)) c.in-Groups-2.is c.in_ok-empty-in-Groups.ensures.of_plan;
      are_records = refl;
      made = has_none p c.in-Groups.keys c.in-Groups.aggregates c.in-Groups.field-2 c.in-Groups-2.groups c.in-Groups.is
          (subst (λ (x : Partial). partial_view x ≡ empty_partial (planned_query (plan_view p))) c.in-Groups-2.is c.in_ok-empty-in-Groups.ensures.partial);
    }

pub returns-in-Objects-clause-told : goal.returns-in-Objects-clause-told
returns-in-Objects-clause-told c = sym (ap gives_groups c.in-Objects.is)

pub returns-clause-told : goal.returns-clause-told
returns-clause-told c = sym (ap gives_groups c.in-Groups.is)

pub returns-in-Lines-clause-told : goal.returns-in-Lines-clause-told
returns-in-Lines-clause-told c =
    let p = c.args.plan.now in
    absurd (no_lines (planned_query (plan_view p)) (paths_at (plan_leaves p) c.in-Groups.keys.items) (items_of p c.in-Groups.aggregates c.in-Groups.field-2) _ (selects_groups p c.in-Groups.keys c.in-Groups.aggregates c.in-Groups.field-2 c.in-Groups.is)
    (sym (ap partial_view c.in-Lines.is) ∙ c.in_ok-empty-in-Groups.ensures.partial))
