-- A plan's partial of records, and what the plan means on them.
use Rattle.std.specs.Prelude.{◌≡◌, ℕ, List, map, true, Vec}
use Rattle.std.specs.List.{list_all}
use Rattle.std.specs.declared.alloc.Global.{Global}
use Rattle.std.proofs.Common.{sym, ap, ap₂, ◌∙◌, subst}
use Rattle.dr_meaning.specs.Query.{Object, meaning}
use Rattle.dr_nested.specs.PathView.{path_view}
use Rattle.dr_nested.specs.declared.path.Path.{Path}
use Rattle.dr_nested.specs.declared.record.Node.{Node as RecordNode}
use Rattle.dr_partials.specs.Partials.{Partial, lines, partial_of, empty_partial, finished}
use Rattle.dr_partials.specs.Putting.{put_all}
use Rattle.dr_partials.proofs.PartialLemmas.{finished_partial_is_meaning}
use Rattle.dr_plan.specs.Fitting.{aggregate_fits}
use Rattle.dr_plan.specs.Planned.{Planned, plan_view, planned_query}
use Rattle.dr_plan.specs.Views.{aggregate_view}
use Rattle.dr_plan.specs.declared.aggregate.Aggregate.{Aggregate}
use Rattle.dr_plan.specs.declared.objects.ObjectPlan.{ObjectPlan}
use Rattle.dr_plan.specs.declared.plan.Plan.{Plan}
use Rattle.dr_plan.specs.declared.plan.GroupItem.{GroupItem as PlanItem}
use Rattle.dr_plan.specs.declared.plan.RecordItem.{RecordItem}
use Rattle.dr_plan.specs.declared.plan.Selection.{Selection}
use Rattle.dr_plan.proofs.ConjunctLemmas.{rejoined_means_same}
use Rattle.dr_mean.specs.Answers.{Answers}
use Rattle.dr_mean.specs.GroupPuts.{AreTyped, projections, records_puts}
use Rattle.dr_mean.specs.Keys.{are_leaves}
use Rattle.dr_mean.specs.Takings.{key_paths}
use Rattle.dr_mean.specs.ObjectCells.{items_view}
use Rattle.dr_mean.proofs.AnswerLemmas.{plan_leaves_used, plan_shapes}
use Rattle.dr_mean.proofs.OneRecordLemmas.{lines_are_result}
use Rattle.dr_mean.proofs.RecordPutLemmas.{groups_fit, records_put}
use Rattle.dr_mean.proofs.ResultLemmas.{selection_is}

-- ---- what is lent of a plan

pub keys_fit : (p : Plan) (keys : Vec ℕ Global) (aggregates : Vec Aggregate Global) (items : Vec PlanItem Global) (leaves : List Path) (ks : List ℕ) → p.selection ≡ Selection.Groups keys aggregates items
    → leaves ≡ p.leaves.items → ks ≡ keys.items → are_leaves (map path_view leaves) ks ≡ true
keys_fit p keys aggregates items leaves ks h e f = ap₂ (λ (l : List Path) (k : List ℕ). are_leaves (map path_view l) k) e f ∙ (groups_fit p keys aggregates items h).keyed

pub aggregates_fit : (p : Plan) (keys : Vec ℕ Global) (aggregates : Vec Aggregate Global) (items : Vec PlanItem Global) (leaves : List Path) (xs : List Aggregate) → p.selection ≡ Selection.Groups keys aggregates items
    → leaves ≡ p.leaves.items → xs ≡ aggregates.items → list_all (aggregate_fits (map path_view leaves)) xs ≡ true
aggregates_fit p keys aggregates items leaves xs h e f = ap₂ (λ (l : List Path) (ys : List Aggregate). list_all (aggregate_fits (map path_view l)) ys) e f ∙ (groups_fit p keys aggregates items h).fit

pub records_typed : (p : Plan) (ns : List RecordNode) (leaves : List Path) → Answers p ns → leaves ≡ p.leaves.items → AreTyped leaves (projections leaves ns)
records_typed p ns leaves a e =
    subst (λ (l : List Path). AreTyped l (projections l ns)) (sym e) (record { fields = a.schema.fields; query = a.bound; used = plan_leaves_used p ns a; shapes = plan_shapes p ns a })

-- the groups of records, by what is lent of their plan
pub groups_are : (p : Plan) (ns : List RecordNode) (a : Answers p ns) (keys : Vec ℕ Global) (aggregates : Vec Aggregate Global) (items : Vec PlanItem Global) (leaves : List Path) (ks : List ℕ) (xs : List Aggregate) (empty now : Partial)
    → p.selection ≡ Selection.Groups keys aggregates items → leaves ≡ p.leaves.items → ks ≡ keys.items → xs ≡ aggregates.items → empty ≡ empty_partial (planned_query (plan_view p))
    → now ≡ put_all (planned_query (plan_view p)) (records_puts p (key_paths (map path_view leaves) ks) (map (aggregate_view (map path_view leaves)) xs) (projections leaves ns)) empty
    → now ≡ partial_of a.schema.fields (planned_query (plan_view p)) a.records
groups_are p ns a keys aggregates items leaves ks xs empty now h e f g none made =
    let q = planned_query (plan_view p) in
    let put : List Path → List ℕ → List Aggregate → Partial → Partial =
    λ (l : List Path) (k : List ℕ) (ys : List Aggregate) (x : Partial). put_all q (records_puts p (key_paths (map path_view l) k) (map (aggregate_view (map path_view l)) ys) (projections l ns)) x in
    made ∙ ap₂ (λ (l : List Path) (k : List ℕ). put l k xs empty) e f
    ∙ ap₂ (λ (ys : List Aggregate) (x : Partial). put p.leaves.items keys.items ys x) g none
    ∙ records_put p ns a keys aggregates items h

-- ---- what a plan runs

plan_means : (p : Plan) (ns : List RecordNode) (a : Answers p ns) → meaning a.schema.fields (planned_query (plan_view p)) a.records ≡ meaning a.schema.fields a.bound a.records
plan_means p ns a = ap (λ (x : Planned). meaning a.schema.fields (planned_query x) a.records) a.planned ∙ rejoined_means_same a.schema.fields a.bound a.records

-- the lines of a record query
pub lines_are : (p : Plan) (ns : List RecordNode) (a : Answers p ns) (items : Vec RecordItem Global) (o : ObjectPlan) (os : List Object) → p.selection ≡ Selection.Objects items o
    → os ≡ meaning a.schema.fields a.bound a.records → lines os ≡ partial_of a.schema.fields (planned_query (plan_view p)) a.records
lines_are p ns a items o os h e =
    ap lines (e ∙ sym (plan_means p ns a))
    ∙ sym (lines_are_result a.schema.fields (planned_query (plan_view p)) (items_view p.leaves.items items.items) a.records (selection_is p items o h))

-- the partial, finished
pub finished_means : (p : Plan) (ns : List RecordNode) (a : Answers p ns) (x : Partial) → x ≡ partial_of a.schema.fields (planned_query (plan_view p)) a.records
    → finished (planned_query (plan_view p)) x ≡ meaning a.schema.fields a.bound a.records
finished_means p ns a x e =
    ap (finished (planned_query (plan_view p))) e ∙ finished_partial_is_meaning a.schema.fields (planned_query (plan_view p)) a.records ∙ plan_means p ns a
