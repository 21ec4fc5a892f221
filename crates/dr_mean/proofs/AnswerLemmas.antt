-- A record query's result objects are what the query means.
use Rattle.std.specs.Prelude.{◌≡◌, List, [], map, true, Option, Some}
use Rattle.std.specs.List.{list_all, filter_map}
use Rattle.std.proofs.Common.{sym, ap, ap₂, ◌∙◌}
use Rattle.std.proofs.Math.Path.{fun_ext}
use Rattle.std.proofs.lemmas.Simd.{map-map}
use Rattle.dr_meaning.specs.Kept.{kept}
use Rattle.dr_meaning.specs.Schema.{Fields}
use Rattle.dr_meaning.specs.Path.{Step, Leaf}
use Rattle.dr_meaning.specs.Record.{Node, project}
use Rattle.dr_meaning.specs.Query.{RecordItem, Object, Selection, objects, levels_of, selected, meaning}
use Rattle.dr_meaning.specs.QueryLeaves.{query_leaves}
use Rattle.dr_meaning.specs.BindingLaws.{has_shapes}
use Rattle.dr_meaning.proofs.QueryLeavesLemmas.{leaves_are_enough}
use Rattle.dr_nested.specs.PathView.{path_view, paths_view}
use Rattle.dr_nested.specs.declared.record.Node.{Node as RecordNode}
use Rattle.dr_plan.specs.Conjuncts.{all_of}
use Rattle.dr_plan.specs.Objects.{ObjectTree, object_tree_of, tree_object}
use Rattle.dr_plan.specs.Planned.{Planned, plan_view, planned_query, objects_of_query}
use Rattle.dr_plan.specs.declared.plan.Plan.{Plan}
use Rattle.dr_plan.proofs.ConjunctLemmas.{rejoined_means_same}
use Rattle.dr_plan.proofs.ObjectLemmas.{tree_makes_object}
use Rattle.dr_mean.specs.Answers.{Answers}
use Rattle.dr_mean.specs.Lines.{plan_kept, plan_projections}
use Rattle.dr_mean.specs.Nested.{is_nested}
use Rattle.dr_mean.proofs.NestedLemmas.{bound_reaches, tree_is_nested}
use Rattle.dr_mean.proofs.ProjectedShapes.{projections_have_shapes}

-- the objects of a plan whose selection is known
objects_are : (fs : Fields) (s : Selection) (o : Option ObjectTree) (items : List RecordItem) (t : ObjectTree) → s ≡ objects items → o ≡ Some t → o ≡ objects_of_query fs s → t ≡ object_tree_of fs items
objects_are fs s o items t e f g = let h : Some t ≡ objects_of_query fs (objects items) = sym f ∙ g ∙ ap (objects_of_query fs) e in cc

pub tree_of_plan : (p : Plan) (ns : List RecordNode) (a : Answers p ns) (items : List RecordItem) (t : ObjectTree) → (plan_view p).selection ≡ objects items → (plan_view p).objects ≡ Some t
    → t ≡ object_tree_of a.schema.fields items
tree_of_plan p ns a items t e f =
    objects_are a.schema.fields a.bound.selection (plan_view p).objects items t (sym (ap (λ (x : Planned). x.selection) a.planned) ∙ e) f (ap (λ (x : Planned). x.objects) a.planned)

pub plan_nested : (p : Plan) (ns : List RecordNode) (a : Answers p ns) (items : List RecordItem) (t : ObjectTree) → (plan_view p).selection ≡ objects items → (plan_view p).objects ≡ Some t
    → is_nested items [] t ≡ true
plan_nested p ns a items t e f =
    ap (is_nested items []) (tree_of_plan p ns a items t e f)
    ∙ tree_is_nested a.schema.fields items (bound_reaches a.schema a.syntax_tree a.bound items a.binds (sym (ap (λ (x : Planned). x.selection) a.planned) ∙ e))

pub plan_leaves_used : (p : Plan) (ns : List RecordNode) (a : Answers p ns) → map path_view p.leaves.items ≡ query_leaves a.schema.fields a.bound
plan_leaves_used p ns a = ap (λ (x : Planned). x.leaves) a.planned

pub plan_paths : (p : Plan) (ns : List RecordNode) (a : Answers p ns) → paths_view p.leaves.items ≡ map (λ (l : Leaf). l.path) (query_leaves a.schema.fields a.bound)
plan_paths p ns a = sym (map-map (λ (l : Leaf). l.path) path_view p.leaves.items) ∙ ap (map (λ (l : Leaf). l.path)) (plan_leaves_used p ns a)

pub plan_shapes : (p : Plan) (ns : List RecordNode) (a : Answers p ns) → list_all (has_shapes a.schema.fields) (plan_projections p ns) ≡ true
plan_shapes p ns a = ap (list_all (has_shapes a.schema.fields)) a.alike ∙ projections_have_shapes a.schema.fields (paths_view p.leaves.items) a.records a.are_records

-- ---- the result

objects_mean : (fs : Fields) (p : Planned) (items : List RecordItem) (M : List Node) → p.selection ≡ objects items
    → map (tree_object items (object_tree_of fs items)) (filter_map (λ n. kept (all_of p.conjuncts) n) M) ≡ meaning fs (planned_query p) M
unfolding meaning
objects_mean fs p items M e =
    ap (λ (f : Node → Object). map f (filter_map (kept (all_of p.conjuncts)) M)) (fun_ext (tree_makes_object fs items))
    ∙ ap (λ (s : Selection). selected s (levels_of fs) (filter_map (kept (all_of p.conjuncts)) M)) (sym e)

pub result_means : (p : Plan) (ns : List RecordNode) (a : Answers p ns) (items : List RecordItem) (t : ObjectTree) → (plan_view p).selection ≡ objects items → (plan_view p).objects ≡ Some t
    → map (tree_object items t) (filter_map (plan_kept p) (plan_projections p ns)) ≡ meaning a.schema.fields a.bound a.records
result_means p ns a items t e f =
    let fs = a.schema.fields in
    ap (λ (o : ObjectTree). map (tree_object items o) (filter_map (plan_kept p) (plan_projections p ns))) (tree_of_plan p ns a items t e f)
    ∙ objects_mean fs (plan_view p) items (plan_projections p ns) e
    ∙ ap₂ (λ (x : Planned) (M : List Node). meaning fs (planned_query x) M) a.planned (a.alike ∙ ap (λ (G : List (List Step)). map (project G) a.records) (plan_paths p ns a))
    ∙ rejoined_means_same fs a.bound (map (project (map (λ (l : Leaf). l.path) (query_leaves fs a.bound))) a.records)
    ∙ leaves_are_enough a.schema a.syntax_tree a.bound a.records a.binds
