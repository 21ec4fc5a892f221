-- The cells of a record query's result.
use Rattle.std.specs.Prelude.{◌≡◌, ℕ, List, [], ◌∷◌, ◌++◌, length, map, Vec, Some}
use Rattle.std.specs.List.{filter_map}
use Rattle.std.specs.declared.alloc.Global.{Global}
use Rattle.std.proofs.Common.{sym, ap, ap₂, ◌∙◌, subst}
use Rattle.std.proofs.lemmas.List.{length-map}
use Rattle.dr_meaning.specs.Record.{Node}
use Rattle.dr_meaning.specs.Query.{RecordItem, Object, objects}
use Rattle.dr_nested.specs.PathView.{path_view}
use Rattle.dr_nested.specs.declared.path.Path.{Path}
use Rattle.dr_nested.specs.declared.record.Node.{Node as RecordNode}
use Rattle.dr_plan.specs.Objects.{ObjectTree, object_view, tree_object}
use Rattle.dr_plan.specs.Planned.{plan_view, plan_leaves, objects_of_plan}
use Rattle.dr_plan.specs.Views.{selection_view}
use Rattle.dr_plan.specs.declared.plan.Plan.{Plan}
use Rattle.dr_plan.specs.declared.plan.RecordItem.{RecordItem as PlanItem}
use Rattle.dr_plan.specs.declared.plan.Selection.{Selection}
use Rattle.dr_plan.specs.declared.objects.ObjectPlan.{ObjectPlan}
use Rattle.dr_cells.specs.Results.{ResultCell, ShapeTree, AllFitShape, result_cells}
use Rattle.dr_cells.specs.Shapes.{tree_shape, names_of_items, plan_shape}
use Rattle.dr_cells.proofs.ShapeLemmas.{tree_objects_fit, names_of-views, objects_shape}
use Rattle.dr_mean.specs.Answers.{Answers}
use Rattle.dr_mean.specs.Lines.{Selects, plan_kept, plan_projections}
use Rattle.dr_mean.specs.ObjectCells.{items_view}
use Rattle.dr_mean.specs.Nested.{is_nested}
use Rattle.dr_mean.proofs.AnswerLemmas.{plan_nested, plan_leaves_used, plan_shapes}

pub selection_is : (p : Plan) (items : Vec PlanItem Global) (o : ObjectPlan) → p.selection ≡ Selection.Objects items o → (plan_view p).selection ≡ objects (items_view p.leaves.items items.items)
selection_is p items o h = ap (selection_view (plan_leaves p)) h

pub objects_is : (p : Plan) (items : Vec PlanItem Global) (o : ObjectPlan) → p.selection ≡ Selection.Objects items o → (plan_view p).objects ≡ Some (object_view o)
objects_is p items o h = ap objects_of_plan h

pub selects_for : (p : Plan) (ns : List RecordNode) (a : Answers p ns) (ls : List Path) (is : List PlanItem) (items : Vec PlanItem Global) (o : ObjectPlan) → ls ≡ p.leaves.items → is ≡ items.items
    → p.selection ≡ Selection.Objects items o → Selects p ls is (object_view o) (plan_projections p ns)
selects_for p ns a ls is items o e f h =
    record {
      same = e;
      fields = a.schema.fields;
      query = a.bound;
      used = ap (map path_view) e ∙ plan_leaves_used p ns a;
      nested = ap₂ (λ (xs : List Path) (ys : List PlanItem). is_nested (items_view xs ys) [] (object_view o)) e f
          ∙ plan_nested p ns a (items_view p.leaves.items items.items) (object_view o) (selection_is p items o h) (objects_is p items o h);
      shapes = plan_shapes p ns a;
    }

-- the objects of a result
abbrev pub result_objects : Plan → List RecordItem → ObjectTree → List RecordNode → List Object
result_objects p items t ns = map (tree_object items t) (filter_map (plan_kept p) (plan_projections p ns))

all_fit : (items : List RecordItem) (t : ObjectTree) (rs : List Node) → AllFitShape (tree_shape (names_of_items items) t) (map (tree_object items t) rs)
all_fit items t [] = tt
all_fit items t (r ∷ rs) = (tree_objects_fit items t r, all_fit items t rs)

pub objects_fit : (p : Plan) (ns : List RecordNode) (items : Vec PlanItem Global) (o : ObjectPlan) (s : ShapeTree) → p.selection ≡ Selection.Objects items o → s ≡ plan_shape (plan_view p)
    → AllFitShape s (result_objects p (items_view p.leaves.items items.items) (object_view o) ns)
objects_fit p ns items o s h e =
    let I : List RecordItem = items_view p.leaves.items items.items in
    let same : tree_shape (names_of_items I) (object_view o) ≡ s =
    ap (λ (names : List (List ℕ)). tree_shape names (object_view o)) (names_of-views (plan_leaves p) items.items) ∙ objects_shape p items o h ∙ sym e in
    subst (λ (x : ShapeTree). AllFitShape x (result_objects p I (object_view o) ns)) same (all_fit I (object_view o) (filter_map (plan_kept p) (plan_projections p ns)))

pub cells_are : (p : Plan) (ns : List RecordNode) (ls : List Path) (is : List PlanItem) (items : Vec PlanItem Global) (o : ObjectPlan) (before now : List ResultCell) → ls ≡ p.leaves.items → is ≡ items.items → before ≡ []
    → now ≡ before ++ result_cells (result_objects p (items_view ls is) (object_view o) ns) → now ≡ result_cells (result_objects p (items_view p.leaves.items items.items) (object_view o) ns)
cells_are p ns ls is items o before now e f none h =
    h ∙ ap (λ (cs : List ResultCell). cs ++ result_cells (result_objects p (items_view ls is) (object_view o) ns)) none
    ∙ ap₂ (λ (xs : List Path) (ys : List PlanItem). result_cells (result_objects p (items_view xs ys) (object_view o) ns)) e f

pub count_is : (p : Plan) (ns : List RecordNode) (items : List RecordItem) (t : ObjectTree) (n : ℕ) → n ≡ length (filter_map (plan_kept p) (plan_projections p ns)) → n ≡ length (result_objects p items t ns)
count_is p ns items t n h = h ∙ sym (length-map (filter_map (plan_kept p) (plan_projections p ns)) (tree_object items t))
