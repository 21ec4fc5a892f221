-- The objects of a plan's result fit its shape; and the view of a shape at its constructors.
use Rattle.std.specs.Prelude.{◌≡◌, ◌<◌, ◌≤◌, ℕ, zero, suc, ◌+◌, ◌++◌, get_or, drop, length, List, [], ◌∷◌, map, Option, Some, None, option_map, Vec, String, string_bytes}
use Rattle.std.specs.List.{slice_get}
use Rattle.std.specs.declared.alloc.Global.{Global}
use Rattle.std.proofs.Common.{refl, sym, ap, ap₂, ◌∙◌, subst, rules, arith, append_assoc, append-nil}
use Rattle.std.proofs.lemmas.List.{drop_more, map-append}
use Rattle.dr_meaning.specs.Record.{Node}
use Rattle.dr_meaning.specs.Query.{RecordItem, GroupItem, Object, objects_of, instances_of}
use Rattle.dr_partials.specs.Partials.{behind_item}
use Rattle.dr_plan.specs.Objects.{ObjectTree, object_tree, ListTrees, no_lists, list_tree, tree_object, tree_lists, tree_cells, cell_of}
use Rattle.dr_cells.specs.Results.{ShapeTree, FitsNames, FitsShape, FitsLists, EachObject, no_list_shapes, shape_tree}
use Rattle.dr_cells.specs.Shapes.{with_name, names_at, names_of_items, tree_shape, tree_list_shapes, selection_shape, plan_shape, shape_view, list_view, lists_view, TreeObjectsFit, GroupRowsFit}
use Rattle.dr_cells.specs.PlanShapes.{append_shapes, plan_list_view, plan_lists_view}
use Rattle.dr_meaning.specs.Path.{Leaf}
use Rattle.dr_meaning.specs.Query.{GroupTerm}
use Rattle.dr_nested.specs.PathView.{step_view}
use Rattle.dr_plan.specs.Objects.{object_view, SeenList}
use Rattle.dr_plan.specs.Views.{record_item_view, group_item_view, aggregate_view, selection_view}
use Rattle.dr_plan.specs.Planned.{plan_view, plan_leaves, objects_of_plan}
use Rattle.dr_plan.specs.declared.aggregate.Aggregate.{Aggregate}
use Rattle.dr_plan.specs.declared.plan.Plan.{Plan}
use Rattle.dr_plan.specs.declared.plan.Selection.{Selection}
use Rattle.dr_plan.specs.declared.plan.RecordItem.{RecordItem as RecordItemOfPlan}
use Rattle.dr_plan.specs.declared.plan.GroupItem.{GroupItem as GroupItemOfPlan}
use Rattle.dr_cells.specs.PlanShapes.{item_names, row_names}
use Rattle.dr_cells.specs.Shapes.{SeenList as SeenShape}
use Rattle.dr_cells.specs.Results.{ListShapes, list_shape}
use Rattle.dr_plan.specs.declared.objects.ObjectPlan as objects
use Rattle.dr_plan.specs.declared.objects.ListPlan as list_plans
use Rattle.dr_cells.specs.declared.shape.Shape as shapes
use Rattle.dr_cells.specs.declared.shape.ListShape as lists

-- ---- the view

pub view-shape : (ns : Vec (String Global) Global) (ls : Vec lists.ListShape Global) → shape_view (shapes.roll-Shape (record { names = ns; lists = ls })) ≡ shape_tree (map string_bytes ns.items) (lists_view ls.items)
view-shape ns ls = search (rules, shapes.the_lemmas, lists.the_lemmas)

pub view-list : (n : String Global) (s : shapes.Shape) → list_view (lists.roll-ListShape (record { name = n; shape = s })) ≡ record { name = string_bytes n; shape = shape_view s }
view-list n s = search (rules, lists.the_lemmas, shapes.the_lemmas)

pub view-shape_of : (s : shapes.Shape) → shape_view s ≡ shape_tree (map string_bytes (shapes.out-Shape s).names.items) (lists_view (shapes.out-Shape s).lists.items)
view-shape_of s = search (rules, shapes.the_lemmas, lists.the_lemmas)

pub view-list_shape : (l : lists.ListShape) → list_view l ≡ record { name = string_bytes (lists.out-ListShape l).name; shape = shape_view (lists.out-ListShape l).shape }
view-list_shape l = search (rules, lists.the_lemmas, shapes.the_lemmas)

-- ---- objects of trees

name_there : (items : List RecordItem) (n : ℕ) → slice_get (names_of_items items) n ≡ option_map (λ (i : RecordItem). i.name) (slice_get items n)
name_there [] n = refl
name_there (i ∷ items) zero = refl
name_there (i ∷ items) (suc n) = name_there items n

name_fits : (i : Option RecordItem) (ns : List (List ℕ)) (Rest : Object → Type 0) (row : Node) (o : Object) → FitsNames ns Rest o
    → FitsNames (with_name (option_map (λ (i : RecordItem). i.name) i) ns) Rest (cell_of i row o)
name_fits None ns Rest row o h = h
name_fits (Some i) ns Rest row o h = (refl, h)

names_fit : (items : List RecordItem) (ns : List ℕ) (Rest : Object → Type 0) (row : Node) (o : Object) → Rest o → FitsNames (names_at (names_of_items items) ns) Rest (tree_cells items ns row o)
names_fit items [] Rest row o h = h
names_fit items (n ∷ ns) Rest row o h =
    let more : List (List ℕ) = names_at (names_of_items items) ns in
    let all : Object = cell_of (slice_get items n) row (tree_cells items ns row o) in
    subst (λ (i : Option (List ℕ)). FitsNames (with_name i more) Rest all) (sym (name_there items n))
    (name_fits (slice_get items n) more Rest row (tree_cells items ns row o) (names_fit items ns Rest row o h))

each_made : (Fits : Object → Type 0) (make : Node → Object) → ((n : Node) → Fits (make n)) → (ns : List Node) → EachObject Fits (objects_of (map make ns))
each_made Fits make h [] = tt
each_made Fits make h (n ∷ ns) = (h n, each_made Fits make h ns)

mutual
  object_fits : (items : List RecordItem) (o : ObjectTree) (row : Node) → FitsShape (tree_shape (names_of_items items) o) (tree_object items o row)
  object_fits items (object_tree ns ls) row = names_fit items ns (FitsLists (tree_list_shapes (names_of_items items) ls)) row (tree_lists items ls row) (lists_fit items ls row)

  lists_fit : (items : List RecordItem) (ls : ListTrees) (row : Node) → FitsLists (tree_list_shapes (names_of_items items) ls) (tree_lists items ls row)
  lists_fit items no_lists row = tt
  lists_fit items (list_tree name p o ls) row =
      (refl, each_made (FitsShape (tree_shape (names_of_items items) o)) (tree_object items o) (object_fits items o) (instances_of p row), lists_fit items ls row)

pub tree_objects_fit : TreeObjectsFit
tree_objects_fit = object_fits

-- ---- rows of groups

pub group_rows_fit : GroupRowsFit
group_rows_fit [] t xs = tt
group_rows_fit (i ∷ is) t xs = (refl, group_rows_fit is t (behind_item i.term xs))

-- ---- the shape of a plan, list by list

pub view-object : (o : objects.ObjectPlan) → object_view o ≡ object_tree (objects.out-ObjectPlan o).items.items (plan_lists_view (objects.out-ObjectPlan o).lists.items)
view-object o = search (rules, objects.the_lemmas, list_plans.the_lemmas)

pub view-list_plan : (l : list_plans.ListPlan)
    → plan_list_view l ≡ record { name = string_bytes (list_plans.out-ListPlan l).name; level = map step_view (list_plans.out-ListPlan l).level.items; object = object_view (list_plans.out-ListPlan l).object }
view-list_plan l = search (rules, list_plans.the_lemmas, objects.the_lemmas)

pub append_shapes-none : (ls : ListShapes) → append_shapes ls no_list_shapes ≡ ls
append_shapes-none no_list_shapes = refl
append_shapes-none (list_shape n s ls) = ap (list_shape n s) (append_shapes-none ls)

append_shapes-assoc : (ks ls ms : ListShapes) → append_shapes (append_shapes ks ls) ms ≡ append_shapes ks (append_shapes ls ms)
append_shapes-assoc no_list_shapes ls ms = refl
append_shapes-assoc (list_shape n s ks) ls ms = ap (list_shape n s) (append_shapes-assoc ks ls ms)

lists_view-append : (ks ls : List lists.ListShape) → lists_view (ks ++ ls) ≡ append_shapes (lists_view ks) (lists_view ls)
lists_view-append [] ls = refl
lists_view-append (k ∷ ks) ls = ap (list_shape (list_view k).name (list_view k).shape) (lists_view-append ks ls)

-- the shape of a list behind those before it
pub list_more : (names : List (List ℕ)) (ls : List list_plans.ListPlan) (k : ℕ) (l : list_plans.ListPlan) (before after : List lists.ListShape) (n : String Global) (s : shapes.Shape)
    → k < length ls → l ≡ get_or ls k l → string_bytes n ≡ string_bytes (list_plans.out-ListPlan l).name → shape_view s ≡ tree_shape names (object_view (list_plans.out-ListPlan l).object)
    → after ≡ before ++ lists.roll-ListShape (record { name = n; shape = s }) ∷ []
    → append_shapes (lists_view after) (tree_list_shapes names (plan_lists_view (drop (k + 1) ls))) ≡ append_shapes (lists_view before) (tree_list_shapes names (plan_lists_view (drop k ls)))
list_more names ls k l before after n s h at e f pushed =
    let rest : ListShapes = tree_list_shapes names (plan_lists_view (drop (k + 1) ls)) in
    let next : drop k ls ≡ l ∷ drop (k + 1) ls = drop_more ls k l h ∙ ap (λ (x : list_plans.ListPlan). x ∷ drop (k + 1) ls) (sym at) in
    let name : List ℕ = string_bytes (list_plans.out-ListPlan l).name in
    let shape : ShapeTree = tree_shape names (object_view (list_plans.out-ListPlan l).object) in
    let made : lists_view after ≡ append_shapes (lists_view before) (list_shape name shape no_list_shapes) =
    ap lists_view pushed ∙ lists_view-append before (lists.roll-ListShape (record { name = n; shape = s }) ∷ [])
    ∙ ap (λ (x : SeenShape). append_shapes (lists_view before) (list_shape x.name x.shape no_list_shapes)) (view-list n s)
    ∙ ap₂ (λ (m : List ℕ) (t : ShapeTree). append_shapes (lists_view before) (list_shape m t no_list_shapes)) e f in
    ap (λ (x : ListShapes). append_shapes x rest) made
    ∙ append_shapes-assoc (lists_view before) (list_shape name shape no_list_shapes) rest
    ∙ ap (append_shapes (lists_view before)) (sym (ap (λ (xs : List list_plans.ListPlan). tree_list_shapes names (plan_lists_view xs)) next
    ∙ ap (λ (x : SeenList). list_shape x.name (tree_shape names x.object) rest) (view-list_plan l)))

-- ---- names

pub names_of-views : (ls : List Leaf) (items : List RecordItemOfPlan) → names_of_items (map (record_item_view ls) items) ≡ item_names items
names_of-views ls [] = refl
names_of-views ls (i ∷ items) = ap (λ (ns : List (List ℕ)). string_bytes i.name ∷ ns) (names_of-views ls items)

pub row_names-views : (ts : List GroupTerm) (items : List GroupItemOfPlan) → map (λ (i : GroupItem). i.name) (map (group_item_view ts) items) ≡ row_names items
row_names-views ts [] = refl
row_names-views ts (i ∷ items) = ap (λ (ns : List (List ℕ)). string_bytes i.name ∷ ns) (row_names-views ts items)

-- the names of the code's items, by place
item_at : (items : List RecordItemOfPlan) (i : ℕ) (x : RecordItemOfPlan) → i < length items → x ≡ get_or items i x → slice_get (item_names items) i ≡ Some (string_bytes x.name)
item_at [] i x h e = absurd (omega (arith, h))
item_at (y ∷ items) zero x h e = ap (λ (z : RecordItemOfPlan). Some (string_bytes z.name)) (sym e)
item_at (y ∷ items) (suc i) x h e = item_at items i x (omega (arith, h)) e

no_item_at : (items : List RecordItemOfPlan) (i : ℕ) → length items ≤ i → slice_get (item_names items) i ≡ None
no_item_at [] i h = refl
no_item_at (y ∷ items) zero h = absurd (omega (arith, h))
no_item_at (y ∷ items) (suc i) h = no_item_at items i (omega (arith, h))

-- the name of an item behind those before it
pub name_pushed : (items : List RecordItemOfPlan) (i : ℕ) (x : RecordItemOfPlan) (before after : List (String Global)) (s : String Global) → i < length items → x ≡ get_or items i x
    → after ≡ before ++ s ∷ [] → string_bytes s ≡ string_bytes x.name → map string_bytes after ≡ map string_bytes before ++ with_name (slice_get (item_names items) i) []
name_pushed items i x before after s h at e f =
    ap (map string_bytes) e ∙ map-append string_bytes before (s ∷ [])
    ∙ ap (λ (n : List ℕ). map string_bytes before ++ n ∷ []) f
    ∙ ap (λ (o : Option (List ℕ)). map string_bytes before ++ with_name o []) (sym (item_at items i x h at))

pub no_name : (items : List RecordItemOfPlan) (i : ℕ) (before : List (String Global)) → length items ≤ i → map string_bytes before ≡ map string_bytes before ++ with_name (slice_get (item_names items) i) []
no_name items i before h = sym (ap (λ (o : Option (List ℕ)). map string_bytes before ++ with_name o []) (no_item_at items i h) ∙ append-nil (map string_bytes before))

names_before : (o : Option (List ℕ)) (ns : List (List ℕ)) → with_name o [] ++ ns ≡ with_name o ns
names_before None ns = refl
names_before (Some n) ns = refl

-- the names of places, one after another
pub names_more : (names : List (List ℕ)) (places : List ℕ) (k d : ℕ) (before after : List (List ℕ)) → k < length places
    → after ≡ before ++ with_name (slice_get names (get_or places k d)) [] → after ++ names_at names (drop (k + 1) places) ≡ before ++ names_at names (drop k places)
names_more names places k d before after h e =
    let rest : List (List ℕ) = names_at names (drop (k + 1) places) in
    let found : Option (List ℕ) = slice_get names (get_or places k d) in
    ap (λ (ns : List (List ℕ)). ns ++ rest) e ∙ append_assoc before (with_name found []) rest
    ∙ ap (λ (ns : List (List ℕ)). before ++ ns) (names_before found rest ∙ sym (ap (names_at names) (drop_more places k d h)))

-- ---- the shape of a plan

pub objects_shape : (p : Plan) (items : Vec RecordItemOfPlan Global) (o : objects.ObjectPlan) → p.selection ≡ Selection.Objects items o → tree_shape (item_names items.items) (object_view o) ≡ plan_shape (plan_view p)
unfolding plan_shape
objects_shape p items o e =
    sym (ap (λ (s : Selection). selection_shape (selection_view (plan_leaves p) s) (objects_of_plan s)) e
    ∙ ap (λ (ns : List (List ℕ)). tree_shape ns (object_view o)) (names_of-views (plan_leaves p) items.items))

pub groups_shape : (p : Plan) (keys : Vec ℕ Global) (aggregates : Vec Aggregate Global) (items : Vec GroupItemOfPlan Global) → p.selection ≡ Selection.Groups keys aggregates items
    → shape_tree (row_names items.items) no_list_shapes ≡ plan_shape (plan_view p)
unfolding plan_shape
groups_shape p keys aggregates items e =
    sym (ap (λ (s : Selection). selection_shape (selection_view (plan_leaves p) s) (objects_of_plan s)) e
    ∙ ap (λ (ns : List (List ℕ)). shape_tree ns no_list_shapes) (row_names-views (map (aggregate_view (plan_leaves p)) aggregates.items) items.items))
