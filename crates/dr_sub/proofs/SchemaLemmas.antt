-- The schema of what a plan gives is that of its query.
use Rattle.std.specs.Prelude.{◌≡◌, ℕ, zero, suc, ◌+◌, List, [], ◌∷◌, map, Bool, true, false, if◌then◌else◌, Option, Some, None, Ok, Err, Vec}
use Rattle.std.specs.List.{slice_get, list_all, join_with_byte}
use Rattle.std.specs.declared.alloc.Global.{Global}
use Rattle.std.proofs.Common.{refl, sym, ap, ap₂, ◌∙◌, arith, subst}
use Rattle.std.proofs.lemmas.Bool.{and_parts}
use Rattle.dr_meaning.specs.Schema.{Kind, Fields, field, optional, repeated, leaf, group, Schema as TreeSchema, is_schema}
use Rattle.dr_meaning.specs.SchemaText.{append_fields}
use Rattle.dr_meaning.specs.Path.{Step, Leaf, same_path}
use Rattle.dr_meaning.specs.Query.{RecordItem, Selection, objects, Query, Levels, no_levels, deeper, levels_of, term_chain, leads_to_items}
use Rattle.dr_plan.specs.Objects.{ObjectTree, object_tree, ListTrees, places_at, with_list_tree, list_trees, object_tree_of, object_view}
use Rattle.dr_plan.specs.Planned.{Planned, plan_leaves, objects_of_plan, objects_of_query}
use Rattle.dr_plan.specs.Fitting.{record_term_fits, selection_fits}
use Rattle.dr_plan.specs.Views.{record_item_view, selection_view}
use Rattle.dr_plan.specs.declared.plan.Plan.{Plan}
use Rattle.dr_plan.specs.declared.plan.RecordItem.{RecordItem as CodeItem}
use Rattle.dr_plan.specs.declared.plan.GroupItem.{GroupItem}
use Rattle.dr_plan.specs.declared.aggregate.Aggregate.{Aggregate}
use Rattle.dr_plan.specs.declared.plan.Selection.{Selection as Selected}
use Rattle.dr_plan.specs.declared.objects.ObjectPlan as object_plans
use Rattle.dr_cells.specs.PlanShapes.{plan_lists_view}
use Rattle.dr_cells.proofs.ShapeLemmas.{view-object}
use Rattle.dr_sub_meaning.specs.ResultRecords as records
use Rattle.dr_sub_meaning.specs.ResultRecords.{field_name, kind_of_type, term_type, item_fields, with_list_field, fields_of_selection, result_fields, result_message}
use Rattle.dr_sub_meaning.specs.ResultFaults as meant
use Rattle.dr_sub_meaning.specs.ResultFaults.{first_name_fault, fault_of_item, fault_of_selection, unless_sub_fault, not_records, result_name}
use Rattle.dr_sub_meaning.proofs.BoundSchemaLemmas.{result_is_schema}
use Rattle.dr_sub.specs.ResultFields.{ItemLeaf, item_leaf, leaves_of, leaf_at, leaves_at, object_fields, list_fields}
use Rattle.dr_sub.specs.ResultNames.{first_fault}
use Rattle.dr_sub.specs.ResultSchemas.{IsBoundTo}
use Rattle.dr_sub.proofs.KindLemmas.{LeavesTyped, query_leaves_typed, term_typed}
use Rattle.dr_sub.proofs.NameLemmas.{first_fault_is}

-- ---- fields by the tree are those by the levels

abbrev meant_leaf : Fields → RecordItem → ItemLeaf
meant_leaf fs i = record { name = i.name; kind = kind_of_type (term_type fs i.term) }

abbrev meant_leaves : Fields → List RecordItem → List ItemLeaf
meant_leaves fs items = map (meant_leaf fs) items

-- items from the place n on have their leaves at their places among all
abbrev From : Fields → List ItemLeaf → ℕ → List RecordItem → Type 0
From fs all n is = (k : ℕ) (i : RecordItem) → slice_get is k ≡ Some i → slice_get all (n + k) ≡ Some (meant_leaf fs i)

leaf_of : (fs : Fields) (items : List RecordItem) (k : ℕ) (i : RecordItem) → slice_get items k ≡ Some i → slice_get (meant_leaves fs items) k ≡ Some (meant_leaf fs i)
leaf_of fs [] k i e = absurd (cc)
leaf_of fs (j ∷ items) zero i e = let h : j ≡ i = cc in ap (λ (x : RecordItem). Some (meant_leaf fs x)) h
leaf_of fs (j ∷ items) (suc k) i e = leaf_of fs items k i e

at_zero : (n : ℕ) → n + 0 ≡ n
at_zero n = omega arith

one_later : (n k : ℕ) → suc n + k ≡ n + suc k
one_later n k = omega arith

fields_from : (fs : Fields) (all : List ItemLeaf) (n : ℕ) (is : List RecordItem) (p : List Step) (rest : Fields) → From fs all n is
    → append_fields (leaves_at all (places_at n is p)) rest ≡ item_fields fs is p rest
fields_from fs all n [] p rest h = refl
fields_from fs all n (i ∷ is) p rest h =
    by_level (same_path p (term_chain i.term)) (fields_from fs all (suc n) is p rest (λ k j e. ap (slice_get all) (one_later n k) ∙ h (suc k) j e))
  where
    here : slice_get all n ≡ Some (meant_leaf fs i)
    here = ap (slice_get all) (sym (at_zero n)) ∙ h 0 i refl

    by_level : (b : Bool) → append_fields (leaves_at all (places_at (suc n) is p)) rest ≡ item_fields fs is p rest
        → append_fields (leaves_at all (if b then n ∷ places_at (suc n) is p else places_at (suc n) is p)) rest
        ≡ (if b then field (field_name i.name) optional (leaf (kind_of_type (term_type fs i.term))) (item_fields fs is p rest) else item_fields fs is p rest)
    by_level true e =
        ap (λ (o : Option ItemLeaf). append_fields (append_fields (leaf_at o) (leaves_at all (places_at (suc n) is p))) rest) here
        ∙ ap (field (field_name i.name) optional (leaf (kind_of_type (term_type fs i.term)))) e
    by_level false e = e

level_fields : (fs : Fields) (items : List RecordItem) (p : List Step) (rest : Fields) → append_fields (leaves_at (meant_leaves fs items) (places_at 0 items p)) rest ≡ item_fields fs items p rest
level_fields fs items p rest = fields_from fs (meant_leaves fs items) 0 items p rest (λ k i e. ap (slice_get (meant_leaves fs items)) (no_shift k) ∙ leaf_of fs items k i e)
  where
    no_shift : (k : ℕ) → 0 + k ≡ k
    no_shift k = omega arith

group_fields : (fs : Fields) (items : List RecordItem) (ls : Levels) → list_fields (meant_leaves fs items) (list_trees items ls) ≡ records.list_fields fs items ls
group_fields fs items no_levels = refl
group_fields fs items (deeper names p below beside) = by_level (leads_to_items items p) (level_fields fs items p (list_fields (meant_leaves fs items) (list_trees items below)) ∙ ap (item_fields fs items p) (group_fields fs items below)) (group_fields fs items beside)
  where
    by_level : (b : Bool) → append_fields (leaves_at (meant_leaves fs items) (places_at 0 items p)) (list_fields (meant_leaves fs items) (list_trees items below)) ≡ item_fields fs items p (records.list_fields fs items below)
        → list_fields (meant_leaves fs items) (list_trees items beside) ≡ records.list_fields fs items beside
        → list_fields (meant_leaves fs items) (with_list_tree b (join_with_byte 46 names) p (object_tree (places_at 0 items p) (list_trees items below)) (list_trees items beside))
        ≡ with_list_field b names (item_fields fs items p (records.list_fields fs items below)) (records.list_fields fs items beside)
    by_level true e f = ap₂ (λ (x y : Fields). field (field_name (join_with_byte 46 names)) repeated (group x) y) e f
    by_level false e f = f

tree_fields : (fs : Fields) (items : List RecordItem) → object_fields (meant_leaves fs items) (object_tree_of fs items) ≡ fields_of_selection fs (objects items)
tree_fields fs items = level_fields fs items [] (list_fields (meant_leaves fs items) (list_trees items (levels_of fs))) ∙ ap (item_fields fs items []) (group_fields fs items (levels_of fs))

-- ---- of a plan

abbrev pub seen_items : Plan → Vec CodeItem Global → List RecordItem
seen_items p items = map (record_item_view (plan_leaves p)) items.items

selected_is : (s : TreeSchema) (q : Query) (p : Plan) (items : Vec CodeItem Global) (o : object_plans.ObjectPlan) → IsBoundTo s q p → p.selection ≡ Selected.Objects items o → q.selection ≡ objects (seen_items p items)
selected_is s q p items o b e = sym (ap (λ (x : Planned). x.selection) b.plan) ∙ ap (selection_view (plan_leaves p)) e

same_some : {A : Type 0} (a b : A) → Some a ≡ Some b → a ≡ b
same_some a b h = cc

objects_are : (s : TreeSchema) (q : Query) (p : Plan) (items : Vec CodeItem Global) (o : object_plans.ObjectPlan) → IsBoundTo s q p → p.selection ≡ Selected.Objects items o
    → object_view o ≡ object_tree_of s.fields (seen_items p items)
objects_are s q p items o b e =
    same_some (object_view o) (object_tree_of s.fields (seen_items p items))
    (sym (ap objects_of_plan e) ∙ (ap (λ (x : Planned). x.objects) b.plan ∙ ap (objects_of_query s.fields) (selected_is s q p items o b e)))

leaves_are_meant : (fs : Fields) (ls : List Leaf) (items : List CodeItem) → LeavesTyped fs ls → list_all (λ (i : CodeItem). record_term_fits ls i.term) items ≡ true
    → leaves_of items ≡ meant_leaves fs (map (record_item_view ls) items)
leaves_are_meant fs ls [] k h = refl
leaves_are_meant fs ls (i ∷ items) k h =
    let u = and_parts _ _ h in
    ap₂ (λ (x : Kind) (xs : List ItemLeaf). record { name = (item_leaf i).name; kind = x } ∷ xs) (sym (term_typed fs ls k i.term u.0)) (leaves_are_meant fs ls items k u.1)

plan_typed : (s : TreeSchema) (q : Query) (p : Plan) → IsBoundTo s q p → LeavesTyped s.fields (plan_leaves p)
plan_typed s q p b = subst (LeavesTyped s.fields) (sym (ap (λ (x : Planned). x.leaves) b.plan)) (query_leaves_typed s.fields q)

-- the fields of what the query gives
pub fields_are : (s : TreeSchema) (q : Query) (p : Plan) (items : Vec CodeItem Global) (o : object_plans.ObjectPlan) → IsBoundTo s q p → p.selection ≡ Selected.Objects items o
    → object_fields (leaves_of items.items) (object_view o) ≡ result_fields s.fields q
unfolding result_fields
fields_are s q p items o b e =
    let fits : list_all (λ (i : CodeItem). record_term_fits (plan_leaves p) i.term) items.items ≡ true = sym (ap (selection_fits (plan_leaves p)) e) ∙ p.selected in
    ap₂ object_fields (leaves_are_meant s.fields (plan_leaves p) items.items (plan_typed s q p b) fits) (objects_are s q p items o b e)
    ∙ tree_fields s.fields (seen_items p items)
    ∙ ap (fields_of_selection s.fields) (sym (selected_is s q p items o b e))

abbrev lists_in : ObjectTree → ListTrees
lists_in (object_tree ns ls) = ls

-- the first item at fault
pub faults_are : (s : TreeSchema) (q : Query) (p : Plan) (items : Vec CodeItem Global) (o : object_plans.ObjectPlan) → IsBoundTo s q p → p.selection ≡ Selected.Objects items o
    → first_fault (plan_lists_view (object_plans.out-ObjectPlan o).lists.items) [] 0 (seen_items p items) ≡ first_name_fault (levels_of s.fields) [] 0 (seen_items p items)
faults_are s q p items o b e =
    ap (λ (ls : ListTrees). first_fault ls [] 0 (seen_items p items)) (ap lists_in (sym (view-object o) ∙ objects_are s q p items o b e))
    ∙ first_fault_is (seen_items p items) (levels_of s.fields)

schema_by : (s : TreeSchema) (q : Query) (p : Plan) (items : Vec CodeItem Global) (o : object_plans.ObjectPlan) (f : Option ℕ) → IsBoundTo s q p → p.selection ≡ Selected.Objects items o
    → f ≡ first_fault (plan_lists_view (object_plans.out-ObjectPlan o).lists.items) [] 0 (seen_items p items)
    → meant.result_schema s.fields q ≡ unless_sub_fault (fault_of_item f) (record { name = result_message; fields = object_fields (leaves_of items.items) (object_view o) })
unfolding meant.result_schema
schema_by s q p items o f b e h =
    ap₂ (λ (x : Selection) (fs : Fields). unless_sub_fault (fault_of_selection (levels_of s.fields) x) (record { name = result_message; fields = fs })) (selected_is s q p items o b e) (sym (fields_are s q p items o b e))
    ∙ ap (λ (n : Option ℕ). unless_sub_fault (fault_of_item n) (record { name = result_message; fields = object_fields (leaves_of items.items) (object_view o) })) (sym (h ∙ faults_are s q p items o b e))

-- no records
pub groups_refused : (s : TreeSchema) (q : Query) (p : Plan) (keys : Vec ℕ Global) (aggregates : Vec Aggregate Global) (items : Vec GroupItem Global) → IsBoundTo s q p → p.selection ≡ Selected.Groups keys aggregates items
    → meant.result_schema s.fields q ≡ Err not_records
unfolding meant.result_schema
groups_refused s q p keys aggregates items b e =
    ap (λ (x : Selection). unless_sub_fault (fault_of_selection (levels_of s.fields) x) (record { name = result_message; fields = result_fields s.fields q })) (sym (ap (λ (x : Planned). x.selection) b.plan) ∙ ap (selection_view (plan_leaves p)) e)

pub item_refused : (s : TreeSchema) (q : Query) (p : Plan) (items : Vec CodeItem Global) (o : object_plans.ObjectPlan) (f : Option ℕ) (n : ℕ) → IsBoundTo s q p → p.selection ≡ Selected.Objects items o
    → f ≡ first_fault (plan_lists_view (object_plans.out-ObjectPlan o).lists.items) [] 0 (seen_items p items) → f ≡ Some n → meant.result_schema s.fields q ≡ Err (result_name n)
item_refused s q p items o f n b e h is =
    schema_by s q p items o f b e h ∙ ap (λ (x : Option ℕ). unless_sub_fault (fault_of_item x) (record { name = result_message; fields = object_fields (leaves_of items.items) (object_view o) })) is

pub schema_given : (s : TreeSchema) (q : Query) (p : Plan) (items : Vec CodeItem Global) (o : object_plans.ObjectPlan) (f : Option ℕ) (name : List ℕ) (fs : Fields) → IsBoundTo s q p → p.selection ≡ Selected.Objects items o
    → f ≡ first_fault (plan_lists_view (object_plans.out-ObjectPlan o).lists.items) [] 0 (seen_items p items) → f ≡ None → name ≡ result_message → fs ≡ object_fields (leaves_of items.items) (object_view o)
    → meant.result_schema s.fields q ≡ Ok (record { name = name; fields = fs })
schema_given s q p items o f name fs b e h is n g =
    schema_by s q p items o f b e h
    ∙ ap (λ (x : Option ℕ). unless_sub_fault (fault_of_item x) (record { name = result_message; fields = object_fields (leaves_of items.items) (object_view o) })) is
    ∙ ap₂ (λ (m : List ℕ) (x : Fields). Ok (record { name = m; fields = x })) (sym n) (sym g)

-- what is given is a schema
pub given_is_schema : (s : TreeSchema) (q : Query) (p : Plan) (items : Vec CodeItem Global) (o : object_plans.ObjectPlan) (f : Option ℕ) (name : List ℕ) (fs : Fields) → IsBoundTo s q p → p.selection ≡ Selected.Objects items o
    → f ≡ first_fault (plan_lists_view (object_plans.out-ObjectPlan o).lists.items) [] 0 (seen_items p items) → f ≡ None → name ≡ result_message → fs ≡ object_fields (leaves_of items.items) (object_view o)
    → is_schema (record { name = name; fields = fs }) ≡ true
given_is_schema s q p items o f name fs b e h is n g =
    result_is_schema s b.syntax q (record { name = name; fields = fs }) b.schema b.items b.bound (schema_given s q p items o f name fs b e h is n g)
