-- The fields of a result, one after another.
use Rattle.std.specs.Prelude.{◌≡◌, ◌<◌, ◌≤◌, ℕ, zero, suc, ◌+◌, List, [], ◌∷◌, ◌++◌, length, get_or, drop, Option, Some, None, string_bytes, Vec}
use Rattle.std.specs.List.{slice_get}
use Rattle.std.specs.declared.alloc.Global.{Global}
use Rattle.std.proofs.Common.{refl, sym, ap, ◌∙◌, arith}
use Rattle.std.proofs.lemmas.List.{drop_more, drop_all}
use Rattle.dr_meaning.specs.Schema.{Fields, no_fields, field, optional, repeated, leaf, group}
use Rattle.dr_meaning.specs.SchemaText.{append_fields}
use Rattle.dr_nested.specs.Views.{fields_view, kind_view, rep_view, shape_view}
use Rattle.dr_nested.specs.declared.shape.Kind.{Kind as CodeKind}
use Rattle.dr_nested.specs.declared.shape.Rep.{Rep}
use Rattle.dr_nested.specs.declared.shape.Shape as shapes
use Rattle.dr_nested.specs.declared.shape.Field.{Field}
use Rattle.dr_nested.proofs.ViewLemmas.{fields_view_append, fields_view-one, view-leaf, view-group}
use Rattle.dr_plan.specs.Objects.{SeenList, object_view}
use Rattle.dr_plan.specs.declared.plan.RecordItem.{RecordItem}
use Rattle.dr_plan.specs.declared.objects.ListPlan as list_plans
use Rattle.dr_cells.specs.PlanShapes.{plan_lists_view}
use Rattle.dr_cells.proofs.ShapeLemmas.{view-list_plan}
use Rattle.dr_sub_meaning.specs.ResultRecords.{field_name}
use Rattle.dr_sub.specs.ResultFields.{term_kind, ItemLeaf, item_leaf, leaves_of, leaf_at, leaves_at, object_fields, list_fields}

pub append_none : (fs : Fields) → append_fields fs no_fields ≡ fs
append_none no_fields = refl
append_none (field n r s fs) = ap (field n r s) (append_none fs)

append_all : (fs gs hs : Fields) → append_fields (append_fields fs gs) hs ≡ append_fields fs (append_fields gs hs)
append_all no_fields gs hs = refl
append_all (field n r s fs) gs hs = ap (field n r s) (append_all fs gs hs)

-- ---- leaves

leaf_there : (items : List RecordItem) (i : ℕ) (x : RecordItem) → i < length items → x ≡ get_or items i x → slice_get (leaves_of items) i ≡ Some (item_leaf x)
leaf_there [] i x h e = absurd (omega (arith, h))
leaf_there (y ∷ items) zero x h e = ap (λ (z : RecordItem). Some (item_leaf z)) (sym e)
leaf_there (y ∷ items) (suc i) x h e = leaf_there items i x (omega (arith, h)) e

no_leaf_there : (items : List RecordItem) (i : ℕ) → length items ≤ i → slice_get (leaves_of items) i ≡ None
no_leaf_there [] i h = refl
no_leaf_there (y ∷ items) zero h = absurd (omega (arith, h))
no_leaf_there (y ∷ items) (suc i) h = no_leaf_there items i (omega (arith, h))

-- the leaf of an item behind the fields before it
pub leaf_pushed : (items : List RecordItem) (i : ℕ) (x : RecordItem) (before after : List Field) (f : Field) (k : CodeKind) → i < length items → x ≡ get_or items i x → after ≡ before ++ f ∷ []
    → string_bytes f.name ≡ field_name (string_bytes x.name) → f.rep ≡ Rep.Optional → f.shape ≡ shapes.Leaf k → kind_view k ≡ term_kind x.term
    → fields_view after ≡ append_fields (fields_view before) (leaf_at (slice_get (leaves_of items) i))
leaf_pushed items i x before after f k h at e n r s t =
    ap fields_view e ∙ fields_view_append before (f ∷ []) ∙ ap (append_fields (fields_view before)) (fields_view-one f ∙ one ∙ sym (ap leaf_at (leaf_there items i x h at)))
  where
    one : field (string_bytes f.name) (rep_view f.rep) (shape_view f.shape) no_fields ≡ field (field_name (string_bytes x.name)) optional (leaf (term_kind x.term)) no_fields
    one =
        ap (λ m. field m (rep_view f.rep) (shape_view f.shape) no_fields) n
        ∙ ap (λ m. field (field_name (string_bytes x.name)) (rep_view m) (shape_view f.shape) no_fields) r
        ∙ ap (λ m. field (field_name (string_bytes x.name)) optional m no_fields) (ap shape_view s ∙ view-leaf k ∙ ap leaf t)

pub no_leaf : (items : List RecordItem) (i : ℕ) (before : List Field) → length items ≤ i → fields_view before ≡ append_fields (fields_view before) (leaf_at (slice_get (leaves_of items) i))
no_leaf items i before h = sym (ap (λ (o : Option ItemLeaf). append_fields (fields_view before) (leaf_at o)) (no_leaf_there items i h) ∙ append_none (fields_view before))

-- the leaves of places, one after another
pub leaves_more : (ls : List ItemLeaf) (places : List ℕ) (k d : ℕ) (before after : Fields) → k < length places → after ≡ append_fields before (leaf_at (slice_get ls (get_or places k d)))
    → append_fields after (leaves_at ls (drop (k + 1) places)) ≡ append_fields before (leaves_at ls (drop k places))
leaves_more ls places k d before after h e =
    let rest : Fields = leaves_at ls (drop (k + 1) places) in
    let found : Fields = leaf_at (slice_get ls (get_or places k d)) in
    ap (λ (fs : Fields). append_fields fs rest) e ∙ append_all before found rest ∙ ap (append_fields before) (sym (ap (leaves_at ls) (drop_more places k d h)))

pub leaves_done : (ls : List ItemLeaf) (places : List ℕ) (k : ℕ) (before : Fields) → length places ≤ k → before ≡ append_fields before (leaves_at ls (drop k places))
leaves_done ls places k before h = sym (ap (λ (ns : List ℕ). append_fields before (leaves_at ls ns)) (drop_all k places h) ∙ append_none before)

-- ---- groups

pub group_more : (ls : List ItemLeaf) (lists : List list_plans.ListPlan) (k : ℕ) (l : list_plans.ListPlan) (before after : List Field) (f : Field) (inside : Vec Field Global) → k < length lists → l ≡ get_or lists k l
    → after ≡ before ++ f ∷ [] → string_bytes f.name ≡ field_name (string_bytes (list_plans.out-ListPlan l).name) → f.rep ≡ Rep.Repeated → f.shape ≡ shapes.Group inside
    → fields_view inside.items ≡ object_fields ls (object_view (list_plans.out-ListPlan l).object)
    → append_fields (fields_view after) (list_fields ls (plan_lists_view (drop (k + 1) lists))) ≡ append_fields (fields_view before) (list_fields ls (plan_lists_view (drop k lists)))
group_more ls lists k l before after f inside h at e n r s t =
    let rest : Fields = list_fields ls (plan_lists_view (drop (k + 1) lists)) in
    let next : drop k lists ≡ l ∷ drop (k + 1) lists = drop_more lists k l h ∙ ap (λ (x : list_plans.ListPlan). x ∷ drop (k + 1) lists) (sym at) in
    ap (λ (fs : Fields). append_fields fs rest) (ap fields_view e ∙ fields_view_append before (f ∷ []) ∙ ap (append_fields (fields_view before)) (fields_view-one f ∙ one))
    ∙ append_all (fields_view before) (field (field_name (string_bytes (list_plans.out-ListPlan l).name)) repeated (group (object_fields ls (object_view (list_plans.out-ListPlan l).object))) no_fields) rest
    ∙ ap (append_fields (fields_view before)) (sym (ap (λ (xs : List list_plans.ListPlan). list_fields ls (plan_lists_view xs)) next
    ∙ ap (λ (x : SeenList). field (field_name x.name) repeated (group (object_fields ls x.object)) rest) (view-list_plan l)))
  where
    one : field (string_bytes f.name) (rep_view f.rep) (shape_view f.shape) no_fields
        ≡ field (field_name (string_bytes (list_plans.out-ListPlan l).name)) repeated (group (object_fields ls (object_view (list_plans.out-ListPlan l).object))) no_fields
    one =
        ap (λ m. field m (rep_view f.rep) (shape_view f.shape) no_fields) n
        ∙ ap (λ m. field (field_name (string_bytes (list_plans.out-ListPlan l).name)) (rep_view m) (shape_view f.shape) no_fields) r
        ∙ ap (λ m. field (field_name (string_bytes (list_plans.out-ListPlan l).name)) repeated m no_fields) (ap shape_view s ∙ view-group inside ∙ ap group t)

pub groups_done : (ls : List ItemLeaf) (lists : List list_plans.ListPlan) (k : ℕ) (before : Fields) → length lists ≤ k → before ≡ append_fields before (list_fields ls (plan_lists_view (drop k lists)))
groups_done ls lists k before h = sym (ap (λ (xs : List list_plans.ListPlan). append_fields before (list_fields ls (plan_lists_view xs))) (drop_all k lists h) ∙ append_none before)
