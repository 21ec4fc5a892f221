-- Items, and lists, one after another.
use Rattle.std.specs.Prelude.{◌≡◌, ◌<◌, ◌≤◌, ◌+◌, ℕ, zero, suc, List, [], ◌∷◌, ◌++◌, length, map, drop, filter, get_or, Bool, true, false, ◌&&◌, Some, None, option_map, is_some, if◌then◌else◌}
use Rattle.std.specs.List.{slice_get}
use Rattle.std.proofs.Common.{refl, sym, ap, ◌∙◌, arith, append_assoc}
use Rattle.std.proofs.lemmas.Bool.{and_parts}
use Rattle.std.proofs.lemmas.List.{drop_more}
use Rattle.std.proofs.lemmas.Option.{slice_get-map, slice_get_read, slice_get_past}
use Rattle.dr_meaning.specs.Path.{Step, begins_with}
use Rattle.dr_meaning.specs.Record.{Node}
use Rattle.dr_meaning.specs.Rows.{is_present}
use Rattle.dr_meaning.specs.Query.{RecordItem, Object, objects_of}
use Rattle.dr_nested.specs.PathView.{path_view, step_view}
use Rattle.dr_nested.specs.declared.path.Path.{Path}
use Rattle.dr_plan.specs.Objects.{list_tree, object_view}
use Rattle.dr_plan.specs.Views.{record_item_view}
use Rattle.dr_plan.specs.declared.plan.RecordItem.{RecordItem as PlanItem}
use Rattle.dr_plan.specs.declared.objects.ListPlan as list_plans
use Rattle.dr_cells.specs.PlanShapes.{plan_list_view, plan_lists_view}
use Rattle.dr_cells.specs.Results.{count_objects}
use Rattle.dr_cells.proofs.ShapeLemmas.{view-list_plan}
use Rattle.dr_rows.specs.Known.{Known, known}
use Rattle.dr_rows.proofs.RowLawLemmas.{present_end}
use Rattle.dr_mean.specs.Nested.{item_is_below, items_are_below, is_nested, are_nested}
use Rattle.dr_mean.specs.ObjectCells.{item_cells, items_cells, items_view}

-- more behind what was joined
pub joined_more : {A : Type 0} (before now x rest : List A) → now ≡ before ++ x → now ++ rest ≡ before ++ (x ++ rest)
joined_more before now x rest e = ap (λ ys. ys ++ rest) e ∙ append_assoc before x rest

-- ---- items

pub item_there : (ls : List Path) (items : List PlanItem) (n : ℕ) (x : PlanItem) → n < length items → x ≡ get_or items n x → slice_get (items_view ls items) n ≡ Some (record_item_view (map path_view ls) x)
item_there ls items n x h g =
    slice_get-map (record_item_view (map path_view ls)) items n ∙ ap (option_map (record_item_view (map path_view ls))) (slice_get_read items (length items) n x refl h g)

pub item_past : (ls : List Path) (items : List PlanItem) (n : ℕ) → length items ≤ n → slice_get (items_view ls items) n ≡ None
item_past ls items n h = slice_get-map (record_item_view (map path_view ls)) items n ∙ ap (option_map (record_item_view (map path_view ls))) (slice_get_past items n h)

pub items_next : (items : List RecordItem) (ns : List ℕ) (k : ℕ) (row : Node) → k < length ns → items_cells items (drop k ns) row ≡ item_cells (slice_get items (get_or ns k 0)) row ++ items_cells items (drop (k + 1) ns) row
items_next items ns k row h = ap (λ ms. items_cells items ms row) (drop_more ns k 0 h)

pub below_at : (items : List RecordItem) (p : List Step) (ns : List ℕ) (k : ℕ) → k < length ns → items_are_below items p ns ≡ true → item_is_below p (slice_get items (get_or ns k 0)) ≡ true
below_at items p [] k h b = absurd (omega arith)
below_at items p (n ∷ ns) zero h b =
    let d : (item_is_below p (slice_get items n) ≡ true) × (items_are_below items p ns ≡ true) = and_parts _ _ b in d.0
below_at items p (n ∷ ns) (suc k) h b =
    let d : (item_is_below p (slice_get items n) ≡ true) × (items_are_below items p ns ≡ true) = and_parts _ _ b in below_at items p ns k (omega arith) d.1

-- ---- lists

pub lists_next : (ls : List list_plans.ListPlan) (k : ℕ) (l : list_plans.ListPlan) → k < length ls → l ≡ get_or ls k l
    → plan_lists_view (drop k ls) ≡ list_tree (plan_list_view l).name (plan_list_view l).level (plan_list_view l).object (plan_lists_view (drop (k + 1) ls))
lists_next ls k l h g = ap plan_lists_view (drop_more ls k l h ∙ ap (λ x. x ∷ drop (k + 1) ls) (sym g))

pub list_chain : (l : list_plans.ListPlan) → (plan_list_view l).level ≡ map step_view (list_plans.out-ListPlan l).level.items
list_chain l = ap (λ x. x.level) (view-list_plan l)

pub list_object : (l : list_plans.ListPlan) → (plan_list_view l).object ≡ object_view (list_plans.out-ListPlan l).object
list_object l = ap (λ x. x.object) (view-list_plan l)

pub nested_drop : (items : List RecordItem) (p : List Step) (ls : List list_plans.ListPlan) (k : ℕ) → are_nested items p (plan_lists_view ls) ≡ true → are_nested items p (plan_lists_view (drop k ls)) ≡ true
nested_drop items p ls zero h = h
nested_drop items p [] (suc k) h = h
nested_drop items p (l ∷ ls) (suc k) h =
    let v = plan_list_view l in
    let d : ((begins_with p v.level && is_nested items v.level v.object) ≡ true) × (are_nested items p (plan_lists_view ls) ≡ true) = and_parts _ _ h in
    nested_drop items p ls k d.1

-- the list of a number begins below the level, and its objects are nested
pub nested_at : (items : List RecordItem) (p : List Step) (ls : List list_plans.ListPlan) (k : ℕ) (l : list_plans.ListPlan) → k < length ls → l ≡ get_or ls k l → are_nested items p (plan_lists_view ls) ≡ true
    → (begins_with p (plan_list_view l).level ≡ true) × (is_nested items (plan_list_view l).level (plan_list_view l).object ≡ true)
nested_at items p ls k l h g n =
    let v = plan_list_view l in
    let d : ((begins_with p v.level && is_nested items v.level v.object) ≡ true) × (are_nested items p (plan_lists_view (drop (k + 1) ls)) ≡ true) =
    and_parts _ _ (ap (are_nested items p) (sym (lists_next ls k l h g)) ∙ nested_drop items p ls k n) in
    and_parts _ _ d.0

-- ---- how many instances a level has

pub count_mapped : (f : Node → Object) (rs : List Node) → count_objects (objects_of (map f rs)) ≡ length rs
count_mapped f [] = refl
count_mapped f (r ∷ rs) = ap (λ (n : ℕ). suc n) (count_mapped f rs)

same_count : (b : Bool) {A B : Type 0} (x : A) (y : B) (xs : List A) (ys : List B) → length xs ≡ length ys → length (if b then x ∷ xs else xs) ≡ length (if b then y ∷ ys else ys)
same_count true x y xs ys e = ap (λ (n : ℕ). suc n) e
same_count false x y xs ys e = e

pub present_count : (ps : List (List Step)) (q : List Step) (rs : List Node) → length (filter (λ (k : Known). is_some k.end) (map (known ps q) rs)) ≡ length (filter (is_present q) rs)
present_count ps q [] = refl
present_count ps q (r ∷ rs) =
    ap (λ (b : Bool). length (if b then known ps q r ∷ filter (λ (k : Known). is_some k.end) (map (known ps q) rs) else filter (λ (k : Known). is_some k.end) (map (known ps q) rs))) (sym (present_end q r))
    ∙ same_count (is_present q r) (known ps q r) r (filter (λ (k : Known). is_some k.end) (map (known ps q) rs)) (filter (is_present q) rs) (present_count ps q rs)
