-- The name by which a result goes is the one that is meant.
use Rattle.std.proofs.Common.{◌≡◌, ◌∙◌, ℕ, zero, suc, List, [], ◌∷◌, map, drop, Bool, true, false, Option, Some, None, Vec, string_bytes, refl, sym, ap, ap₂}
use Rattle.std.specs.Prelude.{if◌then◌else◌}
use Rattle.std.specs.List.{slice_get}
use Rattle.std.specs.declared.alloc.Global.{Global}
use Rattle.dr_cells.proofs.ShapeLemmas.{view-object}
use Rattle.dr_meaning.specs.Path.{Leaf, same_path}
use Rattle.dr_meaning.specs.Schema.{Fields}
use Rattle.dr_meaning.specs.Query as query
use Rattle.dr_meaning.specs.Query.{term_chain}
use Rattle.dr_ordering.specs.Ordered.{record_names, outermost_names}
use Rattle.dr_plan.specs.Objects.{ObjectTree, object_tree, places_at}
use Rattle.dr_plan.specs.Planned.{Planned, objects_of_plan, objects_of_query, plan_leaves, plan_view, planned}
use Rattle.dr_plan.specs.Views.{aggregate_view, group_item_view, record_item_view, selection_view}
use Rattle.dr_plan.specs.declared.aggregate.Aggregate.{Aggregate}
use Rattle.dr_plan.specs.declared.objects.ObjectPlan as object
use Rattle.dr_plan.specs.declared.plan.GroupItem.{GroupItem}
use Rattle.dr_plan.specs.declared.plan.Plan.{Plan}
use Rattle.dr_plan.specs.declared.plan.RecordItem.{RecordItem}
use Rattle.dr_plan.specs.declared.plan.Selection.{Selection}
use Rattle.dr_rewrite.specs.Arranging.{record_name, value_names}
use Rattle.dr_rewrite.proofs.RewritingTextLemmas.{map_map}
use Rattle.dr_sub_meaning.specs.NestedText.{nth_name}

-- the text of what is found; none where nothing is
abbrev pub text_at : {A : Type 0} → (A → List ℕ) → Option A → List ℕ
text_at f None = []
text_at f (Some x) = f x

pub nth_found : {A : Type 0} (f : A → List ℕ) (i : ℕ) (xs : List A) → nth_name i (map f xs) ≡ text_at f (slice_get xs i)
nth_found f i [] = refl
nth_found f zero (x ∷ xs) = refl
nth_found f (suc i) (x ∷ xs) = nth_found f i xs

-- the name of a number among those that a plan selects
pub value_found : (s : Selection) (items : Vec RecordItem Global) (o : object.ObjectPlan) (i : ℕ) (places : List ℕ) (r : Option ℕ) → s ≡ Selection.Objects items o → places ≡ (object.out-ObjectPlan o).items.items → slice_get places i ≡ r
    → nth_name i (value_names s) ≡ text_at (λ (k : ℕ). record_name (slice_get items.items k)) r
value_found s items o i places r e h g =
    ap (λ (x : Selection). nth_name i (value_names x)) e
    ∙ (nth_found (λ (k : ℕ). record_name (slice_get items.items k)) i (object.out-ObjectPlan o).items.items
    ∙ ap (text_at (λ (k : ℕ). record_name (slice_get items.items k))) (ap (λ (xs : List ℕ). slice_get xs i) (sym h) ∙ g))

pub column_found : (s : Selection) (keys : Vec ℕ Global) (aggregates : Vec Aggregate Global) (items : Vec GroupItem Global) (i : ℕ) (xs : List GroupItem) (r : Option GroupItem) → s ≡ Selection.Groups keys aggregates items → xs ≡ items.items → slice_get xs i ≡ r
    → nth_name i (value_names s) ≡ text_at (λ (x : GroupItem). string_bytes x.name) r
column_found s keys aggregates items i xs r e h g =
    ap (λ (x : Selection). nth_name i (value_names x)) e
    ∙ (nth_found (λ (x : GroupItem). string_bytes x.name) i items.items ∙ ap (text_at (λ (x : GroupItem). string_bytes x.name)) (ap (λ (ys : List GroupItem). slice_get ys i) (sym h) ∙ g))

-- ---- the items that stand in no list

here : {A : Type 0} (xs : List A) (n : ℕ) (x : A) (ys : List A) → drop n xs ≡ x ∷ ys → slice_get xs n ≡ Some x
here [] zero x ys h = absurd (cc)
here [] (suc n) x ys h = absurd (cc)
here (y ∷ xs) zero x ys h = let e : y ≡ x = cc in ap Some e
here (y ∷ xs) (suc n) x ys h = here xs n x ys h

behind : {A : Type 0} (xs : List A) (n : ℕ) (x : A) (ys : List A) → drop n xs ≡ x ∷ ys → drop (suc n) xs ≡ ys
behind [] zero x ys h = absurd (cc)
behind [] (suc n) x ys h = absurd (cc)
behind (y ∷ xs) zero x ys h = cc
behind (y ∷ xs) (suc n) x ys h = behind xs n x ys h

named_there : (f : ℕ → List ℕ) (b : Bool) (n : ℕ) (ns : List ℕ) (name : List ℕ) (names : List (List ℕ)) → f n ≡ name → map f ns ≡ names → map f (if b then n ∷ ns else ns) ≡ (if b then name ∷ names else names)
named_there f true n ns name names e h = ap₂ (λ (x : List ℕ) (xs : List (List ℕ)). x ∷ xs) e h
named_there f false n ns name names e h = h

-- from the nth item on
names_there : (ls : List Leaf) (all is : List RecordItem) (n : ℕ) → drop n all ≡ is
    → map (λ (k : ℕ). record_name (slice_get all k)) (places_at n (map (record_item_view ls) is) []) ≡ record_names (map (record_item_view ls) is)
names_there ls all [] n h = refl
names_there ls all (i ∷ is) n h =
    named_there (λ (k : ℕ). record_name (slice_get all k)) (same_path [] (term_chain (record_item_view ls i).term)) n (places_at (suc n) (map (record_item_view ls) is) []) (string_bytes i.name) (record_names (map (record_item_view ls) is))
    (ap record_name (here all n i is h)) (names_there ls all is (suc n) (behind all n i is h))

-- ---- the names that a plan selects

places_in : ObjectTree → List ℕ
places_in (object_tree ns ls) = ns

found_objects : Option ObjectTree → List ℕ
found_objects None = []
found_objects (Some o) = places_in o

selected_names : (ls : List Leaf) (fs : Fields) (s : Selection) → objects_of_plan s ≡ objects_of_query fs (selection_view ls s) → value_names s ≡ outermost_names (selection_view ls s)
unfolding places_in found_objects
selected_names ls fs (Selection.Objects items o) h =
    ap (map (λ (k : ℕ). record_name (slice_get items.items k))) (sym (ap places_in (view-object o)) ∙ ap found_objects h)
    ∙ names_there ls items.items items.items 0 refl
selected_names ls fs (Selection.Groups keys aggregates items) h =
    sym (map_map (λ (i : query.GroupItem). i.name) (group_item_view (map (aggregate_view ls) aggregates.items)) items.items)

pub names_same : (fs : Fields) (p : Plan) (q : query.Query) → plan_view p ≡ planned fs q → value_names p.selection ≡ outermost_names q.selection
names_same fs p q h =
    let same : (plan_view p).selection ≡ q.selection = ap (λ (x : Planned). x.selection) h in
    selected_names (plan_leaves p) fs p.selection (ap (λ (x : Planned). x.objects) h ∙ ap (objects_of_query fs) (sym same)) ∙ ap outermost_names same
