-- A table of levels, level by level.
use Rattle.std.proofs.Common.{◌≡◌, ◌<◌, ◌≤◌, ◌-◌, ◌+◌, ℕ, zero, suc, List, [], ◌∷◌, ◌++◌, length, drop, get_or, map, Bool, true, false, Option, None, Some, refl, sym, ap, ap₂, ◌∙◌, arith, append_assoc, true≢false, eq-eqb}
use Rattle.std.specs.Prelude.{◌==◌, if◌then◌else◌, option_map, option_copied, slice_set}
use denote.Ref.{Bor}
use Rattle.std.proofs.lemmas.Bool.{eqb-true}
use Rattle.std.proofs.lemmas.List.{drop_more}
use Rattle.dr_meaning.specs.Schema.{Fields}
use Rattle.dr_nested.specs.PathView.{step_view}
use Rattle.dr_plan.specs.Objects.{ObjectTree, ListTrees, list_tree, object_view, SeenList}
use Rattle.dr_plan.specs.declared.objects.ListPlan as list_plans
use Rattle.dr_plan.specs.declared.objects.ObjectPlan as objects
use Rattle.dr_cells.specs.PlanShapes.{plan_list_view, plan_lists_view}
use Rattle.dr_cells.proofs.ShapeLemmas.{view-list_plan, view-object}
use Rattle.dr_within.specs.LevelTable.{Rows, with_row, last_or, level_number, tree_rows, list_rows, tree_numbers, level_in, level_row, lent_level, no_rows, rows_in}
use Rattle.dr_within.specs.declared.levels.Level.{Level}

-- the last of some numbers by its place
pub last_at : (d : ℕ) (ks : List ℕ) (e : ℕ) → 0 < length ks → last_or d ks ≡ get_or ks (length ks - 1) e
last_at d [] e h = absurd (omega (arith, h))
last_at d (k ∷ []) e h = refl
last_at d (k ∷ l ∷ ks) e h =
    let y : suc (length ks) - 1 ≡ length ks = omega arith in
    let z : suc (suc (length ks)) - 1 ≡ suc (length ks) = omega arith in
    last_at k (l ∷ ks) e (omega arith) ∙ ap (λ (i : ℕ). get_or (l ∷ ks) i e) y ∙ ap (λ (i : ℕ). get_or (k ∷ l ∷ ks) i e) (sym z)

-- ---- room for more levels

more_room : (xs : List (Option Level)) (k : ℕ) → rows_in (xs ++ None ∷ []) k ≡ rows_in xs k
more_room [] zero = refl
more_room [] (suc k) = refl
more_room (x ∷ xs) zero = refl
more_room (x ∷ xs) (suc k) = more_room xs k

pub room_more : (xs : List (Option Level)) → rows_in (xs ++ None ∷ []) ≡ rows_in xs
room_more xs = λ i k. (more_room xs k) i

-- ---- one level

row_past : (xs : List (Option Level)) (i k : ℕ) (v : Option Level) → (i ≡ k → ⊥) → rows_in (slice_set xs i v) k ≡ rows_in xs k
row_past [] i k v d = refl
row_past (x ∷ xs) zero zero v d = absurd (d refl)
row_past (x ∷ xs) zero (suc k) v d = refl
row_past (x ∷ xs) (suc i) zero v d = refl
row_past (x ∷ xs) (suc i) (suc k) v d = row_past xs i k v (λ e. d (ap suc e))

row_there : (xs : List (Option Level)) (i : ℕ) (v : Option Level) → i < length xs → rows_in (slice_set xs i v) i ≡ option_map level_row v
row_there [] i v l = absurd (omega (arith, l))
row_there (x ∷ xs) zero v l = refl
row_there (x ∷ xs) (suc i) v l = row_there xs i v (omega (arith, l))

pub row_set : (xs : List (Option Level)) (i : ℕ) (l : Level) → i < length xs → rows_in (slice_set xs i (Some l)) ≡ with_row i (level_row l) (rows_in xs)
row_set xs i l h = λ j k. (at k) j
  where
    by_same : (k : ℕ) (b : Bool) → (i == k) ≡ b → rows_in (slice_set xs i (Some l)) k ≡ (if b then Some (level_row l) else rows_in xs k)
    by_same k true e = let q : i ≡ k = eqb-true i k e in ap (rows_in (slice_set xs i (Some l))) (sym q) ∙ row_there xs i (Some l) h
    by_same k false e = row_past xs i k (Some l) (λ q. true≢false (sym (eq-eqb i k q) ∙ e))

    at : (k : ℕ) → rows_in (slice_set xs i (Some l)) k ≡ with_row i (level_row l) (rows_in xs) k
    at k = by_same k (i == k) refl

-- ---- lists

lists_next : (ls : List list_plans.ListPlan) (k : ℕ) (l : list_plans.ListPlan) → k < length ls → l ≡ get_or ls k l
    → plan_lists_view (drop k ls) ≡ list_tree (plan_list_view l).name (plan_list_view l).level (plan_list_view l).object (plan_lists_view (drop (k + 1) ls))
lists_next ls k l h g = ap plan_lists_view (drop_more ls k l h ∙ ap (λ x. x ∷ drop (k + 1) ls) (sym g))

pub list_level : (l : list_plans.ListPlan) → (plan_list_view l).level ≡ map step_view (list_plans.out-ListPlan l).level.items
list_level l = ap (λ (x : SeenList). x.level) (view-list_plan l)

pub list_object : (l : list_plans.ListPlan) → (plan_list_view l).object ≡ object_view (list_plans.out-ListPlan l).object
list_object l = ap (λ (x : SeenList). x.object) (view-list_plan l)

-- the rows of one list more
pub rows_next : (fs : Fields) (ls : List list_plans.ListPlan) (k : ℕ) (l : list_plans.ListPlan) (n : ℕ) (old new : Rows) → k < length ls → l ≡ get_or ls k l
    → n ≡ level_number fs (plan_list_view l).level → new ≡ tree_rows fs n (object_view (list_plans.out-ListPlan l).object) old
    → list_rows fs (plan_lists_view (drop (k + 1) ls)) new ≡ list_rows fs (plan_lists_view (drop k ls)) old
rows_next fs ls k l n old new h g e f =
    ap (list_rows fs (plan_lists_view (drop (k + 1) ls))) (f ∙ ap₂ (λ (i : ℕ) (o : ObjectTree). tree_rows fs i o old) e (sym (list_object l)))
    ∙ ap (λ (t : ListTrees). list_rows fs t old) (sym (lists_next ls k l h g))

-- and its number
pub numbers_next : (fs : Fields) (ls : List list_plans.ListPlan) (k : ℕ) (l : list_plans.ListPlan) (n : ℕ) (old new : List ℕ) → k < length ls → l ≡ get_or ls k l
    → n ≡ level_number fs (plan_list_view l).level → new ≡ old ++ n ∷ []
    → new ++ tree_numbers fs (plan_lists_view (drop (k + 1) ls)) ≡ old ++ tree_numbers fs (plan_lists_view (drop k ls))
numbers_next fs ls k l n old new h g e f =
    let rest : List ℕ = tree_numbers fs (plan_lists_view (drop (k + 1) ls)) in
    ap (λ (ks : List ℕ). ks ++ rest) f ∙ (append_assoc old (n ∷ []) rest
    ∙ ap (λ (i : ℕ). old ++ (i ∷ rest)) e) ∙ ap (λ (t : ListTrees). old ++ tree_numbers fs t) (sym (lists_next ls k l h g))

-- the rows of an object, by those of its lists
pub object_rows : (fs : Fields) (k : ℕ) (o : objects.ObjectPlan) (places lists : List ℕ) (old new : Rows) → places ≡ (objects.out-ObjectPlan o).items.items
    → lists ≡ tree_numbers fs (plan_lists_view (objects.out-ObjectPlan o).lists.items) → new ≡ list_rows fs (plan_lists_view (objects.out-ObjectPlan o).lists.items) old
    → with_row k (record { places = places; lists = lists }) new ≡ tree_rows fs k (object_view o) old
object_rows fs k o places lists old new a b c =
    ap (λ (r : Rows). with_row k (record { places = places; lists = lists }) r) c
    ∙ (ap₂ (λ (xs ys : List ℕ). with_row k (record { places = xs; lists = ys }) (list_rows fs (plan_lists_view (objects.out-ObjectPlan o).lists.items) old)) a b
    ∙ ap (λ (t : ObjectTree). tree_rows fs k t old) (sym (view-object o)))

-- ---- a level by its place

pub nothing_there : (xs : List (Option Level)) → xs ≡ [] → rows_in xs ≡ no_rows
nothing_there xs e = ap rows_in e

pub lent_copied : (o : Option (Bor Level)) → lent_level o ≡ option_copied o
lent_copied None = refl
lent_copied (Some b) = refl

pub level_at : (xs : List (Option Level)) (k : ℕ) (l : Option Level) → k < length xs → l ≡ get_or xs k l → level_in xs k ≡ l
level_at [] k l h e = absurd (omega (arith, h))
level_at (x ∷ xs) zero l h e = sym e
level_at (x ∷ xs) (suc k) l h e = level_at xs k l (omega (arith, h)) e

pub level_past : (xs : List (Option Level)) (k : ℕ) → length xs ≤ k → level_in xs k ≡ None
level_past [] k h = refl
level_past (x ∷ xs) zero h = absurd (omega (arith, h))
level_past (x ∷ xs) (suc k) h = level_past xs k (omega (arith, h))
