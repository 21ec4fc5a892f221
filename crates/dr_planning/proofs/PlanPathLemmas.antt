-- The paths whose values parts of a query use.
use Rattle.std.proofs.Common.{◌≡◌, ℕ, List, [], ◌∷◌, ◌++◌, map, Bool, true, false, Option, Some, None, refl, sym, ap, ap₂, ◌∙◌, subst}
use Rattle.std.specs.Prelude.{option_map, if◌then◌else◌}
use Rattle.std.specs.List.{flat_map, filter_map, cons_option}
use Rattle.std.proofs.lemmas.List.{map-append}
use Rattle.dr_meaning.specs.Schema.{Fields}
use Rattle.dr_meaning.specs.Path.{Step as MeantStep, Leaf}
use Rattle.dr_meaning.specs.Expression.{paths_of}
use Rattle.dr_meaning.specs.BoundExpression as meant
use Rattle.dr_meaning.specs.BoundExpression.{Checked, passes, fails}
use Rattle.dr_meaning.specs.Binding as binding
use Rattle.dr_meaning.specs.Binding.{plain, rows_counted, aggregated, passing, query_of}
use Rattle.dr_meaning.specs.Query as query
use Rattle.dr_meaning.specs.MeaningLaws.{group_term_paths}
use Rattle.dr_meaning.specs.MeaningLaws as laws
use Rattle.dr_meaning.specs.QueryLeaves.{value_paths, selection_values, used_paths}
use Rattle.dr_plan.specs.Views.{fold_view}
use Rattle.dr_plan.specs.declared.aggregate.Fold.{Fold}
use Rattle.dr_paths.specs.declared.bound.BoundPath.{BoundPath}
use Rattle.dr_paths.specs.Views.{bound_path_view, paths_at}
use Rattle.dr_resolve.specs.declared.bound.BoundExpression.{BoundExpression}
use Rattle.dr_resolve.specs.declared.bound.BoundCondition.{BoundCondition}
use Rattle.dr_resolve.specs.declared.bound.BoundWithin.{BoundWithin}
use Rattle.dr_resolve.specs.declared.bound.BoundTerm.{BoundTerm}
use Rattle.dr_resolve.specs.declared.bound.BoundItem.{BoundItem}
use Rattle.dr_resolve.specs.declared.bound.BoundParts.{BoundParts}
use Rattle.dr_resolve.specs.Bound.{IsExpression}
use Rattle.dr_resolve.specs.Items.{IsTruth, within_view, IsTerm, AreItems}
use Rattle.dr_resolve.specs.Parts.{IsCheckedCondition, AreParts}
use Rattle.dr_planning.specs.Planning.{condition_paths, record_paths, group_paths, record_item_paths, group_item_paths, selection_paths, parts_paths, steps_at}

-- ---- lists of paths

pub steps-append : (ps qs : List BoundPath) → steps_at (ps ++ qs) ≡ steps_at ps ++ steps_at qs
steps-append ps qs = ap paths_at (map-append bound_path_view ps qs) ∙ map-append (λ (p : meant.BoundPath). p.leaf.path) (map bound_path_view ps) (map bound_path_view qs)

-- ---- terms in pairs

-- what holds of a bound term and of one that stands for it, by its five cases
pub term_cases : (fs : Fields) (ls : List Leaf) (P : binding.BoundTerm → BoundTerm → Type 0)
    → ((e : meant.BoundExpression) (x : BoundExpression) → IsExpression fs ls e x → P (plain e) (BoundTerm.Value x))
    → P (rows_counted None) (BoundTerm.Rows None)
    → ((v : BoundWithin) → P (rows_counted (Some (within_view v))) (BoundTerm.Rows (Some v)))
    → ((f : Fold) (e : meant.BoundExpression) (x : BoundExpression) → IsExpression fs ls e x → P (aggregated (fold_view f) e None) (BoundTerm.Aggregated f x None))
    → ((f : Fold) (e : meant.BoundExpression) (x : BoundExpression) (v : BoundWithin) → IsExpression fs ls e x → P (aggregated (fold_view f) e (Some (within_view v))) (BoundTerm.Aggregated f x (Some v)))
    → (t : binding.BoundTerm) (u : BoundTerm) → IsTerm fs ls t u → P t u
term_cases fs ls P a b c d g (plain e) (BoundTerm.Value x) h = a e x h
term_cases fs ls P a b c d g (plain e) (BoundTerm.Rows v) h = absurd h
term_cases fs ls P a b c d g (plain e) (BoundTerm.Aggregated f x v) h = absurd h
term_cases fs ls P a b c d g (rows_counted w) (BoundTerm.Value x) h = absurd h
term_cases fs ls P a b c d g (rows_counted w) (BoundTerm.Rows None) h = subst (λ (y : Option binding.BoundWithin). P (rows_counted y) (BoundTerm.Rows None)) h b
term_cases fs ls P a b c d g (rows_counted w) (BoundTerm.Rows (Some v)) h = subst (λ (y : Option binding.BoundWithin). P (rows_counted y) (BoundTerm.Rows (Some v))) h (c v)
term_cases fs ls P a b c d g (rows_counted w) (BoundTerm.Aggregated f x v) h = absurd h
term_cases fs ls P a b c d g (aggregated k e w) (BoundTerm.Value x) h = absurd h
term_cases fs ls P a b c d g (aggregated k e w) (BoundTerm.Rows v) h = absurd h
term_cases fs ls P a b c d g (aggregated k e w) (BoundTerm.Aggregated f x None) h =
    subst (λ (m : query.Aggregate). P (aggregated m e w) (BoundTerm.Aggregated f x None)) h.0
    (subst (λ (y : Option binding.BoundWithin). P (aggregated (fold_view f) e y) (BoundTerm.Aggregated f x None)) h.2 (d f e x h.1))
term_cases fs ls P a b c d g (aggregated k e w) (BoundTerm.Aggregated f x (Some v)) h =
    subst (λ (m : query.Aggregate). P (aggregated m e w) (BoundTerm.Aggregated f x (Some v))) h.0
    (subst (λ (y : Option binding.BoundWithin). P (aggregated (fold_view f) e y) (BoundTerm.Aggregated f x (Some v))) h.2 (g f e x v h.1))

-- ---- the paths whose values are used

pub expression_paths : (fs : Fields) (ls : List Leaf) (e : meant.BoundExpression) (x : BoundExpression) → IsExpression fs ls e x → steps_at x.paths.items ≡ paths_of e.expression
expression_paths fs ls e x h = ap paths_at h.paths ∙ sym h.own

truth_paths : (fs : Fields) (ls : List Leaf) (e : meant.BoundExpression) (x : BoundCondition) → IsTruth fs ls e x → steps_at x.paths.items ≡ paths_of e.expression
truth_paths fs ls e x h = ap paths_at h.paths ∙ sym h.own

abbrev pub named_record : List ℕ → Option query.RecordTerm → Option query.RecordItem
named_record name o = option_map (λ (t : query.RecordTerm). record { name = name; term = t }) o

abbrev pub named_group : List ℕ → Option query.GroupTerm → Option query.GroupItem
named_group name o = option_map (λ (t : query.GroupTerm). record { name = name; term = t }) o

abbrev record_values : List query.RecordItem → List (List MeantStep)
record_values is = flat_map (λ (i : query.RecordItem). value_paths i.term) is

abbrev group_values : List query.GroupItem → List (List MeantStep)
group_values is = flat_map (λ (i : query.GroupItem). group_term_paths i.term) is

record_term_used : (fs : Fields) (ls : List Leaf) (name : List ℕ) (is : List query.RecordItem) (t : binding.BoundTerm) (u : BoundTerm) → IsTerm fs ls t u
    → steps_at (record_paths u) ++ record_values is ≡ record_values (cons_option (named_record name (binding.record_term t)) is)
record_term_used fs ls name is =
    let P : binding.BoundTerm → BoundTerm → Type 0 = λ t u. steps_at (record_paths u) ++ record_values is ≡ record_values (cons_option (named_record name (binding.record_term t)) is) in
    term_cases fs ls P
    (λ e x h. ap (λ (ps : List (List MeantStep)). ps ++ record_values is) (expression_paths fs ls e x h))
    refl
    (λ v. refl)
    (λ f e x h. refl)
    (λ f e x v h. ap (λ (ps : List (List MeantStep)). ps ++ record_values is) (expression_paths fs ls e x h))

record_items_used : (fs : Fields) (ls : List Leaf) (bs : List binding.BoundItem) (xs : List BoundItem) → AreItems fs ls bs xs
    → steps_at (record_item_paths xs) ≡ record_values (filter_map binding.record_item bs)
record_items_used fs ls [] [] h = refl
record_items_used fs ls [] (x ∷ xs) h = absurd h
record_items_used fs ls (b ∷ bs) [] h = absurd h
record_items_used fs ls (b ∷ bs) (x ∷ xs) h =
    steps-append (record_paths x.term) (record_item_paths xs)
    ∙ (ap (λ (ps : List (List MeantStep)). steps_at (record_paths x.term) ++ ps) (record_items_used fs ls bs xs h.1)
    ∙ record_term_used fs ls b.name (filter_map binding.record_item bs) b.term x.term h.0.term)

key_has_no_paths : (name : List ℕ) (o : Option ℕ) (is : List query.GroupItem) → group_values is ≡ group_values (cons_option (named_group name (option_map query.key o)) is)
key_has_no_paths name None is = refl
key_has_no_paths name (Some k) is = refl

group_term_used : (fs : Fields) (ls : List Leaf) (keys : List meant.BoundPath) (name : List ℕ) (is : List query.GroupItem) (t : binding.BoundTerm) (u : BoundTerm) → IsTerm fs ls t u
    → steps_at (group_paths u) ++ group_values is ≡ group_values (cons_option (named_group name (binding.group_term keys t)) is)
group_term_used fs ls keys name is =
    let P : binding.BoundTerm → BoundTerm → Type 0 = λ t u. steps_at (group_paths u) ++ group_values is ≡ group_values (cons_option (named_group name (binding.group_term keys t)) is) in
    term_cases fs ls P
    (λ e x h. key_has_no_paths name (binding.key_of keys e.expression) is)
    refl
    (λ v. refl)
    (λ f e x h. ap (λ (ps : List (List MeantStep)). ps ++ group_values is) (expression_paths fs ls e x h))
    (λ f e x v h. refl)

group_items_used : (fs : Fields) (ls : List Leaf) (keys : List meant.BoundPath) (bs : List binding.BoundItem) (xs : List BoundItem) → AreItems fs ls bs xs
    → steps_at (group_item_paths xs) ≡ group_values (filter_map (binding.group_item keys) bs)
group_items_used fs ls keys [] [] h = refl
group_items_used fs ls keys [] (x ∷ xs) h = absurd h
group_items_used fs ls keys (b ∷ bs) [] h = absurd h
group_items_used fs ls keys (b ∷ bs) (x ∷ xs) h =
    steps-append (group_paths x.term) (group_item_paths xs)
    ∙ (ap (λ (ps : List (List MeantStep)). steps_at (group_paths x.term) ++ ps) (group_items_used fs ls keys bs xs h.1)
    ∙ group_term_used fs ls keys b.name (filter_map (binding.group_item keys) bs) b.term x.term h.0.term)

condition_used : (fs : Fields) (ls : List Leaf) (b : Checked (Option meant.BoundExpression)) (c : Option BoundCondition) → IsCheckedCondition fs ls b c
    → steps_at (condition_paths c) ≡ laws.condition_paths (binding.condition_of b)
condition_used fs ls (passes None) None h = refl
condition_used fs ls (passes None) (Some c) h = absurd h
condition_used fs ls (passes (Some b)) None h = absurd h
condition_used fs ls (passes (Some b)) (Some c) h = truth_paths fs ls b c h
condition_used fs ls (fails e es) None h = refl
condition_used fs ls (fails e es) (Some c) h = absurd h

-- the paths of what is selected
-- the selection of the definitions
abbrev pub chosen : Bool → List meant.BoundPath → List binding.BoundItem → query.Selection
chosen r keys bs = if r then query.objects (filter_map binding.record_item bs) else query.groups (map (λ (k : meant.BoundPath). k.leaf.path) keys) (filter_map (binding.group_item keys) bs)

selection_used : (fs : Fields) (ls : List Leaf) (r : Bool) (keys : List BoundPath) (bs : List binding.BoundItem) (xs : List BoundItem) → AreItems fs ls bs xs
    → steps_at (selection_paths r keys xs) ≡ selection_values (chosen r (map bound_path_view keys) bs)
selection_used fs ls true keys bs xs h = record_items_used fs ls bs xs h
selection_used fs ls false keys bs xs h =
    steps-append keys (group_item_paths xs) ∙ ap (λ (ps : List (List MeantStep)). steps_at keys ++ ps) (group_items_used fs ls (map bound_path_view keys) bs xs h)

-- the paths of the parts are those that the query uses
pub parts_used : (fs : Fields) (ls : List Leaf) (b : binding.BoundParts) (p : BoundParts) → AreParts fs ls b p → steps_at (parts_paths p) ≡ used_paths (query_of b)
parts_used fs ls b p h =
    steps-append (condition_paths p.condition) (selection_paths p.is_record_query p.keys.items p.items.items)
    ∙ ap₂ (λ (ps qs : List (List MeantStep)). ps ++ qs) (condition_used fs ls b.condition p.condition h.condition)
    (selection_used fs ls p.is_record_query p.keys.items (passing b.items) p.items.items h.items
    ∙ ap₂ (λ (r : Bool) (ks : List meant.BoundPath). selection_values (chosen r ks (passing b.items))) h.record_query h.keys)
