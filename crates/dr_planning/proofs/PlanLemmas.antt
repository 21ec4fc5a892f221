-- The plan of parts of a query.
use Rattle.std.proofs.Common.{◌≡◌, ℕ, suc, ◌<◌, ◌^◌, List, [], ◌∷◌, ◌++◌, map, length, Bool, true, false, ◌||◌, Option, Some, None, refl, sym, ap, ap₂, ◌∙◌, subst, append_assoc, arith}
use Rattle.std.specs.Prelude.{◌==◌, Result, Ok, Err, if◌then◌else◌}
use Rattle.std.specs.List.{list_any, slice_get}
use Rattle.std.proofs.lemmas.List.{map-append}
use Rattle.std.proofs.lemmas.Option.{slice_get_within}
use Rattle.std.proofs.lemmas.Bool.{eq-eqb}
use Rattle.dr_meaning.specs.Schema.{Fields}
use Rattle.dr_meaning.specs.Path.{Step as MeantStep, Leaf, begins_with, same_path, leaves, PathFault, find_path, found_leaf}
use Rattle.dr_meaning.specs.Expression.{Expression}
use Rattle.dr_meaning.specs.BoundExpression as meant
use Rattle.dr_meaning.specs.BoundExpression.{Checked, passes, fails, number_type, truth_type, text_type, ValueType}
use Rattle.dr_meaning.specs.Binding as binding
use Rattle.dr_meaning.specs.Binding.{plain, rows_counted, aggregated, passing, query_of}
use Rattle.dr_meaning.specs.Query as query
use Rattle.dr_meaning.specs.Syntax.{PathSyntax, TermSyntax, ItemSyntax, QuerySyntax}
use Rattle.dr_meaning.specs.Syntax.{expression as expression_syntax, count_rows as count_rows_syntax, aggregate as aggregate_syntax}
use Rattle.dr_meaning.specs.QueryLeaves.{used_paths, query_leaves}
use Rattle.dr_meaning.proofs.FindingLemmas.{in_at, of_found}
use Rattle.dr_plan.specs.Conjuncts as cut
use Rattle.dr_plan.specs.Objects.{ObjectTree}
use Rattle.dr_plan.specs.Views.{fold_view, selection_view}
use Rattle.dr_plan.specs.Fitting.{is_summed}
use Rattle.dr_plan.specs.Planned.{Planned, planned, objects_of_plan, objects_of_query}
use Rattle.dr_plan.specs.declared.expression.Expr.{Expr}
use Rattle.dr_plan.specs.declared.aggregate.Fold.{Fold}
use Rattle.dr_plan.specs.declared.plan.Selection.{Selection}
use Rattle.dr_planning.specs.NamedLevels.{NamedLevels, joined}
use Rattle.dr_paths.specs.declared.bound.BoundPath.{BoundPath}
use Rattle.dr_paths.specs.Views.{bound_path_view, paths_at}
use Rattle.dr_paths.proofs.UsedLemmas.{number_of_used}
use Rattle.dr_resolve.specs.declared.bound.BoundExpression.{BoundExpression}
use Rattle.dr_resolve.specs.declared.bound.BoundCondition.{BoundCondition}
use Rattle.dr_resolve.specs.declared.bound.BoundTerm.{BoundTerm}
use Rattle.dr_resolve.specs.declared.bound.BoundItem.{BoundItem}
use Rattle.dr_resolve.specs.declared.bound.BoundParts.{BoundParts}
use Rattle.dr_resolve.specs.Bound.{Covers, AreReal, type_of, IsExpression}
use Rattle.dr_resolve.specs.Items.{within_view, IsTerm, AreItems}
use Rattle.dr_resolve.specs.Parts.{IsCheckedCondition, AreParts}
use Rattle.dr_planning.specs.Planning.{condition_paths, record_paths, group_paths, record_item_paths, group_item_paths, selection_paths, parts_paths}
use Rattle.dr_planning.specs.Planning.{condition_conjuncts, condition_joining}
use Rattle.dr_planning.specs.Planning.{Selects}
use Rattle.dr_planning.specs.Planning.{sums_numbers, CanBePlanned, SumsNumbers, AllSumNumbers}
use Rattle.dr_resolve.proofs.BoundLemmas.{real_joined}
use Rattle.dr_planning.proofs.PlanPathLemmas.{term_cases, chosen, parts_used}
use Rattle.dr_planning.proofs.PlanStepLemmas.{both}
use Rattle.dr_planning.proofs.PlanSelectionLemmas.{cut_covers, condition_seen, joining_seen, all_summed, selection_seen, objects_seen}

-- ---- the plan

pub both_covered : (ls : List Leaf) (p : BoundParts) → Covers ls (map bound_path_view (parts_paths p))
    → Covers ls (map bound_path_view (condition_paths p.condition)) × Covers ls (map bound_path_view (selection_paths p.is_record_query p.keys.items p.items.items))
both_covered ls p h = cut_covers ls (condition_paths p.condition) (selection_paths p.is_record_query p.keys.items p.items.items) h

abbrev pub plan_parts : List Leaf → List Expression → Option cut.Joining → query.Selection → Option ObjectTree → Planned
plan_parts ls tests j s o = record { leaves = ls; conjuncts = tests; joining = j; selection = s; objects = o }

-- the plan of parts is that of their query
pub plan_seen : (fs : Fields) (levels : NamedLevels) (ls : List Leaf) (b : binding.BoundParts) (p : BoundParts) (tests : List Expression) (j : Option cut.Joining) (s : Selection) → AreParts fs ls b p → Covers ls (map bound_path_view (parts_paths p))
    → levels ≡ joined (query.levels_of fs) → ls ≡ query_leaves fs (query_of b) → tests ≡ condition_conjuncts ls p.condition → j ≡ condition_joining ls p.condition → Selects p.is_record_query levels ls p.keys.items p.items.items s
    → plan_parts ls tests j (selection_view ls s) (objects_of_plan s) ≡ planned fs (query_of b)
plan_seen fs levels ls b p tests j s h k e l t m w =
    let c = both_covered ls p k in
    let same : chosen p.is_record_query (map bound_path_view p.keys.items) (passing b.items) ≡ binding.selection_of b =
    ap₂ (λ (r : Bool) (ks : List meant.BoundPath). chosen r ks (passing b.items)) h.record_query h.keys in
    let tested : tests ≡ cut.condition_conjuncts (binding.condition_of b.condition) = t ∙ condition_seen fs ls b.condition p.condition h.condition c.0 in
    let joined_so : j ≡ cut.condition_joining (binding.condition_of b.condition) = m ∙ joining_seen fs ls b.condition p.condition h.condition c.0 in
    let selected : selection_view ls s ≡ binding.selection_of b = selection_seen fs levels ls p.is_record_query p.keys.items (passing b.items) p.items.items s h.items c.1 w ∙ same in
    let shown : objects_of_plan s ≡ objects_of_query fs (binding.selection_of b) =
    objects_seen fs levels ls p.is_record_query p.keys.items (passing b.items) p.items.items s h.items e w ∙ ap (objects_of_query fs) same in
    ap₂ (λ (v : List Leaf) (x : List Expression). plan_parts v x j (selection_view ls s) (objects_of_plan s)) l tested
    ∙ (ap (λ (i : Option cut.Joining). plan_parts (query_leaves fs (query_of b)) (cut.condition_conjuncts (binding.condition_of b.condition)) i (selection_view ls s) (objects_of_plan s)) joined_so
    ∙ ap₂ (λ (y : query.Selection) (z : Option ObjectTree). plan_parts (query_leaves fs (query_of b)) (cut.condition_conjuncts (binding.condition_of b.condition)) (cut.condition_joining (binding.condition_of b.condition)) y z) selected shown)

-- ---- leaves of a query cover the paths that it uses

same_itself : (p : List MeantStep) → same_path p p ≡ true
same_itself p = both (begins_with p p) (begins_with p p) (begins p) (begins p)
  where
    begins : (q : List MeantStep) → begins_with q q ≡ true
    begins [] = refl
    begins (s ∷ q) = both (s.place == s.place) (begins_with q q) (eq-eqb s.place s.place refl) (begins q)

any_middle : (f : List MeantStep → Bool) (before : List (List MeantStep)) (x : List MeantStep) (behind : List (List MeantStep)) → f x ≡ true → list_any f (before ++ x ∷ behind) ≡ true
any_middle f [] x behind h = ap (λ (b : Bool). b || list_any f behind) h
any_middle f (y ∷ before) x behind h = ap (λ (b : Bool). f y || b) (any_middle f before x behind h) ∙ either (f y)
  where
    either : (b : Bool) → (b || true) ≡ true
    either true = refl
    either false = refl

-- real leaves of paths that a query uses are among its leaves
covers_used : (fs : Fields) (q : query.Query) → length (query_leaves fs q) < 2 ^ 32 → (before : List (List MeantStep)) (ps : List meant.BoundPath) → used_paths q ≡ before ++ paths_at ps → AreReal fs ps
    → Covers (query_leaves fs q) ps
covers_used fs q short before [] u r = tt
covers_used fs q short before (p ∷ ps) u r =
    let used : list_any (same_path p.leaf.path) (used_paths q) ≡ true =
    ap (list_any (same_path p.leaf.path)) u ∙ any_middle (same_path p.leaf.path) before p.leaf.path (paths_at ps) (same_itself p.leaf.path) in
    let n = number_of_used fs q r.0.0 p.leaf r.0.1 used in
    let below : n.0 < length (query_leaves fs q) = slice_get_within (query_leaves fs q) n.0 n.1 n.3 in
    let fits : n.0 < 2 ^ 32 = omega (arith, below, short) in
    let next : used_paths q ≡ (before ++ p.leaf.path ∷ []) ++ paths_at ps = u ∙ sym (append_assoc before (p.leaf.path ∷ []) (paths_at ps)) in
    ((n.0, n.1, n.2, fits, n.3, n.4, n.5), covers_used fs q short (before ++ p.leaf.path ∷ []) ps next r.1)

-- ---- the paths of parts are real

real_parts : (fs : Fields) (ps qs : List BoundPath) → AreReal fs (map bound_path_view ps) → AreReal fs (map bound_path_view qs) → AreReal fs (map bound_path_view (ps ++ qs))
real_parts fs ps qs h k = subst (λ (rs : List meant.BoundPath). AreReal fs rs) (sym (map-append bound_path_view ps qs)) (real_joined fs (map bound_path_view ps) (map bound_path_view qs) h k)

expression_real : (fs : Fields) (ls : List Leaf) (e : meant.BoundExpression) (x : BoundExpression) → IsExpression fs ls e x → AreReal fs (map bound_path_view x.paths.items)
expression_real fs ls e x h = subst (λ (ps : List meant.BoundPath). AreReal fs ps) (sym h.paths) h.real

condition_real : (fs : Fields) (ls : List Leaf) (b : Checked (Option meant.BoundExpression)) (c : Option BoundCondition) → IsCheckedCondition fs ls b c → AreReal fs (map bound_path_view (condition_paths c))
condition_real fs ls (passes None) None h = tt
condition_real fs ls (passes None) (Some c) h = absurd h
condition_real fs ls (passes (Some b)) None h = absurd h
condition_real fs ls (passes (Some b)) (Some c) h = subst (λ (ps : List meant.BoundPath). AreReal fs ps) (sym h.paths) h.real
condition_real fs ls (fails e es) None h = tt
condition_real fs ls (fails e es) (Some c) h = absurd h

record_term_real : (fs : Fields) (ls : List Leaf) (t : binding.BoundTerm) (u : BoundTerm) → IsTerm fs ls t u → AreReal fs (map bound_path_view (record_paths u))
record_term_real fs ls =
    let P : binding.BoundTerm → BoundTerm → Type 0 = λ t u. AreReal fs (map bound_path_view (record_paths u)) in
    term_cases fs ls P (λ e x h. expression_real fs ls e x h) tt (λ v. tt) (λ f e x h. tt) (λ f e x v h. expression_real fs ls e x h)

record_items_real : (fs : Fields) (ls : List Leaf) (bs : List binding.BoundItem) (xs : List BoundItem) → AreItems fs ls bs xs → AreReal fs (map bound_path_view (record_item_paths xs))
record_items_real fs ls [] [] h = tt
record_items_real fs ls [] (x ∷ xs) h = absurd h
record_items_real fs ls (b ∷ bs) [] h = absurd h
record_items_real fs ls (b ∷ bs) (x ∷ xs) h = real_parts fs (record_paths x.term) (record_item_paths xs) (record_term_real fs ls b.term x.term h.0.term) (record_items_real fs ls bs xs h.1)

group_term_real : (fs : Fields) (ls : List Leaf) (t : binding.BoundTerm) (u : BoundTerm) → IsTerm fs ls t u → AreReal fs (map bound_path_view (group_paths u))
group_term_real fs ls =
    let P : binding.BoundTerm → BoundTerm → Type 0 = λ t u. AreReal fs (map bound_path_view (group_paths u)) in
    term_cases fs ls P (λ e x h. tt) tt (λ v. tt) (λ f e x h. expression_real fs ls e x h) (λ f e x v h. tt)

group_items_real : (fs : Fields) (ls : List Leaf) (bs : List binding.BoundItem) (xs : List BoundItem) → AreItems fs ls bs xs → AreReal fs (map bound_path_view (group_item_paths xs))
group_items_real fs ls [] [] h = tt
group_items_real fs ls [] (x ∷ xs) h = absurd h
group_items_real fs ls (b ∷ bs) [] h = absurd h
group_items_real fs ls (b ∷ bs) (x ∷ xs) h = real_parts fs (group_paths x.term) (group_item_paths xs) (group_term_real fs ls b.term x.term h.0.term) (group_items_real fs ls bs xs h.1)

selection_real : (fs : Fields) (ls : List Leaf) (r : Bool) (keys : List BoundPath) (bs : List binding.BoundItem) (xs : List BoundItem) → AreItems fs ls bs xs → AreReal fs (map bound_path_view keys)
    → AreReal fs (map bound_path_view (selection_paths r keys xs))
selection_real fs ls true keys bs xs h k = record_items_real fs ls bs xs h
selection_real fs ls false keys bs xs h k = real_parts fs keys (group_item_paths xs) k (group_items_real fs ls bs xs h)

-- ---- SUM is of numbers

sum_of : (y : Expr) (g : ValueType) → type_of y ≡ g → g ≡ number_type → is_summed Fold.Sum y ≡ true
sum_of (Expr.Truth a) g h k = absurd (cc)
sum_of (Expr.Number a) g h k = refl
sum_of (Expr.Text a) g h k = absurd (cc)

sums_of : (f : Fold) (e : meant.BoundExpression) (w : Option binding.BoundWithin) (y : Expr) → type_of y ≡ e.gives → SumsNumbers (aggregated (fold_view f) e w) → is_summed f y ≡ true
sums_of Fold.Count e w y h s = refl
sums_of Fold.Sum e w y h s = sum_of y e.gives h s
sums_of Fold.Least e w y h s = refl
sums_of Fold.Greatest e w y h s = refl

term_summed : (fs : Fields) (ls : List Leaf) (t : binding.BoundTerm) (u : BoundTerm) → IsTerm fs ls t u → SumsNumbers t → sums_numbers u ≡ true
term_summed fs ls =
    let P : binding.BoundTerm → BoundTerm → Type 0 = λ t u. SumsNumbers t → sums_numbers u ≡ true in
    term_cases fs ls P
    (λ e x h s. refl)
    (λ s. refl)
    (λ v s. refl)
    (λ f e x h s. sums_of f e None x.expression.value h.gives s)
    (λ f e x v h s. sums_of f e (Some (within_view v)) x.expression.value h.gives s)

items_summed : (fs : Fields) (ls : List Leaf) (bs : List binding.BoundItem) (xs : List BoundItem) → AreItems fs ls bs xs → AllSumNumbers bs → all_summed xs ≡ true
items_summed fs ls [] [] h s = refl
items_summed fs ls [] (x ∷ xs) h s = absurd h
items_summed fs ls (b ∷ bs) [] h s = absurd h
items_summed fs ls (b ∷ bs) (x ∷ xs) h s = both (sums_numbers x.term) (all_summed xs) (term_summed fs ls b.term x.term h.0.term s.0) (items_summed fs ls bs xs h.1 s.1)

-- parts can be planned over the leaves of their query
pub can_be_planned : (fs : Fields) (ls : List Leaf) (b : binding.BoundParts) (p : BoundParts) → AreParts fs ls b p → ls ≡ query_leaves fs (query_of b) → length ls < 2 ^ 32
    → AreReal fs (passing b.keys) → AllSumNumbers (passing b.items) → CanBePlanned ls p
can_be_planned fs ls b p h l short keys sums =
    let q = query_of b in
    let real : AreReal fs (map bound_path_view (parts_paths p)) =
    real_parts fs (condition_paths p.condition) (selection_paths p.is_record_query p.keys.items p.items.items) (condition_real fs ls b.condition p.condition h.condition)
    (selection_real fs ls p.is_record_query p.keys.items (passing b.items) p.items.items h.items (subst (λ (ps : List meant.BoundPath). AreReal fs ps) (sym h.keys) keys)) in
    let few : length (query_leaves fs q) < 2 ^ 32 = subst (λ (ms : List Leaf). length ms < 2 ^ 32) l short in
    let covers : Covers (query_leaves fs q) (map bound_path_view (parts_paths p)) = covers_used fs q few [] (map bound_path_view (parts_paths p)) (sym (parts_used fs ls b p h)) real in
    record {
      fields = fs;
      bound = b;
      parts = h;
      covered = subst (λ (ms : List Leaf). Covers ms (map bound_path_view (parts_paths p))) (sym l) covers;
      summed = items_summed fs ls (passing b.items) p.items.items h.items sums;
    }

-- ---- parts that come of a syntax tree

path_real : (fs : Fields) (p : PathSyntax) (b : meant.BoundPath) → meant.bind_path fs p ≡ passes b → (i : ℕ) × (slice_get (leaves fs) i ≡ Some b.leaf)
path_real fs p b h = by_leaf (found_leaf p.names (find_path p.names fs)) refl h
  where
    by_leaf : (r : Result Leaf PathFault) → found_leaf p.names (find_path p.names fs) ≡ r → meant.at_place p.place r ≡ passes b → (i : ℕ) × (slice_get (leaves fs) i ≡ Some b.leaf)
    by_leaf (Err e) f g = absurd (cc)
    by_leaf (Ok l) f g =
        let whole : meant.BoundPath = record { place = p.place; leaf = l } in
        let same : whole ≡ b = cc in
        let n = in_at l (leaves fs) (of_found p.names fs (find_path p.names fs) l refl f).0 in
        (n.0, n.1 ∙ ap (λ (x : meant.BoundPath). Some x.leaf) same)

keys_real : (fs : Fields) (ks : List PathSyntax) → AreReal fs (passing (map (meant.bind_path fs) ks))
keys_real fs [] = tt
keys_real fs (k ∷ ks) = by_check (meant.bind_path fs k) refl (keys_real fs ks)
  where
    by_check : (c : Checked meant.BoundPath) → meant.bind_path fs k ≡ c → AreReal fs (passing (map (meant.bind_path fs) ks)) → AreReal fs (passing (c ∷ map (meant.bind_path fs) ks))
    by_check (passes b) h later = (path_real fs k b h, later)
    by_check (fails e es) h later = later

abbrev IfPassed : Checked binding.BoundTerm → Type 0
IfPassed (passes t) = SumsNumbers t
IfPassed (fails e es) = Unit {0}

sum_checked : (i : ℕ) (x : meant.BoundExpression) (d : Checked (Option binding.BoundWithin)) → IfPassed (meant.together (aggregated query.sum) (meant.of_type number_type i x) d)
sum_checked i x d = by_type x.gives refl d
  where
    by_type : (g : ValueType) → x.gives ≡ g → (w : Checked (Option binding.BoundWithin)) → IfPassed (meant.together (aggregated query.sum) (if meant.same_type g number_type then passes x else meant.fails_at i meant.type_mismatch) w)
    by_type number_type h (passes w) = h
    by_type number_type h (fails e es) = tt
    by_type truth_type h (passes w) = tt
    by_type truth_type h (fails e es) = tt
    by_type text_type h (passes w) = tt
    by_type text_type h (fails e es) = tt

aggregate_checked : (a : query.Aggregate) (i : ℕ) (c : Checked meant.BoundExpression) (d : Checked (Option binding.BoundWithin)) → IfPassed (meant.together (aggregated a) (meant.then_check (binding.argument_of a i) c) d)
aggregate_checked query.sum i (passes x) d = sum_checked i x d
aggregate_checked query.count i (passes x) (passes w) = tt
aggregate_checked query.count i (passes x) (fails e es) = tt
aggregate_checked query.least i (passes x) (passes w) = tt
aggregate_checked query.least i (passes x) (fails e es) = tt
aggregate_checked query.greatest i (passes x) (passes w) = tt
aggregate_checked query.greatest i (passes x) (fails e es) = tt
aggregate_checked a i (fails g gs) (passes w) = tt
aggregate_checked a i (fails g gs) (fails e es) = tt

term_checked : (fs : Fields) (i : ℕ) (t : TermSyntax) → IfPassed (binding.bind_term fs i t)
term_checked fs i (expression_syntax e) = by_check (meant.bind_expression fs e)
  where
    by_check : (c : Checked meant.BoundExpression) → IfPassed (meant.checked_map plain c)
    by_check (passes x) = tt
    by_check (fails g gs) = tt
term_checked fs i (count_rows_syntax w) = by_check (binding.bind_within fs w)
  where
    by_check : (c : Checked (Option binding.BoundWithin)) → IfPassed (meant.checked_map rows_counted c)
    by_check (passes x) = tt
    by_check (fails g gs) = tt
term_checked fs i (aggregate_syntax a e w) = aggregate_checked a i (meant.bind_expression fs e) (binding.bind_within fs w)

abbrev named_item : ℕ → List ℕ → binding.BoundTerm → binding.BoundItem
named_item i name t = record { place = i; name = name; term = t }

items_checked : (fs : Fields) (n : ℕ) (is : List ItemSyntax) → AllSumNumbers (passing (binding.bind_items fs n is))
items_checked fs n [] = tt
items_checked fs n (i ∷ is) = by_check (binding.bind_term fs i.place i.term) (term_checked fs i.place i.term) (items_checked fs (suc n) is)
  where
    by_check : (c : Checked binding.BoundTerm) → IfPassed c → AllSumNumbers (passing (binding.bind_items fs (suc n) is))
        → AllSumNumbers (passing (meant.checked_map (λ (t : binding.BoundTerm). named_item i.place (binding.item_name n i.term i.name) t) c ∷ binding.bind_items fs (suc n) is))
    by_check (passes t) h later = (h, later)
    by_check (fails e es) h later = later

-- the parts of a syntax tree can be planned over the leaves of its query
pub parts_can_be_planned : (fs : Fields) (ls : List Leaf) (q : QuerySyntax) (p : BoundParts) → AreParts fs ls (binding.bind_parts fs q) p → ls ≡ query_leaves fs (query_of (binding.bind_parts fs q)) → length ls < 2 ^ 32
    → CanBePlanned ls p
parts_can_be_planned fs ls q p h l short = can_be_planned fs ls (binding.bind_parts fs q) p h l short (keys_real fs q.keys) (items_checked fs 0 q.items)
