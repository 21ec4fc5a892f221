-- What parts of a query select.
use Rattle.std.proofs.Common.{◌≡◌, ℕ, suc, ◌<◌, List, [], ◌∷◌, ◌++◌, map, length, Bool, true, false, ◌&&◌, nat_lt, Option, Some, None, refl, sym, ap, ap₂, ◌∙◌, subst, append_assoc, arith}
use Rattle.std.specs.Prelude.{option_map, string_bytes, String, if◌then◌else◌}
use Rattle.std.specs.declared.alloc.Global.{Global}
use Rattle.std.specs.List.{list_all, filter_map, cons_option, slice_get}
use Rattle.std.proofs.lemmas.List.{map-append, length-map, length_push}
use Rattle.std.proofs.lemmas.Bool.{lt-ltb, and_parts}
use Rattle.dr_meaning.specs.Schema.{Fields}
use Rattle.dr_meaning.specs.Path.{Step as MeantStep, Leaf, same_path, chain_end}
use Rattle.dr_meaning.specs.Expression.{Expression, path_value, paths_of, longest_chain}
use Rattle.dr_meaning.specs.BoundExpression as meant
use Rattle.dr_meaning.specs.BoundExpression.{Checked, passes, fails}
use Rattle.dr_meaning.specs.Binding as binding
use Rattle.dr_meaning.specs.Query as query
use Rattle.dr_nested.specs.PathView.{step_view}
use Rattle.dr_plan.specs.Conjuncts as cut
use Rattle.dr_plan.specs.Views.{fold_view, path_of, record_item_view, aggregate_view, found_term, group_item_view, selection_view}
use Rattle.dr_plan.specs.Fitting.{expr_fits, is_summed, record_term_fits, aggregate_fits, has_key, aggregate_number, are_numbered, selection_fits}
use Rattle.dr_plan.specs.Planned.{objects_of_plan, objects_of_query}
use Rattle.dr_plan.specs.declared.aggregate.Aggregate.{Aggregate}
use Rattle.dr_plan.specs.declared.plan.RecordTerm.{RecordTerm}
use Rattle.dr_plan.specs.declared.plan.RecordItem.{RecordItem}
use Rattle.dr_plan.specs.declared.plan.GroupItem.{GroupItem}
use Rattle.dr_plan.specs.declared.plan.Selection.{Selection}
use Rattle.dr_planning.specs.NamedLevels.{NamedLevels, joined}
use Rattle.dr_paths.specs.declared.bound.BoundPath.{BoundPath}
use Rattle.dr_paths.specs.Views.{bound_path_view, paths_at}
use Rattle.dr_resolve.specs.declared.bound.BoundExpression.{BoundExpression}
use Rattle.dr_resolve.specs.declared.bound.BoundCondition.{BoundCondition}
use Rattle.dr_resolve.specs.declared.bound.BoundTerm.{BoundTerm}
use Rattle.dr_resolve.specs.declared.bound.BoundItem.{BoundItem}
use Rattle.dr_planning.specs.declared.groups.Grouped.{Grouped}
use Rattle.dr_resolve.specs.Bound.{Covers, is_path_value, Means, IsExpression}
use Rattle.dr_resolve.specs.Items.{IsTerm, AreItems}
use Rattle.dr_resolve.specs.Parts.{IsCheckedCondition}
use Rattle.dr_planning.specs.Planning.{condition_paths, record_paths, group_paths, record_item_paths, group_item_paths, selection_paths, steps_at}
use Rattle.dr_planning.specs.Planning.{condition_conjuncts, condition_joining, condition_fits, record_term_of, record_item_of, record_chain, record_chains}
use Rattle.dr_planning.specs.Planning.{place_of_first, key_number, grouped_of, with_aggregate, aggregates_of, with_group_item, group_items_of, Selects}
use Rattle.dr_planning.specs.Planning.{sums_numbers}
use Rattle.dr_resolve.proofs.BoundLemmas.{covers_parts}
use Rattle.dr_planning.proofs.PlanPathLemmas.{term_cases, expression_paths, named_record, named_group, chosen}
use Rattle.dr_planning.proofs.PlanStepLemmas.{both}

-- ---- leaves that cover paths

pub cut_covers : (ls : List Leaf) (ps qs : List BoundPath) → Covers ls (map bound_path_view (ps ++ qs)) → Covers ls (map bound_path_view ps) × Covers ls (map bound_path_view qs)
cut_covers ls ps qs h = covers_parts ls (map bound_path_view ps) (map bound_path_view qs) (subst (λ (rs : List meant.BoundPath). Covers ls rs) (map-append bound_path_view ps qs) h)

expression_means : (fs : Fields) (ls : List Leaf) (e : meant.BoundExpression) (x : BoundExpression) → IsExpression fs ls e x → Covers ls (map bound_path_view x.paths.items) → Means ls e x.expression.value
expression_means fs ls e x h k = h.means (subst (λ (ps : List meant.BoundPath). Covers ls ps) h.paths k)

-- ---- the condition

pub condition_seen : (fs : Fields) (ls : List Leaf) (b : Checked (Option meant.BoundExpression)) (c : Option BoundCondition) → IsCheckedCondition fs ls b c → Covers ls (map bound_path_view (condition_paths c))
    → condition_conjuncts ls c ≡ cut.condition_conjuncts (binding.condition_of b)
condition_seen fs ls (passes None) None h k = refl
condition_seen fs ls (passes None) (Some c) h k = absurd h
condition_seen fs ls (passes (Some b)) None h k = absurd h
condition_seen fs ls (passes (Some b)) (Some c) h k = ap cut.conjuncts (h.view (subst (λ (ps : List meant.BoundPath). Covers ls ps) h.paths k))
condition_seen fs ls (fails e es) None h k = refl
condition_seen fs ls (fails e es) (Some c) h k = absurd h

pub joining_seen : (fs : Fields) (ls : List Leaf) (b : Checked (Option meant.BoundExpression)) (c : Option BoundCondition) → IsCheckedCondition fs ls b c → Covers ls (map bound_path_view (condition_paths c))
    → condition_joining ls c ≡ cut.condition_joining (binding.condition_of b)
joining_seen fs ls (passes None) None h k = refl
joining_seen fs ls (passes None) (Some c) h k = absurd h
joining_seen fs ls (passes (Some b)) None h k = absurd h
joining_seen fs ls (passes (Some b)) (Some c) h k = ap (λ (e : Expression). Some (cut.joining_from 0 e)) (h.view (subst (λ (ps : List meant.BoundPath). Covers ls ps) h.paths k))
joining_seen fs ls (fails e es) None h k = refl
joining_seen fs ls (fails e es) (Some c) h k = absurd h

pub condition_right : (fs : Fields) (ls : List Leaf) (b : Checked (Option meant.BoundExpression)) (c : Option BoundCondition) → IsCheckedCondition fs ls b c → Covers ls (map bound_path_view (condition_paths c))
    → condition_fits ls c ≡ true
condition_right fs ls (passes None) None h k = refl
condition_right fs ls (passes None) (Some c) h k = absurd h
condition_right fs ls (passes (Some b)) None h k = absurd h
condition_right fs ls (passes (Some b)) (Some c) h k = h.fits (subst (λ (ps : List meant.BoundPath). Covers ls ps) h.paths k)
condition_right fs ls (fails e es) None h k = refl
condition_right fs ls (fails e es) (Some c) h k = absurd h

-- ---- record queries

abbrev made_record : String Global → Option RecordTerm → Option RecordItem
made_record n o = option_map (λ (t : RecordTerm). record { name = n; term = t }) o

abbrev item_fits : List Leaf → RecordItem → Bool
item_fits ls i = record_term_fits ls i.term

record_term_seen : (fs : Fields) (ls : List Leaf) (name : List ℕ) (n : String Global) (ys : List RecordItem) (zs : List query.RecordItem) → string_bytes n ≡ name → map (record_item_view ls) ys ≡ zs
    → (t : binding.BoundTerm) (u : BoundTerm) → IsTerm fs ls t u → Covers ls (map bound_path_view (record_paths u))
    → map (record_item_view ls) (cons_option (made_record n (record_term_of u)) ys) ≡ cons_option (named_record name (binding.record_term t)) zs
record_term_seen fs ls name n ys zs en ey =
    let P : binding.BoundTerm → BoundTerm → Type 0 = λ t u. Covers ls (map bound_path_view (record_paths u))
    → map (record_item_view ls) (cons_option (made_record n (record_term_of u)) ys) ≡ cons_option (named_record name (binding.record_term t)) zs in
    let one : List ℕ → query.RecordTerm → query.RecordItem = λ s t. record { name = s; term = t } in
    let joins : List query.RecordItem → query.RecordItem → List query.RecordItem = λ is i. i ∷ is in
    term_cases fs ls P
    (λ e x h k. ap₂ joins ey (ap₂ one en (ap query.expression (expression_means fs ls e x h k).view)))
    (λ k. ey)
    (λ v k. ey)
    (λ f e x h k. ey)
    (λ f e x v h k. ap₂ joins ey (ap₂ one en (ap (λ (y : Expression). query.within (fold_view f) y (map step_view v.node.items)) (expression_means fs ls e x h k).view)))

record_items_seen : (fs : Fields) (ls : List Leaf) (bs : List binding.BoundItem) (xs : List BoundItem) → AreItems fs ls bs xs → Covers ls (map bound_path_view (record_item_paths xs))
    → map (record_item_view ls) (filter_map record_item_of xs) ≡ filter_map binding.record_item bs
record_items_seen fs ls [] [] h k = refl
record_items_seen fs ls [] (x ∷ xs) h k = absurd h
record_items_seen fs ls (b ∷ bs) [] h k = absurd h
record_items_seen fs ls (b ∷ bs) (x ∷ xs) h k =
    let c = cut_covers ls (record_paths x.term) (record_item_paths xs) k in
    record_term_seen fs ls b.name x.name (filter_map record_item_of xs) (filter_map binding.record_item bs) h.0.name (record_items_seen fs ls bs xs h.1 c.1) b.term x.term h.0.term c.0

record_term_right : (fs : Fields) (ls : List Leaf) (n : String Global) (ys : List RecordItem) → list_all (item_fits ls) ys ≡ true
    → (t : binding.BoundTerm) (u : BoundTerm) → IsTerm fs ls t u → Covers ls (map bound_path_view (record_paths u)) → sums_numbers u ≡ true
    → list_all (item_fits ls) (cons_option (made_record n (record_term_of u)) ys) ≡ true
record_term_right fs ls n ys ey =
    let P : binding.BoundTerm → BoundTerm → Type 0 = λ t u. Covers ls (map bound_path_view (record_paths u)) → sums_numbers u ≡ true → list_all (item_fits ls) (cons_option (made_record n (record_term_of u)) ys) ≡ true in
    term_cases fs ls P
    (λ e x h k s. both (expr_fits ls x.expression.value) (list_all (item_fits ls) ys) (expression_means fs ls e x h k).fits ey)
    (λ k s. ey)
    (λ v k s. ey)
    (λ f e x h k s. ey)
    (λ f e x v h k s. both (expr_fits ls x.expression.value && is_summed f x.expression.value) (list_all (item_fits ls) ys) (both (expr_fits ls x.expression.value) (is_summed f x.expression.value) (expression_means fs ls e x h k).fits s) ey)

abbrev pub all_summed : List BoundItem → Bool
all_summed xs = list_all (λ (x : BoundItem). sums_numbers x.term) xs

record_items_right : (fs : Fields) (ls : List Leaf) (bs : List binding.BoundItem) (xs : List BoundItem) → AreItems fs ls bs xs → Covers ls (map bound_path_view (record_item_paths xs)) → all_summed xs ≡ true
    → list_all (item_fits ls) (filter_map record_item_of xs) ≡ true
record_items_right fs ls [] [] h k s = refl
record_items_right fs ls [] (x ∷ xs) h k s = absurd h
record_items_right fs ls (b ∷ bs) [] h k s = absurd h
record_items_right fs ls (b ∷ bs) (x ∷ xs) h k s =
    let c = cut_covers ls (record_paths x.term) (record_item_paths xs) k in
    let r = and_parts (sums_numbers x.term) (all_summed xs) s in
    record_term_right fs ls x.name (filter_map record_item_of xs) (record_items_right fs ls bs xs h.1 c.1 r.1) b.term x.term h.0.term c.0 r.0

abbrev term_chains : List query.RecordItem → List (List MeantStep)
term_chains is = map (λ (i : query.RecordItem). query.term_chain i.term) is

record_term_chain : (fs : Fields) (ls : List Leaf) (name : List ℕ) (zs : List query.RecordItem) (qs : List (List MeantStep)) → term_chains zs ≡ qs
    → (t : binding.BoundTerm) (u : BoundTerm) → IsTerm fs ls t u → term_chains (cons_option (named_record name (binding.record_term t)) zs) ≡ cons_option (record_chain u) qs
record_term_chain fs ls name zs qs ez =
    let P : binding.BoundTerm → BoundTerm → Type 0 = λ t u. term_chains (cons_option (named_record name (binding.record_term t)) zs) ≡ cons_option (record_chain u) qs in
    term_cases fs ls P
    (λ e x h. ap₂ (λ (rs : List (List MeantStep)) (r : List MeantStep). r ∷ rs) ez (ap longest_chain (sym (expression_paths fs ls e x h))))
    ez
    (λ v. ez)
    (λ f e x h. ez)
    (λ f e x v h. ap (λ (rs : List (List MeantStep)). chain_end (map step_view v.node.items) ∷ rs) ez)

record_items_chains : (fs : Fields) (ls : List Leaf) (bs : List binding.BoundItem) (xs : List BoundItem) → AreItems fs ls bs xs → term_chains (filter_map binding.record_item bs) ≡ record_chains xs
record_items_chains fs ls [] [] h = refl
record_items_chains fs ls [] (x ∷ xs) h = absurd h
record_items_chains fs ls (b ∷ bs) [] h = absurd h
record_items_chains fs ls (b ∷ bs) (x ∷ xs) h = record_term_chain fs ls b.name (filter_map binding.record_item bs) (record_chains xs) (record_items_chains fs ls bs xs h.1) b.term x.term h.0.term

-- ---- the terms of aggregate queries

abbrev grouped_view : List Leaf → Grouped → query.GroupTerm
grouped_view ls (Grouped.Key k) = query.key k
grouped_view ls (Grouped.Aggregate a) = aggregate_view ls a

key_is : (keys : List meant.BoundPath) (e : Expression) → binding.key_of keys e ≡ (if is_path_value e then place_of_first keys (paths_of e) else None)
key_is keys (path_value p) = refl
key_is keys e = refl

key_seen : (fs : Fields) (ls : List Leaf) (keys : List BoundPath) (e : meant.BoundExpression) (x : BoundExpression) → IsExpression fs ls e x → key_number keys x ≡ binding.key_of (map bound_path_view keys) e.expression
key_seen fs ls keys e x h =
    ap₂ (λ (b : Bool) (ps : List (List MeantStep)). if b then place_of_first (map bound_path_view keys) ps else None) h.alone (expression_paths fs ls e x h) ∙ sym (key_is (map bound_path_view keys) e.expression)

keys_seen : (ls : List Leaf) (o : Option ℕ) → option_map (grouped_view ls) (option_map (λ k. Grouped.Key k) o) ≡ option_map query.key o
keys_seen ls None = refl
keys_seen ls (Some k) = refl

group_term_seen : (fs : Fields) (ls : List Leaf) (keys : List BoundPath) (t : binding.BoundTerm) (u : BoundTerm) → IsTerm fs ls t u → Covers ls (map bound_path_view (group_paths u))
    → option_map (grouped_view ls) (grouped_of keys u) ≡ binding.group_term (map bound_path_view keys) t
group_term_seen fs ls keys =
    let P : binding.BoundTerm → BoundTerm → Type 0 = λ t u. Covers ls (map bound_path_view (group_paths u)) → option_map (grouped_view ls) (grouped_of keys u) ≡ binding.group_term (map bound_path_view keys) t in
    term_cases fs ls P
    (λ e x h k. keys_seen ls (key_number keys x) ∙ ap (option_map query.key) (key_seen fs ls keys e x h))
    (λ k. refl)
    (λ v k. refl)
    (λ f e x h k. ap (λ (y : Expression). Some (query.aggregate (fold_view f) y)) (expression_means fs ls e x h k).view)
    (λ f e x v h k. refl)

-- ---- the items of aggregate queries

at_middle : {X : Type 0} (before : List X) (x : X) (behind : List X) (n : ℕ) → length before ≡ n → slice_get (before ++ x ∷ behind) n ≡ Some x
at_middle [] x behind n h = ap (slice_get (x ∷ behind)) (sym h)
at_middle (y ∷ before) x behind n h = ap (slice_get (y ∷ before ++ x ∷ behind)) (sym h) ∙ at_middle before x behind (length before) refl

abbrev seen_aggregates : List Leaf → List BoundPath → List BoundItem → List query.GroupTerm
seen_aggregates ls keys xs = map (aggregate_view ls) (aggregates_of keys xs)

-- the items are those wanted, whatever aggregates stand before theirs
abbrev AreGrouped : List Leaf → List BoundPath → List BoundItem → List query.GroupItem → Type 0
AreGrouped ls keys xs zs = (before : List query.GroupTerm) (n : ℕ) → length before ≡ n → map (group_item_view (before ++ seen_aggregates ls keys xs)) (group_items_of keys n xs) ≡ zs

abbrev one_grouped : List ℕ → query.GroupTerm → query.GroupItem
one_grouped s t = record { name = s; term = t }

group_item_seen : (ls : List Leaf) (keys : List BoundPath) (xs : List BoundItem) (zs : List query.GroupItem) (name : List ℕ) (nm : String Global) → string_bytes nm ≡ name → AreGrouped ls keys xs zs
    → (o : Option Grouped) (g : Option query.GroupTerm) → option_map (grouped_view ls) o ≡ g → (before : List query.GroupTerm) (n : ℕ) → length before ≡ n
    → map (group_item_view (before ++ map (aggregate_view ls) (with_aggregate o (aggregates_of keys xs)))) (with_group_item n nm o (λ m. group_items_of keys m xs)) ≡ cons_option (named_group name g) zs
group_item_seen ls keys xs zs name nm en later None g e before n l = later before n l ∙ ap (λ (q : Option query.GroupTerm). cons_option (named_group name q) zs) e
group_item_seen ls keys xs zs name nm en later (Some (Grouped.Key k)) g e before n l =
    ap₂ (λ (is : List query.GroupItem) (s : List ℕ). one_grouped s (query.key k) ∷ is) (later before n l) en ∙ ap (λ (q : Option query.GroupTerm). cons_option (named_group name q) zs) e
group_item_seen ls keys xs zs name nm en later (Some (Grouped.Aggregate a)) g e before n l =
    let own = aggregate_view ls a in
    let behind = seen_aggregates ls keys xs in
    let place : found_term (slice_get (before ++ own ∷ behind) n) ≡ own = ap found_term (at_middle before own behind n l) in
    let moved : before ++ own ∷ behind ≡ (before ++ own ∷ []) ++ behind = sym (append_assoc before (own ∷ []) behind) in
    let longer : length (before ++ own ∷ []) ≡ suc n = length_push before own ∙ omega (arith, l) in
    let rest : map (group_item_view (before ++ own ∷ behind)) (group_items_of keys (suc n) xs) ≡ zs =
    ap (λ (ts : List query.GroupTerm). map (group_item_view ts) (group_items_of keys (suc n) xs)) moved ∙ later (before ++ own ∷ []) (suc n) longer in
    ap₂ (λ (is : List query.GroupItem) (i : query.GroupItem). i ∷ is) rest (ap₂ one_grouped en place) ∙ ap (λ (q : Option query.GroupTerm). cons_option (named_group name q) zs) e

group_items_seen : (fs : Fields) (ls : List Leaf) (keys : List BoundPath) (bs : List binding.BoundItem) (xs : List BoundItem) → AreItems fs ls bs xs → Covers ls (map bound_path_view (group_item_paths xs))
    → AreGrouped ls keys xs (filter_map (binding.group_item (map bound_path_view keys)) bs)
group_items_seen fs ls keys [] [] h k = λ before n l. refl
group_items_seen fs ls keys [] (x ∷ xs) h k = absurd h
group_items_seen fs ls keys (b ∷ bs) [] h k = absurd h
group_items_seen fs ls keys (b ∷ bs) (x ∷ xs) h k =
    let c = cut_covers ls (group_paths x.term) (group_item_paths xs) k in
    group_item_seen ls keys xs (filter_map (binding.group_item (map bound_path_view keys)) bs) b.name x.name h.0.name (group_items_seen fs ls keys bs xs h.1 c.1)
    (grouped_of keys x.term) (binding.group_term (map bound_path_view keys) b.term) (group_term_seen fs ls keys b.term x.term h.0.term c.0)

-- ---- whether aggregate queries fit

with_key : (o : Option ℕ) (ags : List Aggregate) → with_aggregate (option_map (λ k. Grouped.Key k) o) ags ≡ ags
with_key None ags = refl
with_key (Some k) ags = refl

aggregate_right : (fs : Fields) (ls : List Leaf) (keys : List BoundPath) (ags : List Aggregate) → list_all (aggregate_fits ls) ags ≡ true
    → (t : binding.BoundTerm) (u : BoundTerm) → IsTerm fs ls t u → Covers ls (map bound_path_view (group_paths u)) → sums_numbers u ≡ true → list_all (aggregate_fits ls) (with_aggregate (grouped_of keys u) ags) ≡ true
aggregate_right fs ls keys ags ea =
    let P : binding.BoundTerm → BoundTerm → Type 0 = λ t u. Covers ls (map bound_path_view (group_paths u)) → sums_numbers u ≡ true → list_all (aggregate_fits ls) (with_aggregate (grouped_of keys u) ags) ≡ true in
    term_cases fs ls P
    (λ e x h k s. ap (list_all (aggregate_fits ls)) (with_key (key_number keys x) ags) ∙ ea)
    (λ k s. ea)
    (λ v k s. ea)
    (λ f e x h k s. both (expr_fits ls x.expression.value && is_summed f x.expression.value) (list_all (aggregate_fits ls) ags) (both (expr_fits ls x.expression.value) (is_summed f x.expression.value) (expression_means fs ls e x h k).fits s) ea)
    (λ f e x v h k s. ea)

aggregates_right : (fs : Fields) (ls : List Leaf) (keys : List BoundPath) (bs : List binding.BoundItem) (xs : List BoundItem) → AreItems fs ls bs xs → Covers ls (map bound_path_view (group_item_paths xs)) → all_summed xs ≡ true
    → list_all (aggregate_fits ls) (aggregates_of keys xs) ≡ true
aggregates_right fs ls keys [] [] h k s = refl
aggregates_right fs ls keys [] (x ∷ xs) h k s = absurd h
aggregates_right fs ls keys (b ∷ bs) [] h k s = absurd h
aggregates_right fs ls keys (b ∷ bs) (x ∷ xs) h k s =
    let c = cut_covers ls (group_paths x.term) (group_item_paths xs) k in
    let r = and_parts (sums_numbers x.term) (all_summed xs) s in
    aggregate_right fs ls keys (aggregates_of keys xs) (aggregates_right fs ls keys bs xs h.1 c.1 r.1) b.term x.term h.0.term c.0 r.0

place_below : (keys : List meant.BoundPath) (p : List MeantStep) (k : ℕ) → binding.place_among keys p ≡ Some k → k < length keys
place_below [] p k h = absurd (cc)
place_below (q ∷ keys) p k h = by_same (same_path q.leaf.path p) (binding.place_among keys p) (place_below keys p) h
  where
    by_same : (b : Bool) (o : Option ℕ) → ((j : ℕ) → o ≡ Some j → j < length keys) → (if b then Some 0 else option_map (λ i. suc i) o) ≡ Some k → k < suc (length keys)
    by_same true o later e = let z : 0 ≡ k = cc in omega (arith, z)
    by_same false None later e = absurd (cc)
    by_same false (Some j) later e = let z : suc j ≡ k = cc in omega (arith, z, later j refl)

first_below : (keys : List meant.BoundPath) (b : Bool) (ps : List (List MeantStep)) (k : ℕ) → (if b then place_of_first keys ps else None) ≡ Some k → k < length keys
first_below keys true [] k h = absurd (cc)
first_below keys true (p ∷ ps) k h = place_below keys p k h
first_below keys false ps k h = absurd (cc)

key_alone : (o : Option ℕ) (k : ℕ) → option_map (λ j. Grouped.Key j) o ≡ Some (Grouped.Key k) → o ≡ Some k
key_alone None k h = absurd (cc)
key_alone (Some j) k h = let z : j ≡ k = cc in ap (λ i. Some i) z

key_below : (keys : List BoundPath) (u : BoundTerm) (k : ℕ) → grouped_of keys u ≡ Some (Grouped.Key k) → k < length keys
key_below keys (BoundTerm.Value x) k h =
    subst (λ (n : ℕ). k < n) (length-map keys bound_path_view) (first_below (map bound_path_view keys) x.is_path (steps_at x.paths.items) k (key_alone (key_number keys x) k h))
key_below keys (BoundTerm.Rows None) k h = absurd (cc)
key_below keys (BoundTerm.Rows (Some w)) k h = absurd (cc)
key_below keys (BoundTerm.Aggregated f x None) k h = absurd (cc)
key_below keys (BoundTerm.Aggregated f x (Some w)) k h = absurd (cc)

abbrev all_keyed : ℕ → List GroupItem → Bool
all_keyed n is = list_all (λ (i : GroupItem). has_key n i.term) is

item_keyed : (keys : List BoundPath) (xs : List BoundItem) (nm : String Global) (n : ℕ) (o : Option Grouped) → ((k : ℕ) → o ≡ Some (Grouped.Key k) → k < length keys)
    → ((m : ℕ) → all_keyed (length keys) (group_items_of keys m xs) ≡ true) → all_keyed (length keys) (with_group_item n nm o (λ m. group_items_of keys m xs)) ≡ true
item_keyed keys xs nm n None below later = later n
item_keyed keys xs nm n (Some (Grouped.Key k)) below later = both (nat_lt k (length keys)) (all_keyed (length keys) (group_items_of keys n xs)) (lt-ltb k (length keys) (below k refl)) (later n)
item_keyed keys xs nm n (Some (Grouped.Aggregate a)) below later = both true (all_keyed (length keys) (group_items_of keys (suc n) xs)) refl (later (suc n))

items_keyed : (keys : List BoundPath) (xs : List BoundItem) (n : ℕ) → all_keyed (length keys) (group_items_of keys n xs) ≡ true
items_keyed keys [] n = refl
items_keyed keys (x ∷ xs) n = item_keyed keys xs x.name n (grouped_of keys x.term) (key_below keys x.term) (items_keyed keys xs)

abbrev numbers_in : List GroupItem → List ℕ
numbers_in is = filter_map (λ (i : GroupItem). aggregate_number i.term) is

item_numbered : (keys : List BoundPath) (xs : List BoundItem) (nm : String Global) (n : ℕ) (o : Option Grouped) → ((m : ℕ) → are_numbered m (numbers_in (group_items_of keys m xs)) (length (aggregates_of keys xs)) ≡ true)
    → are_numbered n (numbers_in (with_group_item n nm o (λ m. group_items_of keys m xs))) (length (with_aggregate o (aggregates_of keys xs))) ≡ true
item_numbered keys xs nm n None later = later n
item_numbered keys xs nm n (Some (Grouped.Key k)) later = later n
item_numbered keys xs nm n (Some (Grouped.Aggregate a)) later =
    let next : nat_lt n (suc n) ≡ true = lt-ltb n (suc n) (omega arith) in
    both (nat_lt n (suc n) && nat_lt n (suc n)) (are_numbered (suc n) (numbers_in (group_items_of keys (suc n) xs)) (length (aggregates_of keys xs))) (both (nat_lt n (suc n)) (nat_lt n (suc n)) next next) (later (suc n))

items_numbered : (keys : List BoundPath) (xs : List BoundItem) (n : ℕ) → are_numbered n (numbers_in (group_items_of keys n xs)) (length (aggregates_of keys xs)) ≡ true
items_numbered keys [] n = refl
items_numbered keys (x ∷ xs) n = item_numbered keys xs x.name n (grouped_of keys x.term) (items_numbered keys xs)

-- ---- selections

-- as many numbers as keys
as_many : (ls : List Leaf) (keys : List BoundPath) (ns : List ℕ) → map (λ k. path_of (slice_get ls k)) ns ≡ paths_at (map bound_path_view keys) → length ns ≡ length keys
as_many ls keys ns h =
    sym (length-map ns (λ k. path_of (slice_get ls k)))
    ∙ (ap length h ∙ (length-map (map bound_path_view keys) (λ (p : meant.BoundPath). p.leaf.path) ∙ length-map keys bound_path_view))

pub selection_right : (fs : Fields) (levels : NamedLevels) (ls : List Leaf) (r : Bool) (keys : List BoundPath) (bs : List binding.BoundItem) (xs : List BoundItem) (s : Selection)
    → AreItems fs ls bs xs → Covers ls (map bound_path_view (selection_paths r keys xs)) → all_summed xs ≡ true → Selects r levels ls keys xs s → selection_fits ls s ≡ true
selection_right fs levels ls true keys bs xs (Selection.Objects items o) h k z w = ap (list_all (item_fits ls)) w.0 ∙ record_items_right fs ls bs xs h k z
selection_right fs levels ls true keys bs xs (Selection.Groups numbers aggregates items) h k z w = absurd w
selection_right fs levels ls false keys bs xs (Selection.Objects items o) h k z w = absurd w
selection_right fs levels ls false keys bs xs (Selection.Groups numbers aggregates items) h k z w =
    let c = cut_covers ls keys (group_item_paths xs) k in
    let ns = w.0 c.0 in
    let ags : list_all (aggregate_fits ls) aggregates.items ≡ true = ap (list_all (aggregate_fits ls)) w.1 ∙ aggregates_right fs ls keys bs xs h c.1 z in
    let is : all_keyed (length numbers.items) items.items ≡ true = ap₂ all_keyed (as_many ls keys numbers.items ns.0) w.2 ∙ items_keyed keys xs 0 in
    let js : are_numbered 0 (numbers_in items.items) (length aggregates.items) ≡ true =
    ap₂ (λ (ys : List GroupItem) (bs : List Aggregate). are_numbered 0 (numbers_in ys) (length bs)) w.2 w.1 ∙ items_numbered keys xs 0 in
    let a = list_all (λ k. nat_lt k (length ls)) numbers.items in
    let b = list_all (aggregate_fits ls) aggregates.items in
    let d = all_keyed (length numbers.items) items.items in
    both ((a && b) && d) (are_numbered 0 (numbers_in items.items) (length aggregates.items)) (both (a && b) d (both a b ns.1 ags) is) js

pub selection_seen : (fs : Fields) (levels : NamedLevels) (ls : List Leaf) (r : Bool) (keys : List BoundPath) (bs : List binding.BoundItem) (xs : List BoundItem) (s : Selection)
    → AreItems fs ls bs xs → Covers ls (map bound_path_view (selection_paths r keys xs)) → Selects r levels ls keys xs s → selection_view ls s ≡ chosen r (map bound_path_view keys) bs
selection_seen fs levels ls true keys bs xs (Selection.Objects items o) h k w = ap query.objects (ap (map (record_item_view ls)) w.0 ∙ record_items_seen fs ls bs xs h k)
selection_seen fs levels ls true keys bs xs (Selection.Groups numbers aggregates items) h k w = absurd w
selection_seen fs levels ls false keys bs xs (Selection.Objects items o) h k w = absurd w
selection_seen fs levels ls false keys bs xs (Selection.Groups numbers aggregates items) h k w =
    let c = cut_covers ls keys (group_item_paths xs) k in
    ap₂ query.groups (w.0 c.0).0
    (ap₂ (λ (bs : List Aggregate) (ys : List GroupItem). map (group_item_view (map (aggregate_view ls) bs)) ys) w.1 w.2 ∙ group_items_seen fs ls keys bs xs h c.1 [] 0 refl)

pub objects_seen : (fs : Fields) (levels : NamedLevels) (ls : List Leaf) (r : Bool) (keys : List BoundPath) (bs : List binding.BoundItem) (xs : List BoundItem) (s : Selection)
    → AreItems fs ls bs xs → levels ≡ joined (query.levels_of fs) → Selects r levels ls keys xs s → objects_of_plan s ≡ objects_of_query fs (chosen r (map bound_path_view keys) bs)
objects_seen fs levels ls true keys bs xs (Selection.Objects items o) h e w = ap (λ t. Some t) (w.1 fs (filter_map binding.record_item bs) e (record_items_chains fs ls bs xs h))
objects_seen fs levels ls true keys bs xs (Selection.Groups numbers aggregates items) h e w = absurd w
objects_seen fs levels ls false keys bs xs (Selection.Objects items o) h e w = absurd w
objects_seen fs levels ls false keys bs xs (Selection.Groups numbers aggregates items) h e w = refl
