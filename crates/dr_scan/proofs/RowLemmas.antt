-- The partial of records of which no leaf is read.
use Rattle.std.proofs.Common.{◌≡◌, ◌∙◌, ◌<◌, ℕ, List, [], ◌∷◌, map, length, Bool, true, false, Option, Some, None, refl, sym, ap, ap₂, arith, true≢false}
use Rattle.std.specs.Prelude.{filter, nat_lt}
use Rattle.std.specs.List.{list_all, filter_map, cons_option, flat_map, slice_get}
use Rattle.std.specs.Ordering.{is_eq}
use Rattle.std.specs.declared.alloc.Global.{Global}
use Rattle.std.specs.declared.vec.Vec.{Vec}
use Rattle.std.proofs.lemmas.Bool.{and_parts}
use Rattle.std.proofs.lemmas.Bool.Decides.{nat_tests}
use Rattle.std.proofs.lemmas.List.{length-map}
use Rattle.dr_meaning.specs.Schema.{Schema, Fields}
use Rattle.dr_meaning.specs.Path.{Step, Leaf, paths_of_leaves}
use Rattle.dr_meaning.specs.Record.{Node, is_record}
use Rattle.dr_meaning.specs.Rows.{rows}
use Rattle.dr_meaning.specs.Column.{Triplet}
use Rattle.dr_meaning.specs.Expression.{Expression}
use Rattle.dr_meaning.specs.Kept.{kept}
use Rattle.dr_meaning.specs.Query.{GroupTerm, key, count_rows, aggregate, GroupItem, Selection, groups, Query, key_tuple, tuple_order, levels_of}
use Rattle.dr_nested.specs.PathView.{path_view}
use Rattle.dr_levels.specs.Views.{column_view, columns_view}
use Rattle.dr_levels.specs.declared.column.Column.{Column}
use Rattle.dr_moves.specs.Turning.{between}
use Rattle.dr_moves.specs.Leading.{stays}
use Rattle.dr_moves.proofs.NestingOfTurns.{moves_begin_walk}
use Rattle.dr_partials.specs.Accumulators.{Accumulator, counted}
use Rattle.dr_partials.specs.Partials.{Partial, grouped, term_accumulator, selected_partial, partial_of, empty_partial}
use Rattle.dr_partials.specs.PartialTypes.{aggregates_among, with_aggregate}
use Rattle.dr_plan.specs.Planned.{plan_view, plan_leaves, planned_query, IsOfSchema}
use Rattle.dr_plan.specs.Views.{aggregate_view, group_item_view, path_of, selection_view}
use Rattle.dr_plan.specs.declared.aggregate.Aggregate.{Aggregate}
use Rattle.dr_plan.specs.declared.plan.GroupItem.{GroupItem as PlanItem}
use Rattle.dr_plan.specs.declared.plan.Plan.{Plan}
use Rattle.dr_plan.specs.declared.plan.Selection.{Selection as Selected}
use Rattle.dr_group.specs.Gathering.{gatherings_of, term_gathering}
use Rattle.dr_group.specs.Groups.{keyless_group}
use Rattle.dr_group.specs.RowPartials.{gathered_of_rows, selected_of_rows, partial_of_rows}
use Rattle.dr_scalar.specs.Leaves.{greatest, tests_leaves}
use Rattle.dr_scalar.specs.OverSlots.{tests_over}
use Rattle.dr_walk.specs.Walking.{HasColumns}
use Rattle.dr_condition.proofs.LeavesBelow.{are_below, test_leaves_below}
use Rattle.dr_condition.specs.Parted.{constants_hold}
use Rattle.dr_condition.proofs.PartedLemmas.{constants_true, never_true}
use Rattle.dr_condition.proofs.PlanCondition.{plan_constant}
use Rattle.dr_within.proofs.PlanAggregates.{GroupsFit, groups_fit, plan_aggregates}
use Rattle.dr_within.proofs.ScanPartial.{nothing_partial}
use Rattle.dr_scan.specs.OfColumns.{IsOfColumns}
use Rattle.dr_scan.specs.RowCounts.{counts_rows}

-- ---- without leaves

no_numbers : (ls : List Leaf) (ks : List ℕ) → length ls ≡ 0 → are_below ls ks ≡ true → ks ≡ []
no_numbers ls [] l h = refl
no_numbers ls (k ∷ ks) l h =
    let a : (nat_lt k (length ls) ≡ true) × (are_below ls ks ≡ true) = and_parts _ _ h in
    let g : k < length ls = grind (arith, nat_tests) in
    absurd (omega (arith, g, l))

no_leaves : (p : Plan) → length p.leaves.items ≡ 0 → length (plan_leaves p) ≡ 0
no_leaves p l = length-map p.leaves.items path_view ∙ l

-- no test reads a leaf
no_test_leaves : (p : Plan) → length p.leaves.items ≡ 0 → tests_leaves p.test.items ≡ []
no_test_leaves p l = no_numbers (plan_leaves p) (tests_leaves p.test.items) (no_leaves p l) (test_leaves_below (plan_leaves p) p.test.items p.tested)

-- so the tests are true of nothing where those without leaves are true
constants_tested : (p : Plan) → length p.leaves.items ≡ 0 → tests_over (λ i. None) p.test.items ≡ constants_hold p.test.items
constants_tested p l = by_constants (constants_hold p.test.items) refl
  where
    by_constants : (b : Bool) → constants_hold p.test.items ≡ b → tests_over (λ i. None) p.test.items ≡ b
    by_constants true h = constants_true p.test.items (no_test_leaves p l) h (λ i. None)
    by_constants false h = never_true p.test.items h (λ i. None)

-- ---- records

-- of each number of records there are some
some_records : (fs : Fields) (n : ℕ) → (R : List Node) × (list_all (is_record fs) R ≡ true) × (length R ≡ n)
some_records fs n =
    let x = moves_begin_walk fs [] n (λ i. []) [] (between n) (λ i. []) refl refl (stays (between n) (λ i. [])) in
    (x.0, x.2, x.3)

has_none : (fs : Fields) (F : List (List Step)) (cs : List (List Triplet)) (n : ℕ) (R : List Node) → length F ≡ 0 → length cs ≡ 0
    → list_all (is_record fs) R ≡ true → length R ≡ n → HasColumns fs F cs n R
has_none fs [] [] n R f c r e = (r, e, refl)
has_none fs (p ∷ F) cs n R f c r e = absurd (omega (arith, f))
has_none fs [] (t ∷ cs) n R f c r e = absurd (omega (arith, c))

-- their columns of no leaves
pub no_columns : (s : Schema) (p : Plan) (cols : List Column) (n : ℕ) → length p.leaves.items ≡ 0 → length cols ≡ length p.leaves.items
    → (R : List Node) × HasColumns s.fields (paths_of_leaves (plan_leaves p)) (columns_view cols) n R
no_columns s p cols n l c =
    let x = some_records s.fields n in
    let named : length (paths_of_leaves (plan_leaves p)) ≡ 0 = length-map (plan_leaves p) (λ (y : Leaf). y.path) ∙ no_leaves p l in
    let given : length (columns_view cols) ≡ 0 = length-map cols column_view ∙ (c ∙ l) in
    (x.0, has_none s.fields (paths_of_leaves (plan_leaves p)) (columns_view cols) n x.0 named given x.1 x.2)

kept_all : (fs : Fields) (c : Option Expression) (R : List Node) → list_all (is_record fs) R ≡ true → ((n : Node) → is_record fs n ≡ true → kept c n ≡ Some n)
    → filter_map (kept c) R ≡ R
kept_all fs c [] r k = refl
kept_all fs c (n ∷ R) r k =
    let x : (is_record fs n ≡ true) × (list_all (is_record fs) R ≡ true) = and_parts _ _ r in
    ap₂ (λ (o : Option Node) (ns : List Node). cons_option o ns) (k n x.0) (kept_all fs c R x.1 k)

-- ---- what is gathered of them

-- without keys each record is a row of the one group
all_rows : (R : List Node) → filter (λ row. is_eq (tuple_order (key_tuple [] row) [])) (flat_map (rows []) R) ≡ R
all_rows [] = refl
all_rows (n ∷ R) = ap (λ (ns : List Node). n ∷ ns) (all_rows R)

abbrev is_count : GroupTerm → Bool
is_count (key i) = false
is_count count_rows = true
is_count (aggregate a e) = false

rows_gathered : (items : List GroupItem) (R : List Node) → list_all is_count (aggregates_among items) ≡ true
    → filter_map (λ (i : GroupItem). term_accumulator [] [] R i.term) items ≡ map (gathered_of_rows (length R)) (gatherings_of items)
rows_gathered [] R h = refl
rows_gathered (i ∷ items) R h = by_term i.term h (rows_gathered items R)
  where
    by_term : (t : GroupTerm) → list_all is_count (with_aggregate t (aggregates_among items)) ≡ true
        → (list_all is_count (aggregates_among items) ≡ true → filter_map (λ (i : GroupItem). term_accumulator [] [] R i.term) items ≡ map (gathered_of_rows (length R)) (gatherings_of items))
        → cons_option (term_accumulator [] [] R t) (filter_map (λ (i : GroupItem). term_accumulator [] [] R i.term) items)
        ≡ map (gathered_of_rows (length R)) (map term_gathering (with_aggregate t (aggregates_among items)))
    by_term (key k) h r = r h
    by_term count_rows h r = ap₂ (λ (x : Accumulator) (xs : List Accumulator). x ∷ xs) (ap counted (ap length (all_rows R))) (r h)
    by_term (aggregate a e) h r = absurd (true≢false (sym h))

rows_partial : (fs : Fields) (q : Query) (keys : List (List Step)) (items : List GroupItem) (R : List Node) → q.selection ≡ groups keys items → keys ≡ []
    → list_all is_count (aggregates_among items) ≡ true → filter_map (kept q.condition) R ≡ R → partial_of_rows (length R) q ≡ partial_of fs q R
unfolding partial_of
rows_partial fs q keys items R s k c all =
    let selects : q.selection ≡ groups [] items = s ∙ ap (λ (ks : List (List Step)). groups ks items) k in
    ap (selected_of_rows (length R)) selects
    ∙ (ap (λ (xs : List Accumulator). grouped (keyless_group xs ∷ [])) (sym (rows_gathered items R c))
    ∙ sym (ap₂ (λ (x : Selection) (ns : List Node). selected_partial x (levels_of fs) ns) selects all))

-- ---- of a plan

all_counts : (ls : List Leaf) (A : List Aggregate) → list_all counts_rows A ≡ true → list_all is_count (map (aggregate_view ls) A) ≡ true
all_counts ls [] h = refl
all_counts ls (Aggregate.Rows ∷ A) h = all_counts ls A h
all_counts ls (Aggregate.Of f e ∷ A) h = absurd (true≢false (sym h))

plan_rows : (s : Schema) (p : Plan) (keys : Vec ℕ Global) (aggregates : Vec Aggregate Global) (items : Vec PlanItem Global) (R : List Node) → IsOfSchema s p
    → p.selection ≡ Selected.Groups keys aggregates items → length p.leaves.items ≡ 0 → tests_over (λ i. None) p.test.items ≡ true
    → list_all counts_rows aggregates.items ≡ true → list_all (is_record s.fields) R ≡ true
    → partial_of_rows (length R) (planned_query (plan_view p)) ≡ partial_of s.fields (planned_query (plan_view p)) R
plan_rows s p keys aggregates items R h e l b c r =
    let ls = plan_leaves p in
    let q = planned_query (plan_view p) in
    let A = map (aggregate_view ls) aggregates.items in
    let I = map (group_item_view A) items.items in
    let f : GroupsFit ls keys.items aggregates.items items.items = groups_fit p keys aggregates items e in
    let keyless : map (λ k. path_of (slice_get ls k)) keys.items ≡ [] = ap (map (λ k. path_of (slice_get ls k))) (no_numbers ls keys.items (no_leaves p l) f.keyed) in
    let counts : list_all is_count (aggregates_among I) ≡ true =
    ap (list_all is_count) (plan_aggregates ls aggregates.items items.items f.numbered) ∙ all_counts ls aggregates.items c in
    let all : filter_map (kept q.condition) R ≡ R =
    kept_all s.fields q.condition R r (plan_constant s h.1 p (h.0, h.2, h.3) (ap greatest (no_test_leaves p l)) (sym (constants_tested p l) ∙ b)) in
    rows_partial s.fields q (map (λ k. path_of (slice_get ls k)) keys.items) I R (ap (selection_view ls) e) keyless counts all

-- where each record is kept
pub rows_counted : (s : Schema) (p : Plan) (keys : Vec ℕ Global) (aggregates : Vec Aggregate Global) (items : Vec PlanItem Global) (cols : List Column) (n : ℕ) (x : Partial) → IsOfSchema s p
    → p.selection ≡ Selected.Groups keys aggregates items → length cols ≡ length p.leaves.items → length p.leaves.items ≡ 0
    → tests_over (λ i. None) p.test.items ≡ true → list_all counts_rows aggregates.items ≡ true
    → x ≡ partial_of_rows n (planned_query (plan_view p)) → IsOfColumns s p (columns_view cols) n x
rows_counted s p keys aggregates items cols n x h e c l b a is =
    let have = no_columns s p cols n l c in (
      have.0,
      have.1,
      is ∙ (ap (λ m. partial_of_rows m (planned_query (plan_view p))) (sym have.1.1) ∙ plan_rows s p keys aggregates items have.0 h e l b a have.1.0),
    )

-- where none is
pub rows_dropped : (s : Schema) (p : Plan) (cols : List Column) (n : ℕ) (x : Partial) → IsOfSchema s p
    → length cols ≡ length p.leaves.items → length p.leaves.items ≡ 0 → tests_over (λ i. None) p.test.items ≡ false
    → x ≡ empty_partial (planned_query (plan_view p)) → IsOfColumns s p (columns_view cols) n x
rows_dropped s p cols n x h c l b is =
    let have = no_columns s p cols n l c in
    (have.0, have.1, is ∙ nothing_partial s h.1 p (h.0, h.2, h.3) (sym (constants_tested p l) ∙ b) have.0 have.1.0)
