-- The root query over the inner queries over the leaf query means the query: results are partials told as rows, and merging rows merges partials.
use Rattle.std.proofs.Common.{◌≡◌, ℕ, zero, suc, ◌+◌, List, [], ◌∷◌, ◌++◌, map, length, true, ◌&&◌, Option, Some, None, cond, refl, sym, ap, ap₂, ◌∙◌, subst, arith}
use Rattle.std.specs.Prelude.{pos, filter, codes}
use Rattle.std.specs.Fmt.{decimal}
use Rattle.std.specs.List.{filter_map, flat_map, cons_option, list_all, list_any, range_with_len}
use Rattle.std.specs.Ordering.{match_ordering}
use Rattle.std.specs.declared.cmp.Ordering.{Ordering}
use Rattle.std.specs.declared.cmp.Ordering.TheVariants.{Less, Equal, Greater}
use Rattle.std.proofs.Math.IntN.{+ℤ_idr}
use Rattle.std.proofs.Math.Path.{fun_ext}
use Rattle.std.proofs.lemmas.List.{map-append}
use Rattle.dr_meaning.specs.Schema.{Fields}
use Rattle.dr_meaning.specs.Path.{Step, Leaf, same_path, leaves, longer}
use Rattle.dr_meaning.specs.Record.{Value, Node, no_slots, slot, inner}
use Rattle.dr_meaning.specs.Rows.{rows, value_at}
use Rattle.dr_meaning.specs.Expression.{path_value, evaluate, expression_chain, longest_chain}
use Rattle.dr_meaning.specs.Kept.{kept}
use Rattle.dr_meaning.specs.Query.{Aggregate, count, sum, least, greatest, GroupTerm, key, count_rows, aggregate, GroupItem, Selection, objects, groups, cell, nth_value, Levels, levels_of, key_tuple, tuple_order, insert_tuple, distinct_tuples, group_tuples, group_rows}
use Rattle.dr_meaning.specs.MeaningLaws.{condition_paths, group_term_paths, selection_paths, all_lead}
use Rattle.dr_meaning.specs.QueryLeaves.{selection_values, in_reading_order, query_leaves}
use Rattle.dr_meaning.specs.BoundExpression.{are_related}
use Rattle.dr_partials.specs.Accumulators.{Accumulator, counted, summed, least_of, greatest_of, aggregate_of, accumulator_of_cell, join, accumulated, result_of}
use Rattle.dr_partials.specs.Partials.{Group, Partial, lines, grouped, term_accumulator, selected_partial, partial_of, join_all, join_groups, insert_group, merge_groups, merge, item_value, behind_item, group_row}
use Rattle.dr_partials.specs.PartialTypes.{with_aggregate, aggregates_among, are_keys, are_accumulators, ascends, is_one_without_keys, is_of_selection, is_partial}
use Rattle.dr_partials.specs.PartialLaws.{all_related}
use Rattle.dr_partials.specs.Rewriting.{key_items, aggregate_items, leaf_selection, leaf_query, column, key_columns, merging_aggregate, merging_term, merging_terms, column_behind, root_items, cell_instances, row_record}
use Rattle.dr_partials.specs.RewritingLaws.{LeafHasPartials, LeafHasSamePartials, LeafUsesSameLeaves, LeafCoveredAlike}
use Rattle.dr_partials.proofs.AccumulatorLemmas.{OfOne, counts, sums, leasts, greatests, of_one, empty_right, cell_aggregate, accumulated_aggregate}
use Rattle.dr_partials.proofs.GroupLemmas.{Tuple, same_tuple, same_itself, AllAbove, Ascending, OfKinds, AllOfKinds, groups_at, distinct_ascends}
use Rattle.dr_partials.proofs.RowLemmas.{Each, each_map, SingleIn, SingleAll}
use Rattle.dr_partials.proofs.PartialLemmas.{accumulators_at, AreRelated, selected_append}

-- ---- the aggregates of items

abbrev pub IsAggregate : GroupTerm → Type 0
IsAggregate (key i) = ⊥
IsAggregate count_rows = Unit {0}
IsAggregate (aggregate a e) = Unit {0}

abbrev pub AreAggregates : List GroupTerm → Type 0
AreAggregates ts = Each IsAggregate ts

pub among_are : (items : List GroupItem) → AreAggregates (aggregates_among items)
among_are [] = tt
among_are (i ∷ items) = by_term i.term (among_are items)
  where
    by_term : (t : GroupTerm) → AreAggregates (aggregates_among items) → AreAggregates (with_aggregate t (aggregates_among items))
    by_term (key j) r = r
    by_term count_rows r = (tt, r)
    by_term (aggregate a e) r = (tt, r)

with_it : (t : GroupTerm) (ts : List GroupTerm) → IsAggregate t → with_aggregate t ts ≡ t ∷ ts
with_it (key i) ts h = absurd h
with_it count_rows ts h = refl
with_it (aggregate a e) ts h = refl

pub of_aggregate_items : (n : ℕ) (ts : List GroupTerm) → AreAggregates ts → aggregates_among (aggregate_items n ts) ≡ ts
of_aggregate_items n [] h = refl
of_aggregate_items n (t ∷ ts) h = ap (with_aggregate t) (of_aggregate_items (suc n) ts h.1) ∙ with_it t ts h.0

pub of_key_items : (n : ℕ) (ks : List (List Step)) (items : List GroupItem) → aggregates_among (key_items n ks ++ items) ≡ aggregates_among items
of_key_items n [] items = refl
of_key_items n (k ∷ ks) items = of_key_items (suc n) ks items

merging_is : (i : ℕ) (t : GroupTerm) → IsAggregate t → IsAggregate (merging_term i t)
merging_is i (key j) h = h
merging_is i count_rows h = tt
merging_is i (aggregate a e) h = tt

pub merging_are : (i : ℕ) (ts : List GroupTerm) → AreAggregates ts → AreAggregates (merging_terms i ts)
merging_are i [] h = tt
merging_are i (t ∷ ts) h = (merging_is i t h.0, merging_are (suc i) ts h.1)

pub of_root_items : (i : ℕ) (items : List GroupItem) → aggregates_among (root_items i items) ≡ merging_terms i (aggregates_among items)
of_root_items i [] = refl
of_root_items i (item ∷ items) = by_term item.term (of_root_items (column_behind i item.term) items)
  where
    by_term : (t : GroupTerm) → aggregates_among (root_items (column_behind i t) items) ≡ merging_terms (column_behind i t) (aggregates_among items)
        → with_aggregate (merging_term i t) (aggregates_among (root_items (column_behind i t) items)) ≡ merging_terms i (with_aggregate t (aggregates_among items))
    by_term (key j) r = r
    by_term count_rows r = ap (λ ts. aggregate sum (path_value (column i)) ∷ ts) r
    by_term (aggregate a e) r = ap (λ ts. merging_term i (aggregate a e) ∷ ts) r

-- ---- what is gathered depends on the aggregates alone

abbrev pub terms_at : List (List Step) → Tuple → List Node → List GroupTerm → List Accumulator
terms_at keys t ns ts = filter_map (term_accumulator keys t ns) ts

pub items_terms : (keys : List (List Step)) (items : List GroupItem) (ns : List Node) (t : Tuple) → accumulators_at keys items ns t ≡ terms_at keys t ns (aggregates_among items)
items_terms keys [] ns t = refl
items_terms keys (i ∷ items) ns t = by_term i.term (items_terms keys items ns t)
  where
    by_term : (g : GroupTerm) → accumulators_at keys items ns t ≡ terms_at keys t ns (aggregates_among items)
        → cons_option (term_accumulator keys t ns g) (accumulators_at keys items ns t) ≡ terms_at keys t ns (with_aggregate g (aggregates_among items))
    by_term (key j) r = r
    by_term count_rows r = ap (cons_option (term_accumulator keys t ns count_rows)) r
    by_term (aggregate a e) r = ap (cons_option (term_accumulator keys t ns (aggregate a e))) r

pub same_groups : (keys : List (List Step)) (items others : List GroupItem) (ls ms : Levels) (ns : List Node) → aggregates_among items ≡ aggregates_among others
    → selected_partial (groups keys items) ls ns ≡ selected_partial (groups keys others) ms ns
same_groups keys items others ls ms ns h =
    ap (λ f. grouped (groups_at f (group_tuples keys ns)))
    (fun_ext (λ (t : Tuple). items_terms keys items ns t ∙ (ap (terms_at keys t ns) h ∙ sym (items_terms keys others ns t))))

abbrev leaf_items : List (List Step) → List GroupItem → List GroupItem
leaf_items keys items = key_items 0 keys ++ aggregate_items 0 (aggregates_among items)

leaf_aggregates : (keys : List (List Step)) (items : List GroupItem) → aggregates_among (key_items 0 keys ++ aggregate_items 0 (aggregates_among items)) ≡ aggregates_among items
leaf_aggregates keys items = of_key_items 0 keys (aggregate_items 0 (aggregates_among items)) ∙ of_aggregate_items 0 (aggregates_among items) (among_are items)

leaf_selected : (s : Selection) (ls : Levels) (ns : List Node) → selected_partial (leaf_selection s) ls ns ≡ selected_partial s ls ns
leaf_selected (objects items) ls ns = refl
leaf_selected (groups keys items) ls ns = same_groups keys (key_items 0 keys ++ aggregate_items 0 (aggregates_among items)) items ls ls ns (leaf_aggregates keys items)

pub leaf_has_partials : LeafHasPartials
unfolding leaf_query partial_of
leaf_has_partials fs q R = leaf_selected q.selection (levels_of fs) (filter_map (kept q.condition) R)

same_partials : (fs : Fields) (s : Selection) (p : Partial) → is_of_selection fs (leaf_selection s) p ≡ is_of_selection fs s p
same_partials fs (objects items) p = refl
same_partials fs (groups keys items) (lines os) = refl
same_partials fs (groups keys items) (grouped gs) =
    ap (λ ts. list_all (λ (g : Group). are_keys fs keys g.keys && are_accumulators fs ts g.accumulators) gs && ascends (map (λ (g : Group). g.keys) gs) && is_one_without_keys keys gs) (leaf_aggregates keys items)

pub leaf_has_same_partials : LeafHasSamePartials
unfolding leaf_query is_partial
leaf_has_same_partials fs q p = same_partials fs q.selection p

abbrev items_values : List GroupItem → List (List Step)
items_values items = flat_map (λ (i : GroupItem). group_term_paths i.term) items

keys_have_no_paths : (n : ℕ) (ks : List (List Step)) (items : List GroupItem) → items_values (key_items n ks ++ items) ≡ items_values items
keys_have_no_paths n [] items = refl
keys_have_no_paths n (k ∷ ks) items = keys_have_no_paths (suc n) ks items

aggregates_paths : (items : List GroupItem) (n : ℕ) → items_values (aggregate_items n (aggregates_among items)) ≡ items_values items
aggregates_paths [] n = refl
aggregates_paths (i ∷ items) n = by_term i.term (aggregates_paths items)
  where
    by_term : (t : GroupTerm) → ((m : ℕ) → items_values (aggregate_items m (aggregates_among items)) ≡ items_values items) → items_values (aggregate_items n (with_aggregate t (aggregates_among items))) ≡ group_term_paths t ++ items_values items
    by_term (key j) r = r n
    by_term count_rows r = r (suc n)
    by_term (aggregate a e) r = ap (λ ps. group_term_paths (aggregate a e) ++ ps) (r (suc n))

pub leaf_values : (s : Selection) → selection_values (leaf_selection s) ≡ selection_values s
leaf_values (objects items) = refl
leaf_values (groups keys items) = ap (λ ps. keys ++ ps) (keys_have_no_paths 0 keys (aggregate_items 0 (aggregates_among items)) ∙ aggregates_paths items 0)

pub leaf_uses_same_leaves : LeafUsesSameLeaves
unfolding leaf_query query_leaves
leaf_uses_same_leaves fs q =
    ap (λ ps. in_reading_order fs (filter (λ (l : Leaf). list_any (same_path l.path) (condition_paths q.condition ++ ps)) (leaves fs))) (leaf_values q.selection)

leaf_paths : (s : Selection) → selection_paths (leaf_selection s) ≡ selection_paths s
leaf_paths (objects items) = refl
leaf_paths (groups keys items) = ap (λ ps. keys ++ ps) (keys_have_no_paths 0 keys (aggregate_items 0 (aggregates_among items)) ∙ aggregates_paths items 0)

pub leaf_covered_alike : LeafCoveredAlike
unfolding leaf_query
leaf_covered_alike F q = ap (λ ps. all_lead F (condition_paths q.condition ++ ps)) (leaf_paths q.selection)

-- ---- which aggregates are gathered, and how many keys there are

abbrev pub term_aggregate : GroupTerm → Aggregate
term_aggregate (key i) = count
term_aggregate count_rows = count
term_aggregate (aggregate a e) = a

terms_kinds : (keys : List (List Step)) (t : Tuple) (ns : List Node) (ts : List GroupTerm) → AreAggregates ts → map aggregate_of (terms_at keys t ns ts) ≡ map term_aggregate ts
terms_kinds keys t ns [] h = refl
terms_kinds keys t ns (key i ∷ ts) h = absurd h.0
terms_kinds keys t ns (count_rows ∷ ts) h = ap (λ ks. count ∷ ks) (terms_kinds keys t ns ts h.1)
terms_kinds keys t ns (aggregate a e ∷ ts) h =
    ap₂ (λ k ks. k ∷ ks) (accumulated_aggregate a (map (evaluate e) (group_rows keys t (longer (longest_chain keys) (expression_chain e)) ns))) (terms_kinds keys t ns ts h.1)

-- a group of so many keys, and of these aggregates
abbrev pub FitsTerms : List (List Step) → List GroupTerm → Group → Type 0
FitsTerms keys ts g = (length g.keys ≡ length keys) × (map aggregate_of g.accumulators ≡ map term_aggregate ts)

key_tuple_length : (keys : List (List Step)) (n : Node) → length (key_tuple keys n) ≡ length keys
key_tuple_length [] n = refl
key_tuple_length (k ∷ ks) n = ap suc (key_tuple_length ks n)

abbrev pub OfLength : List (List Step) → Tuple → Type 0
OfLength keys t = length t ≡ length keys

inserted_length : (keys : List (List Step)) (t : Tuple) (us : List Tuple) → OfLength keys t → Each (OfLength keys) us → Each (OfLength keys) (insert_tuple t us)
inserted_length keys t [] h e = (h, tt)
inserted_length keys t (u ∷ us) h e = by_order (tuple_order t u) (inserted_length keys t us h e.1)
  where
    by_order : (o : Ordering) → Each (OfLength keys) (insert_tuple t us) → Each (OfLength keys) (match_ordering o (t ∷ u ∷ us) (u ∷ us) (u ∷ insert_tuple t us))
    by_order Less r = (h, e)
    by_order Equal r = e
    by_order Greater r = (e.0, r)

distinct_length : (keys : List (List Step)) (ns : List Node) → Each (OfLength keys) (distinct_tuples (map (key_tuple keys) ns))
distinct_length keys [] = tt
distinct_length keys (n ∷ ns) = inserted_length keys (key_tuple keys n) (distinct_tuples (map (key_tuple keys) ns)) (key_tuple_length keys n) (distinct_length keys ns)

tuples_length : (keys : List (List Step)) (ns : List Node) → Each (OfLength keys) (group_tuples keys ns)
tuples_length [] ns = (refl, tt)
tuples_length (k ∷ ks) ns = distinct_length (k ∷ ks) (flat_map (rows (longest_chain (k ∷ ks))) ns)

abbrev pub groups_in : List (List Step) → List GroupItem → List Node → List Group
groups_in keys items ns = groups_at (accumulators_at keys items ns) (group_tuples keys ns)

pub groups_fit : (keys : List (List Step)) (items : List GroupItem) (ns : List Node) → Each (FitsTerms keys (aggregates_among items)) (groups_in keys items ns)
groups_fit keys items ns = each_map (OfLength keys) (FitsTerms keys (aggregates_among items)) (λ (u : Tuple). let r : Group = record { keys = u; accumulators = accumulators_at keys items ns u } in r)
    (λ (u : Tuple) (h : OfLength keys u). (h, ap (map aggregate_of) (items_terms keys items ns u) ∙ terms_kinds keys u ns (aggregates_among items) (among_are items)))
    (group_tuples keys ns) (tuples_length keys ns)

-- ascending; without keys just one
abbrev pub OneOrAscending : List (List Step) → List Group → Type 0
OneOrAscending [] gs = length gs ≡ 1
OneOrAscending (k ∷ ks) gs = Ascending gs

pub groups_one : (keys : List (List Step)) (items : List GroupItem) (ns : List Node) → OneOrAscending keys (groups_in keys items ns)
groups_one [] items ns = refl
groups_one (k ∷ ks) items ns = distinct_ascends (accumulators_at (k ∷ ks) items ns) (map (key_tuple (k ∷ ks)) (flat_map (rows (longest_chain (k ∷ ks))) ns))

-- ---- rows as records

abbrev pub columns_record : Tuple → Node
columns_record [] = no_slots
columns_record (v ∷ vs) = slot (cell_instances v) (columns_record vs)

column_value : (vs : Tuple) (i : ℕ) → value_at (column i) (columns_record vs) ≡ nth_value vs i
column_value [] zero = refl
column_value [] (suc i) = refl
column_value (None ∷ vs) zero = refl
column_value (Some v ∷ vs) zero = refl
column_value (v ∷ vs) (suc i) = column_value vs i

abbrev pub group_columns : Group → Tuple
group_columns g = g.keys ++ map result_of g.accumulators

abbrev pub group_record : Group → Node
group_record g = columns_record (group_columns g)

aggregates_columns : (m : ℕ) (ts : List GroupTerm) (t : Tuple) (xs : List Accumulator) → AreAggregates ts → map aggregate_of xs ≡ map term_aggregate ts → row_record (group_row (aggregate_items m ts) t xs) ≡ columns_record (map result_of xs)
aggregates_columns m [] t [] h k = refl
aggregates_columns m [] t (x ∷ xs) h k = absurd (cc)
aggregates_columns m (g ∷ ts) t [] h k = absurd (cc)
aggregates_columns m (key i ∷ ts) t (x ∷ xs) h k = absurd h.0
aggregates_columns m (count_rows ∷ ts) t (x ∷ xs) h k = ap (slot (cell_instances (result_of x))) (aggregates_columns (suc m) ts t xs h.1 (rest_of _ _ _ _ k))
  where
    rest_of : (a b : Aggregate) (ks ls : List Aggregate) → a ∷ ks ≡ b ∷ ls → ks ≡ ls
    rest_of a b ks ls e = cc
aggregates_columns m (aggregate a e ∷ ts) t (x ∷ xs) h k = ap (slot (cell_instances (result_of x))) (aggregates_columns (suc m) ts t xs h.1 (rest_of _ _ _ _ k))
  where
    rest_of : (a b : Aggregate) (ks ls : List Aggregate) → a ∷ ks ≡ b ∷ ls → ks ≡ ls
    rest_of a b ks ls e = cc

-- the tuple `all` has from place n on the cells of t
abbrev pub HasFrom : Tuple → ℕ → Tuple → Type 0
HasFrom all n t = (i j : ℕ) → n + i ≡ j → nth_value all j ≡ nth_value t i

has_later : (all : Tuple) (n : ℕ) (v : Option Value) (t : Tuple) → HasFrom all n (v ∷ t) → HasFrom all (suc n) t
has_later all n v t h i j e = h (suc i) j (omega (arith, e))

keys_columns : (n : ℕ) (ks : List (List Step)) (ts : List GroupTerm) (all t : Tuple) (xs : List Accumulator) → HasFrom all n t → length t ≡ length ks → AreAggregates ts → map aggregate_of xs ≡ map term_aggregate ts
    → row_record (group_row (key_items n ks ++ aggregate_items 0 ts) all xs) ≡ columns_record (t ++ map result_of xs)
keys_columns n [] ts all [] xs f l h k = aggregates_columns 0 ts all xs h k
keys_columns n [] ts all (v ∷ t) xs f l h k = absurd (omega (arith, l))
keys_columns n (q ∷ ks) ts all [] xs f l h k = absurd (omega (arith, l))
keys_columns n (q ∷ ks) ts all (v ∷ t) xs f l h k =
    ap₂ (λ u m. slot (cell_instances u) m) (f 0 n (omega arith)) (keys_columns (suc n) ks ts all t xs (has_later all n v t f) (omega (arith, l)) h k)

whole : (t : Tuple) → HasFrom t 0 t
whole t i j e = let q : i ≡ j = omega (arith, e) in ap (nth_value t) (sym q)

row_columns : (keys : List (List Step)) (ts : List GroupTerm) → AreAggregates ts → (g : Group) → FitsTerms keys ts g → row_record (group_row (key_items 0 keys ++ aggregate_items 0 ts) g.keys g.accumulators) ≡ group_record g
row_columns keys ts h g f = keys_columns 0 keys ts g.keys g.keys g.accumulators (whole g.keys) f.0 h f.1

pub rows_columns : (keys : List (List Step)) (ts : List GroupTerm) → AreAggregates ts → (gs : List Group) → Each (FitsTerms keys ts) gs
    → map row_record (map (λ (g : Group). group_row (key_items 0 keys ++ aggregate_items 0 ts) g.keys g.accumulators) gs) ≡ map group_record gs
rows_columns keys ts h [] f = refl
rows_columns keys ts h (g ∷ gs) f = ap₂ (λ n ns. n ∷ ns) (row_columns keys ts h g f.0) (rows_columns keys ts h gs f.1)

-- ---- columns have no repeated fields

columns_chain : (is : List ℕ) → longest_chain (map column is) ≡ []
columns_chain [] = refl
columns_chain (i ∷ is) = ap (longer []) (columns_chain is)

related_columns : (i : ℕ) (is : List ℕ) → list_all (are_related (column i)) (map column is) ≡ true
related_columns i [] = refl
related_columns i (j ∷ is) = related_columns i is

all_columns : (is : List ℕ) → all_related (map column is) ≡ true
all_columns [] = refl
all_columns (i ∷ is) = ap₂ (λ a b. a && b) (related_columns i is) (all_columns is)

beside_columns : (is js : List ℕ) → all_related (map column is ++ map column js) ≡ true
beside_columns is js = ap all_related (sym (map-append column is js)) ∙ all_columns (is ++ js)

-- the paths of an item: none, or one column
abbrev pub OverColumns : GroupTerm → Type 0
OverColumns t = (js : List ℕ) × (group_term_paths t ≡ map column js)

merging_over : (i : ℕ) (t : GroupTerm) → OverColumns (merging_term i t)
merging_over i (key j) = ([], refl)
merging_over i count_rows = (i ∷ [], refl)
merging_over i (aggregate a e) = (i ∷ [], refl)

abbrev pub ItemsOver : List GroupItem → Type 0
ItemsOver items = Each (λ (i : GroupItem). OverColumns i.term) items

pub keys_over : (n : ℕ) (ks : List (List Step)) → ItemsOver (key_items n ks)
keys_over n [] = tt
keys_over n (k ∷ ks) = (([], refl), keys_over (suc n) ks)

pub merged_over : (n i : ℕ) (ts : List GroupTerm) → ItemsOver (aggregate_items n (merging_terms i ts))
merged_over n i [] = tt
merged_over n i (t ∷ ts) = (merging_over i t, merged_over (suc n) (suc i) ts)

pub root_over : (i : ℕ) (items : List GroupItem) → ItemsOver (root_items i items)
root_over i [] = tt
root_over i (item ∷ items) = (merging_over i item.term, root_over (column_behind i item.term) items)

over_related : (is : List ℕ) (items : List GroupItem) → ItemsOver items → list_all (λ (i : GroupItem). all_related (map column is ++ group_term_paths i.term)) items ≡ true
over_related is [] h = refl
over_related is (i ∷ items) h = ap₂ (λ a b. a && b) (ap (λ ps. all_related (map column is ++ ps)) h.0.1 ∙ beside_columns is h.0.0) (over_related is items h.1)

pub columns_related : (keys : List (List Step)) (items : List GroupItem) → ItemsOver items → AreRelated (groups (key_columns keys) items)
columns_related keys items h = (all_columns (range_with_len 0 (length keys)), over_related (range_with_len 0 (length keys)) items h)

one_cell : (vs : Tuple) (i : ℕ) → SingleIn (column i) (inner (columns_record vs))
one_cell [] zero = (omega arith, tt)
one_cell [] (suc i) = (omega arith, tt)
one_cell (None ∷ vs) zero = (omega arith, tt)
one_cell (Some v ∷ vs) zero = (omega arith, (tt, tt))
one_cell (v ∷ vs) (suc i) = one_cell vs i

cells_single : (is : List ℕ) (vs : Tuple) → SingleAll (map column is) (columns_record vs)
cells_single [] vs = tt
cells_single (i ∷ is) vs = (one_cell vs i, cells_single is vs)

pub records_cells : (keys : List (List Step)) (gs : List Group) → Each (SingleAll (key_columns keys)) (map group_record gs)
records_cells keys [] = tt
records_cells keys (g ∷ gs) = (cells_single (range_with_len 0 (length keys)) (group_columns g), records_cells keys gs)

-- ---- what merging gathers of a row

-- a count, gathered as a sum
abbrev pub as_merged : Accumulator → Accumulator
as_merged (counted n) = summed (Some (pos n))
as_merged (summed s) = summed s
as_merged (least_of v) = least_of v
as_merged (greatest_of v) = greatest_of v

abbrev pub merged_group : Group → Group
merged_group g = record { keys = g.keys; accumulators = map as_merged g.accumulators }

abbrev merging_of : GroupTerm → Aggregate
merging_of (key i) = count
merging_of count_rows = sum
merging_of (aggregate a e) = merging_aggregate a

cell_merged : (t : GroupTerm) (x : Accumulator) → IsAggregate t → aggregate_of x ≡ term_aggregate t → accumulator_of_cell (merging_of t) (result_of x) ≡ as_merged x
cell_merged (key i) x h k = absurd h
cell_merged count_rows (counted n) h k = ap (λ z. summed (Some z)) (+ℤ_idr (pos n))
cell_merged (aggregate count e) (counted n) h k = ap (λ z. summed (Some z)) (+ℤ_idr (pos n))
cell_merged (aggregate sum e) (summed None) h k = refl
cell_merged (aggregate sum e) (summed (Some z)) h k = ap (λ y. summed (Some y)) (+ℤ_idr z)
cell_merged (aggregate least e) (least_of None) h k = refl
cell_merged (aggregate least e) (least_of (Some v)) h k = refl
cell_merged (aggregate greatest e) (greatest_of None) h k = refl
cell_merged (aggregate greatest e) (greatest_of (Some v)) h k = refl
cell_merged count_rows (summed s) h k = absurd (cc)
cell_merged count_rows (least_of v) h k = absurd (cc)
cell_merged count_rows (greatest_of v) h k = absurd (cc)
cell_merged (aggregate count e) (summed s) h k = absurd (cc)
cell_merged (aggregate count e) (least_of v) h k = absurd (cc)
cell_merged (aggregate count e) (greatest_of v) h k = absurd (cc)
cell_merged (aggregate sum e) (counted n) h k = absurd (cc)
cell_merged (aggregate sum e) (least_of v) h k = absurd (cc)
cell_merged (aggregate sum e) (greatest_of v) h k = absurd (cc)
cell_merged (aggregate least e) (counted n) h k = absurd (cc)
cell_merged (aggregate least e) (summed s) h k = absurd (cc)
cell_merged (aggregate least e) (greatest_of v) h k = absurd (cc)
cell_merged (aggregate greatest e) (counted n) h k = absurd (cc)
cell_merged (aggregate greatest e) (summed s) h k = absurd (cc)
cell_merged (aggregate greatest e) (least_of v) h k = absurd (cc)

-- the row itself is all rows with its key tuple
one_row : (keys : List (List Step)) (t : Tuple) (n : Node) → key_tuple keys n ≡ t → (p : List Step) → p ≡ [] → group_rows keys t p (n ∷ []) ≡ n ∷ []
one_row keys t n h p e =
    ap (λ q. group_rows keys t q (n ∷ [])) e
    ∙ ap (λ b. cond b (n ∷ []) []) (ap (λ u. same_tuple u t) h ∙ same_itself t)

merging_gives : (i : ℕ) (t : GroupTerm) → IsAggregate t → merging_term i t ≡ aggregate (merging_of t) (path_value (column i))
merging_gives i (key j) h = absurd h
merging_gives i count_rows h = refl
merging_gives i (aggregate a e) h = refl

rest_kinds : (a b : Aggregate) (ks ls : List Aggregate) → a ∷ ks ≡ b ∷ ls → ks ≡ ls
rest_kinds a b ks ls e = cc

first_kinds : (a b : Aggregate) (ks ls : List Aggregate) → a ∷ ks ≡ b ∷ ls → a ≡ b
first_kinds a b ks ls e = cc

one_accumulators : (is : List ℕ) (u : Tuple) (n : Node) (all : Tuple) → n ≡ columns_record all → key_tuple (map column is) n ≡ u → (i : ℕ) (ts : List GroupTerm) (xs : List Accumulator) → HasFrom all i (map result_of xs) → AreAggregates ts
    → map aggregate_of xs ≡ map term_aggregate ts → terms_at (map column is) u (n ∷ []) (merging_terms i ts) ≡ map as_merged xs
one_accumulators is u n all en ek i [] [] f h k = refl
one_accumulators is u n all en ek i [] (x ∷ xs) f h k = absurd (cc)
one_accumulators is u n all en ek i (t ∷ ts) [] f h k = absurd (cc)
one_accumulators is u n all en ek i (t ∷ ts) (x ∷ xs) f h k =
    let a : Aggregate = merging_of t in
    let e : longer (longest_chain (map column is)) [] ≡ [] = ap (λ p. longer p []) (columns_chain is) in
    let r = one_row (map column is) u n ek (longer (longest_chain (map column is)) []) e in
    let v : value_at (column i) n ≡ result_of x = ap (value_at (column i)) en ∙ (column_value all i ∙ f 0 i (omega arith)) in
    ap (λ g. cons_option (term_accumulator (map column is) u (n ∷ []) g) (terms_at (map column is) u (n ∷ []) (merging_terms (suc i) ts))) (merging_gives i t h.0)
    ∙ ap₂ (λ y ys. y ∷ ys)
    (ap (λ ms. accumulated a (map (evaluate (path_value (column i))) ms)) r ∙ (empty_right a (accumulator_of_cell a (value_at (column i) n)) (cell_aggregate a (value_at (column i) n))
    ∙ (ap (accumulator_of_cell a) v ∙ cell_merged t x h.0 (first_kinds _ _ _ _ k))))
    (one_accumulators is u n all en ek (suc i) ts xs (has_later all i (result_of x) (map result_of xs) f) h.1 (rest_kinds _ _ _ _ k))

-- the key tuple of a row
columns_tuple : (n : Node) (all : Tuple) → n ≡ columns_record all → (a : ℕ) (k : ℕ) (t rest : Tuple) → length t ≡ k → HasFrom all a (t ++ rest) → key_tuple (map column (range_with_len a k)) n ≡ t
columns_tuple n all e a zero [] rest l f = refl
columns_tuple n all e a zero (v ∷ t) rest l f = absurd (omega (arith, l))
columns_tuple n all e a (suc k) [] rest l f = absurd (omega (arith, l))
columns_tuple n all e a (suc k) (v ∷ t) rest l f =
    ap₂ (λ x xs. x ∷ xs) (ap (value_at (column a)) e ∙ (column_value all a ∙ f 0 a (omega arith)))
    (columns_tuple n all e (a + 1) k t rest (omega (arith, l)) (λ i j h. f (suc i) j (omega (arith, h))))

behind_keys : (t rest : Tuple) (k : ℕ) → length t ≡ k → HasFrom (t ++ rest) k rest
behind_keys t rest k l i j e = subst (λ m. nth_value (t ++ rest) m ≡ nth_value rest i) (ap (λ m. m + i) l ∙ e) (later t)
  where
    later : (t : Tuple) → nth_value (t ++ rest) (length t + i) ≡ nth_value rest i
    later [] = let q : 0 + i ≡ i = omega arith in ap (nth_value rest) q
    later (v ∷ t) = let q : suc (length t) + i ≡ suc (length t + i) = omega arith in ap (nth_value (v ∷ (t ++ rest))) q ∙ later t

-- the tuples of one row
one_tuple : (keys : List (List Step)) (n : Node) (t : Tuple) → length t ≡ length keys → key_tuple (key_columns keys) n ≡ t → group_tuples (key_columns keys) (n ∷ []) ≡ t ∷ []
one_tuple [] n [] l e = refl
one_tuple [] n (v ∷ t) l e = absurd (omega (arith, l))
one_tuple (k ∷ ks) n t l e =
    ap (λ p. distinct_tuples (map (key_tuple (key_columns (k ∷ ks))) (flat_map (rows p) (n ∷ [])))) (columns_chain (range_with_len 0 (length (k ∷ ks)))) ∙ ap (λ u. u ∷ []) e

one_partial : (keys : List (List Step)) (ts : List GroupTerm) (items : List GroupItem) → AreAggregates ts → aggregates_among items ≡ merging_terms (length keys) ts → (ls : Levels) (g : Group) → FitsTerms keys ts g
    → selected_partial (groups (key_columns keys) items) ls (group_record g ∷ []) ≡ grouped (merged_group g ∷ [])
one_partial keys ts items h e ls g f =
    let n : Node = group_record g in
    let k = columns_tuple n (group_columns g) refl 0 (length keys) g.keys (map result_of g.accumulators) f.0 (whole (group_columns g)) in
    let a : accumulators_at (key_columns keys) items (n ∷ []) g.keys ≡ map as_merged g.accumulators =
    items_terms (key_columns keys) items (n ∷ []) g.keys ∙ (ap (terms_at (key_columns keys) g.keys (n ∷ [])) e
    ∙ one_accumulators (range_with_len 0 (length keys)) g.keys n (group_columns g) refl k (length keys) ts g.accumulators (behind_keys g.keys (map result_of g.accumulators) (length keys) f.0) h f.1) in
    ap (λ us. grouped (groups_at (accumulators_at (key_columns keys) items (n ∷ [])) us)) (one_tuple keys n g.keys f.0 k)
    ∙ ap (λ (xs : List Accumulator). grouped ((let r : Group = record { keys = g.keys; accumulators = xs } in r) ∷ [])) a

-- ---- what merging gathers of rows of ascending groups

insert_first : (g : Group) (gs : List Group) → AllAbove g.keys gs → insert_group g gs ≡ g ∷ gs
insert_first g [] h = refl
insert_first g (k ∷ gs) h = ap (λ o. match_ordering o (g ∷ k ∷ gs) (join_groups g k ∷ gs) (k ∷ insert_group g gs)) h.0

above_merged : (t : Tuple) (gs : List Group) → AllAbove t gs → AllAbove t (map merged_group gs)
above_merged t [] h = tt
above_merged t (g ∷ gs) h = (h.0, above_merged t gs h.1)

merging_with : Partial → Partial → Partial
merging_with p r = merge p r

ascending_rows : (k : List Step) (ks : List (List Step)) (ts : List GroupTerm) (items : List GroupItem) → AreAggregates ts → aggregates_among items ≡ merging_terms (length (k ∷ ks)) ts → ItemsOver items → (ls : Levels) (gs : List Group)
    → Each (FitsTerms (k ∷ ks) ts) gs → Ascending gs → selected_partial (groups (key_columns (k ∷ ks)) items) ls (map group_record gs) ≡ grouped (map merged_group gs)
unfolding merge
ascending_rows k ks ts items h e o ls [] f a = refl
ascending_rows k ks ts items h e o ls (g ∷ gs) f a =
    selected_append (groups (key_columns (k ∷ ks)) items) ls (columns_related (k ∷ ks) items o) (group_record g ∷ []) (map group_record gs) (records_cells (k ∷ ks) (g ∷ [])) (records_cells (k ∷ ks) gs)
    ∙ (ap₂ merge (one_partial (k ∷ ks) ts items h e ls g f.0) (ascending_rows k ks ts items h e o ls gs f.1 a.1)
    ∙ ap grouped (insert_first (merged_group g) (map merged_group gs) (above_merged g.keys gs a.0)))

pub rows_partial : (keys : List (List Step)) (ts : List GroupTerm) (items : List GroupItem) → AreAggregates ts → aggregates_among items ≡ merging_terms (length keys) ts → ItemsOver items → (ls : Levels) (gs : List Group)
    → Each (FitsTerms keys ts) gs → OneOrAscending keys gs → selected_partial (groups (key_columns keys) items) ls (map group_record gs) ≡ grouped (map merged_group gs)
rows_partial (k ∷ ks) ts items h e o ls gs f a = ascending_rows k ks ts items h e o ls gs f a
rows_partial [] ts items h e o ls [] f a = absurd (omega (arith, a))
rows_partial [] ts items h e o ls (g ∷ []) f a = one_partial [] ts items h e ls g f.0
rows_partial [] ts items h e o ls (g ∷ i ∷ gs) f a = absurd (omega (arith, a))

-- ---- merging is the same of what is gathered so

join_merged : (x y : Accumulator) → OfOne x y → as_merged (join x y) ≡ join (as_merged x) (as_merged y)
join_merged _ _ (counts m n) = refl
join_merged _ _ (sums s t) = refl
join_merged _ _ (leasts v w) = refl
join_merged _ _ (greatests v w) = refl

all_merged : (kinds : List Aggregate) (xs ys : List Accumulator) → OfKinds kinds xs → OfKinds kinds ys → map as_merged (join_all xs ys) ≡ join_all (map as_merged xs) (map as_merged ys)
all_merged kinds [] ys h k = refl
all_merged kinds (x ∷ xs) [] h k = refl
all_merged [] (x ∷ xs) (y ∷ ys) h k = absurd (cc)
all_merged (a ∷ kinds) (x ∷ xs) (y ∷ ys) h k =
    ap₂ (λ z zs. z ∷ zs) (join_merged x y (of_one x y (first_kinds _ _ _ _ h ∙ sym (first_kinds _ _ _ _ k)))) (all_merged kinds xs ys (rest_kinds _ _ _ _ h) (rest_kinds _ _ _ _ k))

insert_merged : (kinds : List Aggregate) (g : Group) (hs : List Group) → OfKinds kinds g.accumulators → AllOfKinds kinds hs → map merged_group (insert_group g hs) ≡ insert_group (merged_group g) (map merged_group hs)
insert_merged kinds g [] a b = refl
insert_merged kinds g (h ∷ hs) a b = by_order (tuple_order g.keys h.keys) (insert_merged kinds g hs a b.1)
  where
    by_order : (o : Ordering) → map merged_group (insert_group g hs) ≡ insert_group (merged_group g) (map merged_group hs)
        → map merged_group (match_ordering o (g ∷ h ∷ hs) (join_groups g h ∷ hs) (h ∷ insert_group g hs))
        ≡ match_ordering o (merged_group g ∷ merged_group h ∷ map merged_group hs) (join_groups (merged_group g) (merged_group h) ∷ map merged_group hs) (merged_group h ∷ insert_group (merged_group g) (map merged_group hs))
    by_order Less r = refl
    by_order Equal r = ap (λ (xs : List Accumulator). (let q : Group = record { keys = g.keys; accumulators = xs } in q) ∷ map merged_group hs) (all_merged kinds g.accumulators h.accumulators a b.0)
    by_order Greater r = ap (λ gs. merged_group h ∷ gs) r

joined_kinds : (kinds : List Aggregate) (xs ys : List Accumulator) → OfKinds kinds xs → OfKinds kinds ys → OfKinds kinds (join_all xs ys)
joined_kinds kinds [] ys h k = h
joined_kinds [] (x ∷ xs) ys h k = absurd (cc)
joined_kinds (a ∷ kinds) (x ∷ xs) [] h k = absurd (cc)
joined_kinds (a ∷ kinds) (x ∷ xs) (y ∷ ys) h k =
    ap₂ (λ z zs. z ∷ zs) (same_kind x y (of_one x y (first_kinds _ _ _ _ h ∙ sym (first_kinds _ _ _ _ k))) (first_kinds _ _ _ _ h)) (joined_kinds kinds xs ys (rest_kinds _ _ _ _ h) (rest_kinds _ _ _ _ k))
  where
    same_kind : (x y : Accumulator) → OfOne x y → aggregate_of x ≡ a → aggregate_of (join x y) ≡ a
    same_kind _ _ (counts m n) e = e
    same_kind _ _ (sums s t) e = e
    same_kind _ _ (leasts v w) e = e
    same_kind _ _ (greatests v w) e = e

inserted_kinds : (kinds : List Aggregate) (g : Group) (hs : List Group) → OfKinds kinds g.accumulators → AllOfKinds kinds hs → AllOfKinds kinds (insert_group g hs)
inserted_kinds kinds g [] a b = (a, tt)
inserted_kinds kinds g (h ∷ hs) a b = by_order (tuple_order g.keys h.keys) (inserted_kinds kinds g hs a b.1)
  where
    by_order : (o : Ordering) → AllOfKinds kinds (insert_group g hs) → AllOfKinds kinds (match_ordering o (g ∷ h ∷ hs) (join_groups g h ∷ hs) (h ∷ insert_group g hs))
    by_order Less r = (a, b)
    by_order Equal r = (joined_kinds kinds g.accumulators h.accumulators a b.0, b.1)
    by_order Greater r = (b.0, r)

merged_kinds : (kinds : List Aggregate) (gs hs : List Group) → AllOfKinds kinds gs → AllOfKinds kinds hs → AllOfKinds kinds (merge_groups gs hs)
merged_kinds kinds [] hs a b = b
merged_kinds kinds (g ∷ gs) hs a b = inserted_kinds kinds g (merge_groups gs hs) a.0 (merged_kinds kinds gs hs a.1 b)

pub groups_merged : (kinds : List Aggregate) (gs hs : List Group) → AllOfKinds kinds gs → AllOfKinds kinds hs → map merged_group (merge_groups gs hs) ≡ merge_groups (map merged_group gs) (map merged_group hs)
groups_merged kinds [] hs a b = refl
groups_merged kinds (g ∷ gs) hs a b = insert_merged kinds g (merge_groups gs hs) a.0 (merged_kinds kinds gs hs a.1 b) ∙ ap (insert_group (merged_group g)) (groups_merged kinds gs hs a.1 b)

-- ---- finishing what is gathered so

result_merged : (x : Accumulator) → result_of (as_merged x) ≡ result_of x
result_merged (counted n) = refl
result_merged (summed s) = refl
result_merged (least_of v) = refl
result_merged (greatest_of v) = refl

inner_aggregates : (n i : ℕ) (ts : List GroupTerm) (t : Tuple) (xs : List Accumulator) → AreAggregates ts → group_row (aggregate_items n (merging_terms i ts)) t (map as_merged xs) ≡ group_row (aggregate_items n ts) t xs
inner_aggregates n i [] t xs h = refl
inner_aggregates n i (key j ∷ ts) t xs h = absurd h.0
inner_aggregates n i (count_rows ∷ ts) t [] h = ap (cell (codes "a" ++ decimal n) None) (inner_aggregates (suc n) (suc i) ts t [] h.1)
inner_aggregates n i (count_rows ∷ ts) t (x ∷ xs) h = ap₂ (cell (codes "a" ++ decimal n)) (result_merged x) (inner_aggregates (suc n) (suc i) ts t xs h.1)
inner_aggregates n i (aggregate a e ∷ ts) t [] h = ap (cell (codes "a" ++ decimal n) None) (inner_aggregates (suc n) (suc i) ts t [] h.1)
inner_aggregates n i (aggregate a e ∷ ts) t (x ∷ xs) h = ap₂ (cell (codes "a" ++ decimal n)) (result_merged x) (inner_aggregates (suc n) (suc i) ts t xs h.1)

pub inner_row : (n : ℕ) (ks : List (List Step)) (i : ℕ) (ts : List GroupTerm) (t : Tuple) (xs : List Accumulator) → AreAggregates ts
    → group_row (key_items n ks ++ aggregate_items 0 (merging_terms i ts)) t (map as_merged xs) ≡ group_row (key_items n ks ++ aggregate_items 0 ts) t xs
inner_row n [] i ts t xs h = inner_aggregates 0 i ts t xs h
inner_row n (k ∷ ks) i ts t xs h = ap (cell (codes "k" ++ decimal n) (nth_value t n)) (inner_row (suc n) ks i ts t xs h)

pub root_row : (i : ℕ) (items : List GroupItem) (t : Tuple) (xs : List Accumulator) → group_row (root_items i items) t (map as_merged xs) ≡ group_row items t xs
root_row i [] t xs = refl
root_row i (item ∷ items) t xs = by_term item.term xs (root_row (column_behind i item.term) items t)
  where
    by_term : (g : GroupTerm) (xs : List Accumulator) → ((ys : List Accumulator) → group_row (root_items (column_behind i g) items) t (map as_merged ys) ≡ group_row items t ys)
        → cell item.name (item_value (merging_term i g) t (map as_merged xs)) (group_row (root_items (column_behind i g) items) t (behind_item (merging_term i g) (map as_merged xs)))
        ≡ cell item.name (item_value g t xs) (group_row items t (behind_item g xs))
    by_term (key j) xs r = ap (cell item.name (nth_value t j)) (r xs)
    by_term count_rows [] r = ap (cell item.name None) (r [])
    by_term count_rows (x ∷ xs) r = ap₂ (cell item.name) (result_merged x) (r xs)
    by_term (aggregate a e) [] r = ap (cell item.name None) (r [])
    by_term (aggregate a e) (x ∷ xs) r = ap₂ (cell item.name) (result_merged x) (r xs)
