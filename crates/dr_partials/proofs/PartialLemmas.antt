-- The partial of records is finished to the query's meaning; the partials of records, merged, are the partial of the records joined.
use Rattle.std.proofs.Common.{◌≡◌, List, [], ◌∷◌, ◌++◌, map, length, Bool, true, false, ◌&&◌, ◌||◌, Some, None, refl, sym, ap, ap₂, ◌∙◌, length-append}
use Rattle.std.specs.Prelude.{if◌then◌else◌, filter}
use Rattle.std.specs.List.{filter_map, flat_map, cons_option, list_all}
use Rattle.std.specs.Ordering.{is_eq}
use Rattle.std.proofs.Math.Path.{fun_ext}
use Rattle.std.proofs.lemmas.Bool.{and_parts}
use Rattle.std.proofs.lemmas.Grind.{flat_map-append}
use Rattle.std.proofs.lemmas.List.{map-append}
use Rattle.std.proofs.lemmas.List.Elements.{filter-append, filter_map-append}
use Rattle.std.proofs.lemmas.List.Folds.{list_any-append}
use Rattle.std.proofs.lemmas.Simd.{map-map}
use Rattle.dr_meaning.specs.Schema.{Fields}
use Rattle.dr_meaning.specs.Path.{Step, longer, is_leaf_path}
use Rattle.dr_meaning.specs.Record.{Node}
use Rattle.dr_meaning.specs.Rows.{rows}
use Rattle.dr_meaning.specs.Expression.{paths_of, evaluate, expression_chain, longest_chain}
use Rattle.dr_meaning.specs.Kept.{kept}
use Rattle.dr_meaning.specs.Query.{Aggregate, GroupTerm, key, count_rows, aggregate, GroupItem, Selection, objects, groups, Query, cell, nth_value, count_value, Levels, levels_of, record_object, key_tuple, tuple_order, distinct_tuples, group_tuples, group_rows, group_value, group_cells, selected, meaning}
use Rattle.dr_meaning.specs.MeaningLaws.{group_term_paths}
use Rattle.dr_partials.specs.Accumulators.{Accumulator, counted, empty_accumulator, join_options, accumulated}
use Rattle.dr_partials.specs.Partials.{Group, Partial, lines, grouped, term_accumulator, group_of, selected_partial, partial_of, Stands, join_all, merge_groups, merge, empty_term, empty_selected, empty_partial, item_value, behind_item, group_row, finished_selection, finished}
use Rattle.dr_partials.specs.PartialLaws.{all_related, is_mergeable_selection, FinishedPartialIsMeaning, EmptyStandsForNone, MergedStands}
use Rattle.dr_partials.proofs.AccumulatorLemmas.{gives_aggregate, join_of_both, accumulated_aggregate, empty_left, empty_right}
use Rattle.dr_partials.proofs.GroupLemmas.{Tuple, same_tuple, find, found_alike, merged_ascends, find_merged, among, groups_at, find_at, among_distinct, distinct_ascends}
use Rattle.dr_partials.proofs.RowLemmas.{Each, SingleAll, tuples_of, no_rows_elsewhere, single_kept, records_single}
use Rattle.dr_partials.proofs.RelatedLemmas.{chains_begin, longest_begins, longest_itself}

-- ---- finishing

abbrev pub accumulators_at : List (List Step) → List GroupItem → List Node → Tuple → List Accumulator
accumulators_at keys items ns t = filter_map (λ (i : GroupItem). term_accumulator keys t ns i.term) items

row_is : (keys : List (List Step)) (t : Tuple) (ns : List Node) (items : List GroupItem) → group_row items t (accumulators_at keys items ns t) ≡ group_cells keys t ns items
row_is keys t ns [] = refl
row_is keys t ns (i ∷ items) = by_term i.term (row_is keys t ns items)
  where
    by_term : (g : GroupTerm) → group_row items t (accumulators_at keys items ns t) ≡ group_cells keys t ns items
        → cell i.name (item_value g t (cons_option (term_accumulator keys t ns g) (accumulators_at keys items ns t))) (group_row items t (behind_item g (cons_option (term_accumulator keys t ns g) (accumulators_at keys items ns t))))
        ≡ cell i.name (group_value keys t ns g) (group_cells keys t ns items)
    by_term (key j) r = ap (cell i.name (nth_value t j)) r
    by_term count_rows r = ap (cell i.name (count_value (length (group_rows keys t (longest_chain keys) ns)))) r
    by_term (aggregate a e) r = ap₂ (cell i.name) (gives_aggregate a (map (evaluate e) (group_rows keys t (longer (longest_chain keys) (expression_chain e)) ns))) r

finished_selected : (s : Selection) (ls : Levels) (ns : List Node) → finished_selection s (selected_partial s ls ns) ≡ selected s ls ns
finished_selected (objects items) ls ns = refl
finished_selected (groups keys items) ls ns =
    map-map (λ (g : Group). group_row items g.keys g.accumulators) (group_of keys items ns) (group_tuples keys ns)
    ∙ ap (λ f. map f (group_tuples keys ns)) (fun_ext (λ (t : Tuple). row_is keys t ns items))

pub finished_partial_is_meaning : FinishedPartialIsMeaning
unfolding finished partial_of meaning
finished_partial_is_meaning fs q R = finished_selected q.selection (levels_of fs) (filter_map (kept q.condition) R)

-- ---- nothing

no_records : (keys : List (List Step)) (t : Tuple) (items : List GroupItem) → accumulators_at keys items [] t ≡ filter_map (λ (i : GroupItem). empty_term i.term) items
no_records keys t [] = refl
no_records keys t (i ∷ items) = by_term i.term (no_records keys t items)
  where
    by_term : (g : GroupTerm) → accumulators_at keys items [] t ≡ filter_map (λ (i : GroupItem). empty_term i.term) items
        → cons_option (term_accumulator keys t [] g) (accumulators_at keys items [] t) ≡ cons_option (empty_term g) (filter_map (λ (i : GroupItem). empty_term i.term) items)
    by_term (key j) r = r
    by_term count_rows r = ap (λ xs. counted 0 ∷ xs) r
    by_term (aggregate a e) r = ap (λ xs. empty_accumulator a ∷ xs) r

one_group : Tuple → List Accumulator → Partial
one_group t xs = grouped (record { keys = t; accumulators = xs } ∷ [])

empty_is : (s : Selection) (ls : Levels) → empty_selected s ≡ selected_partial s ls []
empty_is (objects items) ls = refl
empty_is (groups [] items) ls = ap (λ (xs : List Accumulator). grouped (record { keys = []; accumulators = xs } ∷ [])) (sym (no_records [] [] items))
empty_is (groups (k ∷ ks) items) ls = refl

pub empty_stands_for_none : EmptyStandsForNone
unfolding Stands empty_partial partial_of
empty_stands_for_none fs q = empty_is q.selection (levels_of fs)

-- ---- the accumulators of records joined

rows_append : (keys : List (List Step)) (t : Tuple) (p : List Step) (N M : List Node) → group_rows keys t p (N ++ M) ≡ group_rows keys t p N ++ group_rows keys t p M
rows_append keys t p N M = ap (filter (λ row. is_eq (tuple_order (key_tuple keys row) t))) (flat_map-append (rows p) N M) ∙ filter-append (λ row. is_eq (tuple_order (key_tuple keys row) t)) (flat_map (rows p) N) (flat_map (rows p) M)

accumulators_append : (keys : List (List Step)) (items : List GroupItem) (N M : List Node) (t : Tuple) → accumulators_at keys items (N ++ M) t ≡ join_all (accumulators_at keys items N t) (accumulators_at keys items M t)
accumulators_append keys [] N M t = refl
accumulators_append keys (i ∷ items) N M t = by_term i.term (accumulators_append keys items N M t)
  where
    by_term : (g : GroupTerm) → accumulators_at keys items (N ++ M) t ≡ join_all (accumulators_at keys items N t) (accumulators_at keys items M t)
        → cons_option (term_accumulator keys t (N ++ M) g) (accumulators_at keys items (N ++ M) t)
        ≡ join_all (cons_option (term_accumulator keys t N g) (accumulators_at keys items N t)) (cons_option (term_accumulator keys t M g) (accumulators_at keys items M t))
    by_term (key j) r = r
    by_term count_rows r = ap₂ (λ x xs. x ∷ xs) (ap counted (ap length (rows_append keys t (longest_chain keys) N M) ∙ length-append (group_rows keys t (longest_chain keys) N) (group_rows keys t (longest_chain keys) M))) r
    by_term (aggregate a e) r =
        let p : List Step = longer (longest_chain keys) (expression_chain e) in
        ap₂ (λ x xs. x ∷ xs)
        (ap (accumulated a) (ap (map (evaluate e)) (rows_append keys t p N M) ∙ map-append (evaluate e) (group_rows keys t p N) (group_rows keys t p M))
        ∙ join_of_both a (map (evaluate e) (group_rows keys t p N)) (map (evaluate e) (group_rows keys t p M))) r

-- ---- no rows with a key tuple

abbrev pub NoRows : List (List Step) → Tuple → List Node → GroupTerm → Type 0
NoRows keys t ns (key j) = Unit {0}
NoRows keys t ns count_rows = group_rows keys t (longest_chain keys) ns ≡ []
NoRows keys t ns (aggregate a e) = group_rows keys t (longer (longest_chain keys) (expression_chain e)) ns ≡ []

abbrev pub empties : List GroupItem → List Accumulator
empties items = filter_map (λ (i : GroupItem). empty_term i.term) items

pub no_rows : (keys : List (List Step)) (items : List GroupItem) (ns : List Node) (t : Tuple) → Each (λ (i : GroupItem). NoRows keys t ns i.term) items → accumulators_at keys items ns t ≡ empties items
no_rows keys [] ns t h = refl
no_rows keys (i ∷ items) ns t h = by_term i.term h.0 (no_rows keys items ns t h.1)
  where
    by_term : (g : GroupTerm) → NoRows keys t ns g → accumulators_at keys items ns t ≡ empties items
        → cons_option (term_accumulator keys t ns g) (accumulators_at keys items ns t) ≡ cons_option (empty_term g) (empties items)
    by_term (key j) e r = r
    by_term count_rows e r = ap₂ (λ (rs : List Node) xs. counted (length rs) ∷ xs) e r
    by_term (aggregate a f) e r = ap₂ (λ (rs : List Node) xs. accumulated a (map (evaluate f) rs) ∷ xs) e r

pub empties_right : (keys : List (List Step)) (items : List GroupItem) (ns : List Node) (t : Tuple) → join_all (accumulators_at keys items ns t) (empties items) ≡ accumulators_at keys items ns t
empties_right keys [] ns t = refl
empties_right keys (i ∷ items) ns t = by_term i.term (empties_right keys items ns t)
  where
    by_term : (g : GroupTerm) → join_all (accumulators_at keys items ns t) (empties items) ≡ accumulators_at keys items ns t
        → join_all (cons_option (term_accumulator keys t ns g) (accumulators_at keys items ns t)) (cons_option (empty_term g) (empties items)) ≡ cons_option (term_accumulator keys t ns g) (accumulators_at keys items ns t)
    by_term (key j) r = r
    by_term count_rows r = ap₂ (λ x xs. x ∷ xs) (empty_right Aggregate.count (counted (length (group_rows keys t (longest_chain keys) ns))) refl) r
    by_term (aggregate a e) r =
        let vs = map (evaluate e) (group_rows keys t (longer (longest_chain keys) (expression_chain e)) ns) in
        ap₂ (λ x xs. x ∷ xs) (empty_right a (accumulated a vs) (accumulated_aggregate a vs)) r

pub empties_left : (keys : List (List Step)) (items : List GroupItem) (ns : List Node) (t : Tuple) → join_all (empties items) (accumulators_at keys items ns t) ≡ accumulators_at keys items ns t
empties_left keys [] ns t = refl
empties_left keys (i ∷ items) ns t = by_term i.term (empties_left keys items ns t)
  where
    by_term : (g : GroupTerm) → join_all (empties items) (accumulators_at keys items ns t) ≡ accumulators_at keys items ns t
        → join_all (cons_option (empty_term g) (empties items)) (cons_option (term_accumulator keys t ns g) (accumulators_at keys items ns t)) ≡ cons_option (term_accumulator keys t ns g) (accumulators_at keys items ns t)
    by_term (key j) r = r
    by_term count_rows r = ap₂ (λ x xs. x ∷ xs) (empty_left Aggregate.count (counted (length (group_rows keys t (longest_chain keys) ns))) refl) r
    by_term (aggregate a e) r =
        let vs = map (evaluate e) (group_rows keys t (longer (longest_chain keys) (expression_chain e)) ns) in
        ap₂ (λ x xs. x ∷ xs) (empty_left a (accumulated a vs) (accumulated_aggregate a vs)) r

-- the items over whose rows the keys stand
pub elsewhere : (keys : List (List Step)) (items : List GroupItem) → all_related keys ≡ true → list_all (λ (i : GroupItem). all_related (keys ++ group_term_paths i.term)) items ≡ true
    → (ns : List Node) → Each (SingleAll keys) ns → (t : Tuple) → among t (tuples_of keys (longest_chain keys) ns) ≡ false → Each (λ (i : GroupItem). NoRows keys t ns i.term) items
elsewhere keys [] h g ns s t a = tt
elsewhere keys (i ∷ items) h g ns s t a =
    let k = and_parts (all_related (keys ++ group_term_paths i.term)) (list_all (λ (i : GroupItem). all_related (keys ++ group_term_paths i.term)) items) g in
    (by_term i.term k.0, elsewhere keys items h k.1 ns s t a)
  where
    by_term : (g : GroupTerm) → all_related (keys ++ group_term_paths g) ≡ true → NoRows keys t ns g
    by_term (key j) r = tt
    by_term count_rows r = no_rows_elsewhere keys (longest_chain keys) (longest_chain keys) (longest_itself keys) (chains_begin keys h) ns s t a
    by_term (aggregate b e) r = no_rows_elsewhere keys (longest_chain keys) (longer (longest_chain keys) (expression_chain e)) (longest_begins keys (paths_of e) r) (chains_begin keys h) ns s t a

-- ---- the groups of records joined

joined_at : (items : List GroupItem) (x y both : List Accumulator) (a b : Bool) → both ≡ join_all x y → (a ≡ false → x ≡ empties items) → (b ≡ false → y ≡ empties items)
    → join_all (empties items) y ≡ y → join_all x (empties items) ≡ x
    → (if a || b then Some both else None) ≡ join_options join_all (if a then Some x else None) (if b then Some y else None)
joined_at items x y both true true e f g l r = ap Some e
joined_at items x y both true false e f g l r = ap Some (e ∙ (ap (join_all x) (g refl) ∙ r))
joined_at items x y both false true e f g l r = ap Some (e ∙ (ap (λ z. join_all z y) (f refl) ∙ l))
joined_at items x y both false false e f g l r = refl

tuples_append : (keys : List (List Step)) (p : List Step) (N M : List Node) → tuples_of keys p (N ++ M) ≡ tuples_of keys p N ++ tuples_of keys p M
tuples_append keys p N M = ap (map (key_tuple keys)) (flat_map-append (rows p) N M) ∙ map-append (key_tuple keys) (flat_map (rows p) N) (flat_map (rows p) M)

groups_append : (keys : List (List Step)) (items : List GroupItem) → all_related keys ≡ true → list_all (λ (i : GroupItem). all_related (keys ++ group_term_paths i.term)) items ≡ true
    → (N M : List Node) → Each (SingleAll keys) N → Each (SingleAll keys) M
    → groups_at (accumulators_at keys items (N ++ M)) (distinct_tuples (tuples_of keys (longest_chain keys) (N ++ M)))
    ≡ merge_groups (groups_at (accumulators_at keys items N) (distinct_tuples (tuples_of keys (longest_chain keys) N))) (groups_at (accumulators_at keys items M) (distinct_tuples (tuples_of keys (longest_chain keys) M)))
groups_append keys items h g N M n m =
    found_alike _ _ (distinct_ascends (accumulators_at keys items (N ++ M)) (tuples_of keys (longest_chain keys) (N ++ M)))
    (merged_ascends (groups_of N) (groups_of M) (distinct_ascends (accumulators_at keys items M) (tuples_of keys (longest_chain keys) M))) found
  where
    groups_of : List Node → List Group
    groups_of ns = groups_at (accumulators_at keys items ns) (distinct_tuples (tuples_of keys (longest_chain keys) ns))

    at : (ns : List Node) (t : Tuple) → find t (groups_at (accumulators_at keys items ns) (distinct_tuples (tuples_of keys (longest_chain keys) ns)))
        ≡ (if among t (tuples_of keys (longest_chain keys) ns) then Some (accumulators_at keys items ns t) else None)
    at ns t = find_at (accumulators_at keys items ns) t (distinct_tuples (tuples_of keys (longest_chain keys) ns))
        ∙ ap (λ b. if b then Some (accumulators_at keys items ns t) else None) (among_distinct t (tuples_of keys (longest_chain keys) ns))

    found : (t : Tuple) → find t (groups_at (accumulators_at keys items (N ++ M)) (distinct_tuples (tuples_of keys (longest_chain keys) (N ++ M))))
        ≡ find t (merge_groups (groups_at (accumulators_at keys items N) (distinct_tuples (tuples_of keys (longest_chain keys) N))) (groups_at (accumulators_at keys items M) (distinct_tuples (tuples_of keys (longest_chain keys) M))))
    found t =
        at (N ++ M) t
        ∙ (ap (λ b. if b then Some (accumulators_at keys items (N ++ M) t) else None) (ap (among t) (tuples_append keys (longest_chain keys) N M) ∙ list_any-append (same_tuple t) (tuples_of keys (longest_chain keys) N) (tuples_of keys (longest_chain keys) M))
        ∙ (joined_at items (accumulators_at keys items N t) (accumulators_at keys items M t) (accumulators_at keys items (N ++ M) t) (among t (tuples_of keys (longest_chain keys) N)) (among t (tuples_of keys (longest_chain keys) M))
        (accumulators_append keys items N M t)
        (λ e. no_rows keys items N t (elsewhere keys items h g N n t e)) (λ e. no_rows keys items M t (elsewhere keys items h g M m t e))
        (empties_left keys items M t) (empties_right keys items N t)
        ∙ (ap₂ (join_options join_all) (sym (at N t)) (sym (at M t))
        ∙ sym (find_merged t _ _ (distinct_ascends (accumulators_at keys items N) (tuples_of keys (longest_chain keys) N)) (distinct_ascends (accumulators_at keys items M) (tuples_of keys (longest_chain keys) M))))))

-- the paths of keys, of each of which a node has at most one instance where its fields aren't repeated
abbrev pub key_paths : Selection → List (List Step)
key_paths (objects items) = []
key_paths (groups keys items) = keys

-- that the keys are related, and each item's paths with them
abbrev pub AreRelated : Selection → Type 0
AreRelated (objects items) = Unit {0}
AreRelated (groups keys items) = (all_related keys ≡ true) × (list_all (λ (i : GroupItem). all_related (keys ++ group_term_paths i.term)) items ≡ true)

pub selected_append : (s : Selection) (ls : Levels) → AreRelated s → (N M : List Node) → Each (SingleAll (key_paths s)) N → Each (SingleAll (key_paths s)) M
    → selected_partial s ls (N ++ M) ≡ merge (selected_partial s ls N) (selected_partial s ls M)
unfolding merge
selected_append (objects items) ls h N M n m = ap lines (map-append (record_object items ls) N M)
selected_append (groups [] items) ls h N M n m = ap (λ (xs : List Accumulator). grouped (record { keys = []; accumulators = xs } ∷ [])) (accumulators_append [] items N M [])
selected_append (groups (k ∷ ks) items) ls h N M n m = ap grouped (groups_append (k ∷ ks) items h.0 h.1 N M n m)

-- the partials of nodes with at most one instance where the keys' fields aren't repeated
pub partials_append : (fs : Fields) (q : Query) → AreRelated q.selection → (R S : List Node) → Each (SingleAll (key_paths q.selection)) R → Each (SingleAll (key_paths q.selection)) S
    → partial_of fs q (R ++ S) ≡ merge (partial_of fs q R) (partial_of fs q S)
unfolding partial_of
partials_append fs q h R S r s =
    ap (selected_partial q.selection (levels_of fs)) (filter_map-append (kept q.condition) R S)
    ∙ selected_append q.selection (levels_of fs) h (filter_map (kept q.condition) R) (filter_map (kept q.condition) S) (single_kept (key_paths q.selection) q.condition R r) (single_kept (key_paths q.selection) q.condition S s)

pub mergeable_related : (fs : Fields) (s : Selection) → is_mergeable_selection fs s ≡ true → (list_all (is_leaf_path fs) (key_paths s) ≡ true) × AreRelated s
mergeable_related fs (objects items) h = (refl, tt)
mergeable_related fs (groups keys items) h =
    let k = and_parts (list_all (is_leaf_path fs) keys && all_related keys) (list_all (λ (i : GroupItem). all_related (keys ++ group_term_paths i.term)) items) h in
    let l = and_parts (list_all (is_leaf_path fs) keys) (all_related keys) k.0 in
    (l.0, (l.1, k.1))

pub merged_stands : MergedStands
unfolding Stands
merged_stands fs q R S p r h a b e f =
    let k = mergeable_related fs q.selection h in
    ap₂ merge e f ∙ sym (partials_append fs q k.1 R S (records_single fs (key_paths q.selection) R k.0 a) (records_single fs (key_paths q.selection) S k.0 b))
