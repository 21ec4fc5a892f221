-- What a tree answers to the leaf query, and what the root makes of it.
use Rattle.std.proofs.Common.{◌≡◌, ℕ, List, [], ◌∷◌, ◌++◌, map, length, true, ◌&&◌, Option, None, refl, sym, ap, ap₂, ◌∙◌, subst, append_assoc, append-nil}
use Rattle.std.specs.List.{filter_map, list_all}
use Rattle.std.proofs.Math.Path.{fun_ext}
use Rattle.std.proofs.lemmas.Bool.{and_parts}
use Rattle.std.proofs.lemmas.Grind.{flat_map-append}
use Rattle.std.proofs.lemmas.List.{map-append}
use Rattle.std.proofs.lemmas.List.Elements.{filter_map-append}
use Rattle.std.proofs.lemmas.List.Folds.{list_all-append}
use Rattle.std.proofs.lemmas.Simd.{map-map}
use Rattle.dr_meaning.specs.Schema.{Fields, no_fields}
use Rattle.dr_meaning.specs.Path.{Step}
use Rattle.dr_meaning.specs.Record.{Node, is_record}
use Rattle.dr_meaning.specs.Expression.{Expression}
use Rattle.dr_meaning.specs.Kept.{kept}
use Rattle.dr_meaning.specs.Query.{GroupTerm, RecordItem, GroupItem, Selection, objects, groups, Query, Object, no_levels, levels_of, record_object, meaning}
use Rattle.dr_partials.specs.Partials.{Group, grouped, selected_partial, partial_of, merge_groups, merge, group_row, finished_selection, finished}
use Rattle.dr_partials.specs.PartialTypes.{aggregates_among}
use Rattle.dr_partials.specs.PartialLaws.{is_mergeable_selection}
use Rattle.dr_partials.specs.Trees.{Tree, leaf_server, intermediate_server, Trees, no_trees, next_tree, tablets_of, tablets_of_all}
use Rattle.dr_partials.specs.TreeLaws.{records_of}
use Rattle.dr_partials.specs.Rewriting.{key_items, aggregate_items, leaf_query, key_columns, merging_terms, inner_query, root_items, root_query, row_record, merged_results, tree_answer, trees_answer, root_answer}
use Rattle.dr_partials.specs.RewritingLaws.{RootMeansQuery}
use Rattle.dr_partials.proofs.GroupLemmas.{AllOfKinds}
use Rattle.dr_partials.proofs.RowLemmas.{Each, each_append, SingleAll, records_single, single_kept}
use Rattle.dr_partials.proofs.PartialLemmas.{finished_partial_is_meaning, selected_append, mergeable_related}
use Rattle.dr_partials.proofs.RewritingLemmas.{among_are, leaf_has_partials, same_groups, of_key_items, of_aggregate_items, merging_are, of_root_items, term_aggregate, FitsTerms, groups_in, groups_fit, groups_one, rows_columns, keys_over, merged_over, columns_related, records_cells, merged_group, rows_partial, groups_merged, inner_row, root_row}

-- ---- an aggregate query

abbrev leaf_item_list : List (List Step) → List GroupItem → List GroupItem
leaf_item_list keys items = key_items 0 keys ++ aggregate_items 0 (aggregates_among items)

abbrev inner_item_list : List (List Step) → List GroupItem → List GroupItem
inner_item_list keys items = key_items 0 keys ++ aggregate_items 0 (merging_terms (length keys) (aggregates_among items))

inner_aggregates_are : (keys : List (List Step)) (items : List GroupItem) → aggregates_among (key_items 0 keys ++ aggregate_items 0 (merging_terms (length keys) (aggregates_among items))) ≡ merging_terms (length keys) (aggregates_among items)
inner_aggregates_are keys items =
    of_key_items 0 keys (aggregate_items 0 (merging_terms (length keys) (aggregates_among items)))
    ∙ of_aggregate_items 0 (merging_terms (length keys) (aggregates_among items)) (merging_are (length keys) (aggregates_among items) (among_are items))

-- the groups of records, and their rows under the leaf query's names
abbrev kept_groups : Option Expression → List (List Step) → List GroupItem → List Node → List Group
kept_groups c keys items ns = groups_in keys items (filter_map (kept c) ns)

abbrev leaf_rows : List (List Step) → List GroupItem → List Group → List Object
leaf_rows keys items gs = map (λ (g : Group). group_row (leaf_item_list keys items) g.keys g.accumulators) gs

abbrev group_query : Option Expression → List (List Step) → List GroupItem → Query
group_query c keys items = record { condition = c; selection = groups keys items }

leaf_answer : (fs : Fields) (c : Option Expression) (keys : List (List Step)) (items : List GroupItem) (ns : List Node) → meaning fs (leaf_query (group_query c keys items)) ns ≡ leaf_rows keys items (kept_groups c keys items ns)
unfolding leaf_query partial_of finished
leaf_answer fs c keys items ns =
    sym (finished_partial_is_meaning fs (leaf_query (group_query c keys items)) ns) ∙ ap (finished (leaf_query (group_query c keys items))) (leaf_has_partials fs (group_query c keys items) ns)

-- these results tell the groups of these records: as rows they have the same, merged
record IsTold (c : Option Expression) (keys : List (List Step)) (items : List GroupItem) (os : List Object) (ns : List Node) : Type 0 where
  single : Each (SingleAll (key_columns keys)) (map row_record os)
  partial : selected_partial (groups (key_columns keys) (inner_item_list keys items)) no_levels (map row_record os) ≡ grouped (map merged_group (kept_groups c keys items ns))

rows_told : (c : Option Expression) (keys : List (List Step)) (items : List GroupItem) (ns : List Node) → IsTold c keys items (leaf_rows keys items (kept_groups c keys items ns)) ns
rows_told c keys items ns =
    let gs = kept_groups c keys items ns in
    let f = groups_fit keys items (filter_map (kept c) ns) in
    let e = rows_columns keys (aggregates_among items) (among_are items) gs f in
    record {
      single = subst (λ ms. Each (SingleAll (key_columns keys)) ms) (sym e) (records_cells keys gs);
      partial = ap (selected_partial (groups (key_columns keys) (inner_item_list keys items)) no_levels) e
          ∙ rows_partial keys (aggregates_among items) (inner_item_list keys items) (among_are items) (inner_aggregates_are keys items)
          (each_append _ (key_items 0 keys) (aggregate_items 0 (merging_terms (length keys) (aggregates_among items))) (keys_over 0 keys) (merged_over 0 (length keys) (aggregates_among items)))
          no_levels gs f (groups_one keys items (filter_map (kept c) ns));
    }

inside : (gs hs : List Group) → grouped gs ≡ grouped hs → gs ≡ hs
inside gs hs h = cc

fit_kinds : (keys : List (List Step)) (ts : List GroupTerm) (gs : List Group) → Each (FitsTerms keys ts) gs → AllOfKinds (map term_aggregate ts) gs
fit_kinds keys ts [] f = tt
fit_kinds keys ts (g ∷ gs) f = (f.0.1, fit_kinds keys ts gs f.1)

both_groups : (fs : Fields) (c : Option Expression) (keys : List (List Step)) (items : List GroupItem) → is_mergeable_selection fs (groups keys items) ≡ true → (ns ms : List Node) → list_all (is_record fs) ns ≡ true → list_all (is_record fs) ms ≡ true
    → kept_groups c keys items (ns ++ ms) ≡ merge_groups (kept_groups c keys items ns) (kept_groups c keys items ms)
unfolding merge
both_groups fs c keys items h ns ms a b =
    let k = mergeable_related fs (groups keys items) h in
    inside _ _ (ap (selected_partial (groups keys items) no_levels) (filter_map-append (kept c) ns ms)
    ∙ selected_append (groups keys items) no_levels k.1 (filter_map (kept c) ns) (filter_map (kept c) ms) (single_kept keys c ns (records_single fs keys ns k.0 a)) (single_kept keys c ms (records_single fs keys ms k.0 b)))

both_told : (fs : Fields) (c : Option Expression) (keys : List (List Step)) (items : List GroupItem) → is_mergeable_selection fs (groups keys items) ≡ true → (os ps : List Object) (ns ms : List Node) → list_all (is_record fs) ns ≡ true → list_all (is_record fs) ms ≡ true
    → IsTold c keys items os ns → IsTold c keys items ps ms → IsTold c keys items (os ++ ps) (ns ++ ms)
unfolding merge
both_told fs c keys items h os ps ns ms a b o p =
    let e = map-append row_record os ps in
    let kinds = map term_aggregate (aggregates_among items) in
    let over = each_append _ (key_items 0 keys) (aggregate_items 0 (merging_terms (length keys) (aggregates_among items))) (keys_over 0 keys) (merged_over 0 (length keys) (aggregates_among items)) in
    record {
      single = subst (λ ms. Each (SingleAll (key_columns keys)) ms) (sym e) (each_append _ (map row_record os) (map row_record ps) o.single p.single);
      partial = ap (selected_partial (groups (key_columns keys) (inner_item_list keys items)) no_levels) e
          ∙ (selected_append (groups (key_columns keys) (inner_item_list keys items)) no_levels (columns_related keys (inner_item_list keys items) over) (map row_record os) (map row_record ps) o.single p.single
          ∙ (ap₂ merge o.partial p.partial
          ∙ ap grouped (sym (groups_merged kinds (kept_groups c keys items ns) (kept_groups c keys items ms)
          (fit_kinds keys (aggregates_among items) (kept_groups c keys items ns) (groups_fit keys items (filter_map (kept c) ns)))
          (fit_kinds keys (aggregates_among items) (kept_groups c keys items ms) (groups_fit keys items (filter_map (kept c) ms))))
          ∙ ap (map merged_group) (sym (both_groups fs c keys items h ns ms a b)))));
    }

all_kept : (ns : List Node) → filter_map (kept None) ns ≡ ns
all_kept [] = refl
all_kept (n ∷ ns) = ap (λ ms. n ∷ ms) (all_kept ns)

-- what a query over rows gives, where its groups of the rows are known
rows_meaning : (keys : List (List Step)) (items : List GroupItem) (ns : List Node) (gs : List Group) → selected_partial (groups keys items) no_levels ns ≡ grouped gs
    → meaning no_fields (record { condition = None; selection = groups keys items }) ns ≡ map (λ (g : Group). group_row items g.keys g.accumulators) gs
unfolding partial_of finished
rows_meaning keys items ns gs h =
    sym (finished_partial_is_meaning no_fields (record { condition = None; selection = groups keys items }) ns)
    ∙ ap (finished_selection (groups keys items)) (ap (selected_partial (groups keys items) no_levels) (all_kept ns) ∙ h)

inner_told : (c : Option Expression) (keys : List (List Step)) (items : List GroupItem) (os : List Object) (ns : List Node) → IsTold c keys items os ns
    → merged_results (inner_query (group_query c keys items)) os ≡ leaf_rows keys items (kept_groups c keys items ns)
unfolding inner_query
inner_told c keys items os ns o =
    let gs = kept_groups c keys items ns in
    rows_meaning (key_columns keys) (inner_item_list keys items) (map row_record os) (map merged_group gs) o.partial
    ∙ (map-map (λ (g : Group). group_row (inner_item_list keys items) g.keys g.accumulators) merged_group gs
    ∙ ap (λ f. map f gs) (fun_ext (λ (g : Group). inner_row 0 keys (length keys) (aggregates_among items) g.keys g.accumulators (among_are items))))

root_told : (fs : Fields) (c : Option Expression) (keys : List (List Step)) (items : List GroupItem) (os : List Object) (ns : List Node) → IsTold c keys items os ns
    → merged_results (root_query (group_query c keys items)) os ≡ meaning fs (group_query c keys items) ns
unfolding root_query partial_of finished
root_told fs c keys items os ns o =
    let gs = kept_groups c keys items ns in
    rows_meaning (key_columns keys) (root_items (length keys) items) (map row_record os) (map merged_group gs)
    (same_groups (key_columns keys) (root_items (length keys) items) (inner_item_list keys items) no_levels no_levels (map row_record os) (of_root_items (length keys) items ∙ sym (inner_aggregates_are keys items)) ∙ o.partial)
    ∙ (map-map (λ (g : Group). group_row (root_items (length keys) items) g.keys g.accumulators) merged_group gs
    ∙ (ap (λ f. map f gs) (fun_ext (λ (g : Group). root_row (length keys) items g.keys g.accumulators))
    ∙ finished_partial_is_meaning fs (group_query c keys items) ns))

mutual
  tree_told : (fs : Fields) (c : Option Expression) (keys : List (List Step)) (items : List GroupItem) → is_mergeable_selection fs (groups keys items) ≡ true → (R : ℕ → List Node) (tree : Tree) → list_all (is_record fs) (records_of R (tablets_of tree)) ≡ true
      → tree_answer fs (group_query c keys items) R tree ≡ leaf_rows keys items (kept_groups c keys items (records_of R (tablets_of tree)))
  tree_told fs c keys items h R (leaf_server t) a = leaf_answer fs c keys items (R t) ∙ ap (λ ns. leaf_rows keys items (kept_groups c keys items ns)) (sym (append-nil (R t)))
  tree_told fs c keys items h R (intermediate_server t ts) a =
      let e = flat_map-append R (tablets_of t) (tablets_of_all ts) in
      let k = and_parts (list_all (is_record fs) (records_of R (tablets_of t))) (list_all (is_record fs) (records_of R (tablets_of_all ts))) (sym (ap (list_all (is_record fs)) e ∙ list_all-append (is_record fs) (records_of R (tablets_of t)) (records_of R (tablets_of_all ts))) ∙ a) in
      let o : IsTold c keys items (tree_answer fs (group_query c keys items) R t) (records_of R (tablets_of t)) =
      subst (λ os. IsTold c keys items os (records_of R (tablets_of t))) (sym (tree_told fs c keys items h R t k.0)) (rows_told c keys items (records_of R (tablets_of t))) in
      inner_told c keys items (tree_answer fs (group_query c keys items) R t ++ trees_answer fs (group_query c keys items) R ts) (records_of R (tablets_of t) ++ records_of R (tablets_of_all ts))
      (trees_told fs c keys items h R ts (tree_answer fs (group_query c keys items) R t) (records_of R (tablets_of t)) o k.0 k.1)
      ∙ ap (λ ns. leaf_rows keys items (kept_groups c keys items ns)) (sym e)

  trees_told : (fs : Fields) (c : Option Expression) (keys : List (List Step)) (items : List GroupItem) → is_mergeable_selection fs (groups keys items) ≡ true → (R : ℕ → List Node) (trees : Trees) (os : List Object) (ns : List Node) → IsTold c keys items os ns
      → list_all (is_record fs) ns ≡ true → list_all (is_record fs) (records_of R (tablets_of_all trees)) ≡ true
      → IsTold c keys items (os ++ trees_answer fs (group_query c keys items) R trees) (ns ++ records_of R (tablets_of_all trees))
  trees_told fs c keys items h R no_trees os ns o a b = subst (λ ps. IsTold c keys items ps (ns ++ [])) (sym (append-nil os)) (subst (λ ms. IsTold c keys items os ms) (sym (append-nil ns)) o)
  trees_told fs c keys items h R (next_tree t ts) os ns o a b =
      let N = records_of R (tablets_of t) in
      let M = records_of R (tablets_of_all ts) in
      let e = flat_map-append R (tablets_of t) (tablets_of_all ts) in
      let k = and_parts (list_all (is_record fs) N) (list_all (is_record fs) M) (sym (ap (list_all (is_record fs)) e ∙ list_all-append (is_record fs) N M) ∙ b) in
      let p = subst (λ ps. IsTold c keys items ps N) (sym (tree_told fs c keys items h R t k.0)) (rows_told c keys items N) in
      let both = both_told fs c keys items h os (tree_answer fs (group_query c keys items) R t) ns N a k.0 o p in
      let r = trees_told fs c keys items h R ts (os ++ tree_answer fs (group_query c keys items) R t) (ns ++ N) both (list_all-append (is_record fs) ns N ∙ ap₂ (λ x y. x && y) a k.0) k.1 in
      subst (λ ps. IsTold c keys items ps (ns ++ records_of R (tablets_of t ++ tablets_of_all ts))) (append_assoc os (tree_answer fs (group_query c keys items) R t) (trees_answer fs (group_query c keys items) R ts))
      (subst (λ ms. IsTold c keys items ((os ++ tree_answer fs (group_query c keys items) R t) ++ trees_answer fs (group_query c keys items) R ts) ms) (append_assoc ns N M ∙ ap (λ ms. ns ++ ms) (sym e)) r)

-- ---- a record query

abbrev object_query : Option Expression → List RecordItem → Query
object_query c items = record { condition = c; selection = objects items }

lines_append : (fs : Fields) (c : Option Expression) (items : List RecordItem) (ns ms : List Node) → meaning fs (object_query c items) (ns ++ ms) ≡ meaning fs (object_query c items) ns ++ meaning fs (object_query c items) ms
unfolding meaning
lines_append fs c items ns ms = ap (map (record_object items (levels_of fs))) (filter_map-append (kept c) ns ms) ∙ map-append (record_object items (levels_of fs)) (filter_map (kept c) ns) (filter_map (kept c) ms)

no_lines : (fs : Fields) (c : Option Expression) (items : List RecordItem) → meaning fs (object_query c items) [] ≡ []
unfolding meaning
no_lines fs c items = refl

mutual
  unfolding leaf_query inner_query

  tree_lines : (fs : Fields) (c : Option Expression) (items : List RecordItem) (R : ℕ → List Node) (tree : Tree) → tree_answer fs (object_query c items) R tree ≡ meaning fs (object_query c items) (records_of R (tablets_of tree))
  tree_lines fs c items R (leaf_server t) = ap (meaning fs (object_query c items)) (sym (append-nil (R t)))
  tree_lines fs c items R (intermediate_server t ts) =
      ap₂ (λ os ps. os ++ ps) (tree_lines fs c items R t) (trees_lines fs c items R ts)
      ∙ (sym (lines_append fs c items (records_of R (tablets_of t)) (records_of R (tablets_of_all ts))) ∙ ap (meaning fs (object_query c items)) (sym (flat_map-append R (tablets_of t) (tablets_of_all ts))))

  trees_lines : (fs : Fields) (c : Option Expression) (items : List RecordItem) (R : ℕ → List Node) (trees : Trees) → trees_answer fs (object_query c items) R trees ≡ meaning fs (object_query c items) (records_of R (tablets_of_all trees))
  trees_lines fs c items R no_trees = sym (no_lines fs c items)
  trees_lines fs c items R (next_tree t ts) =
      ap₂ (λ os ps. os ++ ps) (tree_lines fs c items R t) (trees_lines fs c items R ts)
      ∙ (sym (lines_append fs c items (records_of R (tablets_of t)) (records_of R (tablets_of_all ts))) ∙ ap (meaning fs (object_query c items)) (sym (flat_map-append R (tablets_of t) (tablets_of_all ts))))

-- ---- the root

root_of : (fs : Fields) (c : Option Expression) (s : Selection) (R : ℕ → List Node) (tree : Tree) → is_mergeable_selection fs s ≡ true → list_all (is_record fs) (records_of R (tablets_of tree)) ≡ true
    → root_answer fs (record { condition = c; selection = s }) R tree ≡ meaning fs (record { condition = c; selection = s }) (records_of R (tablets_of tree))
unfolding root_query
root_of fs c (objects items) R tree h a = tree_lines fs c items R tree
root_of fs c (groups keys items) R tree h a =
    ap (merged_results (root_query (group_query c keys items))) (tree_told fs c keys items h R tree a)
    ∙ root_told fs c keys items (leaf_rows keys items (kept_groups c keys items (records_of R (tablets_of tree)))) (records_of R (tablets_of tree)) (rows_told c keys items (records_of R (tablets_of tree)))

pub root_means_query : RootMeansQuery
root_means_query fs q R tree h a = root_of fs q.condition q.selection R tree h a
