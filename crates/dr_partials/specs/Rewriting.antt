-- Rewriting: a query over a table as a query over each tablet, a query that merges the results of children, and one that ends at the root
-- (Dremel 2010, section 6).
use Rattle.std.specs.Prelude.{ℕ, suc, List, [], ◌∷◌, ◌++◌, map, length, Option, Some, None, codes}
use Rattle.std.specs.List.{range_with_len}
use Rattle.std.specs.Fmt.{decimal}
use Rattle.dr_meaning.specs.Schema.{optional, Fields, no_fields}
use Rattle.dr_meaning.specs.Path.{Step}
use Rattle.dr_meaning.specs.Record.{Value, Node, no_slots, slot, gap, Instances, no_instances, atom, single}
use Rattle.dr_meaning.specs.Expression.{path_value}
use Rattle.dr_meaning.specs.Query.{Aggregate, count, sum, GroupTerm, key, count_rows, aggregate, GroupItem, Selection, objects, groups, Query, Object}
use Rattle.dr_meaning.specs.Query.{no_entries, cell, list, meaning}
use Rattle.dr_partials.specs.PartialTypes.{aggregates_among}
use Rattle.dr_partials.specs.Trees.{Tree, leaf_server, intermediate_server, Trees, no_trees, next_tree}

-- ---- the leaf query

-- the keys as items k0, k1, .., in the order of GROUP BY, the first of them the nth
abbrev pub key_items : ℕ → List (List Step) → List GroupItem
key_items n [] = []
key_items n (k ∷ ks) = record { name = codes "k" ++ decimal n; term = key n } ∷ key_items (suc n) ks

-- aggregates as items a0, a1, .., the first of them the nth
abbrev pub aggregate_items : ℕ → List GroupTerm → List GroupItem
aggregate_items n [] = []
aggregate_items n (t ∷ ts) = record { name = codes "a" ++ decimal n; term = t } ∷ aggregate_items (suc n) ts

abbrev pub leaf_selection : Selection → Selection
leaf_selection (objects items) = objects items
leaf_selection (groups keys items) = groups keys (key_items 0 keys ++ aggregate_items 0 (aggregates_among items))

-- over a tablet: of an aggregate query each key, then each aggregate in the order of SELECT; of a record query the query itself
unfoldable pub leaf_query : Query → Query
leaf_query q = record { condition = q.condition; selection = leaf_selection q.selection }

-- ---- merging results

-- the results of children one behind another, or a query over their rows
pub data Merging : Type 0 where
  concatenated : Merging
  by_query : Query → Merging

-- the path of the ith column of a row
abbrev pub column : ℕ → List Step
column i = record { place = i; repetition = optional } ∷ []

-- the columns of so many keys, the first columns of a row
abbrev pub key_columns : List (List Step) → List (List Step)
key_columns keys = map column (range_with_len 0 (length keys))

-- counts are merged by SUM, all else by itself
abbrev pub merging_aggregate : Aggregate → Aggregate
merging_aggregate count = sum
merging_aggregate a = a

-- of an aggregate, that which merges the column i; a key stays
abbrev pub merging_term : ℕ → GroupTerm → GroupTerm
merging_term i (key j) = key j
merging_term i count_rows = aggregate sum (path_value (column i))
merging_term i (aggregate a e) = aggregate (merging_aggregate a) (path_value (column i))

-- aggregates of the columns from the ith on
abbrev pub merging_terms : ℕ → List GroupTerm → List GroupTerm
merging_terms i [] = []
merging_terms i (t ∷ ts) = merging_term i t ∷ merging_terms (suc i) ts

abbrev pub inner_selection : Selection → Merging
inner_selection (objects items) = concatenated
inner_selection (groups keys items) = by_query (record {
  condition = None;
  selection = groups (key_columns keys) (key_items 0 keys ++ aggregate_items 0 (merging_terms (length keys) (aggregates_among items)));
})

-- of an intermediate server: groups by the k columns, and merges each a column; of a record query one behind another
unfoldable pub inner_query : Query → Merging
inner_query q = inner_selection q.selection

-- the column behind an item's
abbrev pub column_behind : ℕ → GroupTerm → ℕ
column_behind i (key j) = i
column_behind i t = suc i

-- the query's items, with their names, over the columns from the ith on
abbrev pub root_items : ℕ → List GroupItem → List GroupItem
root_items i [] = []
root_items i (item ∷ items) = record { name = item.name; term = merging_term i item.term } ∷ root_items (column_behind i item.term) items

abbrev pub root_selection : Selection → Merging
root_selection (objects items) = concatenated
root_selection (groups keys items) =
    by_query (record { condition = None; selection = groups (key_columns keys) (root_items (length keys) items) })

-- of the root: as an intermediate server, but with the query's items, names and order
unfoldable pub root_query : Query → Merging
root_query q = root_selection q.selection

-- ---- what they give

-- a result's row as a record: in each column its value, or none for NULL
abbrev pub cell_instances : Option Value → Instances
cell_instances None = no_instances
cell_instances (Some v) = single (atom v)

abbrev pub row_record : Object → Node
row_record no_entries = no_slots
row_record (cell n v o) = slot (cell_instances v) (row_record o)
row_record (list n os o) = gap (row_record o)

-- what the results of children, one behind another, are merged to
abbrev pub merged_results : Merging → List Object → List Object
merged_results concatenated os = os
merged_results (by_query q) os = meaning no_fields q (map row_record os)

-- what a tree answers to the leaf query, where each tablet has these records and each intermediate server merges its children's results
abbrev mutual
  pub tree_answer : Fields → Query → (ℕ → List Node) → Tree → List Object
  tree_answer fs q R (leaf_server t) = meaning fs (leaf_query q) (R t)
  tree_answer fs q R (intermediate_server t ts) = merged_results (inner_query q) (tree_answer fs q R t ++ trees_answer fs q R ts)

  pub trees_answer : Fields → Query → (ℕ → List Node) → Trees → List Object
  trees_answer fs q R no_trees = []
  trees_answer fs q R (next_tree t ts) = tree_answer fs q R t ++ trees_answer fs q R ts

-- and what the root makes of it
abbrev pub root_answer : Fields → Query → (ℕ → List Node) → Tree → List Object
root_answer fs q R tree = merged_results (root_query q) (tree_answer fs q R tree)
