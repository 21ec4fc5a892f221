-- The lines that are written are those of the plan's query.
use Rattle.std.proofs.Common.{◌≡◌, ℕ, ◌+◌, ◌<◌, ◌≤◌, List, [], ◌++◌, map, length, true, Vec, refl, sym, ap, ap₂, ◌∙◌, subst, arith}
use Rattle.std.specs.Prelude.{codes, Option, option_map}
use Rattle.std.specs.List.{list_all, slice_get}
use Rattle.std.specs.declared.alloc.Global.{Global}
use Rattle.std.proofs.lemmas.Bool.{and_parts}
use Rattle.std.proofs.lemmas.List.{length-map}
use Rattle.dr_meaning.specs.Path.{Step, Leaf}
use Rattle.dr_meaning.specs.Query as query
use Rattle.dr_partials.specs.PartialTypes.{aggregates_among}
use Rattle.dr_partials.specs.Rewriting.{key_items, aggregate_items, merging_terms}
use Rattle.dr_partials.specs.RewritingText.{group_term_text, column_text, column_names, in_quotes, named, record_term_text, key_names as meant_names, select_text, inner_text, root_text}
use Rattle.dr_plan.specs.Conjuncts.{condition_written}
use Rattle.dr_plan.specs.declared.aggregate.Aggregate.{Aggregate}
use Rattle.dr_plan.specs.declared.expression.Truth.{Truth}
use Rattle.dr_plan.specs.declared.joining.Joining.{Joining}
use Rattle.dr_plan.specs.declared.plan.GroupItem.{GroupItem}
use Rattle.dr_plan.specs.declared.plan.Selection.{Selection}
use Rattle.dr_plan.specs.Fitting.{are_numbered, has_key, selection_fits}
use Rattle.dr_plan.specs.Views.{aggregate_view, group_item_view, path_of, joining_view, record_item_view, selection_view, truth_view}
use Rattle.dr_rewrite.specs.Items.{indexed, key_name, aggregate_name, key_text, leaf_key, leaf_aggregate}
use Rattle.dr_rewrite.specs.Lines.{key_names, leaf_line, inner_line, root_line, tests_text}
use Rattle.dr_rewrite.specs.Writing.{written_leaves, written_path}
use Rattle.dr_rewrite.specs.declared.paths.Names.{Names}
use Rattle.dr_rewrite.proofs.RewritingTextLemmas.{names_of, key_item_names, names_count, nth_name, nth_aggregate, nth_behind, nth_of, no_shift, map_map, map_joined, written_items, leaf_keys, leaf_aggregates, numbers_of, among_items, inner_aggregates, root_written}
use Rattle.dr_meaning.specs.Lists.{nth_text}
use Rattle.dr_sub_meaning.specs.NestedText.{leaf_over}

-- ---- the parts of a plan that fits

abbrev pub paths_at : List Leaf → List ℕ → List (List Step)
paths_at ls keys = map (λ k. path_of (slice_get ls k)) keys

abbrev pub items_at : List Leaf → List Aggregate → List GroupItem → List query.GroupItem
items_at ls all items = map (group_item_view (map (aggregate_view ls) all)) items

pub record Numbered (ls : List Leaf) (keys : List ℕ) (all : List Aggregate) (items : List GroupItem) : Type 0 where
  pub keyed : list_all (λ (x : GroupItem). has_key (length keys) x.term) items ≡ true
  pub numbered : are_numbered 0 (numbers_of items) (length all) ≡ true
  pub among : aggregates_among (items_at ls all items) ≡ map (aggregate_view ls) all

pub parts_of : (ls : List Leaf) (keys : Vec ℕ Global) (all : Vec Aggregate Global) (items : Vec GroupItem Global) → selection_fits ls (Selection.Groups keys all items) ≡ true → Numbered ls keys.items all.items items.items
parts_of ls keys all items h =
    let p = and_parts _ (are_numbered 0 (numbers_of items.items) (length all.items)) h in
    let q = and_parts _ (list_all (λ (x : GroupItem). has_key (length keys.items) x.term) items.items) p.0 in
    record { keyed = q.1; numbered = p.1; among = among_items ls all.items items.items 0 p.1 }

-- ---- columns

aggregate_columns : (ps : List (List Step)) (ts : List query.GroupTerm) (i : ℕ) → i < length ts → nth_text (names_of (key_items 0 ps) ++ names_of (aggregate_items 0 ts)) (length ps + i) ≡ aggregate_name i
aggregate_columns ps ts i h =
    ap (λ k. nth_text (names_of (key_items 0 ps) ++ names_of (aggregate_items 0 ts)) (k + i)) (sym (names_count 0 ps))
    ∙ (nth_behind (names_of (key_items 0 ps)) (names_of (aggregate_items 0 ts)) i ∙ (nth_aggregate 0 ts i h ∙ ap aggregate_name (no_shift i)))

key_columns : (ps : List (List Step)) (k : ℕ) → k < length ps → nth_text (names_of (key_items 0 ps)) k ≡ key_name k
key_columns ps k h = nth_name 0 ps k h ∙ ap key_name (no_shift k)

as_many : (ls : List Leaf) (keys : List ℕ) (all : List Aggregate) (items : List GroupItem) → Numbered ls keys all items → (i : ℕ) → i < length all → i < length (aggregates_among (items_at ls all items))
as_many ls keys all items n i h = subst (λ m. i < m) (sym (ap length n.among ∙ length-map all (aggregate_view ls))) h

-- ---- the lines

leaf_items : (n : Names) (keys : List ℕ) (all : List Aggregate) (items : List GroupItem) → Numbered (written_leaves n) keys all items
    → indexed (leaf_key n) 0 keys ++ indexed (leaf_aggregate n) 0 all
    ≡ written_items (group_term_text (written_path n) (map (written_path n) (paths_at (written_leaves n) keys))) (key_items 0 (paths_at (written_leaves n) keys) ++ aggregate_items 0 (aggregates_among (items_at (written_leaves n) all items)))
leaf_items n keys all items w =
    let ls = written_leaves n in
    let texts = map (written_path n) (paths_at ls keys) in
    let text = group_term_text (written_path n) texts in
    sym (map_joined (λ (i : query.GroupItem). named (text i.term) i.name) (key_items 0 (paths_at ls keys)) (aggregate_items 0 (aggregates_among (items_at ls all items)))
    ∙ ap₂ (λ xs ys. xs ++ ys)
    (leaf_keys n texts (λ k. path_of (slice_get ls k)) 0 keys
    (λ j k e. ap (nth_text texts) (no_shift j) ∙ (ap (λ ts. nth_text ts j) (map_map (written_path n) (λ k. path_of (slice_get ls k)) keys) ∙ nth_of (key_text n) keys j k e)))
    (ap (λ ts. written_items text (aggregate_items 0 ts)) w.among ∙ leaf_aggregates n texts 0 all))

-- the leaf query of a plan over a table
pub leaf_same : (n : Names) (table : List ℕ) (tests : List Truth) (joining : Option Joining) (s : Selection) → selection_fits (written_leaves n) s ≡ true
    → leaf_line n table tests joining s ≡ leaf_over table (written_path n) (condition_written (map (truth_view (written_leaves n)) tests) (option_map joining_view joining)) (selection_view (written_leaves n) s)
leaf_same n table tests joining (Selection.Objects items o) h =
    ap (λ is. select_text is table (tests_text n tests joining) [])
    (sym (map_map (λ (i : query.RecordItem). named (record_term_text (written_path n) i.term) (in_quotes i.name)) (record_item_view (written_leaves n)) items.items))
leaf_same n table tests joining (Selection.Groups keys all items) h =
    ap₂ (λ is ks. select_text is table (tests_text n tests joining) ks) (leaf_items n keys.items all.items items.items (parts_of (written_leaves n) keys all items h))
    (sym (map_map (written_path n) (λ k. path_of (slice_get (written_leaves n) k)) keys.items))

-- those of servers above
pub inner_same : (ls : List Leaf) (s : Selection) → selection_fits ls s ≡ true → inner_line s ≡ inner_text (selection_view ls s)
inner_same ls (Selection.Objects items o) h = refl
inner_same ls (Selection.Groups keys all items) h =
    let w = parts_of ls keys all items h in
    let ps = paths_at ls keys.items in
    let is = items_at ls all.items items.items in
    let names = column_names ps is in
    let ks : key_names keys.items ≡ meant_names ps = sym (key_item_names (λ k. path_of (slice_get ls k)) 0 keys.items) in
    let below : 0 + length all.items ≤ length all.items = omega arith in
    let first : length ps ≡ length ps + 0 = omega arith in
    ap₂ (λ xs ys. select_text xs (codes "children") [] ys)
    (ap₂ (λ xs ys. xs ++ ys) ks
    (sym (ap (λ ts. written_items (group_term_text (column_text names) (meant_names ps)) (aggregate_items 0 (merging_terms (length ps) ts))) w.among
    ∙ inner_aggregates ls names (meant_names ps) (length ps) (length all.items) 0 (length ps) all.items
    (λ i l. aggregate_columns ps (aggregates_among is) i (as_many ls keys.items all.items items.items w i l)) first below)))
    ks

pub root_same : (ls : List Leaf) (s : Selection) → selection_fits ls s ≡ true → root_line s ≡ root_text (selection_view ls s)
root_same ls (Selection.Objects items o) h = refl
root_same ls (Selection.Groups keys all items) h =
    let w = parts_of ls keys all items h in
    let ps = paths_at ls keys.items in
    let is = items_at ls all.items items.items in
    let names = column_names ps is in
    let ks : key_names keys.items ≡ meant_names ps = sym (key_item_names (λ k. path_of (slice_get ls k)) 0 keys.items) in
    let first : length ps ≡ length ps + 0 = omega arith in
    let many : length ps ≡ length keys.items = length-map keys.items (λ k. path_of (slice_get ls k)) in
    ap₂ (λ xs ys. select_text xs (codes "children") [] ys)
    (sym (root_written ls all.items names (meant_names ps) (length ps)
    (λ i l. aggregate_columns ps (aggregates_among is) i (as_many ls keys.items all.items items.items w i l)) (key_columns ps) items.items 0 (length ps) first w.numbered
    (subst (λ m. list_all (λ (x : GroupItem). has_key m x.term) items.items ≡ true) (sym many) w.keyed)))
    ks
