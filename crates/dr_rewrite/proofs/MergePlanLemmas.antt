-- The plans that merge results run the definitions' queries.
use Rattle.std.proofs.Common.{◌≡◌, ℕ, ◌+◌, List, [], ◌++◌, map, length, true, ◌&&◌, None, Vec, sym, ap, ap₂, ◌∙◌, subst, arith}
use Rattle.std.specs.Prelude.{nat_lt}
use Rattle.std.specs.List.{list_all, slice_get, range_with_len}
use Rattle.std.specs.declared.alloc.Global.{Global}
use Rattle.std.proofs.lemmas.List.{length-map}
use Rattle.dr_meaning.specs.Path.{Step, Leaf}
use Rattle.dr_meaning.specs.Query as query
use Rattle.dr_nested.specs.PathView.{path_view}
use Rattle.dr_nested.specs.declared.path.Path.{Path}
use Rattle.dr_partials.specs.PartialTypes.{aggregates_among}
use Rattle.dr_partials.specs.Rewriting.{aggregate_items, by_query, column, concatenated, inner_query, inner_selection, key_columns, key_items, merging_terms, root_items, root_query, root_selection}
use Rattle.dr_plan.specs.Conjuncts.{all_of}
use Rattle.dr_plan.specs.declared.aggregate.Aggregate.{Aggregate}
use Rattle.dr_plan.specs.declared.expression.Truth.{Truth}
use Rattle.dr_plan.specs.declared.objects.ObjectPlan.{ObjectPlan}
use Rattle.dr_plan.specs.declared.plan.GroupItem.{GroupItem}
use Rattle.dr_plan.specs.declared.plan.Plan.{Plan}
use Rattle.dr_plan.specs.declared.plan.RecordItem.{RecordItem}
use Rattle.dr_plan.specs.declared.plan.Selection.{Selection}
use Rattle.dr_plan.specs.Fitting.{aggregate_fits, are_numbered, has_key, selection_fits}
use Rattle.dr_plan.specs.Planned.{plan_leaves, plan_view, planned_query}
use Rattle.dr_plan.specs.Views.{aggregate_view, group_item_view, path_of, selection_view, truth_view}
use Rattle.dr_rewrite.specs.Merge.{MergesColumns}
use Rattle.dr_rewrite.specs.RowColumns.{row_columns}
use Rattle.dr_rewrite.specs.ServerItems.{titled, server_items, are_placed}
use Rattle.dr_rewrite.proofs.LineLemmas.{items_at, parts_of, paths_at}
use Rattle.dr_rewrite.proofs.RewritingTextLemmas.{numbers_of}
use Rattle.dr_rewrite.proofs.MergeLemmas.{aggregates_fit, aggregates_seen, keys_below, keys_seen, many, root_seen, terms_count}
use Rattle.dr_rewrite.proofs.ServerItemLemmas.{both_true, by_titles, placed_fit, placed_of, server_items_placed, server_items_seen, titled_view}

-- ---- what is selected fits the columns

-- keys and aggregates that fit, and items that are placed among them
groups_fit : (ls : List Leaf) (keys : Vec ℕ Global) (all : Vec Aggregate Global) (items : Vec GroupItem Global) → (list_all (λ k. nat_lt k (length ls)) keys.items && list_all (aggregate_fits ls) all.items) ≡ true
    → are_placed (length keys.items) (length all.items) (map titled items.items) ≡ true → selection_fits ls (Selection.Groups keys all items) ≡ true
groups_fit ls keys all items h g =
    let p = placed_fit (length keys.items) (length all.items) items.items g in
    both_true _ (are_numbered 0 (numbers_of items.items) (length all.items)) (both_true _ (list_all (λ (i : GroupItem). has_key (length keys.items) i.term) items.items) h p.0) p.1

pub merging_fits : (ls : List Leaf) (keys : List ℕ) (gs : List Aggregate) (items : Vec GroupItem Global) (s : Selection) → MergesColumns keys gs items s
    → are_placed (length keys) (length gs) (map titled items.items) ≡ true → selection_fits (row_columns ls keys gs) s ≡ true
merging_fits ls keys gs items (Selection.Objects is o) h p = absurd h
merging_fits ls keys gs items (Selection.Groups ks hs is) h p =
    let cols = row_columns ls keys gs in
    groups_fit cols ks hs is
    (both_true (list_all (λ k. nat_lt k (length cols)) ks.items) (list_all (aggregate_fits cols) hs.items)
    (ap (list_all (λ k. nat_lt k (length cols))) h.0 ∙ keys_below ls keys gs) (ap (list_all (aggregate_fits cols)) h.1 ∙ aggregates_fit ls keys gs))
    (ap₂ (λ n m. are_placed n m (map titled is.items)) (ap length h.0 ∙ many (λ (i k : ℕ). i) 0 keys) (ap length h.1 ∙ many _ 0 gs)
    ∙ (ap (λ (v : Vec GroupItem Global). are_placed (length keys) (length gs) (map titled v.items)) h.2 ∙ p))

-- ---- what they select

-- groups by the columns of keys, with items over the columns of aggregates
groups_seen : (ls : List Leaf) (keys : List ℕ) (gs : List Aggregate) (items : Vec GroupItem Global) (s : Selection) → MergesColumns keys gs items s
    → selection_view (row_columns ls keys gs) s ≡ query.groups (key_columns (paths_at ls keys)) (map (group_item_view (merging_terms (length keys) (map (aggregate_view ls) gs))) items.items)
groups_seen ls keys gs items (Selection.Objects is o) h = absurd h
groups_seen ls keys gs items (Selection.Groups ks hs is) h =
    let cols = row_columns ls keys gs in
    ap₂ query.groups
    (ap (map (λ k. path_of (slice_get cols k))) h.0 ∙ (keys_seen ls keys gs ∙ ap (λ n. map column (range_with_len 0 n)) (sym (length-map keys (λ k. path_of (slice_get ls k))))))
    (ap₂ (λ (ts : List query.GroupTerm) (v : Vec GroupItem Global). map (group_item_view ts) v.items) (ap (map (aggregate_view cols)) h.1 ∙ aggregates_seen ls keys gs) h.2)

-- the plan of a query without a condition
plan_runs : (p : Plan) (cols : List Leaf) (s : query.Selection) → p.test.items ≡ [] → plan_leaves p ≡ cols → selection_view cols p.selection ≡ s → by_query (planned_query (plan_view p)) ≡ by_query (record { condition = None; selection = s })
plan_runs p cols s t e h =
    ap by_query (ap₂ (λ (ts : List Truth) (x : query.Selection). record { condition = all_of (map (truth_view (plan_leaves p)) ts); selection = x }) t (ap (λ ls. selection_view ls p.selection) e ∙ h))

-- ---- a plan that merges the columns of another's keys and aggregates

pub record IsMerging (plan : Plan) (keys : Vec ℕ Global) (all : Vec Aggregate Global) (items : Vec GroupItem Global) (p : Plan) : Type 0 where
  pub leaves : plan_leaves p ≡ row_columns (plan_leaves plan) keys.items all.items
  pub tests : p.test.items ≡ []
  pub selects : MergesColumns keys.items all.items items p.selection

pub is_merging : (plan : Plan) (keys : Vec ℕ Global) (all : Vec Aggregate Global) (items : Vec GroupItem Global) (p : Plan) (ls : List Path) (ks : List ℕ) (gs : List Aggregate) → ls ≡ plan.leaves.items → ks ≡ keys.items → gs ≡ all.items
    → plan_leaves p ≡ row_columns (map path_view ls) ks gs → p.test.items ≡ [] → MergesColumns ks gs items p.selection → IsMerging plan keys all items p
is_merging plan keys all items p ls ks gs e f g h t m = record {
  leaves = h ∙ (ap (λ xs. row_columns (map path_view xs) ks gs) e ∙ ap₂ (row_columns (plan_leaves plan)) f g);
  tests = t;
  selects = subst (λ xs. MergesColumns keys.items xs items p.selection) g (subst (λ xs. MergesColumns xs gs items p.selection) f m);
}

fits_there : (plan : Plan) (s : Selection) → plan.selection ≡ s → selection_fits (plan_leaves plan) s ≡ true
fits_there plan s e = ap (selection_fits (plan_leaves plan)) (sym e) ∙ plan.selected

pub inner_right : (plan p : Plan) (keys : Vec ℕ Global) (all : Vec Aggregate Global) (its items : Vec GroupItem Global) → plan.selection ≡ Selection.Groups keys all its → map titled items.items ≡ server_items keys.items all.items
    → IsMerging plan keys all items p → by_query (planned_query (plan_view p)) ≡ inner_query (planned_query (plan_view plan))
unfolding inner_query
inner_right plan p keys all its items e t m =
    let ls = plan_leaves plan in
    let ps = paths_at ls keys.items in
    let w = parts_of ls keys all its (fits_there plan (Selection.Groups keys all its) e) in
    let f : ℕ → List Step = λ k. path_of (slice_get ls k) in
    let ts = map (aggregate_view ls) all.items in
    let n : length keys.items ≡ length ps = sym (length-map keys.items f) in
    let us = merging_terms (length keys.items) ts in
    let counted : length us ≡ length all.items = terms_count (length keys.items) ts ∙ length-map all.items (aggregate_view ls) in
    let same : us ≡ merging_terms (length ps) (aggregates_among (items_at ls all.items its.items)) = ap₂ merging_terms n (sym w.among) in
    plan_runs p (row_columns ls keys.items all.items) (query.groups (key_columns ps) (key_items 0 ps ++ aggregate_items 0 (merging_terms (length ps) (aggregates_among (items_at ls all.items its.items))))) m.tests m.leaves
    (groups_seen ls keys.items all.items items p.selection m.selects
    ∙ ap (query.groups (key_columns ps)) (by_titles us items.items ∙ (ap (map (titled_view us)) t
    ∙ (server_items_seen us f keys.items all.items counted ∙ ap (λ vs. key_items 0 ps ++ aggregate_items 0 vs) same))))
    ∙ ap (λ s. inner_selection (selection_view ls s)) (sym e)

pub root_right : (plan p : Plan) (keys : Vec ℕ Global) (all : Vec Aggregate Global) (its items : Vec GroupItem Global) → plan.selection ≡ Selection.Groups keys all its → map titled items.items ≡ map titled its.items
    → IsMerging plan keys all items p → by_query (planned_query (plan_view p)) ≡ root_query (planned_query (plan_view plan))
unfolding root_query
root_right plan p keys all its items e t m =
    let ls = plan_leaves plan in
    let ps = paths_at ls keys.items in
    let w = parts_of ls keys all its (fits_there plan (Selection.Groups keys all its) e) in
    let n : length keys.items ≡ length ps = sym (length-map keys.items (λ k. path_of (slice_get ls k))) in
    let first : length keys.items ≡ length keys.items + 0 = omega arith in
    let us = merging_terms (length keys.items) (map (aggregate_view ls) all.items) in
    plan_runs p (row_columns ls keys.items all.items) (query.groups (key_columns ps) (root_items (length ps) (items_at ls all.items its.items))) m.tests m.leaves
    (groups_seen ls keys.items all.items items p.selection m.selects
    ∙ ap (query.groups (key_columns ps)) (by_titles us items.items ∙ (ap (map (titled_view us)) t ∙ (sym (by_titles us its.items)
    ∙ (root_seen ls all.items (length keys.items) its.items 0 (length keys.items) first w.numbered ∙ ap (λ c. root_items c (items_at ls all.items its.items)) n)))))
    ∙ ap (λ s. root_selection (selection_view ls s)) (sym e)

-- ---- the items are placed

pub inner_placed : (keys : List ℕ) (gs : List Aggregate) (ks ls : List ℕ) (hs bs : List Aggregate) (items : List GroupItem) → ks ≡ keys → hs ≡ gs → ls ≡ keys → bs ≡ gs → map titled items ≡ server_items ls bs
    → are_placed (length ks) (length hs) (map titled items) ≡ true
inner_placed keys gs ks ls hs bs items e f g h t =
    ap₂ (λ xs ys. are_placed (length xs) (length ys) (map titled items)) e f
    ∙ (ap (are_placed (length keys) (length gs)) (t ∙ ap₂ server_items g h) ∙ server_items_placed keys gs)

pub root_placed : (plan : Plan) (keys : Vec ℕ Global) (all : Vec Aggregate Global) (its : Vec GroupItem Global) (ks : List ℕ) (hs : List Aggregate) (items : List GroupItem) → plan.selection ≡ Selection.Groups keys all its
    → ks ≡ keys.items → hs ≡ all.items → map titled items ≡ map titled its.items → are_placed (length ks) (length hs) (map titled items) ≡ true
root_placed plan keys all its ks hs items e f g t =
    let w = parts_of (plan_leaves plan) keys all its (fits_there plan (Selection.Groups keys all its) e) in
    ap₂ (λ xs ys. are_placed (length xs) (length ys) (map titled items)) f g
    ∙ (ap (are_placed (length keys.items) (length all.items)) t ∙ placed_of (length keys.items) (length all.items) its.items w.keyed w.numbered)

-- ---- of a plan that lists objects

pub inner_listed : (plan : Plan) (items : Vec RecordItem Global) (o : ObjectPlan) → plan.selection ≡ Selection.Objects items o → concatenated ≡ inner_query (planned_query (plan_view plan))
unfolding inner_query
inner_listed plan items o e = ap (λ s. inner_selection (selection_view (plan_leaves plan) s)) (sym e)

pub root_listed : (plan : Plan) (items : Vec RecordItem Global) (o : ObjectPlan) → plan.selection ≡ Selection.Objects items o → concatenated ≡ root_query (planned_query (plan_view plan))
unfolding root_query
root_listed plan items o e = ap (λ s. root_selection (selection_view (plan_leaves plan) s)) (sym e)
