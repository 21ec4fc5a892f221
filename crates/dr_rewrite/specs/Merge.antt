-- What a merge of results stands for.
use Rattle.std.specs.Prelude.{◌≡◌, ℕ, List, [], length, Vec}
use Rattle.std.specs.declared.alloc.Global.{Global}
use Rattle.dr_meaning.specs.Path.{Leaf}
use Rattle.dr_partials.specs.Rewriting.{Merging, concatenated, by_query}
use Rattle.dr_plan.specs.declared.aggregate.Aggregate.{Aggregate}
use Rattle.dr_plan.specs.declared.plan.GroupItem.{GroupItem}
use Rattle.dr_plan.specs.declared.plan.Selection.{Selection}
use Rattle.dr_plan.specs.Planned.{plan_leaves, plan_view, planned_query}
use Rattle.dr_rewrite.specs.Merged.{key_numbers, merged_aggregates}
use Rattle.dr_rewrite.specs.RowColumns.{row_columns}
use Rattle.dr_rewrite.specs.declared.merge.Merge.{Merge}

-- one behind another, or the query that a plan runs
abbrev pub merge_view : Merge → Merging
merge_view Merge.Concatenate = concatenated
merge_view (Merge.Query p) = by_query (planned_query (plan_view p))

-- the leaves over which a query is run
abbrev pub merge_leaves : Merge → List Leaf
merge_leaves Merge.Concatenate = []
merge_leaves (Merge.Query p) = plan_leaves p

-- the columns of the rows that leaf servers give
abbrev pub selected_columns : List Leaf → Selection → List Leaf
selected_columns ls (Selection.Objects items o) = []
selected_columns ls (Selection.Groups keys gs items) = row_columns ls keys.items gs.items

-- groups by each key's column, with aggregates that merge each a column, are selected by these items
abbrev pub MergesColumns : List ℕ → List Aggregate → Vec GroupItem Global → Selection → Type 0
MergesColumns keys gs items (Selection.Objects is o) = ⊥
MergesColumns keys gs items (Selection.Groups ks hs is) = (ks.items ≡ key_numbers keys) × (hs.items ≡ merged_aggregates (length keys) gs) × (is ≡ items)
