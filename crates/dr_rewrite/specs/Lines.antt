-- The lines that tell a plan's queries, by its parts.
use Rattle.std.specs.Prelude.{ℕ, List, [], ◌++◌, codes, map, Option, option_map}
use Rattle.dr_partials.specs.RewritingText.{select_text, where_text}
use Rattle.dr_plan.specs.Conjuncts.{condition_written}
use Rattle.dr_plan.specs.Views.{joining_view, truth_view}
use Rattle.dr_plan.specs.declared.expression.Truth.{Truth}
use Rattle.dr_plan.specs.declared.joining.Joining.{Joining}
use Rattle.dr_plan.specs.declared.plan.Selection.{Selection}
use Rattle.dr_rewrite.specs.Items.{indexed, inner_aggregate, key_name, key_text, leaf_aggregate, leaf_key, record_item_text, root_item}
use Rattle.dr_rewrite.specs.Writing.{written_leaves, written_path}
use Rattle.dr_rewrite.specs.declared.paths.Names.{Names}

-- WHERE and the tests, joined so
abbrev pub tests_text : Names → List Truth → Option Joining → List ℕ
tests_text n tests joining = where_text (written_path n) (condition_written (map (truth_view (written_leaves n)) tests) (option_map joining_view joining))

-- the names of keys
abbrev pub key_names : List ℕ → List (List ℕ)
key_names keys = indexed (λ (i k : ℕ). key_name i) 0 keys

-- the leaf query over a table
abbrev pub leaf_line : Names → List ℕ → List Truth → Option Joining → Selection → List ℕ
leaf_line n table tests joining (Selection.Objects items o) = select_text (map (record_item_text n) items.items) table (tests_text n tests joining) []
leaf_line n table tests joining (Selection.Groups keys aggregates items) =
    select_text (indexed (leaf_key n) 0 keys.items ++ indexed (leaf_aggregate n) 0 aggregates.items)
    table (tests_text n tests joining) (map (key_text n) keys.items)

-- the inner query
abbrev pub inner_line : Selection → List ℕ
inner_line (Selection.Objects items o) = codes "CONCAT children"
inner_line (Selection.Groups keys aggregates items) =
    select_text (key_names keys.items ++ indexed inner_aggregate 0 aggregates.items) (codes "children") [] (key_names keys.items)

-- the root query
abbrev pub root_line : Selection → List ℕ
root_line (Selection.Objects items o) = codes "CONCAT children"
root_line (Selection.Groups keys aggregates items) = select_text (map (root_item aggregates.items) items.items) (codes "children") [] (key_names keys.items)
