-- The leaves that a query uses, as what is read of them asks for them.
use Rattle.std.specs.Prelude.{◌≡◌, true}
use Rattle.std.specs.List.{list_all}
use Rattle.dr_meaning.specs.Schema.{Fields}
use Rattle.dr_meaning.specs.Path.{paths_of_leaves, is_leaf_path}
use Rattle.dr_meaning.specs.Query.{Query}
use Rattle.dr_meaning.specs.QueryLeaves.{query_leaves}
use Rattle.dr_meaning.specs.AutomatonLaws.{AreInReadingOrder}
use Rattle.dr_moves.specs.Selection.{all_differ}

-- they are leaves of the schema, in reading order, each once, whatever the query
abbrev pub QueryLeavesInOrder : Type 0
QueryLeavesInOrder = (fs : Fields) (q : Query) → (list_all (is_leaf_path fs) (paths_of_leaves (query_leaves fs q)) ≡ true)
    × AreInReadingOrder fs (paths_of_leaves (query_leaves fs q)) × (all_differ (paths_of_leaves (query_leaves fs q)) ≡ true)
