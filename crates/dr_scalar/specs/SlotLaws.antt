-- Which rows have values of the types of their leaves.
use Rattle.std.specs.Prelude.{◌≡◌, List, map, true, Option, option_map}
use Rattle.dr_meaning.specs.Schema.{Fields}
use Rattle.dr_meaning.specs.Path.{Leaf}
use Rattle.dr_meaning.specs.Record.{Node}
use Rattle.dr_meaning.specs.Rows.{value_at}
use Rattle.dr_meaning.specs.Query.{Query}
use Rattle.dr_meaning.specs.QueryLeaves.{query_leaves}
use Rattle.dr_meaning.specs.BindingLaws.{has_shapes}
use Rattle.dr_levels.specs.Views.{lent_value}
use Rattle.dr_levels.specs.declared.triplet.ValueRef.{ValueRef}
use Rattle.dr_scalar.specs.Slots.{AreValues}

-- in a record of the schema, in what a condition keeps of it, and in each of its rows, slots with the values of a query's leaves have them in their types
abbrev pub RowsGiveValues : Type 0
RowsGiveValues = (fs : Fields) (q : Query) (slots : List (Option ValueRef)) (row : Node) → has_shapes fs row ≡ true
    → map (option_map lent_value) slots ≡ map (λ (l : Leaf). value_at l.path row) (query_leaves fs q) → AreValues (query_leaves fs q) slots row
