-- A row as the values of a plan's leaves, by their numbers.
use Rattle.std.specs.Prelude.{◌≡◌, ℕ, List, map, true, Option, None, option_map, if◌then◌else◌}
use Rattle.std.specs.List.{list_all, slice_index_or}
use Rattle.dr_meaning.specs.Path.{Leaf}
use Rattle.dr_meaning.specs.Record.{Value, Node}
use Rattle.dr_meaning.specs.Rows.{value_at}
use Rattle.dr_meaning.specs.BoundExpression.{ValueType, kind_type}
use Rattle.dr_meaning.specs.BindingLaws.{is_of_type}
use Rattle.dr_levels.specs.Views.{lent_value}
use Rattle.dr_levels.specs.declared.triplet.ValueRef.{ValueRef}

-- the slots are the values of the leaves in the row, in order, each of its leaf's type where it isn't NULL
pub record AreValues (ls : List Leaf) (slots : List (Option ValueRef)) (row : Node) : Type 0 where
  pub values : map (option_map lent_value) slots ≡ map (λ (l : Leaf). value_at l.path row) ls
  pub types : list_all (λ (l : Leaf). is_of_type (kind_type l.kind) (value_at l.path row)) ls ≡ true

-- what the slot of this number holds; nothing where there is no such slot
abbrev pub slot_value : List (Option ValueRef) → ℕ → Option Value
slot_value slots i = option_map lent_value (slice_index_or slots i None)

-- a value of the type, and nothing in place of another
abbrev pub of_type : ValueType → Option Value → Option Value
of_type t v = if is_of_type t v then v else None
