-- What triplets, columns and moves stand for.
use Rattle.std.specs.Prelude.{ℕ, List, map, drop, option_map}
use Rattle.dr_meaning.specs.Schema as tree
use Rattle.dr_meaning.specs.Record as record_tree
use Rattle.dr_meaning.specs.Column as meant
use Rattle.dr_meaning.specs.Walk as walk
use Rattle.dr_nested.specs.Views.{kind_view}
use Rattle.dr_levels.specs.Dense.{values_view, joined}
use Rattle.dr_levels.specs.declared.triplet.Levels.{Levels}
use Rattle.dr_levels.specs.declared.triplets.Triplets.{Triplets}
use Rattle.dr_levels.specs.declared.triplet.ValueRef.{ValueRef}
use Rattle.dr_levels.specs.declared.triplet.Triplet.{Triplet}
use Rattle.dr_levels.specs.declared.column.Column.{Column}
use Rattle.dr_levels.specs.declared.moves.Move.{Move}

abbrev pub lent_value : ValueRef → record_tree.Value
lent_value (ValueRef.Bool b) = record_tree.bool_value b
lent_value (ValueRef.Int z) = record_tree.int_value z
lent_value (ValueRef.Text t) = record_tree.text_value t.now

abbrev pub levels_pair : Levels → ℕ × ℕ
levels_pair l = (l.repetition, l.definition)

abbrev pub triplet_levels : meant.Triplet → ℕ × ℕ
triplet_levels t = (t.repetition, t.definition)

abbrev pub triplet_view : Triplet → meant.Triplet
triplet_view t = record { repetition = t.repetition; definition = t.definition; value = option_map lent_value t.value }

-- the triplets of a column, a value at each place whose definition level is the greatest
abbrev pub column_view : Column → List meant.Triplet
column_view c = joined c.greatest c.levels.items (values_view c.values)

abbrev pub columns_view : List Column → List (List meant.Triplet)
columns_view cs = map column_view cs

-- the triplets that are left
abbrev pub triplets_view : Triplets → List meant.Triplet
triplets_view t = joined t.column.now.greatest t.levels.now (drop t.value (values_view t.column.now.values))

-- the leaf that a column is made for: its kind, and its greatest definition level
pub record LeafForm : Type 0 where
  pub kind : tree.Kind
  pub greatest : ℕ

abbrev pub form : tree.Kind → ℕ → LeafForm
form k g = record { kind = k; greatest = g }

abbrev pub column_form : Column → LeafForm
column_form c = form (kind_view c.kind) c.greatest

-- the leaf of the column that they are of
abbrev pub triplets_form : Triplets → LeafForm
triplets_form t = column_form t.column.now

abbrev pub forms_view : List Column → List LeafForm
forms_view cs = map column_form cs

abbrev pub move_view : Move → walk.Move
move_view (Move.Enter k) = walk.enter k
move_view (Move.Leaf i t) = walk.value i (triplet_view t)
move_view (Move.Leave k) = walk.leave k
