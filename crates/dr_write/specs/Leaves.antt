-- The leaves of a schema, as they are written.
use Rattle.std.specs.Prelude.{ℕ, ◌+◌, List, [], ◌∷◌, ◌++◌, map}
use Rattle.dr_meaning.specs.Schema.{Repetition, repetition_count, definition_count, Fields, no_fields, field, Shape, leaf, group}
use Rattle.dr_nested.specs.Views.{kind_view}
use Rattle.dr_meta.specs.Views.{lent}
use Rattle.dr_write.specs.declared.leaf.Leaf.{Leaf}
use Rattle.dr_write.specs.declared.leaves.Way.{Way}
use Rattle.dr_write.specs.Chunks.{WrittenLeaf}

abbrev pub leaf_view : Leaf → WrittenLeaf
leaf_view l = record { names = map lent l.names.items; kind = kind_view l.kind; max_repetition = l.max_repetition; max_definition = l.max_definition }

abbrev pub leaves_view : List Leaf → List WrittenLeaf
leaves_view ls = map leaf_view ls

-- the way to a field or a group: the names on it, and how many repeated and optional fields
pub record Passed : Type 0 where
  pub names : List (List ℕ)
  pub repetition : ℕ
  pub definition : ℕ

abbrev pub way_view : Way → Passed
way_view w = record { names = map lent w.names.items; repetition = w.repetition; definition = w.definition }

-- one field further
abbrev pub passed_below : Passed → List ℕ → Repetition → Passed
passed_below w n r = record {
  names = w.names ++ n ∷ [];
  repetition = w.repetition + repetition_count r;
  definition = w.definition + definition_count r;
}

-- at the root
abbrev pub at_root : Passed
at_root = record { names = []; repetition = 0; definition = 0 }

abbrev mutual
  -- the leaves of a group to which this is the way
  pub fields_leaves : Passed → Fields → List WrittenLeaf
  fields_leaves w no_fields = []
  fields_leaves w (field n r s fs) = shape_leaves (passed_below w n r) s ++ fields_leaves w fs

  pub shape_leaves : Passed → Shape → List WrittenLeaf
  shape_leaves w (leaf k) = record { names = w.names; kind = k; max_repetition = w.repetition; max_definition = w.definition } ∷ []
  shape_leaves w (group fs) = fields_leaves w fs
