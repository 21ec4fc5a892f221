-- The leaves of a schema with their kinds, and what records give them.
use Rattle.std.specs.Prelude.{◌≡◌, List, [], ◌∷◌, Bool, true, false, ◌&&◌, Ok, ℕ}
use Rattle.std.specs.List.{list_all}
use Rattle.dr_meaning.specs.Schema.{Kind, bool_kind, int32_kind, int64_kind, text_kind, Fields, no_fields, field, Shape, leaf, group, same_kind}
use Rattle.dr_meaning.specs.Path.{Step, Leaf, same_repetition, through, is_empty_path, find_leaf, leaves}
use Rattle.dr_meaning.specs.Record.{Node, Instance, atom, inner, is_record, is_end, is_slot_that, is_inner_that}
use Rattle.dr_levels.specs.Columns.{is_held}
use Rattle.dr_striper.specs.Stripers.{fits_leaf}

-- whether the path is that of a leaf of this kind
abbrev mutual
  pub is_leaf_of : Fields → Kind → List Step → Bool
  is_leaf_of no_fields k p = false
  is_leaf_of (field n r s fs) k [] = false
  is_leaf_of (field n r s fs) k (t ∷ p) =
      through t.place (same_repetition t.repetition r && is_shape_leaf s k p)
      (λ i. is_leaf_of fs k (record { place = i; repetition = t.repetition } ∷ p))

  pub is_shape_leaf : Shape → Kind → List Step → Bool
  is_shape_leaf (leaf j) k p = same_kind j k && is_empty_path p
  is_shape_leaf (group fs) k p = is_leaf_of fs k p

-- whether this is a leaf of the schema, of its kind
abbrev pub is_leaf : Fields → Leaf → Bool
is_leaf fs l = is_leaf_of fs l.kind l.path

-- whether a node has the form of a record: as many instances as each field may have, and values of the leaves' kinds
abbrev pub is_held_atom : Kind → Instance → Bool
is_held_atom k (atom v) = is_held k v
is_held_atom k (inner n) = false

abbrev mutual
  pub has_fields : Fields → Node → Bool
  has_fields no_fields = is_end
  has_fields (field n r s fs) = is_slot_that r (has_shape s) (has_fields fs)

  pub has_shape : Shape → Instance → Bool
  has_shape (leaf k) = is_held_atom k
  has_shape (group fs) = is_inner_that (has_fields fs)

-- a leaf of a schema takes what a record of the schema gives it
abbrev pub RecordsFitLeaves : Type 0
RecordsFitLeaves = (fs : Fields) (l : Leaf) (n : Node) → is_leaf fs l ≡ true → is_record fs n ≡ true → fits_leaf n l ≡ true

-- it takes what any node of the form of a record gives it
abbrev pub FormsFitLeaves : Type 0
FormsFitLeaves = (fs : Fields) (l : Leaf) (n : Node) → is_leaf fs l ≡ true → has_fields fs n ≡ true → fits_leaf n l ≡ true

-- the leaf that a text names is a leaf of the schema, of its kind
abbrev pub FoundLeavesHaveKinds : Type 0
FoundLeavesHaveKinds = (text : List ℕ) (fs : Fields) (l : Leaf) → find_leaf text fs ≡ Ok l → is_leaf fs l ≡ true

-- the leaves of a schema are leaves of it, of their kinds
abbrev pub SchemaLeavesHaveKinds : Type 0
SchemaLeavesHaveKinds = (fs : Fields) → list_all (is_leaf fs) (leaves fs) ≡ true

-- leaves of one schema
abbrev pub OfSomeSchema : List Leaf → Type 0
OfSomeSchema ls = (fs : Fields) × (list_all (is_leaf fs) ls ≡ true)
