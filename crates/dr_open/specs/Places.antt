-- Fields in the list of a file's schema elements, depth first, and which leaf of the file a schema's leaf is.
use Rattle.std.specs.Prelude.{◌≡◌, ◌∷◌, ℕ, Bool, false, ◌+◌, List, [], length, map, Option, Some, None, option_map, option_and_then, ℤ}
use Rattle.dr_meaning.specs.Schema.{Repetition, Kind}
use Rattle.dr_meaning.specs.Path.{Leaf, same_repetition}
use Rattle.dr_formats.specs.Metadata.{SchemaElement}
use Rattle.dr_formats.specs.FileSchema.{FieldsRead, fields_read, ShapeRead, shape_read, repetition_from, FileSchema, FileLeaf}
use Rattle.dr_formats.specs.FileSchema.{leaves_under, shape_leaves_under, leaf_under, is_open_name, open_kind, file_leaves, place_of}
use Rattle.dr_meta.specs.OneTree.{leaves_of_fields}

-- ---- what is read of the list

-- the next n fields
abbrev pub next_fields : ℕ → List SchemaElement → Option FieldsRead
next_fields n es = fields_read (length es) n es

-- the shape of an element, behind which these stand
abbrev pub shape_from : SchemaElement → List SchemaElement → Option ShapeRead
shape_from e es = shape_read (fields_read (length es)) e e.type e.children es

-- the elements behind that shape
abbrev pub behind_shape : SchemaElement → List SchemaElement → Option (List SchemaElement)
behind_shape e es = option_map (λ (s : ShapeRead). s.behind) (shape_from e es)

-- fields that were passed: how many leaves they have, and the elements behind them
pub record Passed : Type 0 where
  pub leaves : ℕ
  pub behind : List SchemaElement

abbrev pub passed_from : FieldsRead → Passed
passed_from f = record { leaves = leaves_of_fields f.fields; behind = f.behind }

-- the next n fields, passed
abbrev pub passed : ℕ → List SchemaElement → Option Passed
passed n es = option_map passed_from (next_fields n es)

-- ---- places

-- a place behind so many leaves
abbrev pub behind_leaves : ℕ → Option ℕ → Option ℕ
behind_leaves n o = option_map (λ i. n + i) o

-- the place of a leaf among the leaves of the next n fields of a group
abbrev pub place_among : Leaf → ℕ → List SchemaElement → Option ℕ
place_among l n es = option_and_then (λ (f : FieldsRead). place_of l (leaves_under [] f.fields)) (next_fields n es)

-- whether a number is that of this repetition
abbrev pub is_repetition : Repetition → Option Repetition → Bool
is_repetition r None = false
is_repetition r (Some s) = same_repetition r s

-- the kind of an element, where it is an open leaf by its type and converted type
abbrev pub element_kind : SchemaElement → Option Kind
element_kind e = option_and_then (λ (t : ℤ). open_kind t e.converted) e.type

-- an element as the leaf at its own path's end
abbrev pub leaf_of_element : SchemaElement → FileLeaf
leaf_of_element e = record { names = []; repetitions = []; kind = element_kind e }

-- the place of a leaf among those of an element's shape
abbrev pub place_in_shape : Leaf → SchemaElement → List SchemaElement → Option ℕ
place_in_shape l e es = option_and_then (λ (s : ShapeRead). place_of l (shape_leaves_under s.shape)) (shape_from e es)

-- the leaves of the field that an element begins, the first of its name in the group
abbrev pub first_leaves : SchemaElement → Repetition → ShapeRead → List FileLeaf
first_leaves e r s = map (leaf_under e.name r (is_open_name [] e.name)) (shape_leaves_under s.shape)

-- the place of a leaf among those of the field that an element begins, the first of its name in the group
abbrev pub place_in_field : Leaf → SchemaElement → List SchemaElement → Option ℕ
place_in_field l e es =
    option_and_then (λ (r : Repetition). option_and_then (λ (s : ShapeRead). place_of l (first_leaves e r s)) (shape_from e es)) (repetition_from e.repetition)

-- no leaf whose first name this is stands among the next n fields
abbrev pub HasNoLeaf : List ℕ → ℕ → List SchemaElement → Type 0
HasNoLeaf m n all = (l : Leaf) (ns : List (List ℕ)) → l.names ≡ m ∷ ns → place_among l n all ≡ None

-- a leaf whose first name this is stands among them exactly where it stands in this field, behind so many leaves
abbrev pub HasLeavesIn : List ℕ → ℕ → List SchemaElement → ℕ → SchemaElement → List SchemaElement → Type 0
HasLeavesIn m n all before e es = (l : Leaf) (ns : List (List ℕ)) → l.names ≡ m ∷ ns → place_among l n all ≡ behind_leaves before (place_in_field l e es)

-- the place of a leaf among the leaves of a file, where it has a schema
abbrev pub place_in_file : Leaf → Option FileSchema → Option ℕ
place_in_file l s = option_and_then (λ (s : FileSchema). place_of l (file_leaves s.fields)) s
