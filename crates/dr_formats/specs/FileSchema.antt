-- The schema of a file: the tree of its schema elements, its leaves, and what of it is open to be read (Apache Parquet, parquet.thrift, SchemaElement).
use Rattle.std.specs.Prelude.{ℕ, zero, suc, List, [], ◌∷◌, ◌++◌, map, length, Bool, true, false, not, ◌&&◌, ◌||◌, nat_le, if◌then◌else◌, bytes_eq}
use Rattle.std.specs.Prelude.{codes, ℤ, pos, negsuc, Option, Some, None, option_map, option_and_then}
use Rattle.std.specs.List.{list_any}
use Rattle.dr_meaning.specs.Schema.{Repetition, required, optional, repeated, Kind, bool_kind, int32_kind, int64_kind, text_kind, Fields, no_fields, same_kind}
use Rattle.dr_meaning.specs.Schema.{field, Shape, leaf, group, Schema, is_short_name, greatest_depth, most_leaves}
use Rattle.dr_meaning.specs.Path.{Step, Leaf, same_repetition}
use Rattle.dr_formats.specs.Metadata.{SchemaElement}
use Rattle.dr_formats.specs.Page.{is_number}

mutual
  -- the fields of a group of a file, in order
  pub data FileFields : Type 0 where
    no_file_fields : FileFields
    file_field : List ℕ → Repetition → FileShape → FileFields → FileFields

  -- a leaf with its type and converted type, or a group
  pub data FileShape : Type 0 where
    file_leaf : ℤ → Option ℤ → FileShape
    file_group : FileFields → FileShape

-- a file's schema: the root's name and its fields
pub record FileSchema : Type 0 where
  pub name : List ℕ
  pub fields : FileFields

-- ---- the tree of the list of elements

-- the repetition of a number: REQUIRED 0, OPTIONAL 1, REPEATED 2 (parquet.thrift, FieldRepetitionType)
abbrev pub repetition_from : Option ℤ → Option Repetition
repetition_from None = None
repetition_from (Some z) =
    if is_number 0 z then Some required
    else (if is_number 1 z then Some optional
    else (if is_number 2 z then Some repeated
    else None))

-- fields, and the elements behind them
pub record FieldsRead : Type 0 where
  pub fields : FileFields
  pub behind : List SchemaElement

-- a shape, and the elements behind it
pub record ShapeRead : Type 0 where
  pub shape : FileShape
  pub behind : List SchemaElement

-- one field more before those read
abbrev pub with_first : List ℕ → Repetition → FileShape → FieldsRead → FieldsRead
with_first n r s f = record { fields = file_field n r s f.fields; behind = f.behind }

-- the fields read as a group
abbrev pub as_group : FieldsRead → ShapeRead
as_group f = record { shape = file_group f.fields; behind = f.behind }

-- an element with a type is a leaf, any other a group of so many fields
abbrev pub shape_read : (ℕ → List SchemaElement → Option FieldsRead) → SchemaElement → Option ℤ → Option ℤ → List SchemaElement → Option ShapeRead
shape_read children e (Some t) n es = Some (record { shape = file_leaf t e.converted; behind = es })
shape_read children e None None es = None
shape_read children e None (Some (pos n)) es = option_map as_group (children n es)
shape_read children e None (Some (negsuc n)) es = None

-- the next n fields in depth-first order; each takes an element, so k elements are enough for k fields
abbrev pub fields_read : ℕ → ℕ → List SchemaElement → Option FieldsRead
fields_read k zero es = Some (record { fields = no_file_fields; behind = es })
fields_read zero (suc n) es = None
fields_read (suc k) (suc n) [] = None
fields_read (suc k) (suc n) (e ∷ es) =
    option_and_then (λ (r : Repetition).
    option_and_then (λ (s : ShapeRead). option_map (with_first e.name r s.shape) (fields_read k n s.behind))
    (shape_read (fields_read k) e e.type e.children es))
    (repetition_from e.repetition)

-- the tree, if no element is left over
abbrev pub whole_schema : List ℕ → FieldsRead → List SchemaElement → Option FileSchema
whole_schema n f [] = Some (record { name = n; fields = f.fields })
whole_schema n f (e ∷ es) = None

-- the tree of the root, which has no type, and the elements behind it; its repetition isn't looked at
abbrev pub root_read : SchemaElement → Option ℤ → Option ℤ → List SchemaElement → Option FileSchema
root_read e None (Some (pos n)) es = option_and_then (λ (f : FieldsRead). whole_schema e.name f f.behind) (fields_read (length es) n es)
root_read e t n es = None

-- the schema that a list of elements is, if it is one tree
abbrev pub file_schema : List SchemaElement → Option FileSchema
file_schema [] = None
file_schema (e ∷ es) = root_read e e.type e.children es

-- ---- open leaves

-- whether a converted type is open: DECIMAL 5, UINT_32 13, UINT_64 14, BSON 20 and INTERVAL 21 are not (parquet.thrift, ConvertedType)
abbrev pub is_open_conversion : Option ℤ → Bool
is_open_conversion None = true
is_open_conversion (Some z) = not (is_number 5 z || is_number 13 z || is_number 14 z || is_number 20 z || is_number 21 z)

-- the kind of a type: BOOLEAN 0, INT32 1, INT64 2, BYTE_ARRAY 6 (parquet.thrift, Type)
abbrev pub kind_from : ℤ → Option Kind
kind_from t =
    if is_number 0 t then Some bool_kind
    else (if is_number 1 t then Some int32_kind
    else (if is_number 2 t then Some int64_kind
    else (if is_number 6 t then Some text_kind
    else None)))

-- the kind of a leaf of this type and converted type, if it is open by these
abbrev pub open_kind : ℤ → Option ℤ → Option Kind
open_kind t c = if is_open_conversion c then kind_from t else None

-- a name of the right form that no earlier field of the group has
abbrev pub is_open_name : List (List ℕ) → List ℕ → Bool
is_open_name earlier n = is_short_name n && not (list_any (bytes_eq n) earlier)

-- ---- the leaves, in order: the names and repetitions on the path, and the kind where the leaf is open

-- a leaf: the names and the repetitions on its path, and its kind where it is open
pub record FileLeaf : Type 0 where
  pub names : List (List ℕ)
  pub repetitions : List Repetition
  pub kind : Option Kind

-- the kind, if the test passes
abbrev pub only_if : Bool → Option Kind → Option Kind
only_if true k = k
only_if false k = None

-- a leaf of a field's shape, as a leaf of the group that has the field
abbrev pub leaf_under : List ℕ → Repetition → Bool → FileLeaf → FileLeaf
leaf_under n r b l = record { names = n ∷ l.names; repetitions = r ∷ l.repetitions; kind = only_if b l.kind }

abbrev mutual
  -- the leaves of a group's fields, where earlier fields have these names
  pub leaves_under : List (List ℕ) → FileFields → List FileLeaf
  leaves_under earlier no_file_fields = []
  leaves_under earlier (file_field n r s fs) = map (leaf_under n r (is_open_name earlier n)) (shape_leaves_under s) ++ leaves_under (n ∷ earlier) fs

  -- the leaves of a shape
  pub shape_leaves_under : FileShape → List FileLeaf
  shape_leaves_under (file_leaf t c) = record { names = []; repetitions = []; kind = open_kind t c } ∷ []
  shape_leaves_under (file_group fs) = leaves_under [] fs

-- a leaf, closed where it is below 32 parts
abbrev pub within_depth : FileLeaf → FileLeaf
within_depth l = record l { kind = only_if (nat_le (length l.names) greatest_depth) l.kind }

-- the leaves of a file, in order
abbrev pub file_leaves : FileFields → List FileLeaf
file_leaves fs = map within_depth (leaves_under [] fs)

-- ---- which leaf of the file is a leaf of a schema

-- whether a leaf is open and of this kind
abbrev pub is_kind : Kind → Option Kind → Bool
is_kind k None = false
is_kind k (Some l) = same_kind k l

-- whether two paths have the same names
abbrev pub same_names : List (List ℕ) → List (List ℕ) → Bool
same_names [] [] = true
same_names (m ∷ ms) (n ∷ ns) = bytes_eq m n && same_names ms ns
same_names ms ns = false

-- whether a path has these repetitions
abbrev pub same_repetitions : List Step → List Repetition → Bool
same_repetitions [] [] = true
same_repetitions (s ∷ p) (r ∷ rs) = same_repetition s.repetition r && same_repetitions p rs
same_repetitions p rs = false

-- an open leaf of the same names, the same repetition at each part, and the same kind
abbrev pub is_leaf_for : Leaf → FileLeaf → Bool
is_leaf_for l f = same_names l.names f.names && same_repetitions l.path f.repetitions && is_kind l.kind f.kind

-- the place of a schema's leaf among the leaves of a file, from 0
abbrev pub place_of : Leaf → List FileLeaf → Option ℕ
place_of l [] = None
place_of l (f ∷ fs) = if is_leaf_for l f then Some 0 else option_map (λ i. suc i) (place_of l fs)

-- ---- the open part of the schema

-- the open part of fields, and how many leaves may still come
pub record OpenFields : Type 0 where
  pub fields : Fields
  pub left : ℕ

-- the open part of a shape, if there is one, and how many leaves may still come
pub record OpenShape : Type 0 where
  pub shape : Option Shape
  pub left : ℕ

-- a leaf, if it is open and may still come
abbrev pub open_leaf : Option Kind → ℕ → OpenShape
open_leaf None n = record { shape = None; left = n }
open_leaf (Some k) zero = record { shape = None; left = 0 }
open_leaf (Some k) (suc n) = record { shape = Some (leaf k); left = n }

-- a group, unless nothing of it is open
abbrev pub group_unless_empty : Fields → Option Shape
group_unless_empty no_fields = None
group_unless_empty (field n r s fs) = Some (group (field n r s fs))

-- the group of these open fields
abbrev pub open_group : OpenFields → OpenShape
open_group f = record { shape = group_unless_empty f.fields; left = f.left }

-- nothing open
abbrev pub closed_shape : ℕ → OpenShape
closed_shape n = record { shape = None; left = n }

-- a field before the others, if something of it is open
abbrev pub put_field : List ℕ → Repetition → Option Shape → Fields → Fields
put_field n r None fs = fs
put_field n r (Some s) fs = field n r s fs

-- the same, with how many leaves may still come
abbrev pub put_shape : List ℕ → Repetition → Option Shape → OpenFields → OpenFields
put_shape n r s f = record { fields = put_field n r s f.fields; left = f.left }

-- a field's open part before that of the fields behind it
abbrev pub put_open : List ℕ → Repetition → OpenShape → (ℕ → OpenFields) → OpenFields
put_open n r s rest = put_shape n r s.shape (rest s.left)

abbrev mutual
  -- the open part of a group's fields, where earlier fields have these names, with at most so many parts on a path and so many leaves
  pub open_fields : List (List ℕ) → ℕ → FileFields → ℕ → OpenFields
  open_fields earlier d no_file_fields n = record { fields = no_fields; left = n }
  open_fields earlier d (file_field name r s fs) n =
      put_open name r (if is_open_name earlier name then open_below d s n else closed_shape n) (open_fields (name ∷ earlier) d fs)

  -- the open part of the shape of a field with an open name
  pub open_below : ℕ → FileShape → ℕ → OpenShape
  open_below zero s n = closed_shape n
  open_below (suc d) (file_leaf t c) n = open_leaf (open_kind t c) n
  open_below (suc d) (file_group fs) n = open_group (open_fields [] d fs n)

-- the root's name, or `Records` where it isn't of the form
abbrev pub open_name : List ℕ → List ℕ
open_name n = if is_short_name n then n else codes "Records"

-- the schema of these open fields, unless there are none
abbrev pub schema_unless_empty : List ℕ → Fields → Option Schema
schema_unless_empty n no_fields = None
schema_unless_empty n (field m r s fs) = Some (record { name = open_name n; fields = field m r s fs })

-- the first 1,024 open leaves and the groups that hold one of them; none where no leaf is open
abbrev pub open_schema : FileSchema → Option Schema
open_schema s = schema_unless_empty s.name (open_fields [] greatest_depth s.fields most_leaves).fields
