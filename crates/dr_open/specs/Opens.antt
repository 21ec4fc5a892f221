-- The open part of fields in the list of a file's schema elements.
use Rattle.std.specs.Prelude.{ℕ, List, Option, Some, None, option_map}
use Rattle.dr_meaning.specs.Schema.{Repetition, Fields, Shape}
use Rattle.dr_formats.specs.Metadata.{SchemaElement}
use Rattle.dr_formats.specs.FileSchema.{FieldsRead, ShapeRead, OpenFields, OpenShape, open_fields, open_below}
use Rattle.dr_nested.specs.Views.{SeenField}
use Rattle.dr_open.specs.Places.{next_fields, shape_from}

-- the open part of fields, how many leaves may still come, and the elements behind the fields
pub record FieldsPart : Type 0 where
  pub fields : Fields
  pub left : ℕ
  pub behind : List SchemaElement

abbrev pub part_of_fields : OpenFields → List SchemaElement → FieldsPart
part_of_fields o es = record { fields = o.fields; left = o.left; behind = es }

-- that of the next n fields of a group, where earlier fields have these names, with at most so many parts on a path and so many leaves
abbrev pub fields_part : List (List ℕ) → ℕ → ℕ → ℕ → List SchemaElement → Option FieldsPart
fields_part earlier d room n es = option_map (λ (f : FieldsRead). part_of_fields (open_fields earlier d f.fields room) f.behind) (next_fields n es)

-- the open part of a shape, if there is one, how many leaves may still come, and the elements behind the shape
pub record ShapePart : Type 0 where
  pub shape : Option Shape
  pub left : ℕ
  pub behind : List SchemaElement

abbrev pub part_of_shape : OpenShape → List SchemaElement → ShapePart
part_of_shape o es = record { shape = o.shape; left = o.left; behind = es }

-- that of an element's shape
abbrev pub shape_part : ℕ → ℕ → SchemaElement → List SchemaElement → Option ShapePart
shape_part d room e es = option_map (λ (s : ShapeRead). part_of_shape (open_below d s.shape room) s.behind) (shape_from e es)

-- the open part of a field, if there is one, how many leaves may still come, and the elements behind the field
pub record FieldPart : Type 0 where
  pub field : Option SeenField
  pub left : ℕ
  pub behind : List SchemaElement

-- a shape, if there is one, as that of a field
abbrev pub named_shape : List ℕ → Repetition → Option Shape → Option SeenField
named_shape n r o = option_map (λ (x : Shape). record { name = n; repetition = r; shape = x }) o

abbrev pub part_of_field : List ℕ → Repetition → ShapePart → FieldPart
part_of_field n r s = record { field = named_shape n r s.shape; left = s.left; behind = s.behind }

abbrev pub closed_field : ℕ → ShapeRead → FieldPart
closed_field room s = record { field = None; left = room; behind = s.behind }

-- that of the field of an element, of this name if it is open, and of this repetition
abbrev pub field_part : Option (List ℕ) → Repetition → ℕ → ℕ → SchemaElement → List SchemaElement → Option FieldPart
field_part None r d room e es = option_map (closed_field room) (shape_from e es)
field_part (Some n) r d room e es = option_map (part_of_field n r) (shape_part d room e es)
