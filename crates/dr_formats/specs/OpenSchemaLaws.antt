-- Laws of the open part of a file's schema: it is a schema, its leaves are the open leaves, and that of a written file is the schema itself.
use Rattle.std.specs.Prelude.{◌≡◌, List, [], map, take, filter, Bool, true, false, Option, Some, None, Ok}
use Rattle.dr_meaning.specs.Schema.{Kind, Schema, is_schema, most_leaves}
use Rattle.dr_meaning.specs.Path.{Step, Leaf, leaves}
use Rattle.dr_meaning.specs.Record.{Node}
use Rattle.dr_formats.specs.FileSchema.{FileLeaf, file_leaves, FileSchema, open_schema}
use Rattle.dr_formats.specs.Page.{PageForm}
use Rattle.dr_formats.specs.File.{schema_of_file}
use Rattle.dr_formats.specs.Writing.{file_bytes}
use Rattle.dr_formats.specs.WritingLaws.{FitsFile}

-- the open part of a file's schema keeps the rules of names and the limits
abbrev pub OpenPartIsSchema : Type 0
OpenPartIsSchema = (f : FileSchema) (s : Schema) → open_schema f ≡ Some s → is_schema s ≡ true

-- a schema's leaf as an open leaf of a file
abbrev pub file_leaf_of : Leaf → FileLeaf
file_leaf_of l = record { names = l.names; repetitions = map (λ (s : Step). s.repetition) l.path; kind = Some l.kind }

abbrev pub has_kind : Option Kind → Bool
has_kind None = false
has_kind (Some k) = true

-- the open ones of a file's leaves
abbrev pub open_ones : List FileLeaf → List FileLeaf
open_ones ls = filter (λ (l : FileLeaf). has_kind l.kind) ls

-- the leaves of the open part, where there is one
abbrev pub leaves_of_part : Option Schema → List FileLeaf
leaves_of_part None = []
leaves_of_part (Some s) = map file_leaf_of (leaves s.fields)

-- the leaves of the open part are the first 1,024 open leaves of the file, in order, and there is no open part where no leaf is open
abbrev pub OpenPartHasOpenLeaves : Type 0
OpenPartHasOpenLeaves = (f : FileSchema) → leaves_of_part (open_schema f) ≡ take most_leaves (open_ones (file_leaves f.fields))

-- the schema of a written file is the schema of its records
abbrev pub WrittenSchemaIsRead : Type 0
WrittenSchemaIsRead = (form : PageForm) (s : Schema) (R : List Node) → FitsFile form s R → schema_of_file (file_bytes form s R) ≡ Ok s
