-- Records under a wider schema: they are records of it, keep their columns, and the files of the ones are files of the others.
use Rattle.std.specs.Prelude.{◌≡◌, ℕ, List, map, true, Some}
use Rattle.std.specs.List.{list_all}
use Rattle.dr_meaning.specs.Schema.{Fields, no_fields, field, Shape, leaf, group, Schema, is_schema}
use Rattle.dr_meaning.specs.Path.{Leaf, leaves}
use Rattle.dr_meaning.specs.Record.{Node, is_record}
use Rattle.dr_meaning.specs.Column.{column}
use Rattle.dr_formats.specs.Page.{PageForm}
use Rattle.dr_formats.specs.FileSchema.{FileFields, no_file_fields, file_field, FileShape, file_leaf, file_group, open_kind}
use Rattle.dr_formats.specs.File.{Footer, footer_of, IsFileOf}
use Rattle.dr_formats.specs.Writing.{file_bytes}
use Rattle.dr_formats.specs.WritingLaws.{nth_leaf, AreAmong, FitsFile}
use Rattle.dr_formats.specs.Widening.{is_wider, widened}

-- two schemas, the second as wide as the first or wider
abbrev pub AreWider : Schema → Schema → Type 0
AreWider s w = (is_schema s ≡ true) × (is_schema w ≡ true) × (is_wider s.fields w.fields ≡ true)

-- records of the first as records of the second
abbrev pub widened_records : Schema → Schema → List Node → List Node
widened_records s w R = map (widened s.fields w.fields) R

-- the widened records of a schema are records of the wider one
abbrev pub WidenedAreRecords : Type 0
WidenedAreRecords = (s w : Schema) (R : List Node) → AreWider s w → list_all (is_record s.fields) R ≡ true
    → list_all (is_record w.fields) (widened_records s w R) ≡ true

-- at a leaf that both schemas have, by its names, widened records have the column of the records
abbrev pub WideningKeepsColumns : Type 0
WideningKeepsColumns = (s w : Schema) (i j : ℕ) (l m : Leaf) (R : List Node) → AreWider s w → nth_leaf (leaves s.fields) i ≡ Some l
    → nth_leaf (leaves w.fields) j ≡ Some m → l.names ≡ m.names → column m.path (widened_records s w R) ≡ column l.path R

-- ---- files

abbrev mutual
  -- the fields of a file are these, in order, by names and repetitions
  pub AreFields : FileFields → Fields → Type 0
  AreFields no_file_fields no_fields = Unit {0}
  AreFields no_file_fields (field n r s fs) = ⊥
  AreFields (file_field m q t es) no_fields = ⊥
  AreFields (file_field m q t es) (field n r s fs) = (m ≡ n) × (q ≡ r) × IsShape t s × AreFields es fs

  -- a leaf is open and of this kind; a group has these fields
  pub IsShape : FileShape → Shape → Type 0
  IsShape (file_leaf t c) (leaf k) = open_kind t c ≡ Some k
  IsShape (file_leaf t c) (group fs) = ⊥
  IsShape (file_group es) (leaf k) = ⊥
  IsShape (file_group es) (group fs) = AreFields es fs

-- a file of records, whose fields are those of their schema, is a file of the widened records for any leaves of the wider schema
abbrev pub FileIsOfWidened : Type 0
FileIsOfWidened = (bytes : List ℕ) (f : Footer) (s w : Schema) (F : List Leaf) (R : List Node) → AreWider s w
    → footer_of bytes ≡ Some f → AreFields f.schema.fields s.fields → IsFileOf bytes s (leaves s.fields) R → AreAmong (leaves w.fields) F
    → IsFileOf bytes w F (widened_records s w R)

-- so is the file that is written for records
abbrev pub WrittenFileIsOfWidened : Type 0
WrittenFileIsOfWidened = (form : PageForm) (s w : Schema) (F : List Leaf) (R : List Node) → AreWider s w → FitsFile form s R
    → AreAmong (leaves w.fields) F → IsFileOf (file_bytes form s R) w F (widened_records s w R)
