-- Which files are written.
use Rattle.std.specs.Prelude.{◌≡◌, ℕ, List, ◌++◌, map, length, true, nat_lt, ◌^◌}
use Rattle.std.specs.List.{list_all}
use Rattle.dr_meaning.specs.Schema.{Schema}
use Rattle.dr_meaning.specs.Path.{Leaf, leaves, max_definition}
use Rattle.dr_meaning.specs.Record.{Node, is_record, text_bytes}
use Rattle.dr_meaning.specs.Column.{Triplet, column}
use Rattle.dr_formats.specs.LittleEndian.{little_endian_bytes}
use Rattle.dr_formats.specs.Compact.{struct_bytes}
use Rattle.dr_formats.specs.Metadata.{RowGroup, file_tree}
use Rattle.dr_formats.specs.File.{magic}
use Rattle.dr_formats.specs.Writing.{file_meta}
use Rattle.dr_levels.specs.declared.column.Column.{Column}
use Rattle.dr_levels.specs.Views.{columns_view, column_form, form}
use Rattle.dr_write.specs.Chunks.{written_leaf, AreFor}

-- a column for each leaf of a schema, in their order, that can be written: made for the leaf, with levels at most its greatest, and texts of fewer than
-- 2^32 bytes each
abbrev pub AreColumnsFor : Schema → List Column → Type 0
AreColumnsFor s cs = AreFor (map written_leaf (leaves s.fields)) cs

-- records of a schema that have these columns at its leaves
abbrev pub HaveColumns : Schema → List Node → List (List Triplet) → Type 0
HaveColumns s R cs = (list_all (is_record s.fields) R ≡ true) × (cs ≡ map (λ (l : Leaf). column l.path R) (leaves s.fields))

-- the footer of a file of so many rows in these row groups
abbrev pub footer_of : Schema → ℕ → List RowGroup → List ℕ
footer_of s rows gs = struct_bytes (file_tree (file_meta s rows gs))

-- a footer, its length in four bytes, and the magic
abbrev pub file_end : List ℕ → List ℕ
file_end footer = footer ++ (little_endian_bytes 4 (length footer) ++ magic)

-- the columns of records of a schema can be written, if the texts of each record have fewer than 2^32 bytes together and each column is made for its leaf
abbrev pub RecordColumnsFit : Type 0
RecordColumnsFit = (s : Schema) (R : List Node) (cs : List Column) → HaveColumns s R (columns_view cs)
    → list_all (λ (n : Node). nat_lt (text_bytes n) (2 ^ 32)) R ≡ true
    → map column_form cs ≡ map (λ (l : Leaf). form l.kind (max_definition l.path)) (leaves s.fields) → AreColumnsFor s cs
