-- What a reader of a file learns in turn: the cause at opening, for a set of leaves; the cause of one leaf alone; and the ranges of bytes that it may ask for.
use Rattle.std.specs.Prelude.{◌≡◌, ◌↔◌, ℕ, ◌+◌, ◌-◌, List, [], ◌∷◌, ◌++◌, length, Bool, true, false, ◌&&◌, nat_le, if◌then◌else◌, Option, Some, None}
use Rattle.std.specs.List.{list_all, flat_map, slice_get}
use Rattle.dr_meaning.specs.Schema.{Schema}
use Rattle.dr_meaning.specs.Path.{Leaf, leaves}
use Rattle.dr_meaning.specs.Record.{Node}
use Rattle.dr_meaning.specs.Column.{Triplet}
use Rattle.dr_meaning.specs.OneColumn.{is_column}
use Rattle.dr_formats.specs.Metadata.{ColumnMeta, RowGroup}
use Rattle.dr_formats.specs.Chunk.{chunk_start}
use Rattle.dr_formats.specs.File.{Footer, footer_of, footer_length, footer_place, is_framed, leaf_chunk, leaves_read, rows_agree, values_fit, given_column}
use Rattle.dr_formats.specs.File.{FileCause, HasCause, IsFileOf, cause_by}

-- ---- causes

-- whether the numbers of rows and of triplets, as the footer tells them, agree and aren't too great
abbrev pub has_numbers : List Leaf → Footer → Bool
has_numbers F f = rows_agree f && values_fit f (leaves_read f F)

-- the cause that the footer alone shows
abbrev pub opening_cause : List ℕ → List Leaf → Option FileCause
opening_cause bytes F = cause_by (has_numbers F) F (footer_of bytes)

-- whether the triplets of a leaf are there and are a column of so many rows
abbrev pub has_column : Leaf → ℕ → Option (List Triplet) → Bool
has_column l rows None = false
has_column l rows (Some ts) = is_column l rows ts

-- whether the file gives a column of one leaf
abbrev pub has_leaf_column : List ℕ → Leaf → Footer → Bool
has_leaf_column bytes l f = has_numbers (l ∷ []) f && has_column l f.meta.rows (given_column bytes f l)

-- the cause of one leaf alone
abbrev pub leaf_cause : List ℕ → Leaf → Option FileCause
leaf_cause bytes l = cause_by (has_leaf_column bytes l) (l ∷ []) (footer_of bytes)

-- ---- ranges

-- so many bytes from a place on
pub record Range : Type 0 where
  pub place : ℕ
  pub size : ℕ

abbrev pub range : ℕ → ℕ → Range
range place size = record { place = place; size = size }

-- the first magic; the footer's length and the last magic
abbrev pub end_ranges : List ℕ → List Range
end_ranges bytes = if nat_le 12 (length bytes) then range 0 4 ∷ range (length bytes - 8) 8 ∷ [] else []

-- the footer, where there is room for it
abbrev pub footer_ranges : List ℕ → List Range
footer_ranges bytes = if is_framed bytes then range (footer_place bytes) (footer_length bytes) ∷ [] else []

-- a chunk, where it lies between the magic and the footer
abbrev pub chunk_range : ℕ → Option ColumnMeta → List Range
chunk_range footer None = []
chunk_range footer (Some m) =
    if nat_le 4 (chunk_start m) && nat_le (chunk_start m + m.compressed_size) footer then range (chunk_start m) m.compressed_size ∷ []
    else []

-- the chunks of a leaf
abbrev pub leaf_ranges : Footer → Leaf → List Range
leaf_ranges f l = flat_map (λ (g : RowGroup). chunk_range f.place (leaf_chunk f l g)) f.meta.groups

-- the chunks that are read for these leaves, where there is a footer
abbrev pub chunk_ranges : List Leaf → Option Footer → List Range
chunk_ranges F None = []
chunk_ranges F (Some f) = flat_map (leaf_ranges f) (leaves_read f F)

-- what a reader of these leaves may look into: both ends of the file, the footer, the chunks of the leaves, and of the stand-ins of those that are lacking
abbrev pub reader_ranges : List ℕ → List Leaf → List Range
reader_ranges bytes F = end_ranges bytes ++ (footer_ranges bytes ++ chunk_ranges F (footer_of bytes))

-- whether a range lies in another
abbrev pub is_inside : Range → Range → Bool
is_inside r s = nat_le s.place r.place && nat_le (r.place + r.size) (s.place + s.size)

-- whether a range ends in the bytes
abbrev pub is_in_file : List ℕ → Range → Bool
is_in_file bytes r = nat_le (r.place + r.size) (length bytes)

-- ---- laws

-- the cause at opening holds
abbrev pub OpeningCauseHolds : Type 0
OpeningCauseHolds = (bytes : List ℕ) (s : Schema) (F : List Leaf) (c : FileCause) → opening_cause bytes F ≡ Some c → HasCause bytes s F c

-- bytes have the cause of one leaf of a schema exactly if the test of that leaf tells it
abbrev pub LeafCauseIsExact : Type 0
LeafCauseIsExact = (bytes : List ℕ) (s : Schema) (i : ℕ) (l : Leaf) (c : FileCause) → slice_get (leaves s.fields) i ≡ Some l
    → (leaf_cause bytes l ≡ Some c) ↔ HasCause bytes s (l ∷ []) c

-- and where the test tells none, they are a file of some records for this leaf
abbrev pub NoLeafCauseIsFile : Type 0
NoLeafCauseIsFile = (bytes : List ℕ) (s : Schema) (i : ℕ) (l : Leaf) → slice_get (leaves s.fields) i ≡ Some l
    → (leaf_cause bytes l ≡ None) ↔ ((R : List Node) × IsFileOf bytes s (l ∷ []) R)

-- bytes that are a file of no records have a cause
abbrev pub NoFileHasCause : Type 0
NoFileHasCause = (bytes : List ℕ) (s : Schema) (F : List Leaf) → ((R : List Node) → IsFileOf bytes s F R → ⊥) → (c : FileCause) × HasCause bytes s F c

-- all that a reader may look into lies in the file
abbrev pub RangesAreInFile : Type 0
RangesAreInFile = (bytes : List ℕ) (F : List Leaf) → list_all (is_in_file bytes) (reader_ranges bytes F) ≡ true
