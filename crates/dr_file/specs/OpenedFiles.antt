-- Opened files, and the faults of files.
use Rattle.std.specs.Prelude.{◌≡◌, ℕ, List, map, length, Bool, true, false, Option, Some, None, Result, Ok, Err, string_bytes, ⊤}
use Rattle.std.specs.List.{slice_get}
use Rattle.dr_meaning.specs.Path.{Leaf}
use Rattle.dr_meaning.specs.Column.{Triplet}
use Rattle.dr_formats.specs.File.{FileCause, bad_footer, bad_schema, bad_codec, bad_data, Footer, footer_of, footer_place, given_column}
use Rattle.dr_formats.specs.Opening.{leaf_cause}
use Rattle.dr_chunk.specs.declared.fault.ChunkFault.{ChunkFault}
use Rattle.dr_outside.specs.Faults.{raised}
use Rattle.dr_outside.specs.declared.cause.Cause.{Cause}
use Rattle.dr_file.specs.Openings.{opened_field_view, IsOpenedAs}
use Rattle.dr_file.specs.declared.opened.Opened.{Opened}
use Rattle.dr_file.specs.declared.fault.OpenFault.{OpenFault}
use Rattle.dr_file.specs.declared.file_fault.FileFault.{FileFault}

abbrev pub rows_of : Opened → ℕ
rows_of o = o.rows

-- for how many leaves it was opened
abbrev pub leaf_count : Opened → ℕ
leaf_count o = length o.leaves.items

abbrev pub path_of : Opened → List ℕ
path_of o = string_bytes o.path

-- a file of these bytes was opened for these leaves: its footer is there and shows no cause, and what it says of them is kept
abbrev pub IsOpened : List ℕ → List Leaf → Opened → Type 0
IsOpened bytes F o = (o.footer ≡ footer_place bytes) × IsOpenedAs (footer_of bytes) F o.rows (map opened_field_view o.leaves.items)

-- what is said of the leaf at an index of those for which the file was opened, by these bytes
abbrev pub OverLeafAt : Opened → ℕ → (List ℕ → Leaf → Type 0) → Type 0
OverLeafAt o index says = (bytes : List ℕ) (F : List Leaf) (l : Leaf) → IsOpened bytes F o → slice_get F index ≡ Some l → says bytes l

-- the same, by the footer of the bytes
abbrev pub OverLeafByFooter : Opened → ℕ → (Footer → Leaf → Type 0) → Type 0
OverLeafByFooter o index says = (bytes : List ℕ) (F : List Leaf) (l : Leaf) (f : Footer) → IsOpened bytes F o → slice_get F index ≡ Some l → footer_of bytes ≡ Some f → says f l

-- a fault that bytes show is this cause of theirs; want of memory and a link's failure may come in place of anything
abbrev pub IsCauseOf : FileFault → Option FileCause → Type 0
IsCauseOf FileFault.NoMemory cause = ⊤
IsCauseOf (FileFault.Why (Cause.ReadFailed before after)) cause = ⊤
IsCauseOf (FileFault.Why Cause.BadFooter) cause = cause ≡ Some bad_footer
IsCauseOf (FileFault.Why Cause.BadSchema) cause = cause ≡ Some bad_schema
IsCauseOf (FileFault.Why Cause.BadCodec) cause = cause ≡ Some bad_codec
IsCauseOf (FileFault.Why Cause.BadData) cause = cause ≡ Some bad_data

-- whether the link failed
abbrev pub is_link_fault : FileFault → Bool
is_link_fault FileFault.NoMemory = false
is_link_fault (FileFault.Why (Cause.ReadFailed before after)) = true
is_link_fault (FileFault.Why c) = false

abbrev pub is_read_fault : {A : Type 0} → Result A FileFault → Bool
is_read_fault (Ok a) = false
is_read_fault (Err e) = is_link_fault e

-- a link's failure has its counts of faults before and after, of which the latter is one more
abbrev pub HasCounts : ℕ → ℕ → FileFault → Type 0
HasCounts old new FileFault.NoMemory = ⊤
HasCounts old new (FileFault.Why (Cause.ReadFailed before after)) = (before ≡ old) × (after ≡ new) × (new ≡ raised old)
HasCounts old new (FileFault.Why c) = ⊤

-- a fault of opening, as it is told with the link's counts before and after
abbrev pub told_fault : OpenFault → ℕ → ℕ → FileFault
told_fault OpenFault.NoMemory before after = FileFault.NoMemory
told_fault OpenFault.Failed before after = FileFault.Why (Cause.ReadFailed before after)
told_fault OpenFault.BadFooter before after = FileFault.Why Cause.BadFooter
told_fault OpenFault.BadSchema before after = FileFault.Why Cause.BadSchema
told_fault OpenFault.BadCodec before after = FileFault.Why Cause.BadCodec
told_fault OpenFault.BadData before after = FileFault.Why Cause.BadData

-- ---- columns

-- bytes have no cause for the leaf alone, and these are its triplets
abbrev pub IsColumnOf : List ℕ → Leaf → List Triplet → Type 0
IsColumnOf bytes l ts = (leaf_cause bytes l ≡ None) × (f : Footer) × (footer_of bytes ≡ Some f) × (given_column bytes f l ≡ Some ts)

-- the one cause that is left to a leaf of an opened file; want of memory and a link's failure may come in place of anything
abbrev pub IsColumnFault : FileFault → Option FileCause → Type 0
IsColumnFault FileFault.NoMemory cause = ⊤
IsColumnFault (FileFault.Why (Cause.ReadFailed before after)) cause = ⊤
IsColumnFault (FileFault.Why Cause.BadData) cause = cause ≡ Some bad_data
IsColumnFault (FileFault.Why c) cause = ⊥

-- a fault of chunks, as it is told with the link's counts before and after
abbrev pub told_chunk_fault : ChunkFault → ℕ → ℕ → FileFault
told_chunk_fault ChunkFault.NoMemory before after = FileFault.NoMemory
told_chunk_fault ChunkFault.Failed before after = FileFault.Why (Cause.ReadFailed before after)
told_chunk_fault ChunkFault.BadData before after = FileFault.Why Cause.BadData
