-- Streams of the columns of opened files, a batch at a time.
use Rattle.std.specs.Prelude.{◌≡◌, ℕ, ◌+◌, ◌<◌, ◌≤◌, List, [], ◌∷◌, ◌++◌, map, length, Bool, true, false, Option, Some, None, replicate, Result, Ok, Err}
use Rattle.std.specs.List.{flat_map}
use Rattle.dr_meaning.specs.Path.{Leaf}
use Rattle.dr_meaning.specs.Column.{Triplet, triplet}
use Rattle.dr_formats.specs.Metadata.{RowGroup}
use Rattle.dr_formats.specs.File.{Footer, footer_of, leaf_chunk, chunk_values, total, leaf_source, leaves_read, bad_data}
use Rattle.dr_formats.specs.Opening.{Range, leaf_cause, leaf_ranges}
use Rattle.dr_formats.specs.Lacking.{Source, own_chunks, no_chunks, outline}
use Rattle.dr_formats.specs.Lacking as Lacking
use Rattle.dr_nested.specs.Views.{kind_view}
use Rattle.dr_levels.specs.Views.{LeafForm, form}
use Rattle.dr_outside.specs.Link.{LinkShown}
use Rattle.dr_outside.specs.Telling.{Tells}
use Rattle.dr_chunk.specs.Taking.{BeginWith}
use Rattle.dr_file.specs.Fields.{ShownTelling, itself, nulls, outlined, telling_view, told}
use Rattle.dr_file.specs.Openings.{ShownChunk, chunk_place_view}
use Rattle.dr_file.specs.LeafColumns.{shown_range, IsShownLeaf}
use Rattle.dr_file.specs.LeafStreams as leaf_stream
use Rattle.dr_file.specs.LeafStreams.{leaf_triplets, IsAt}
use Rattle.dr_file.specs.OpenedFiles.{IsColumnOf, path_of}
use Rattle.dr_file.specs.declared.opened.Opened.{Opened}
use Rattle.dr_file.specs.declared.opened_field.OpenedField.{OpenedField}
use Rattle.dr_file.specs.declared.file_fault.FileFault.{FileFault}
use Rattle.dr_file.specs.declared.stream.Stream.{Stream}

-- ---- a stream by its parts

-- the file that it reads
abbrev pub file_of : Stream → Opened
file_of s = s.file.now

-- what it keeps of the leaf
abbrev pub field_of : Stream → OpenedField
field_of s = s.field.now

-- how the column is told by that of the leaf that is read
abbrev pub telling_of : Stream → ShownTelling
telling_of s = telling_view s.field.now.telling

-- the form of the columns that it fills
abbrev pub stream_form : Stream → LeafForm
stream_form s = form (kind_view s.kind) s.greatest

-- the chunks of the leaf that is read
abbrev pub chunks_of : OpenedField → List ShownChunk
chunks_of f = map chunk_place_view f.read.chunks.items

-- the ranges that are read
abbrev pub ranges_of : Stream → List Range
ranges_of s = flat_map (shown_range s.file.now.footer) (chunks_of s.field.now)

-- how many triplets may come at most: a NULL for each row, or no more than of the leaf that is read
abbrev pub left_by : ShownTelling → ℕ → ℕ → ℕ
left_by itself rows left = left
left_by nulls rows left = rows
left_by (outlined r d) rows left = left

unfoldable pub left_of : Stream → ℕ
left_of s = left_by (telling_of s) s.rows (leaf_stream.left_of s.leaf)

-- how many triplets a footer names for the chunks of a leaf
abbrev pub chunks_named : Footer → Leaf → ℕ
chunks_named f l = total (λ (g : RowGroup). chunk_values (leaf_chunk f l g)) f.meta.groups

-- how many it names for a leaf with this source: those of its own chunks, or of the leaf that stands in, or a NULL for each row
abbrev pub named_by : Footer → Leaf → Option Source → ℕ
named_by f l None = f.meta.rows
named_by f l (Some own_chunks) = chunks_named f l
named_by f l (Some no_chunks) = f.meta.rows
named_by f l (Some (Lacking.chunks_of x)) = chunks_named f x.leaf

abbrev pub triplets_named : Footer → Leaf → ℕ
triplets_named f l = named_by f l (leaf_source f l)

-- how many bytes of the file it holds
abbrev pub held_of : Stream → ℕ
held_of s = leaf_stream.held_of s.leaf

-- what it refused
abbrev pub refused_of : Stream → Option FileFault
refused_of s = s.refused

-- the refusal of a call, if it is one
abbrev pub fault_of : {A : Type 0} → Result A FileFault → Option FileFault
fault_of (Ok a) = None
fault_of (Err e) = Some e

-- ---- what was given

-- the column of a leaf is told by that of a leaf that is read
pub record IsToldBy (bytes : List ℕ) (l : Leaf) (file : Opened) (field : OpenedField) (read : Leaf) : Type 0 where
  pub shown : IsShownLeaf read field.read
  pub within : file.footer ≤ length bytes
  -- where the chunks are good, the leaf has the column that theirs tells, else bad data
  pub good : (us : List Triplet) → leaf_triplets bytes file.footer read (chunks_of field) ≡ Some us → IsColumnOf bytes l (told (telling_view field.telling) file.rows us)
  pub bad : leaf_triplets bytes file.footer read (chunks_of field) ≡ None → leaf_cause bytes l ≡ Some bad_data
  -- they are none, where the records lack the leaf
  pub nowhere : telling_view field.telling ≡ nulls → chunks_of field ≡ []
  pub ranges : (f : Footer) → footer_of bytes ≡ Some f → flat_map (shown_range file.footer) (chunks_of field) ≡ flat_map (leaf_ranges f) (leaves_read f (l ∷ []))

-- what was given of the column, by what was given of the leaf that is read, and by how many of the rows are left
abbrev pub GivenBy : ShownTelling → ℕ → List Triplet → List Triplet → ℕ → Type 0
GivenBy itself rows us given left = given ≡ us
GivenBy nulls rows us given left = (n : ℕ) × (n + left ≡ rows) × (given ≡ replicate n (triplet 0 0 None))
GivenBy (outlined r d) rows us given left = given ≡ outline r d us

-- a stream of this leaf of a file that was opened by these bytes, whatever it gave
pub record IsOfLeaf (bytes : List ℕ) (l : Leaf) (s : Stream) : Type 0 where
  pub read : Leaf
  pub told_by : IsToldBy bytes l s.file.now s.field.now read

-- the same that gave these triplets, where the file has these bytes, and refused nothing
pub record IsStreamOf (bytes : List ℕ) (l : Leaf) (given : List Triplet) (s : Stream) : Type 0 where
  -- the column of the leaf, if it has one, begins with them
  pub front : (ts : List Triplet) → IsColumnOf bytes l ts → BeginWith given ts
  pub goes_on : refused_of s ≡ None
  pub leaf : IsOfLeaf bytes l s
  pub source : List Triplet
  pub at : IsAt bytes leaf.read source s.leaf
  pub tells : GivenBy (telling_of s) s.file.now.rows source given s.rows

-- what is said of a call, over whatever triplets the stream gave of a leaf, where the link tells the file
abbrev pub OverStream : LinkShown → Stream → (List ℕ → Leaf → List Triplet → Type 0) → Type 0
OverStream link s says = (bytes : List ℕ) (l : Leaf) (given : List Triplet) → IsStreamOf bytes l given s → Tells link (path_of (file_of s)) bytes → says bytes l given

-- more joined a column; or nothing did, and what was given is the leaf's column
abbrev pub StreamGoesOn : List ℕ → Leaf → List Triplet → List Triplet → List Triplet → Stream → Bool → Type 0
StreamGoesOn bytes l given before after s true = (more : List Triplet) × (after ≡ before ++ more) × IsStreamOf bytes l (given ++ more) s
StreamGoesOn bytes l given before after s false = (after ≡ before) × IsColumnOf bytes l given × IsStreamOf bytes l given s

-- lengths of a column before and after, and how many may come before and after: 1 to 1,024 joined it, or none
abbrev pub Fills : Bool → ℕ → ℕ → ℕ → ℕ → Type 0
Fills true before after left rest = (before < after) × (after ≤ before + 1024) × (after + rest ≤ before + left)
Fills false before after left rest = (after ≡ before) × (rest ≤ left)

-- a batch was read of a leaf that stands in: at most as many joined a column, or none; or no batch is left
abbrev pub Reads : Bool → List Triplet → List Triplet → ℕ → ℕ → Type 0
Reads true before after left rest = (more : List Triplet) × (after ≡ before ++ more) × (length more ≤ 1024) × (length more + rest ≤ left) × (rest < left)
Reads false before after left rest = (after ≡ before) × (rest ≤ left)
