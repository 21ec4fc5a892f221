-- What of a footer an opened file keeps.
use Rattle.std.specs.Prelude.{◌≡◌, ℕ, List, [], ◌∷◌, map, Bool, true, false, Option, Some, None, option_map, option_and_then, ⊤}
use Rattle.dr_meaning.specs.Schema.{Kind}
use Rattle.dr_meaning.specs.Path.{Step, Leaf, max_definition}
use Rattle.dr_formats.specs.Metadata.{ColumnMeta, RowGroup, FileMeta}
use Rattle.dr_formats.specs.FileSchema.{file_schema}
use Rattle.dr_formats.specs.Chunk.{chunk_start}
use Rattle.dr_formats.specs.Lacking.{Source, own_chunks, no_chunks, chunks_of}
use Rattle.dr_formats.specs.File.{Footer, leaf_chunk, leaf_source, leaves_read, with_schema, has_leaves, are_uncompressed, FileCause, bad_footer, bad_schema, bad_codec, bad_data, cause_by}
use Rattle.dr_formats.specs.Opening.{has_numbers}
use Rattle.dr_nested.specs.Views.{kind_view}
use Rattle.dr_nested.specs.PathView.{step_view, path_view}
use Rattle.dr_open.specs.declared.column_source.LeafSource.{LeafSource}
use Rattle.dr_file.specs.Fields.{ShownTelling, itself, nulls, outlined, telling_view}
use Rattle.dr_file.specs.Groups.{chunk_of}
use Rattle.dr_file.specs.declared.chunk_place.ChunkPlace.{ChunkPlace}
use Rattle.dr_file.specs.declared.fault.OpenFault.{OpenFault}
use Rattle.dr_file.specs.declared.opened_field.OpenedField.{OpenedField}
use Rattle.dr_file.specs.declared.opened_leaf.OpenedLeaf.{OpenedLeaf}

-- a chunk: the rows of its row group, where it lies, how many triplets it has
pub record ShownChunk : Type 0 where
  pub rows : ℕ
  pub start : ℕ
  pub size : ℕ
  pub values : ℕ

-- a leaf with its chunk in each row group
pub record ShownLeaf : Type 0 where
  pub path : List Step
  pub kind : Kind
  pub chunks : List (Option ShownChunk)

abbrev pub chunk_place_view : ChunkPlace → ShownChunk
chunk_place_view c = record { rows = c.rows; start = c.start; size = c.size; values = c.values }

abbrev pub opened_leaf_view : OpenedLeaf → ShownLeaf
opened_leaf_view o = record { path = map step_view o.steps.items; kind = kind_view o.kind; chunks = map (λ c. Some (chunk_place_view c)) o.chunks.items }

-- the chunk of this metadata in a row group of so many rows
abbrev pub shown_chunk : ℕ → ColumnMeta → ShownChunk
shown_chunk rows m = record { rows = rows; start = chunk_start m; size = m.compressed_size; values = m.values }

-- the chunks at a place of row groups
abbrev pub shown_chunks : ℕ → List RowGroup → List (Option ShownChunk)
shown_chunks i gs = map (λ (g : RowGroup). option_map (shown_chunk g.rows) (chunk_of i g)) gs

-- a leaf whose chunks stand at a place of the row groups
abbrev pub shown_at : List RowGroup → Leaf → ℕ → ShownLeaf
shown_at gs l i = record { path = l.path; kind = l.kind; chunks = shown_chunks i gs }

-- a leaf as a footer tells it
abbrev pub shown_leaf : Footer → Leaf → ShownLeaf
shown_leaf f l = record { path = l.path; kind = l.kind; chunks = map (λ (g : RowGroup). option_map (shown_chunk g.rows) (leaf_chunk f l g)) f.meta.groups }

-- ---- the leaves that a file is opened for

-- a leaf that a file is opened for: its kind and greatest definition level, the leaf that is read for it, and how its column is told by that one's
pub record ShownField : Type 0 where
  pub kind : Kind
  pub greatest : ℕ
  pub read : ShownLeaf
  pub telling : ShownTelling

abbrev pub opened_field_view : OpenedField → ShownField
opened_field_view o = record { kind = kind_view o.kind; greatest = o.greatest; read = opened_leaf_view o.read; telling = telling_view o.telling }

abbrev pub told_by : Leaf → ShownLeaf → ShownTelling → ShownField
told_by l o t = record { kind = l.kind; greatest = max_definition l.path; read = o; telling = t }

-- a leaf without chunks
abbrev pub no_leaf : Kind → ShownLeaf
no_leaf k = record { path = []; kind = k; chunks = [] }

-- a leaf with this source, at the place that it tells
abbrev pub shown_by : List RowGroup → Leaf → LeafSource → ShownField
shown_by gs l (LeafSource.Own i) = told_by l (shown_at gs l i) itself
shown_by gs l LeafSource.Nowhere = told_by l (no_leaf l.kind) nulls
shown_by gs l (LeafSource.Other x) = told_by l (shown_at gs (path_view x.leaf) x.place) (outlined x.repetition x.definition)

-- leaves with these sources
abbrev pub shown_by_each : List RowGroup → List Leaf → List LeafSource → List ShownField
shown_by_each gs [] ss = []
shown_by_each gs (l ∷ ls) [] = []
shown_by_each gs (l ∷ ls) (s ∷ ss) = shown_by gs l s ∷ shown_by_each gs ls ss

-- a leaf with this source, as a footer tells it
abbrev pub shown_from : Footer → Leaf → Option Source → ShownField
shown_from f l None = told_by l (no_leaf l.kind) nulls
shown_from f l (Some own_chunks) = told_by l (shown_leaf f l) itself
shown_from f l (Some no_chunks) = told_by l (no_leaf l.kind) nulls
shown_from f l (Some (chunks_of x)) = told_by l (shown_leaf f x.leaf) (outlined x.repetition x.definition)

abbrev pub shown_field : Footer → Leaf → ShownField
shown_field f l = shown_from f l (leaf_source f l)

-- ---- footers from metadata

-- the footer at a place with this metadata, if it has a schema and whole row groups
abbrev pub footer_with : ℕ → FileMeta → Option Footer
footer_with place m = option_and_then (with_schema place m) (file_schema m.schema)

-- the same, where there is metadata
abbrev pub footer_in : ℕ → Option FileMeta → Option Footer
footer_in place o = option_and_then (footer_with place) o

-- the cause that a footer shows
abbrev pub footer_cause : List Leaf → Option Footer → Option FileCause
footer_cause F o = cause_by (has_numbers F) F o

-- a footer is there and shows no cause, and these are its number of rows and its leaves
abbrev pub IsOpenedAs : Option Footer → List Leaf → ℕ → List ShownField → Type 0
IsOpenedAs o F rows fs = (f : Footer) × (o ≡ Some f) × (has_leaves f F ≡ true) × (are_uncompressed f (leaves_read f F) ≡ true) × (has_numbers F f ≡ true)
    × (f.meta.rows ≡ rows) × (map (shown_field f) F ≡ fs)

-- a fault of opening is the cause that the footer shows
abbrev pub IsOpenFault : OpenFault → Option FileCause → Type 0
IsOpenFault OpenFault.NoMemory cause = ⊤
IsOpenFault OpenFault.Failed cause = ⊥
IsOpenFault OpenFault.BadFooter cause = cause ≡ Some bad_footer
IsOpenFault OpenFault.BadSchema cause = cause ≡ Some bad_schema
IsOpenFault OpenFault.BadCodec cause = cause ≡ Some bad_codec
IsOpenFault OpenFault.BadData cause = cause ≡ Some bad_data

-- a fault of metadata that gives no footer
abbrev pub IsNoFooter : OpenFault → Option Footer → Type 0
IsNoFooter OpenFault.NoMemory o = ⊤
IsNoFooter OpenFault.Failed o = ⊥
IsNoFooter OpenFault.BadFooter o = o ≡ None
IsNoFooter OpenFault.BadSchema o = ⊥
IsNoFooter OpenFault.BadCodec o = ⊥
IsNoFooter OpenFault.BadData o = ⊥

-- a fault of leaves at places, of which some tell whether no chunk is compressed and whether the numbers are good
abbrev pub IsPlacesFault : OpenFault → Bool → Bool → Type 0
IsPlacesFault OpenFault.NoMemory uncompressed numbers = ⊤
IsPlacesFault OpenFault.Failed uncompressed numbers = ⊥
IsPlacesFault OpenFault.BadFooter uncompressed numbers = ⊥
IsPlacesFault OpenFault.BadSchema uncompressed numbers = ⊥
IsPlacesFault OpenFault.BadCodec uncompressed numbers = uncompressed ≡ false
IsPlacesFault OpenFault.BadData uncompressed numbers = (uncompressed ≡ true) × (numbers ≡ false)
