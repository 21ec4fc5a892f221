-- What is written of the columns of leaves: pages, chunks and column chunks, by what is needed of a leaf.
use Rattle.std.specs.Prelude.{◌≡◌, ℕ, zero, suc, ◌+◌, List, [], ◌∷◌, ◌++◌, length, true, pos, Some, None}
use Rattle.std.specs.List.{list_all}
use Rattle.dr_meaning.specs.Schema.{Kind}
use Rattle.dr_meaning.specs.Path.{Leaf, max_repetition, max_definition}
use Rattle.dr_meaning.specs.Column.{Triplet}
use Rattle.dr_formats.specs.Compact.{struct_bytes}
use Rattle.dr_formats.specs.Metadata.{ColumnChunk, RowGroup, page_tree, PageHeader}
use Rattle.dr_formats.specs.Page.{PageForm, is_triplet, body_bytes}
use Rattle.dr_formats.specs.Writing.{cut_pages, header_of_page, type_from, WrittenChunks, put_chunk, written_groups}
use Rattle.dr_levels.specs.declared.column.Column.{Column}
use Rattle.dr_levels.specs.declared.triplets.Triplets.{Triplets}
use Rattle.dr_levels.specs.Views.{column_view, column_form, form, triplets_view, triplets_form}
use Rattle.dr_write.specs.Cutting.{records_of}

-- what is needed of a leaf: its names, its kind, its greatest levels
pub record WrittenLeaf : Type 0 where
  pub names : List (List ℕ)
  pub kind : Kind
  pub max_repetition : ℕ
  pub max_definition : ℕ

abbrev pub written_leaf : Leaf → WrittenLeaf
written_leaf l = record { names = l.names; kind = l.kind; max_repetition = max_repetition l.path; max_definition = max_definition l.path }

-- a page of this form, of a leaf of this kind with these greatest levels
abbrev pub page_of : PageForm → Kind → ℕ → ℕ → List Triplet → List ℕ
page_of form k r d ts = struct_bytes (page_tree (header_of_page form r d ts (length (body_bytes form k r d ts)))) ++ body_bytes form k r d ts

-- pages, one after another
abbrev pub pages_of : PageForm → Kind → ℕ → ℕ → List (List Triplet) → List ℕ
pages_of form k r d [] = []
pages_of form k r d (p ∷ ps) = page_of form k r d p ++ pages_of form k r d ps

-- the pages of a column
abbrev pub chunk_of : PageForm → Kind → ℕ → ℕ → List Triplet → List ℕ
chunk_of form k r d ts = pages_of form k r d (cut_pages k [] (records_of ts))

abbrev pub leaf_chunk : PageForm → WrittenLeaf → List Triplet → List ℕ
leaf_chunk form l ts = chunk_of form l.kind l.max_repetition l.max_definition ts

-- the column chunk of a leaf with so many triplets, whose chunk has so many bytes at a place
abbrev pub column_chunk : WrittenLeaf → ℕ → ℕ → ℕ → ColumnChunk
column_chunk l count place size = record {
  file_path = None;
  file_offset = Some (pos place);
  meta = record {
    type = pos (type_from l.kind);
    encodings = Some (pos 0 ∷ pos 3 ∷ []);
    path = Some l.names;
    codec = pos 0;
    values = count;
    uncompressed_size = Some (pos size);
    compressed_size = size;
    data_page_offset = place;
    dictionary_page_offset = None;
  };
}

-- no chunks
abbrev pub no_chunks : WrittenChunks
no_chunks = record { bytes = []; columns = [] }

-- the chunks of the columns of leaves from a place on
abbrev pub chunks_of : PageForm → List WrittenLeaf → List (List Triplet) → ℕ → WrittenChunks
chunks_of form [] cs place = no_chunks
chunks_of form (l ∷ ls) [] place = no_chunks
chunks_of form (l ∷ ls) (c ∷ cs) place =
    put_chunk (leaf_chunk form l c) (column_chunk l (length c) place (length (leaf_chunk form l c))) (chunks_of form ls cs (place + length (leaf_chunk form l c)))

-- without rows there are no chunks
abbrev pub chunks_in_rows : PageForm → ℕ → List WrittenLeaf → List (List Triplet) → ℕ → WrittenChunks
chunks_in_rows form zero ls cs place = no_chunks
chunks_in_rows form (suc n) ls cs place = chunks_of form ls cs place

-- and no row group
abbrev pub groups_in_rows : ℕ → WrittenChunks → List RowGroup
groups_in_rows zero w = []
groups_in_rows (suc n) w = written_groups (suc n) w

-- a column that can be written for a leaf: it is made for it, its levels are at most the greatest, its texts have fewer than 2^32 bytes each
abbrev pub IsFor : WrittenLeaf → Column → Type 0
IsFor l c = (column_form c ≡ form l.kind l.max_definition) × (list_all (is_triplet l.kind l.max_repetition l.max_definition) (column_view c) ≡ true)

-- a column for each leaf, in their order
abbrev pub AreFor : List WrittenLeaf → List Column → Type 0
AreFor [] [] = Unit {0}
AreFor [] (c ∷ cs) = ⊥
AreFor (l ∷ ls) [] = ⊥
AreFor (l ∷ ls) (c ∷ cs) = IsFor l c × AreFor ls cs

-- ---- of a stretch of a column

-- the header of a page of this form with these triplets, whose body has so many bytes, and the page
abbrev pub header_for : PageForm → ℕ → Triplets → ℕ → PageHeader
header_for form max_repetition ts size = header_of_page form max_repetition (triplets_form ts).greatest (triplets_view ts) size

abbrev pub page_for : PageForm → ℕ → Triplets → List ℕ
page_for form max_repetition ts = page_of form (triplets_form ts).kind max_repetition (triplets_form ts).greatest (triplets_view ts)

-- the pages into which some of its triplets are cut
abbrev pub pages_for : Triplets → List Triplet → List (List Triplet)
pages_for ts some = cut_pages (triplets_form ts).kind [] (records_of some)
