-- What the row groups of a footer say of the leaf at a place.
use Rattle.std.specs.Prelude.{ℕ, List, Bool, ◌&&◌, ◌==◌, nat_le, Option, option_map}
use denote.Ref.{Bor}
use Rattle.std.specs.List.{list_all}
use Rattle.dr_meta.specs.declared.file.ColumnMeta as code
use Rattle.dr_meta.specs.Views.{column_view}
use Rattle.dr_formats.specs.Metadata.{ColumnMeta, ColumnChunk, RowGroup}
use Rattle.dr_formats.specs.File.{nth_chunk, is_uncompressed, total, most_rows, most_triplets, chunk_values}

-- the chunk at a place of a row group
abbrev pub chunk_of : ℕ → RowGroup → Option ColumnMeta
chunk_of i g = option_map (λ (c : ColumnChunk). c.meta) (nth_chunk g.columns i)

abbrev pub is_uncompressed_at : ℕ → RowGroup → Bool
is_uncompressed_at i g = is_uncompressed (chunk_of i g)

-- whether so many rows are those of the row groups, and not too many
abbrev pub are_rows : List RowGroup → ℕ → Bool
are_rows gs rows = (total (λ (g : RowGroup). g.rows) gs == rows) && nat_le rows most_rows

-- whether the chunks at a place have not too many triplets together
abbrev pub are_triplets : List RowGroup → ℕ → Bool
are_triplets gs i = nat_le (total (λ g. chunk_values (chunk_of i g)) gs) most_triplets

-- whether no chunk at these places is compressed
abbrev pub are_uncompressed_at : List RowGroup → List ℕ → Bool
are_uncompressed_at gs is = list_all (λ i. list_all (is_uncompressed_at i) gs) is

-- whether the numbers of rows and of triplets at these places agree and aren't too great
abbrev pub are_numbers_at : List RowGroup → ℕ → List ℕ → Bool
are_numbers_at gs rows is = are_rows gs rows && list_all (λ i. are_triplets gs i) is

-- the metadata that is lent
abbrev pub lent_meta : Bor code.ColumnMeta → ColumnMeta
lent_meta b = column_view b.now
