use Rattle.std.proofs.Common.{◌≡◌, map, drop}
use Rattle.std.specs.List.{list_all}
use Rattle.dr_formats.specs.Metadata.{ColumnChunk}
use Rattle.dr_formats.specs.File.{has_no_path}
use Rattle.dr_meta.specs.Views.{chunk_view}
use Rattle.dr_file.proofs.groups.is_whole.Given as goal

-- the chunks so far lie in this file
abbrev pub invariant-chunks : goal.invariant-chunks
invariant-chunks l = list_all (λ (c : ColumnChunk). has_no_path c.file_path) (map chunk_view (drop l.chunk-index l.group.columns.items)) ≡ list_all (λ (c : ColumnChunk). has_no_path c.file_path) (map chunk_view l.group.columns.items)
