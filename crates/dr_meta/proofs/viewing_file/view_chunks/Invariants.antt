use Rattle.std.proofs.Common.{map}
use Rattle.dr_formats.specs.Metadata.{view_chunk}
use Rattle.dr_compact.specs.Views.{tree_view}
use Rattle.dr_meta.specs.Views.{chunk_view}
use Rattle.dr_meta.proofs.EachLemmas.{Seen}
use Rattle.dr_meta.proofs.viewing_file.view_chunks.Given as goal

abbrev pub invariant-chunks : goal.invariant-chunks
invariant-chunks l = Seen tree_view view_chunk l.trees l.tree-index (map chunk_view l.chunks.items)
