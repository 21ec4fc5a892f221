use Rattle.std.proofs.Common.{◌≡◌, map, take}
use Rattle.dr_formats.specs.Metadata.{chunk_tree}
use Rattle.dr_compact.specs.Views.{tree_view}
use Rattle.dr_meta.specs.Views.{chunk_view}
use Rattle.dr_meta.proofs.file_trees.trees_of_chunks.Given as goal

abbrev pub invariant-chunks : goal.invariant-chunks
invariant-chunks l = map tree_view l.trees.items ≡ map (λ x. chunk_tree (chunk_view x)) (take l.chunk-index l.chunks)
