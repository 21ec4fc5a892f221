use Rattle.dr_formats.specs.Metadata.{view_chunk}
use Rattle.dr_compact.specs.Views.{tree_view}
use Rattle.dr_meta.specs.Views.{chunk_view}
use Rattle.dr_meta.proofs.EachLemmas.{one_seen}
use Rattle.dr_meta.proofs.viewing_file.view_chunks.Goals as goal

pub chunks-preserved : goal.chunks-preserved
chunks-preserved c = one_seen tree_view view_chunk chunk_view c.args.trees.now c.chunks.tree-index c.tree-item.result c.chunks.chunks.items c.push.new.self.items c.in_ok-view_chunk.field-0 c.chunks-test.true c.tree-item.is c.in_ok-view_chunk.ensures c.in_ok-push.ensures.items c.chunks.invariant
