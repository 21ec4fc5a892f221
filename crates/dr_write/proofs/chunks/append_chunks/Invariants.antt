use Rattle.std.proofs.Common.{◌≡◌, ◌++◌, length, drop}
use Rattle.dr_levels.specs.Views.{columns_view}
use Rattle.dr_meta.specs.Views.{chunks_view}
use Rattle.dr_page.specs.Views.{page_form_view}
use Rattle.dr_write.specs.Chunks.{chunks_of, AreFor}
use Rattle.dr_write.specs.Leaves.{leaves_view}
use Rattle.dr_write.proofs.chunks.append_chunks.Given as goal

-- the chunks of the leaves from this one on are still to join
abbrev pub invariant-leaves : goal.invariant-leaves
invariant-leaves l =
    AreFor (leaves_view (drop l.index l.leaves)) (drop l.index l.columns)
    × (l.out.items ++ (chunks_of (page_form_view l.form) (leaves_view (drop l.index l.leaves)) (columns_view (drop l.index l.columns)) (length l.out.items)).bytes
    ≡ l.initial.out.items ++ (chunks_of (page_form_view l.form) (leaves_view l.leaves) (columns_view l.columns) (length l.initial.out.items)).bytes)
    × (chunks_view l.chunks ++ (chunks_of (page_form_view l.form) (leaves_view (drop l.index l.leaves)) (columns_view (drop l.index l.columns)) (length l.out.items)).columns
    ≡ (chunks_of (page_form_view l.form) (leaves_view l.leaves) (columns_view l.columns) (length l.initial.out.items)).columns)
