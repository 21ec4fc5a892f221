use Rattle.std.proofs.Common.{◌≡◌, ◌∙◌, ◌<◌, ◌+◌, ◌-◌, ◌++◌, ◌∷◌, [], length, length-append, drop, arith, ap, map, List, ℕ}
use Rattle.std.proofs.lemmas.List.{length-map, map-append}
use Rattle.dr_levels.specs.Views.{column_view, column_form}
use Rattle.dr_meta.specs.Views.{chunk_view, chunks_view}
use Rattle.dr_page.specs.Views.{page_form_view}
use Rattle.dr_write.specs.Chunks.{chunk_of}
use Rattle.dr_write.specs.Leaves.{leaf_view, leaves_view}
use Rattle.dr_write.proofs.ChunkLemmas.{leaf_joins, are_many, there}
use Rattle.dr_write.proofs.chunks.append_chunks.Goals as goal

-- the bytes that joined
abbrev column_bytes : goal.In_ok-push → List ℕ
column_bytes c =
    let k = c.index-columns-index.result in
    chunk_of (page_form_view c.args.form) (column_form k).kind c.index-leaves-index.result.max_repetition (column_form k).greatest (column_view k)

pub leaves-preserved : goal.leaves-preserved
leaves-preserved c =
    let ls = c.args.leaves.now in
    let cs = c.args.columns.now in
    let i = c.leaves.index in
    let l = c.index-leaves-index.result in
    let k = c.index-columns-index.result in
    let m = c.in_ok-chunk_meta.field-0 in
    let many : length ls ≡ length cs = omega (arith, are_many (leaves_view ls) cs c.requires, length-map ls leaf_view) in
    let hl : i < length ls = c.leaves-test.true in
    let hc : i < length cs = omega (arith, hl, many) in
    let place : c.len-place.result ≡ length c.leaves.out.items = omega (arith, c.len-place.ensures, c.leaves.out.ok.0) in
    let whole : c.len-in-leaves.result ≡ length c.append_chunk.new.out.items = omega (arith, c.len-in-leaves.ensures, c.append_chunk.new.out.ok.0) in
    let grown : length c.append_chunk.new.out.items ≡ length c.leaves.out.items + length (column_bytes c) = ap length c.in_ok-append_chunk.ensures ∙ length-append c.leaves.out.items (column_bytes c) in
    let size : c.len-in-leaves.result - c.len-place.result + c.len-place.result ≡ length c.append_chunk.new.out.items = omega (arith, place, whole, grown) in
    let joined : chunks_view c.push.new.self ≡ chunks_view c.leaves.chunks ++ (chunk_view m ∷ []) = ap (map chunk_view) c.in_ok-push.ensures.items ∙ map-append chunk_view c.leaves.chunks.items (m ∷ []) in
    leaf_joins (page_form_view c.args.form) l (drop (i + 1) ls) (drop i ls) k (drop (i + 1) cs) (drop i cs) c.leaves.out.items c.append_chunk.new.out.items _ (chunks_view c.leaves.chunks) (chunks_view c.push.new.self) _ (chunk_view m)
    c.len.result c.len-place.result (c.len-in-leaves.result - c.len-place.result)
    (there ls i l hl c.index-leaves-index.is) (there cs i k hc c.index-columns-index.is) c.in_ok-append_chunk.ensures c.len.ensures place size c.in_ok-chunk_meta.ensures joined c.leaves.invariant
