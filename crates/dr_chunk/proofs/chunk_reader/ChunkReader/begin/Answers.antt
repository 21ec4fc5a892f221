use Rattle.std.proofs.Common.{◌≡◌, ◌+◌, ◌≤◌, refl, sym, subst, ap, take, drop, length, ◌∙◌}
use Rattle.dr_chunk.specs.declared.byte_range.ByteRange.{ByteRange}
use Rattle.dr_chunk.specs.Takers.{IsLeafOf}
use Rattle.dr_chunk.specs.Taking.{chunk_of}
use Rattle.dr_chunk.proofs.TakingLemmas.{at_begin}
use Rattle.dr_chunk.proofs.chunk_reader.ChunkReader.begin.Goals as goal

pub returns-clause-begun : goal.returns-clause-begun
returns-clause-begun c = λ bytes l leaf within.
    let t = c.new-2.ensures in
    let r = c.restart.ensures in
    at_begin l c.args.wanted bytes _ (subst (λ x. IsLeafOf l x) (sym t.leaf) leaf) (subst (λ (x : ByteRange). x.start + x.size ≤ length bytes) (sym r.range) within) c.new.ensures t.wanted t.first t.dictionary
    (sym (ap (λ (x : ByteRange). x.size) r.range)) (r.rest bytes ∙ ap (λ x. chunk_of bytes x) (sym r.range)) refl
