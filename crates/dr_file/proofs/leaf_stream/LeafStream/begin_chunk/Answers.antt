use Rattle.std.proofs.Common.{◌≡◌, ◌∙◌, [], refl, ap, arith}
use Rattle.dr_chunk.specs.Ranges.{inside}
use Rattle.dr_chunk.specs.Taking.{range_of}
use Rattle.dr_file.specs.Openings.{chunk_place_view}
use Rattle.dr_file.proofs.LeafStreamLemmas.{has_chunk}
use Rattle.dr_file.proofs.LeafPlaceLemmas.{chunk_begun, begun_rows_lack, place_checked, lies_within}
use Rattle.dr_file.proofs.leaf_stream.LeafStream.begin_chunk.Goals as goal

pub invariant_of-self : goal.invariant_of-self
invariant_of-self c = record {
  ahead = omega (arith, c.requires.some);
  chunk = λ z. has_chunk _ _ c.args.self.now.next _ c.index-chunk.result.now (range_of c.begin.new.self) c.requires.some c.index-chunk.ensures refl c.in-Some.ensures.some.0 (ap inside c.begin.ensures.range ∙ c.in-Some.ensures.some.1);
  form = λ z. c.begin.ensures.form;
  unrefused = λ z. c.begin.ensures.refused;
}

pub returns-clause-more : goal.returns-clause-more
returns-clause-more c = λ bytes l given at.
    let chunk = c.index-chunk.result.now in
    let spans = ap inside c.begin.ensures.range ∙ c.in-Some.ensures.some.1 in
    let within = lies_within _ _ (chunk_place_view chunk) c.in-Some.range c.in-Some.ensures.some.0 c.in-Some.ensures.some.1 at.within in
    place_checked c.check_rows.result bytes l given _ at.leaf at.floors at.within
    (chunk_begun bytes l given c.args.self.now _ chunk at c.requires.over c.requires.some c.index-chunk.ensures c.in-Some.ensures.some.0 spans (c.begin.ensures.begun bytes l at.leaf within) (c.of_rows-self.ensures l.path) refl refl refl) c.check_rows.ensures.begun

pub returns-clause-bad : goal.returns-clause-bad
returns-clause-bad c = λ bytes l given at e.
    let chunk = c.index-chunk.result.now in
    let spans = ap inside c.begin.ensures.range ∙ c.in-Some.ensures.some.1 in
    let within = lies_within _ _ (chunk_place_view chunk) c.in-Some.range c.in-Some.ensures.some.0 c.in-Some.ensures.some.1 at.within in
    begun_rows_lack bytes l given c.args.self.now chunk c.begin.new.self c.of_rows-self.result at c.requires.over c.requires.some c.index-chunk.ensures c.in-Some.ensures.some.0 spans (c.begin.ensures.begun bytes l at.leaf within)
    (c.of_rows-self.ensures l.path) (c.check_rows.ensures.bad e) (c.check_rows.ensures.bad_rows e)
