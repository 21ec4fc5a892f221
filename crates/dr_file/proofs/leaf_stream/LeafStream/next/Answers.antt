use Rattle.std.proofs.Common.{◌≡◌, ◌∙◌, [], map, sym, ap₂, append-nil, arith}
use Rattle.dr_levels.specs.Views.{column_view}
use Rattle.dr_file.specs.Openings.{chunk_place_view}
use Rattle.dr_file.specs.LeafStreams.{leaf_triplets}
use Rattle.dr_file.proofs.LeafPlaceLemmas.{all_given}
use Rattle.dr_file.proofs.leaf_stream.LeafStream.next.Goals as goal

pub returns-then-self-len-clause-whole : goal.returns-then-self-len-clause-whole
returns-then-self-len-clause-whole g c = λ bytes l given at told e.
    let inv = c.chunks.invariant in
    ap₂ (λ k o. leaf_triplets bytes k l (map chunk_place_view o.chunks.items)) (sym inv.footer) (sym inv.leaf)
    ∙ all_given bytes l given c.chunks.self (inv.at bytes l given at) (omega arith) (omega arith)

pub returns-then-self-len-clause-front : goal.returns-then-self-len-clause-front
returns-then-self-len-clause-front g c = ([], sym (append-nil (column_view c.args.out.now)))
