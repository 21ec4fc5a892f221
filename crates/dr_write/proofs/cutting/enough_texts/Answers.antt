use Rattle.std.proofs.Common.{◌≡◌, ◌∷◌, drop, arith, sym, ◌∙◌}
use Rattle.dr_meaning.specs.Schema.{text_kind}
use Rattle.dr_levels.specs.Views.{triplets_view, triplet_view}
use Rattle.dr_write.proofs.CuttingLemmas.{enough_bytes_at, enough_triplets_at, IsShort, size_more, rest_more, short_more, short_all}
use Rattle.dr_write.proofs.cutting.enough_texts.Goals as goal

pub returns-then-size-ge-ENOUGH_BYTES-clause-full : goal.returns-then-size-ge-ENOUGH_BYTES-clause-full
returns-then-size-ge-ENOUGH_BYTES-clause-full c =
    enough_bytes_at (triplets_view c.args.triplets) c.triplets.count (omega arith) c.triplets.invariant.2 (omega (arith, c.triplets.invariant.1))

pub returns-in-None-clause-full : goal.returns-in-None-clause-full
returns-in-None-clause-full c =
    let ts = triplets_view c.args.triplets in
    let s : IsShort text_kind ts c.triplets.count = omega (arith, c.triplets.invariant.1) in
    enough_triplets_at ts (short_all ts c.triplets.count (sym c.triplets.invariant.0 ∙ c.in-None.ensures.triplet) c.triplets.invariant.2 s)

pub triplets-preserved : goal.triplets-preserved
triplets-preserved c =
    let ts = triplets_view c.args.triplets in
    let n = c.triplets.count in
    let s : IsShort text_kind ts n = omega (arith, c.triplets.invariant.1) in
    let d : drop n ts ≡ triplet_view c.in-Some.triplet ∷ triplets_view c.next.new.self = sym c.triplets.invariant.0 ∙ c.in-Some.ensures.triplet in
    (rest_more ts n _ _ d, omega (arith, c.triplets.invariant.1, c.text_size-size.ensures.size, size_more ts n _ _ d), short_more ts n c.triplets.invariant.2 s)
