use Rattle.std.proofs.Common.{◌≡◌, ◌∙◌, List, map, take, drop, suc, ap, arith}
use Rattle.dr_meaning.specs.OneColumn.{starts}
use Rattle.dr_levels.specs.declared.triplet.Levels.{Levels}
use Rattle.dr_file.specs.Floors.{bare}
use Rattle.dr_file.proofs.ShallowLemmas.{begun_parts, piece_more}
use Rattle.dr_file.proofs.shallow.Shallow.follow.Goals as goal

pub pieces-preserved : goal.pieces-preserved
pieces-preserved c =
    let d : Levels = record { repetition = 0; definition = 0 } in
    let ls = c.pieces.rest.now in
    let e = c.split_at.ensures in
    let n = c.follow_few-found.ensures in
    let begun = c.follow_few-found.result.begun in
    let f : begun ≡ starts (map bare (take 224 ls)) = n.begun ∙ ap (λ (xs : List Levels). starts (map bare xs)) e.front in
    let h : starts (map bare c.split_at.result.1.now) ≡ starts (map bare (drop 224 ls)) = ap (λ (xs : List Levels). starts (map bare xs)) e.back in
    let m : 224 ≡ suc 223 = omega arith in
    record {
      fits = λ p k. c.pieces.invariant.fits p k
          ∙ piece_more p c.pieces.last 223 224 ls c.split_at.result.0.now c.split_at.result.1.now d c.pieces.fits c.follow_few-found.result.fits m (omega (arith, c.pieces-test.true)) e.front e.back (n.fits p k);
      counted = omega (arith, f, h, begun_parts 224 ls, c.pieces.invariant.counted);
      few = omega (arith, n.within, e.front_len, e.back_len, c.pieces-test.true, c.pieces.invariant.few);
    }
