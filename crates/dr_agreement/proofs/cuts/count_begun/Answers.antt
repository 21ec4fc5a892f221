use Rattle.std.proofs.Common.{◌≡◌, ◌∙◌, List, ap, arith, take, drop}
use Rattle.dr_levels.specs.declared.triplet.Levels.{Levels}
use Rattle.dr_levels.specs.Apart.{repetitions}
use Rattle.dr_agreement.specs.Cuts.{starts}
use Rattle.dr_agreement.proofs.CutLemmas.{begun_parts}
use Rattle.dr_agreement.proofs.cuts.count_begun.Goals as goal

pub pieces-preserved : goal.pieces-preserved
pieces-preserved c =
    let e = c.split_at.ensures in
    let n = c.count_piece-begun.ensures in
    let f : c.count_piece-begun.result ≡ starts (repetitions (take 224 c.pieces.rest.now)) = n.count ∙ ap (λ (ls : List Levels). starts (repetitions ls)) e.front in
    let h : starts (repetitions c.split_at.result.1.now) ≡ starts (repetitions (drop 224 c.pieces.rest.now)) = ap (λ (ls : List Levels). starts (repetitions ls)) e.back in
    record {
      counted = omega (arith, f, h, begun_parts 224 c.pieces.rest.now, c.pieces.invariant.counted);
      few = omega (arith, n.within, e.front_len, e.back_len, c.pieces-test.true, c.pieces.invariant.few);
    }
