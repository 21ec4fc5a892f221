use Rattle.std.proofs.Common.{◌≡◌, ◌≤◌, ◌+◌, ◌-◌, ◌∙◌, ℕ, List, ap, arith, length, subst, take, drop}
use Rattle.dr_levels.specs.declared.triplet.Levels.{Levels}
use Rattle.dr_levels.specs.Apart.{repetitions}
use Rattle.dr_agreement.specs.Cuts.{starts, IsCut}
use Rattle.dr_agreement.proofs.CutLemmas.{begun_parts, cut_parts}
use Rattle.dr_agreement.proofs.cuts.end_of.Goals as goal

pub pieces-preserved : goal.pieces-preserved
pieces-preserved c =
    let ls = c.pieces.rest.now in
    let m = c.min.result in
    let begun = c.count_piece-begun.result in
    let e = c.split_at.ensures in
    let f : begun ≡ starts (repetitions (take m ls)) = c.count_piece-begun.ensures.count ∙ ap (λ (xs : List Levels). starts (repetitions xs)) e.front in
    let h : starts (repetitions c.split_at.result.1.now) ≡ starts (repetitions (drop m ls)) = ap (λ (xs : List Levels). starts (repetitions xs)) e.back in
    let w : m ≤ length ls = omega (arith, c.min.ensures) in
    record {
      within = omega (arith, e.back_len, c.pieces.invariant.within);
      few = omega (arith, f, h, begun_parts m ls, c.pieces.invariant.few, c.if-begun-left.false);
      cut = λ at k x y.
          let behind = subst (λ (xs : List Levels). IsCut (repetitions xs) at (c.pieces.left - begun)) e.back x in
          let here = cut_parts ls m at c.pieces.left begun w f (omega (arith, c.if-begun-left.false)) behind in
          let same : k - m + (m + at) ≡ k + at = omega (arith, y, e.back_len, w, c.pieces.invariant.within) in
          subst (λ (q : ℕ). IsCut (repetitions c.args.levels.now) q c.args.records) same (c.pieces.invariant.cut (m + at) (k - m) here (omega (arith, y, e.back_len, w, c.pieces.invariant.within)));
    }
