use Rattle.std.proofs.Common.{◌≡◌, ◌∙◌, ap, arith, take, drop}
use Rattle.dr_levels.specs.Dense.{present}
use Rattle.dr_levels.proofs.DenseLemmas.{present-parts}
use Rattle.dr_levels.proofs.joining.count_present.Goals as goal

pub pieces-preserved : goal.pieces-preserved
pieces-preserved c =
    let g = c.args.greatest in
    let e = c.split_at.ensures in
    let n = c.count_piece-count.ensures in
    let f : c.count_piece-count.result ≡ present g (take 224 c.pieces.rest.now) = n.count ∙ ap (present g) e.front in
    let h : present g c.split_at.result.1.now ≡ present g (drop 224 c.pieces.rest.now) = ap (present g) e.back in
    record {
      counted = omega (arith, f, h, present-parts g 224 c.pieces.rest.now, c.pieces.invariant.counted);
      few = omega (arith, n.within, e.front_len, e.back_len, c.pieces-test.true, c.pieces.invariant.few);
    }
