use Rattle.std.proofs.Common.{◌≡◌, ◌∙◌, ap, arith, take, drop}
use Rattle.dr_formats.specs.Page.{count_equal}
use Rattle.dr_page.proofs.PairLemmas.{count_parts}
use Rattle.dr_page.proofs.levels.count_equal.Goals as goal

pub pieces-preserved : goal.pieces-preserved
pieces-preserved c =
    let g = c.args.level in
    let e = c.split_at.ensures in
    let n = c.count_piece.ensures in
    let f : c.count_piece.result ≡ count_equal g (take 255 c.pieces.rest.now) = n.count ∙ ap (count_equal g) e.front in
    let h : count_equal g c.split_at.result.1.now ≡ count_equal g (drop 255 c.pieces.rest.now) = ap (count_equal g) e.back in
    record {
      counted = omega (arith, c.from-count.ensures, f, h, count_parts g 255 c.pieces.rest.now, c.pieces.invariant.counted);
      few = omega (arith, c.from-count.ensures, n.within, e.front_len, e.back_len, c.pieces-test.true, c.pieces.invariant.few);
    }
