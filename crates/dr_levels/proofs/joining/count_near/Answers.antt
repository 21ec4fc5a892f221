use Rattle.std.proofs.Common.{get_or, arith}
use Rattle.dr_levels.specs.declared.triplet.Levels.{Levels}
use Rattle.dr_levels.proofs.DenseLemmas.{counted_more, value_byte}
use Rattle.dr_levels.proofs.joining.count_near.Goals as goal

pub levels-preserved : goal.levels-preserved
levels-preserved c =
    let d : Levels = record { repetition = 0; definition = 0 } in
    let g = c.args.greatest in
    let e = value_byte g (get_or c.args.levels.now c.levels.at d) in
    record {
      counted = omega (arith, c.from-count.ensures, e.0, c.levels.invariant.counted, counted_more g c.args.levels.now c.levels.at d c.levels-test.true);
      few = omega (arith, c.from-count.ensures, e.0, e.1, c.levels.invariant.few);
    }
