use Rattle.std.proofs.Common.{◌≡◌, ◌∙◌, ℕ, get_or, arith}
use Rattle.std.specs.Prelude.{◌==◌, if◌then◌else◌}
use Rattle.dr_page.proofs.PairLemmas.{count_more, all_counted, one_if, at_most_one}
use Rattle.dr_page.proofs.levels.count_piece.Goals as goal

pub levels-preserved : goal.levels-preserved
levels-preserved c =
    let next : ℕ = get_or c.args.levels.now c.levels.index 0 in
    let e : c.from-count.result ≡ (if next == c.args.level then 1 else 0) = c.from-count.ensures ∙ one_if (next == c.args.level) in
    record {
      counted = omega (arith, e, c.levels.invariant.counted, count_more c.args.level c.args.levels.now c.levels.index c.levels-test.true);
      few = omega (arith, e, c.levels.invariant.few, at_most_one (next == c.args.level));
    }

pub returns-clause-count : goal.returns-clause-count
returns-clause-count c = c.levels.invariant.counted ∙ all_counted c.args.level c.args.levels.now c.levels.index c.levels-test.false
