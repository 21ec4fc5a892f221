use Rattle.std.proofs.Common.{◌≡◌, ◌∙◌, get_or, arith}
use Rattle.std.specs.Prelude.{◌==◌, if◌then◌else◌}
use Rattle.dr_levels.proofs.ApartLemmas.{as_many, at_most_one, one_if}
use Rattle.dr_file.proofs.RowOrderLemmas.{all_begun}
use Rattle.dr_file.proofs.ShallowLemmas.{count_more}
use Rattle.dr_file.proofs.shallow.count_zeros.Goals as goal

pub levels-preserved : goal.levels-preserved
levels-preserved c =
    let rs = c.args.repetitions.now in
    let i = c.levels.at in
    let e : c.from-begun.result ≡ (if get_or rs i 0 == 0 then 1 else 0) = c.from-begun.ensures ∙ one_if (get_or rs i 0 == 0) in
    record {
      counted = λ ls r. count_more ls i c.levels.begun c.from-begun.result rs r c.levels-test.true (c.levels.invariant.counted ls r) e;
      few = omega (arith, e, c.levels.invariant.few, at_most_one (get_or rs i 0 == 0));
    }

pub returns-clause-count : goal.returns-clause-count
returns-clause-count c = λ ls r. c.levels.invariant.counted ls r ∙ all_begun ls c.levels.at (omega (arith, c.levels-test.false, as_many ls c.args.repetitions.now r))
