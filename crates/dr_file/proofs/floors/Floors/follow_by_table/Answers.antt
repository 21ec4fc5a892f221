use Rattle.std.proofs.Common.{◌≡◌, ◌∙◌, get_or, sym, arith}
use Rattle.std.specs.Prelude.{◌==◌, if◌then◌else◌}
use Rattle.dr_levels.specs.declared.triplet.Levels.{Levels}
use Rattle.dr_file.proofs.FloorLemmas.{follow_tested}
use Rattle.dr_levels.proofs.ApartLemmas.{one_if, at_most_one}
use Rattle.dr_file.proofs.RowOrderLemmas.{follow_more, all_followed, begun_more, all_begun}
use Rattle.dr_file.proofs.floors.Floors.follow_by_table.Goals as goal

pub levels-preserved : goal.levels-preserved
levels-preserved c =
    let d : Levels = record { repetition = 0; definition = 0 } in
    let next : Levels = get_or c.args.levels.now c.levels.at d in
    let e : c.from-begun.result ≡ (if next.repetition == 0 then 1 else 0) = c.from-begun.ensures ∙ one_if (next.repetition == 0) in
    record {
      fits = λ p h. c.levels.invariant.fits p h ∙ follow_more p c.levels.last c.args.levels.now c.levels.at d c.levels.fits _ c.levels-test.true
          (follow_tested p c.levels.last next.definition next.repetition _ (c.least_at-floor.ensures p (c.least_levels-least.ensures p h)));
      counted = omega (arith, e, c.levels.invariant.counted, begun_more c.args.levels.now c.levels.at d c.levels-test.true);
      few = omega (arith, e, c.levels.invariant.few, at_most_one (next.repetition == 0));
    }

pub returns : goal.returns
returns c = record {
  fits = λ p h. sym (c.levels.invariant.fits p h ∙ all_followed p c.levels.last c.args.levels.now c.levels.at c.levels.fits c.levels-test.false);
  begun = c.levels.invariant.counted ∙ all_begun c.args.levels.now c.levels.at c.levels-test.false;
}
