use Rattle.std.proofs.Common.{◌≡◌, ◌<◌, ◌∙◌, ℕ, length, get_or, ap, arith, refl}
use Rattle.std.specs.Prelude.{◌==◌, if◌then◌else◌}
use Rattle.std.proofs.lemmas.List.{length-map}
use Rattle.dr_levels.specs.declared.triplet.Levels.{Levels}
use Rattle.dr_levels.specs.Apart.{repetitions}
use Rattle.dr_levels.proofs.ApartLemmas.{repetition_at, one_if, at_most_one}
use Rattle.dr_agreement.proofs.CutLemmas.{starts_more, cut_here}
use Rattle.dr_agreement.proofs.cuts.end_among.Goals as goal

pub returns-then-begun-records : goal.returns-then-begun-records
returns-then-begun-records c =
    let d : Levels = record { repetition = 0; definition = 0 } in
    let rs = repetitions c.args.levels.now in
    let i = c.levels.at in
    let e : c.from-begun.result ≡ (if get_or rs i 0 == 0 then 1 else 0) =
    c.from-begun.ensures ∙ one_if ((get_or c.args.levels.now i d).repetition == 0) ∙ ap (λ (r : ℕ). if r == 0 then 1 else 0) (repetition_at c.args.levels.now i d refl) in
    let h : i < length rs = omega (arith, c.levels-test.true, length-map c.args.levels.now (λ (l : Levels). l.repetition)) in
    cut_here rs i c.levels.begun c.from-begun.result c.args.records h c.levels.invariant.counted c.levels.invariant.not_past e c.if-begun-records.true

pub levels-preserved : goal.levels-preserved
levels-preserved c =
    let d : Levels = record { repetition = 0; definition = 0 } in
    let rs = repetitions c.args.levels.now in
    let i = c.levels.at in
    let e : c.from-begun.result ≡ (if get_or rs i 0 == 0 then 1 else 0) =
    c.from-begun.ensures ∙ one_if ((get_or c.args.levels.now i d).repetition == 0) ∙ ap (λ (r : ℕ). if r == 0 then 1 else 0) (repetition_at c.args.levels.now i d refl) in
    let h : i < length rs = omega (arith, c.levels-test.true, length-map c.args.levels.now (λ (l : Levels). l.repetition)) in
    record {
      counted = omega (arith, e, c.levels.invariant.counted, starts_more rs i h);
      few = omega (arith, e, c.levels.invariant.few, at_most_one (get_or rs i 0 == 0));
      not_past = omega (arith, c.if-begun-records.false);
    }
