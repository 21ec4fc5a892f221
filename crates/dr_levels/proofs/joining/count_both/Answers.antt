use Rattle.std.proofs.Common.{◌≡◌, ◌∙◌, ◌/◌, ℕ, Bool, get_or, ap, arith}
use Rattle.std.specs.Prelude.{◌==◌}
use mir.Val.{bool_byte}
use Rattle.std.proofs.lemmas.List.{take_all}
use Rattle.dr_levels.specs.Dense.{present}
use Rattle.dr_levels.proofs.ApartLemmas.{as_many_defined, present_more, one_if, at_most_one}
use Rattle.dr_levels.proofs.joining.count_both.Goals as goal

pub levels-preserved : goal.levels-preserved
levels-preserved c =
    let ns = c.args.both.now in
    let i = c.levels.at in
    let b : Bool = get_or ns i 0 / 256 == c.args.greatest in
    let one : c.from-count.result ≡ bool_byte b = c.from-count.ensures ∙ ap (λ (g : ℕ). bool_byte (get_or ns i 0 / 256 == g)) c.from.ensures in
    record {
      counted = λ ls e. present_more c.args.greatest ls ns i c.levels.count c.from-count.result e c.levels-test.true (c.levels.invariant.counted ls e) one;
      few = omega (arith, one ∙ one_if b, at_most_one b, c.levels.invariant.few);
    }

pub returns-clause-count : goal.returns-clause-count
returns-clause-count c = λ ls e.
    c.levels.invariant.counted ls e ∙ ap (present c.args.greatest) (take_all c.levels.at ls (omega (arith, c.levels-test.false, as_many_defined ls c.args.both.now e)))
