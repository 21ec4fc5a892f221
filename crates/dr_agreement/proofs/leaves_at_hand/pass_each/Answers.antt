use Rattle.std.proofs.Common.{◌≡◌, ◌∙◌, ◌<◌, ℕ, List, length, map, drop, get_or, refl, ap, sym, subst, arith}
use Rattle.std.proofs.Math.Seq.{map-set_same}
use Rattle.dr_meaning.specs.Column.{Triplet}
use Rattle.dr_agreement.specs.AtHand.{here_of, rest_of, form_of, CanPass}
use Rattle.dr_agreement.proofs.AtHandLemmas.{passed_more, passed_all}
use Rattle.dr_agreement.proofs.leaves_at_hand.pass_each.Goals as goal

pub leaves-preserved : goal.leaves-preserved
leaves-preserved c =
    let at = c.leaves.at in
    let now = c.leaves.leaves in
    let x = c.index-leaves-at.result in
    let within : at < length now = omega (arith, c.leaves-test.true, c.leaves.auto.leaves) in
    let m = passed_more c.args.leaves.now now c.args.counts.now at (get_or c.args.counts.now at 0) x c.pass.new.self within c.index-leaves-at.is refl
    (c.pass.ensures.rest ∙ ap (λ y. drop (get_or c.args.counts.now at 0) (rest_of y)) (sym c.index-leaves-at.is)) (c.pass.ensures.ended ∙ ap (λ y. y.ended) (sym c.index-leaves-at.is)) c.leaves.invariant.before c.leaves.invariant.behind c.leaves.invariant.ends in
    record {
      before = m.0;
      behind = m.1;
      ends = m.2;
      forms = map-set_same form_of now at c.pass.new.self x c.pass.ensures.form ∙ c.leaves.invariant.forms;
    }

pub returns-clause-here : goal.returns-clause-here
returns-clause-here c = passed_all c.args.leaves.now c.leaves.leaves c.args.counts.now c.leaves.at c.leaves.auto.leaves (omega (arith, c.leaves-test.false, c.leaves.auto.leaves)) c.leaves.invariant.before
