use Rattle.std.proofs.Common.{◌∙◌, List, map, ap, ap₂}
use Rattle.dr_levels.specs.Views.{form}
use Rattle.dr_agreement.specs.AtHand as hand
use Rattle.dr_agreement.specs.declared.at_hand.AtHand.{AtHand}
use Rattle.dr_scan.proofs.ChunkedLemmas.{hand_pushed, ends_pushed, forms_pushed}
use Rattle.dr_scan.proofs.chunks.nothing_at_hand.Goals as goal

pub streams-preserved : goal.streams-preserved
streams-preserved c =
    let xs = c.args.streams.now in
    let i = c.streams.stream-index in
    let vs = c.streams.leaves.items in
    let v = c.new.result in
    let all = c.in_ok-push.ensures.items in
    record {
      forms = ap (map hand.form_of) all ∙ forms_pushed xs i c.stream-item.result vs v c.streams-test.true c.stream-item.is c.streams.invariant.forms (c.new.ensures.form ∙ ap₂ form c.kind.ensures c.greatest_definition.ensures);
      none = λ k. ap (λ (ys : List AtHand). hand.here_of ys k) all ∙ hand_pushed vs v c.streams.invariant.none c.new.ensures.empty k;
      ends = λ k. ap (λ (ys : List AtHand). hand.ends_of ys k) all ∙ ends_pushed vs v c.streams.invariant.ends c.new.ensures.ended k;
    }
