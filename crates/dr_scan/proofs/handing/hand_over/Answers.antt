use Rattle.std.proofs.Common.{◌≡◌, ◌<◌, ◌∙◌, ℕ, List, length, map, ap, ap₂, sym, arith}
use Rattle.std.specs.Prelude.{slice_set}
use Rattle.std.proofs.Math.Seq.{map-set_same}
use Rattle.dr_levels.specs.Views.{column_form}
use Rattle.dr_agreement.specs.AtHand as hand
use Rattle.dr_scan.specs.Chunked.{batch_forms}
use Rattle.dr_scan.specs.Streamed.{left_at}
use Rattle.dr_scan.specs.declared.leaf_stream.LeafStream.{LeafStream}
use Rattle.dr_scan.proofs.HandingLemmas.{given_more, given_all, hands_count, form_at, parts_set, forms_set}
use Rattle.dr_scan.proofs.handing.hand_over.Goals as goal

pub give_back-requires : goal.give_back-requires
give_back-requires c =
    let vs = c.streams.leaves in
    let xs = c.streams.streams in
    let inv = c.streams.invariant in
    let forms : map hand.form_of vs ≡ batch_forms xs = inv.forms ∙ (c.requires ∙ sym inv.batches) in
    ap (λ (y : LeafStream). column_form y.batch) (sym c.index-streams-at.is)
    ∙ (form_at xs vs c.streams.at c.index-streams-at.result c.index-leaves-at.result forms (omega (arith, c.streams-test.true, c.streams.auto.streams)) c.index-streams-at.is c.index-leaves-at.is ∙ ap hand.form_of c.index-leaves-at.is)

pub returns-in_err-push-clause-streams : goal.returns-in_err-push-clause-streams
returns-in_err-push-clause-streams c =
    let t = c.index-streams-at.result in
    parts_set c.streams.streams c.streams.at t c.give_back.new.stream c.index-streams-at.is (ap₂ (λ a b. (a, b)) c.give_back.ensures.stream.0 c.give_back.ensures.stream.1 ∙ ap (λ (y : LeafStream). (y.stream, y.ended)) (sym c.index-streams-at.is)) ∙ c.streams.invariant.same

pub streams-preserved : goal.streams-preserved
streams-preserved c =
    let vs = c.streams.leaves in
    let xs = c.streams.streams in
    let at = c.streams.at in
    let v = c.index-leaves-at.result in
    let t = c.index-streams-at.result in
    let inv = c.streams.invariant in
    let forms : map hand.form_of vs ≡ batch_forms xs = inv.forms ∙ (c.requires ∙ sym inv.batches) in
    let k : at < length xs = omega (arith, c.streams-test.true, c.streams.auto.streams) in
    let l : at < length vs = let n = hands_count xs vs forms in omega (arith, k, n) in
    let m = given_more c.args.leaves.now vs xs c.streams.left.items at c.give_back.result v c.give_back.new.leaf c.give_back.new.stream l k inv.as_many c.index-leaves-at.is
    (c.give_back.ensures.rest ∙ ap hand.rest_of (sym c.index-leaves-at.is)) inv.before inv.behind in
    record {
      before = λ i b. ap (λ (ns : List ℕ). left_at (slice_set xs at c.give_back.new.stream) ns i) c.in_ok-push.ensures.items ∙ m.0 i b;
      behind = m.1;
      as_many = omega (arith, c.in_ok-push.ensures.len, c.push.new.self.ok.0, c.streams.left.ok.0, inv.as_many);
      forms = map-set_same hand.form_of vs at c.give_back.new.leaf v c.give_back.ensures.leaf_form ∙ inv.forms;
      batches = forms_set xs at t c.give_back.new.stream c.index-streams-at.is (c.give_back.ensures.form ∙ ap (λ (y : LeafStream). column_form y.batch) (sym c.index-streams-at.is)) ∙ inv.batches;
      same = parts_set xs at t c.give_back.new.stream c.index-streams-at.is (ap₂ (λ a b. (a, b)) c.give_back.ensures.stream.0 c.give_back.ensures.stream.1 ∙ ap (λ (y : LeafStream). (y.stream, y.ended)) (sym c.index-streams-at.is)) ∙ inv.same;
    }

pub returns-clause-left : goal.returns-clause-left
returns-clause-left c =
    let n = hands_count c.args.streams.now c.args.leaves.now c.requires in
    given_all c.args.leaves.now c.streams.streams c.streams.left.items c.streams.at (omega (arith, n, c.streams.auto.streams)) (omega (arith, c.streams-test.false, c.streams.auto.streams)) c.streams.invariant.before
