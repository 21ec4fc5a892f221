use Rattle.std.proofs.Common.{sym, subst}
use Rattle.std.proofs.lemmas.Result.{err_from_is_err_and}
use Rattle.dr_formats.specs.Plain.{repeatedly, plain_text}
use Rattle.dr_bytes.specs.Numbers.{IsFault}
use Rattle.dr_bytes.specs.Cutting.{left}
use Rattle.dr_plain.specs.Views.{plain_fault_view}
use Rattle.dr_plain.proofs.ReadSteps.{TextsRead, no_texts_read, text_more, texts_fault, if_some_weaker, pushed_on}
use Rattle.dr_plain.proofs.texts.push_texts.Goals as goal

pub texts-init : goal.texts-init
texts-init c = record {
  same = c.new-cut.ensures.whole;
  read = subst (TextsRead c.args.bytes.now c.args.count c.args.out.now.items c.args.out.now.items 0) (sym c.new-cut.ensures.left) (no_texts_read c.args.bytes.now c.args.count c.args.out.now.items);
}

pub returns-in_err-place-clause-fault : goal.returns-in_err-place-clause-fault
returns-in_err-place-clause-fault c =
    let p = err_from_is_err_and c.from_residual.result c.from_residual.ensures.1 in
    rw (p.1, p.2) (if_some_weaker (plain_fault_view c.in_err-place.field-0.0) (λ f. IsFault f (plain_text (left c.texts.cut))) (λ f. IsFault f (repeatedly plain_text c.args.count c.args.bytes.now)) (λ f h. texts_fault c.args.bytes.now c.args.count c.args.out.now.items c.texts.out.items c.texts.counter (left c.texts.cut) f c.texts.invariant.read c.texts-test.true h) c.in_err-place.ensures.fault)

pub texts-preserved : goal.texts-preserved
texts-preserved c = record {
  same = c.in_ok-place.ensures.same;
  read = text_more c.args.bytes.now c.args.count c.args.out.now.items c.texts.out.items c.push.new.self.items c.texts.counter (left c.texts.cut) (left c.next_text.new.cut) c.in_ok-place.place c.texts.invariant.read c.texts-test.true c.in_ok-place.ensures.read c.in_ok-place.ensures.text (pushed_on c.push.result c.texts.out.items c.push.new.self.items c.in_ok-place.place c.if-is_err.ensures.value c.push.ensures.items);
}
