use Rattle.std.proofs.Common.{◌≡◌, ◌∙◌, refl, sym, ap, ap₂, arith}
use Rattle.dr_nested.specs.Views.{kind_view}
use Rattle.dr_levels.specs.Views.{form}
use Rattle.dr_file.specs.LeafStreams.{stream_form}
use Rattle.dr_file.specs.Streams.{left_of}
use Rattle.dr_file.proofs.ColumnLemmas.{kept, left_named}
use Rattle.dr_file.proofs.StreamLemmas.{stream_begun, own_form, form_kept, few_left}
use Rattle.dr_file.proofs.stream.Stream.start.Goals as goal

pub invariant_of-result : goal.invariant_of-result
invariant_of-result c = record {
  of_file = record { path = c.in_ok-leaf.ensures.file.0 ∙ c.deref.ensures; footer = c.in_ok-leaf.ensures.file.1; leaf = c.in_ok-leaf.ensures.file.2 };
  own = λ e. ap₂ (λ k n. form (kind_view k) n) (c.form-kind.ensures.own e).0 ((c.form-kind.ensures.own e).1 ∙ c.max_definition.ensures) ∙ own_form c.index-field.result.now.read c.in_ok-leaf.leaf c.in_ok-leaf.ensures.form;
  lower = c.form-kind.ensures.lower;
  batch_form = c.new-batch.ensures.form ∙ (ap (λ n. form (kind_view c.index-field.result.now.read.kind) n) c.max_definition-2.ensures ∙ own_form c.index-field.result.now.read c.in_ok-leaf.leaf c.in_ok-leaf.ensures.form);
}

pub returns-clause-begun : goal.returns-clause-begun
returns-clause-begun c = λ bytes F l opened is.
    let k = kept bytes F c.args.file.now c.args.index c.index-field.result.now l opened is c.index-field.ensures in
    stream_begun bytes l _ k refl (c.in_ok-leaf.ensures.begun bytes k.read k.shown k.within) refl

pub returns-clause-form : goal.returns-clause-form
returns-clause-form c = λ bytes F l opened is.
    let k = kept bytes F c.args.file.now c.args.index c.index-field.result.now l opened is c.index-field.ensures in
    form_kept bytes c.args.file.now c.index-field.result.now l (stream_form c.in_ok-leaf.leaf) _ k (c.in_ok-leaf.ensures.form k.read k.shown)
    (λ e. ap₂ (λ k n. form (kind_view k) n) (c.form-kind.ensures.own e).0 ((c.form-kind.ensures.own e).1 ∙ c.max_definition.ensures) ∙ own_form c.index-field.result.now.read c.in_ok-leaf.leaf c.in_ok-leaf.ensures.form)
    (λ n. ap₂ (λ k n. form (kind_view k) n) (c.form-kind.ensures.other n).0 (c.form-kind.ensures.other n).1)

pub returns-clause-few : goal.returns-clause-few
returns-clause-few c = few_left _ c.args.file.now.few c.in_ok-leaf.ensures.few

pub returns-clause-left : goal.returns-clause-left
unfolding left_of
returns-clause-left c = λ bytes F l f opened is e.
    let k = kept bytes F c.args.file.now c.args.index c.index-field.result.now l opened is c.index-field.ensures in
    left_named bytes c.args.file.now c.index-field.result.now l f _ k e c.in_ok-leaf.ensures.left
