use Rattle.std.proofs.Common.{◌≡◌, Some, subst, ap}
use Rattle.std.proofs.lemmas.Result.{err_from_is_err_and}
use Rattle.dr_meaning.specs.Record.{bool_value, int_value, text_value}
use Rattle.dr_plain.specs.Views.{values_view, text_at, HasTexts, IsText}
use Rattle.dr_plain.specs.Picking.{picked}
use Rattle.dr_plain.proofs.PickSteps.{seen_good, seen_bad, bad_again, picked_hold}
use Rattle.dr_plain.proofs.picking.pick.Goals as goal

pub returns-in_err-items_at-in-Bools-clause-bad : goal.returns-in_err-items_at-in-Bools-clause-bad
returns-in_err-items_at-in-Bools-clause-bad c = λ h bytes.
    let p = err_from_is_err_and c.from_residual.result c.from_residual.ensures.1 in
    seen_bad bool_value (values_view bytes c.args.dictionary.now) c.in-Bools.bools.items c.deref.result.now c.args.indices.now (ap (values_view bytes) c.in-Bools.is) c.deref.ensures.value (c.in_err-items_at-in-Bools.ensures.bad (bad_again c.from_residual.result c.in_err-items_at-in-Bools.field-0.0 p.0 p.1 p.2 h))

pub returns-in_ok-items_at-in-Bools-clause-picked : goal.returns-in_ok-items_at-in-Bools-clause-picked
returns-in_ok-items_at-in-Bools-clause-picked c = λ bytes. seen_good bool_value (values_view bytes c.args.dictionary.now) c.in-Bools.bools.items c.deref.result.now c.in_ok-items_at-in-Bools.field-0.items c.args.indices.now (ap (values_view bytes) c.in-Bools.is) c.deref.ensures.value c.in_ok-items_at-in-Bools.ensures.picked

pub returns-in_err-items_at-in-Integers-clause-bad : goal.returns-in_err-items_at-in-Integers-clause-bad
returns-in_err-items_at-in-Integers-clause-bad c = λ h bytes.
    let p = err_from_is_err_and c.from_residual-in_err-items_at-in-Integers.result c.from_residual-in_err-items_at-in-Integers.ensures.1 in
    seen_bad int_value (values_view bytes c.args.dictionary.now) c.in-Integers.integers.items c.deref-in-Integers.result.now c.args.indices.now (ap (values_view bytes) c.in-Integers.is) c.deref-in-Integers.ensures.value (c.in_err-items_at-in-Integers.ensures.bad (bad_again c.from_residual-in_err-items_at-in-Integers.result c.in_err-items_at-in-Integers.field-0.0 p.0 p.1 p.2 h))

pub returns-in_ok-items_at-in-Integers-clause-picked : goal.returns-in_ok-items_at-in-Integers-clause-picked
returns-in_ok-items_at-in-Integers-clause-picked c = λ bytes. seen_good int_value (values_view bytes c.args.dictionary.now) c.in-Integers.integers.items c.deref-in-Integers.result.now c.in_ok-items_at-in-Integers.field-0.items c.args.indices.now (ap (values_view bytes) c.in-Integers.is) c.deref-in-Integers.ensures.value c.in_ok-items_at-in-Integers.ensures.picked

pub returns-in_err-items_at-in-Texts-clause-bad : goal.returns-in_err-items_at-in-Texts-clause-bad
returns-in_err-items_at-in-Texts-clause-bad c = λ h bytes.
    let p = err_from_is_err_and c.from_residual-in_err-items_at-in-Texts.result c.from_residual-in_err-items_at-in-Texts.ensures.1 in
    seen_bad (λ p. text_value (text_at bytes p)) (values_view bytes c.args.dictionary.now) c.in-Texts.texts.items c.deref-in-Texts.result.now c.args.indices.now (ap (values_view bytes) c.in-Texts.is) c.deref-in-Texts.ensures.value (c.in_err-items_at-in-Texts.ensures.bad (bad_again c.from_residual-in_err-items_at-in-Texts.result c.in_err-items_at-in-Texts.field-0.0 p.0 p.1 p.2 h))

pub returns-in_ok-items_at-in-Texts-clause-picked : goal.returns-in_ok-items_at-in-Texts-clause-picked
returns-in_ok-items_at-in-Texts-clause-picked c = λ bytes. seen_good (λ p. text_value (text_at bytes p)) (values_view bytes c.args.dictionary.now) c.in-Texts.texts.items c.deref-in-Texts.result.now c.in_ok-items_at-in-Texts.field-0.items c.args.indices.now (ap (values_view bytes) c.in-Texts.is) c.deref-in-Texts.ensures.value c.in_ok-items_at-in-Texts.ensures.picked

pub returns-in_ok-items_at-in-Texts-clause-texts : goal.returns-in_ok-items_at-in-Texts-clause-texts
returns-in_ok-items_at-in-Texts-clause-texts c = λ bytes h. picked_hold (IsText bytes) c.in-Texts.texts.items c.args.indices.now c.in_ok-items_at-in-Texts.field-0.items (subst (HasTexts bytes) c.in-Texts.is h) (subst (λ xs. picked xs c.args.indices.now ≡ Some c.in_ok-items_at-in-Texts.field-0.items) c.deref-in-Texts.ensures.value c.in_ok-items_at-in-Texts.ensures.picked)
