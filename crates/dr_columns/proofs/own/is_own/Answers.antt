use Rattle.std.proofs.Common.{Bool, ℤ, refl, sym, subst}
use Rattle.dr_meaning.specs.Record.{bool_value, int_value, text_value}
use Rattle.dr_meaning.specs.BoundExpression.{truth_type, number_type, text_type}
use Rattle.dr_levels.specs.Texts.{bytes_at}
use Rattle.dr_levels.specs.Views.{triplets_view}
use Rattle.dr_levels.specs.declared.text_place.TextPlace.{TextPlace}
use Rattle.dr_plan.specs.declared.expression.Expr.{Expr}
use Rattle.dr_columns.specs.Own.{HasOwn}
use Rattle.dr_columns.proofs.OwnLemmas.{own_values}
use Rattle.dr_columns.proofs.own.is_own.Goals as goal

pub returns-in-Truth-Bools : goal.returns-in-Truth-Bools
returns-in-Truth-Bools c = λ t.
    let ts = triplets_view c.args.column in
    subst (λ (x : Expr). HasOwn x c.args.leaf ts) (sym c.in-Truth-Bools.is-0)
    (own_values (Expr.Truth c.in-Truth-Bools.truth) truth_type c.args.leaf (c.is_truth.ensures t) (λ (b : Bool). bool_value b) (λ b. refl) ts c.in-Truth-Bools.field-0-1.now (sym c.in-Truth-Bools.ensures.values))

pub returns-in-Number-Integers : goal.returns-in-Number-Integers
returns-in-Number-Integers c = λ t.
    let ts = triplets_view c.args.column in
    subst (λ (x : Expr). HasOwn x c.args.leaf ts) (sym c.in-Number-Integers.is-0)
    (own_values (Expr.Number c.in-Number-Integers.number) number_type c.args.leaf (c.is_number.ensures t) (λ (z : ℤ). int_value z) (λ z. refl) ts c.in-Number-Integers.field-0-1.now (sym c.in-Number-Integers.ensures.values))

pub returns-in-Text-Texts : goal.returns-in-Text-Texts
returns-in-Text-Texts c = λ t.
    let ts = triplets_view c.args.column in
    subst (λ (x : Expr). HasOwn x c.args.leaf ts) (sym c.in-Text-Texts.is-0)
    (own_values (Expr.Text c.in-Text-Texts.text) text_type c.args.leaf (c.is_text.ensures t) (λ (p : TextPlace). text_value (bytes_at c.in-Text-Texts.bytes-1.now p)) (λ p. refl) ts c.in-Text-Texts.places-1.now (sym c.in-Text-Texts.ensures.values))
