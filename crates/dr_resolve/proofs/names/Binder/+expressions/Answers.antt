use Rattle.std.proofs.lemmas.Result.{IfOk-weaker}
use Rattle.dr_resolve.specs.Faults.{first_view}
use Rattle.dr_resolve.proofs.SyntaxLemmas.{view-number, view-text, view-truth, view-path, view-arithmetic, view-comparison}
use Rattle.dr_resolve.proofs.names.Binder.+expressions.Goals as goal

pub expression-returns-in-Number : goal.expression-returns-in-Number
expression-returns-in-Number t c = rw (c.in-Number.is, view-number) (IfOk-weaker c.number.result _ _ (λ o h. h (first_view c.args.first.now)) c.number.ensures)

pub expression-returns-in-Text : goal.expression-returns-in-Text
expression-returns-in-Text t c = rw (c.in-Text.is, view-text) (IfOk-weaker c.text.result _ _ (λ o h. h (first_view c.args.first.now)) c.text.ensures)

pub expression-returns-in-Truth : goal.expression-returns-in-Truth
expression-returns-in-Truth t c = rw (c.in-Truth.is, view-truth) (IfOk-weaker c.truth.result _ _ (λ o h. h (first_view c.args.first.now)) c.truth.ensures)

pub expression-returns-in-Path : goal.expression-returns-in-Path
expression-returns-in-Path t c = rw (c.in-Path.is, view-path) c.path_value.ensures

pub expression-returns-in-Arithmetic : goal.expression-returns-in-Arithmetic
expression-returns-in-Arithmetic t c =
    let h = rw (c.deref-in-Arithmetic.ensures, c.deref-in-Arithmetic-2.ensures) at c.two.ensures in
    rw (c.in-Arithmetic.is, view-arithmetic) h

pub expression-returns-in-Comparison : goal.expression-returns-in-Comparison
expression-returns-in-Comparison t c =
    let h = rw (c.deref-in-Comparison.ensures, c.deref-in-Comparison-2.ensures) at c.two-in-Comparison.ensures in
    rw (c.in-Comparison.is, view-comparison) h
