use Rattle.std.proofs.Common.{sym, ap, ◌∙◌}
use Rattle.std.proofs.lemmas.List.{drop_all}
use Rattle.dr_meaning.specs.TokenLaws.{digits_value}
use Rattle.dr_sql.specs.Lexing.{bounded}
use Rattle.dr_sql.proofs.LexLemmas.{digits_past, bounded_small}
use Rattle.dr_sql.proofs.lexing.number_of.Goals as goal

pub returns-in_err-number-clause-value : goal.returns-in_err-number-clause-value
returns-in_err-number-clause-value c =
    let ds = c.args.digits.now in
    c.from_residual.ensures ∙ sym (c.digits.invariant.0 ∙ digits_past c.digits.number ds c.digits.digit-index c.digits-test.true (sym c.with_digit.ensures ∙ c.in_err-number.was))

pub returns-clause-value : goal.returns-clause-value
returns-clause-value c =
    let ds = c.args.digits.now in
    sym (c.digits.invariant.0 ∙ (ap (λ xs. bounded (digits_value c.digits.number xs)) (drop_all c.digits.digit-index ds c.digits-test.false) ∙ bounded_small c.digits.number c.digits.invariant.1))
