use Rattle.std.proofs.Common.{arith, sym, ap, ◌∙◌, Err}
use Rattle.dr_table.proofs.LineLemmas.{number_of, number_is_parsed, parsed_is_some, begins_otherwise, at_most_within, at_most_above}
use Rattle.dr_table.proofs.line.number_behind.Goals as goal

pub returns-in-Ok-clause-value : goal.returns-in-Ok-clause-value
returns-in-Ok-clause-value c =
    sym (at_most_within c.args.greatest c.in-Ok.number c.if-number-greatest.true) ∙ ap (number_of c.args.greatest) (sym c.in-Ok.is)
    ∙ number_is_parsed c.args.word.now c.args.line.now c.in_ok-digits.digits.now c.args.greatest c.parse.result c.in_ok-digits.ensures c.parse.ensures.value.0
    (begins_otherwise 43 c.in_ok-digits.digits.now c.if-starts_with-2.ensures.cases (omega arith) (omega arith))
    (begins_otherwise 48 c.in_ok-digits.digits.now c.if-starts_with.ensures.cases (omega arith) (omega arith)) (omega arith)

pub returns-in-Ok-clause-some : goal.returns-in-Ok-clause-some
returns-in-Ok-clause-some c =
    parsed_is_some c.in_ok-digits.digits.now c.in-Ok.number c.parse.result c.parse.ensures.value.0 c.in-Ok.is
    (begins_otherwise 43 c.in_ok-digits.digits.now c.if-starts_with-2.ensures.cases (omega arith) (omega arith))
    (begins_otherwise 48 c.in_ok-digits.digits.now c.if-starts_with.ensures.cases (omega arith) (omega arith))

pub returns-in_default-clause-value : goal.returns-in_default-clause-value
returns-in_default-clause-value c =
    sym (at_most_above c.args.greatest c.in-Ok.number c.if-number-greatest.false) ∙ ap (number_of c.args.greatest) (sym c.in-Ok.is)
    ∙ number_is_parsed c.args.word.now c.args.line.now c.in_ok-digits.digits.now c.args.greatest c.parse.result c.in_ok-digits.ensures c.parse.ensures.value.0
    (begins_otherwise 43 c.in_ok-digits.digits.now c.if-starts_with-2.ensures.cases (omega arith) (omega arith))
    (begins_otherwise 48 c.in_ok-digits.digits.now c.if-starts_with.ensures.cases (omega arith) (omega arith)) (omega arith)

pub returns-in_default-2-clause-value : goal.returns-in_default-2-clause-value
returns-in_default-2-clause-value c =
    number_is_parsed c.args.word.now c.args.line.now c.in_ok-digits.digits.now c.args.greatest (Err c.in_default.field-0) c.in_ok-digits.ensures c.in_default.ensures.value.0
    (begins_otherwise 43 c.in_ok-digits.digits.now c.if-starts_with-2.ensures.cases (omega arith) (omega arith))
    (begins_otherwise 48 c.in_ok-digits.digits.now c.if-starts_with.ensures.cases (omega arith) (omega arith)) (omega arith)
