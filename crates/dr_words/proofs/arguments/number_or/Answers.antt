use Rattle.std.proofs.Common.{sym, arith}
use Rattle.dr_words.proofs.NumberLemmas.{number_is, not_in_bounds}
use Rattle.dr_words.proofs.arguments.number_or.Goals as goal

pub returns-in-Ok-clause-number : goal.returns-in-Ok-clause-number
returns-in-Ok-clause-number c =
    let parsed = c.in-Ok.ensures.value.0 in
    number_is c.args.low c.args.high c.args.other c.in-Ok.number 0 c.args.text.now _ (parsed.0, sym parsed.1) (λ p. p.0) c.if-low-number.true c.if-number-high.true

pub returns-in_default-3-clause-number : goal.returns-in_default-3-clause-number
returns-in_default-3-clause-number c =
    let none = c.in_default.ensures.value.0 in
    not_in_bounds c.args.low c.args.high c.args.other c.args.text.now (λ numeral low high. none (numeral, omega (arith, high, c.ranges.high.fits)))
