use Rattle.std.proofs.Common.{arith}
use Rattle.dr_formats.proofs.PageLemmas.{width_small}
use Rattle.dr_page.proofs.WidthLemmas.{digits_within_width}
use Rattle.dr_page.proofs.level_part.level_width.Goals as goal

pub overflow_add-width : goal.overflow_add-width
overflow_add-width c = omega (arith, width_small c.args.greatest c.requires, digits_within_width c.args.greatest c.digits.rest c.digits.width c.digits.invariant)

pub returns-clause-narrow : goal.returns-clause-narrow
returns-clause-narrow c = omega (arith, width_small c.args.greatest c.requires, digits_within_width c.args.greatest c.digits.rest c.digits.width c.digits.invariant)
