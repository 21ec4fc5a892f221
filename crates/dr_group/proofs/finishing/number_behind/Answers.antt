use Rattle.dr_group.proofs.FinishLemmas.{one_further, at_end}
use Rattle.dr_group.proofs.finishing.number_behind.Goals as goal

pub returns-then-number-accumulators : goal.returns-then-number-accumulators
returns-then-number-accumulators c = one_further c.args.accumulators.now c.args.number

pub returns-else-number-accumulators : goal.returns-else-number-accumulators
returns-else-number-accumulators c = at_end c.args.accumulators.now c.args.number c.if-number-accumulators.false
