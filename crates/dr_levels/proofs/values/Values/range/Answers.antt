use Rattle.std.proofs.Common.{ap}
use Rattle.dr_meaning.specs.Record.{bool_value, int_value}
use Rattle.dr_levels.specs.Dense.{values_view}
use Rattle.dr_levels.proofs.DenseLemmas.{stretch_seen}
use Rattle.dr_levels.proofs.values.Values.range.Goals as goal

pub returns-in-Bools-clause-values : goal.returns-in-Bools-clause-values
returns-in-Bools-clause-values c = stretch_seen bool_value c.in-Bools.truths.items c.deref.result.now (values_view c.args.self.now) c.args.from c.args.count c.deref.ensures.value (ap values_view c.in-Bools.is)

pub returns-in-Integers-clause-values : goal.returns-in-Integers-clause-values
returns-in-Integers-clause-values c = stretch_seen int_value c.in-Integers.numbers.items c.deref-in-Integers.result.now (values_view c.args.self.now) c.args.from c.args.count c.deref-in-Integers.ensures.value (ap values_view c.in-Integers.is)
