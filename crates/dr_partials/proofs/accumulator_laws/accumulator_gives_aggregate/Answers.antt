use Rattle.dr_partials.proofs.AccumulatorLemmas.{gives_aggregate}
use Rattle.dr_partials.proofs.accumulator_laws.accumulator_gives_aggregate.Goals as goal

pub returns : goal.returns
returns c = gives_aggregate
