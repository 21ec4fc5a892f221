use Rattle.dr_partials.proofs.AccumulatorLemmas.{join_of_both, takes_next_value}
use Rattle.dr_partials.proofs.accumulator_laws.gathered_values_are_joined.Goals as goal

pub returns : goal.returns
returns c = record { joins = join_of_both; takes = takes_next_value }
