use Rattle.dr_partials.proofs.AccumulatorLemmas.{join_is_associative, join_is_commutative, empty_is_neutral}
use Rattle.dr_partials.proofs.accumulator_laws.joining_is_merging.Goals as goal

pub returns : goal.returns
returns c = record { associative = join_is_associative; commutative = join_is_commutative; neutral = empty_is_neutral }
