use Rattle.dr_partials.proofs.PartialBoundLemmas.{partial_of_few, partial_of_few_projections}
use Rattle.dr_partials.proofs.bound_laws.partial_of_few_is_bounded.Goals as goal

pub returns-clause-records : goal.returns-clause-records
returns-clause-records c = partial_of_few

pub returns-clause-projections : goal.returns-clause-projections
returns-clause-projections c = partial_of_few_projections
