use Rattle.dr_partials.proofs.BoundLemmas.{bound_is_mergeable, bound_leaves_are_enough}
use Rattle.dr_partials.proofs.partial_laws.bound_queries_are_mergeable.Goals as goal

pub returns : goal.returns
returns c = record { mergeable = bound_is_mergeable; leaves = bound_leaves_are_enough }
