use Rattle.dr_partials.proofs.ProjectedLemmas.{partial_of_projection}
use Rattle.dr_partials.proofs.partial_laws.projection_keeps_partial.Goals as goal

pub returns : goal.returns
returns c = partial_of_projection
