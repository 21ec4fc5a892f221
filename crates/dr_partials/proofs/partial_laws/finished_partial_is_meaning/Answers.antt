use Rattle.dr_partials.proofs.PartialLemmas.{finished_partial_is_meaning}
use Rattle.dr_partials.proofs.partial_laws.finished_partial_is_meaning.Goals as goal

pub returns : goal.returns
returns c = finished_partial_is_meaning
