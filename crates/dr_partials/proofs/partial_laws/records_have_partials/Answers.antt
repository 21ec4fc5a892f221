use Rattle.dr_partials.proofs.TypedLemmas.{records_have_partials}
use Rattle.dr_partials.proofs.partial_laws.records_have_partials.Goals as goal

pub returns : goal.returns
returns c = records_have_partials
