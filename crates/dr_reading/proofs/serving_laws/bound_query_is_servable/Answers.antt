use Rattle.dr_reading.proofs.ServingLemmas.{bound_is_servable}
use Rattle.dr_reading.proofs.serving_laws.bound_query_is_servable.Goals as goal

pub returns : goal.returns
returns c = bound_is_servable
